-- What it means that a text was put into a buffer, or held in an array, and laws of texts that are put one after the other.
pub mod Put
pub mod PutLaws
pub mod Padded
pub mod PaddedLaws
