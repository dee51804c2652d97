-- What the contracts of the crate cite beside the model.
pub mod Edges
pub mod Answers
pub mod AcceptedOneWay
pub mod AsGrid
pub mod Directions
pub mod Numbers
pub mod PadsAt
pub mod PadsLaws
