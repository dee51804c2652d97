-- The laws of decimal digits and of records in a buffer, and the known grids: they rest on what an edit of must-fail/ changes.
pub mod DecimalLaws
pub mod LimitLaws
pub mod HasRecord
pub mod Known
