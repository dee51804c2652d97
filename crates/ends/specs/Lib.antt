-- What the ends of pads say of the lines between them, that a line that is stored keeps it, and what it rules out; bottom up.
pub mod Ends
pub mod EndsKept
pub mod Storing
pub mod Refutation
