-- What the calls of the search answer and promise, and two of them on one grid.
pub mod Answers
pub mod SolveLaws
pub mod SecondCall
