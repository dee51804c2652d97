-- What it means that two answers are equal, and that the contracts of the two calls make them so; the kinds of a grid's pads, and which grid comes next.
pub mod Equal
pub mod EqualLaws
pub mod CallLaws
pub mod BothCalls
pub mod Kinds
pub mod KindLaws
pub mod Sums
