-- The router depends on the codes of a grid only by which pads carry equal codes: its search, the slow walk, the board calls and the judge of a drawing. Here what is said; proofs/ has what is proved.
pub mod Alike
pub mod AlikeEnds
pub mod AlikeStates
pub mod AlikeCalls
pub mod Lowered
