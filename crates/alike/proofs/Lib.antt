-- The router depends on the codes of a grid only by which pads carry equal codes: what is proved of that.
pub mod AlikeEnds
pub mod AlikeStates
pub mod AlikeSearch
pub mod AlikeCalls
pub mod AlikeJudge
pub mod Lowered
pub mod AlikeWalk
