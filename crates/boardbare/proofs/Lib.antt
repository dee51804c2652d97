-- Laws that the proofs of the functions cite, and that the bare arrays show the model's bare board.
mod Codes
mod Made
mod ActionCode
pub mod BareView
