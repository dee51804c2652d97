-- Laws that the proofs of boardparts share.
mod Ends
mod Slots
mod Apart
