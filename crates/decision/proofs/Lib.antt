-- What the answers of the cycle repeat.
mod Lines
mod Checks
