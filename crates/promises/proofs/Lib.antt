-- The theorems that rest on what specs/ says of a second run, and of a call of `common` by its number.
pub mod SecondRun
pub mod CommonCopper
