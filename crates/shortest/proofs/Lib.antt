-- The theorems that rest on the definitions of specs/: from one unit square to the whole list. Read Shortest.antt for what is proved.
pub mod Step
pub mod Descent
pub mod Shortest
