-- That the answer is what `judge` prints, and that what `routes` prints can be judged again.
pub mod Whole
pub mod JudgedAgain
