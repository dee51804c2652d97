-- What engines promise, demands 2 and 3 in one place, and the same as a contract holds it; what the buffer of a search holds; what a second run
-- keeps of the first; the copper common to all layouts of a search; what the judge says; and that the two engines agree.
pub mod Promises
pub mod Contract
pub mod HeldRecords
pub mod SecondRun
pub mod TableLaws
pub mod CommonCopper
pub mod Verdicts
pub mod BothEngines
