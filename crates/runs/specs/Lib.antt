-- What holds of a run with a limit and room, whatever engine goes through its events; bottom up.
pub mod Events
pub mod Branches
pub mod Runs
pub mod TwoRuns
pub mod Progress
pub mod Layouts
pub mod Turns
pub mod ExactLists
pub mod HeldRecords
