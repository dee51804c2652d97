-- What holds of every run with a limit and room: the theorems that rest on how specs/ defines where a run stops.
pub mod Runs
pub mod ExactLists
pub mod HeldRecords
