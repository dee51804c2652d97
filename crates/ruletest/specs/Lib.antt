-- The test of the rules is the rules.
pub mod Following
pub mod RuleTest
pub mod Verdict
