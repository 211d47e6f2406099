-- What the contracts of test_script cite.
pub mod Prefix
pub mod Calls
