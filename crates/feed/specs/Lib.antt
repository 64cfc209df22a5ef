pub mod Verdict
pub mod Asks
