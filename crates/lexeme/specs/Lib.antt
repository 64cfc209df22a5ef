pub mod Sets
pub mod Sources
pub mod Scan
pub mod Runs
