pub mod Block
pub mod Fault
pub mod Fnv
pub mod Parts
pub mod Record
pub mod Text
pub mod Whole
