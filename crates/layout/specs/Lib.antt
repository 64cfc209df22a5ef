pub mod Children
pub mod Common
pub mod Grammar
pub mod Heads
pub mod Sorts
pub mod Template
pub mod Tree
