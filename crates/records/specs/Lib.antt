pub mod Sizes
pub mod Paths
pub mod Productions
pub mod Ranges
pub mod Children
