pub mod Entity
pub mod Put
pub mod Utf8
pub mod Measured
