pub mod Answers
pub mod Asked
pub mod Asks
