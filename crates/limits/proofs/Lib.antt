pub mod TreeLaws
pub mod NameLaws
pub mod BitLaws
pub mod TurnLaws
