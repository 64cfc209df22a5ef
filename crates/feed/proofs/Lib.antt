pub mod OrderLaws
pub mod EndLaws
pub mod SetLaws
pub mod MarkLaws
