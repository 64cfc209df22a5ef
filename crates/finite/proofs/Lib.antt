pub mod LexemeLaws
pub mod DerivableLaws
pub mod FoundLaws
