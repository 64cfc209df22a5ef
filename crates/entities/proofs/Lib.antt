pub mod EscapeLaws
pub mod FiveLaws
pub mod PlainLaws
pub mod WindowLaws
pub mod Utf8Laws
pub mod MeasureLaws
pub mod PutLaws
pub mod CallLaws
