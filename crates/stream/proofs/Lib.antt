pub mod FnvLaws
pub mod BlockLaws
pub mod PackLaws
pub mod PartsLaws
pub mod RecordLaws
pub mod TextLaws
pub mod TextCopyLaws
pub mod SkipLaws
