pub mod ClassLaws
pub mod NodeLaws
pub mod SizeLaws
pub mod PathLaws
