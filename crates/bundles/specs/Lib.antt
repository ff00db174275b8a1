pub mod BundleLaws
pub mod Grammar
pub mod Refusals
pub mod Spelling
pub mod within
