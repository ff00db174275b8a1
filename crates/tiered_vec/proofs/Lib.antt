pub mod Carried
pub mod Filled
pub mod Grown
pub mod Narrowed
pub mod Whole
mod Products
mod Pulled
mod Widened
