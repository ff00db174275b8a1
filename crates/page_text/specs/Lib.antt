pub mod Escaping
pub mod Names
pub mod Pages
pub mod within
