pub mod Headings
pub mod Leads
pub mod Whys
pub mod within
