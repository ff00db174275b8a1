mod Leading
mod Listings
mod Rows
