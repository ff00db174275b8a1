mod Opened
mod Singled
mod Stores
