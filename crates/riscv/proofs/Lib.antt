mod Cores
mod Integers
mod Products
mod Runs
mod WordLemmas
