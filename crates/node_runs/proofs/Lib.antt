mod Adding
mod Receipts
