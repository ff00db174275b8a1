mod Deals
mod Listed
mod QuotedLists
mod Quotes
mod StatementFits
mod Stepping
mod Whole
