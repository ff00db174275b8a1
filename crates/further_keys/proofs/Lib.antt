mod Exposures
mod Items
mod Kept
mod KeyLists
mod Lists
mod Reasons
mod Verdicts
