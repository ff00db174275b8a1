pub mod Closing
pub mod Histories
pub mod HistoryLaws
pub mod Refusals
pub mod Shares
pub mod within
