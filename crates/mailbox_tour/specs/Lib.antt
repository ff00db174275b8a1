pub mod FaultyLaws
pub mod FaultyMeaning
