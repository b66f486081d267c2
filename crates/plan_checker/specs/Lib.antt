-- The definitions of breaches and verdicts.
pub mod Clashes
pub mod ClashSearch
pub mod ClassMarks
pub mod RunRules
pub mod Stations
pub mod Verdicts
pub mod Laws
