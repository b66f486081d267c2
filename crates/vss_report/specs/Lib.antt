-- What a report is, what it states, and the faults of a text that is none.
pub mod Lines
pub mod Readings
pub mod Places
pub mod Reports
pub mod Faults
pub mod Refutations
pub mod Gathered
pub mod Names
pub mod Designs
pub mod Fits
pub mod DesignFaults
pub mod Found
pub mod Taken
pub mod Outcomes
pub mod Written
