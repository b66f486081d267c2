-- What the contracts of `sweep_table` cite, each file a subject.
pub mod Tables
pub mod Order
pub mod Sweeps
pub mod Growing
pub mod Successions
pub mod Reach
pub mod Groups
pub mod Ends
pub mod Parts
