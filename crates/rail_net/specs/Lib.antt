-- What the contracts of `rail_net` cite, each file a subject.
pub mod Parts
pub mod Breaks
pub mod Entries
pub mod Rules
pub mod Sections
pub mod Borders
pub mod Refusals
pub mod Passages
pub mod Tables
pub mod Laws
