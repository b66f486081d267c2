-- The definitions of space, time, trains and plans.
pub mod Space
pub mod Borders
pub mod Runs
pub mod Plans
pub mod Labelled
pub mod Rules
pub mod Refusals
pub mod Passages
pub mod CellEnds
pub mod Sections
pub mod Segments
pub mod Laws
