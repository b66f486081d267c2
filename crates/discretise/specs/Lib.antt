-- What the contracts of `discretise` cite, each file a subject.
pub mod Picks
pub mod Rounding
pub mod Tracks
pub mod Cells
pub mod Joins
pub mod Places
pub mod Stations
pub mod Trains
pub mod Refusals
pub mod Grids
pub mod Scenes
pub mod Laws
