-- What the contracts of `search_bounds` cite.
pub mod Laws
