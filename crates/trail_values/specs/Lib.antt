-- What the contracts of `trail_values` cite.
pub mod Full
