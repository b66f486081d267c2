-- The laws of `trail_values`.
pub mod FullLaws
