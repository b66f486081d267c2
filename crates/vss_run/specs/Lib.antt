-- What the contract of `run` cites.
pub mod Call
