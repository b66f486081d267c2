-- What a name is.
pub mod Names
