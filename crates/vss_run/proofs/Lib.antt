-- Laws of calls.
pub mod Calls
pub mod ReadBack
