-- What texts are read against.
pub mod Reading
pub mod Numbers
pub mod Lines
