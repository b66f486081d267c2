-- What the contracts of `decode_tests` cite.
pub mod Asked
