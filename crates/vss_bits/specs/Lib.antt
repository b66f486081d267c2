-- What the contracts of `vss_bits` cite, each file a subject.
pub mod Words
