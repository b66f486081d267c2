-- What the contracts of `vss_lists` cite, each file a subject.
pub mod Breaks
pub mod Orders
pub mod Lending
