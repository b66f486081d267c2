-- What the contracts of `net_reader` cite, each file a subject.
pub mod Document
pub mod Readings
pub mod Laws
