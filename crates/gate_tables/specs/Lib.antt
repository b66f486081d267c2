-- What the contracts of `gate_tables` cite, each file a subject.
pub mod Rows
pub mod Gates
pub mod Wiring
