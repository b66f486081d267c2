-- What the contracts of `search_history` cite.
pub mod Histories
