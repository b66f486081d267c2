-- What the contracts of `case_texts` cite.
pub mod Summaries
