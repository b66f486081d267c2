-- What the proofs of `vss_words` share.
pub mod FormLemmas
pub mod NumberLemmas
pub mod PlainLemmas
pub mod RowLemmas
pub mod WalkSteps
