-- Laws of stages, for the proofs of crates above.
pub mod StageLaws
pub mod InputLaws
