-- Laws of printing and reading, for the proofs of crates above, and of counts.
pub mod PrintingLaws
pub mod CallLaws
pub mod ReadingLaws
pub mod CountLaws
