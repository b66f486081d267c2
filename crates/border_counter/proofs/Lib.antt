-- The lemmas and laws of `border_counter`, each file a subject.
pub mod SumLemmas
pub mod RangeLemmas
pub mod AddingLemmas
pub mod GateLemmas
pub mod CountingLaws
pub mod OrderLemmas
pub mod ExtendingLaws
pub mod SizeLemmas
