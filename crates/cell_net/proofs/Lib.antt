-- The lemmas and laws of `cell_net`, each file a subject.
mod PassageLemmas
mod RuleLemmas
mod CandidateLemmas
mod LayoutLemmas
mod SectionLemmas
pub mod SegmentLemmas
pub mod LinkLaws
pub mod RefusalLaws
