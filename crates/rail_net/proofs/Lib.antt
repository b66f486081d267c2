-- The lemmas and laws of `rail_net`, each file a subject.
pub mod ListLaws
pub mod NameLaws
pub mod EntryLemmas
pub mod OrderLemmas
pub mod ListingLemmas
pub mod ZipLemmas
pub mod NodeLemmas
pub mod SectionLemmas
pub mod RuleLemmas
pub mod RefusalLaws
