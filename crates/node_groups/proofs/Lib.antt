-- The lemmas and laws of `node_groups`, each file a subject.
pub mod ReachLaws
pub mod TouchLaws
mod ForestLaws
mod EndLemmas
mod StretchLemmas
mod GroupLemmas
mod TouchLemmas
mod SplitLemmas
mod PartLemmas
