-- The lemmas and laws of `gate_tables`, each file a subject.
pub mod ClauseLemmas
pub mod GateLaws
pub mod EmitLemmas
