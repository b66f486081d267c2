-- The lemmas of `vss_bits`, each file a subject.
mod BitLemmas
