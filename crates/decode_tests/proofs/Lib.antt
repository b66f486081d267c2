-- The lemmas of `decode_tests`.
mod FoundLemmas
