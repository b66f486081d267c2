-- Lemmas of the tests of the store.
mod SceneLemmas
