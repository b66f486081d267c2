-- The lemmas and laws of `sweep_table`, each file a subject.
mod DirectedLaws
mod GrowLemmas
mod ReachLemmas
mod SuccessionLemmas
mod GrownLaws
mod SweepLaws
mod GroupLemmas
mod OrderLaws
mod EndLemmas
mod TableLaws
mod BuildLemmas
