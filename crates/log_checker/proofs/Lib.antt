-- The lemmas and laws of `log_checker`, each file a subject.
mod AssignedLemmas
mod DropLemmas
mod DroppedLemmas
mod EndLemmas
mod HintLemmas
mod LiveLemmas
mod NumberLemmas
mod StoreLemmas
mod VerdictLemmas
