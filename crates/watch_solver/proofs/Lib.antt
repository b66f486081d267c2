-- The lemmas of `watch_solver`, each file a subject.
pub mod DropLemmas
pub mod LearnedLemmas
pub mod LiveLemmas
pub mod LubyLemmas
pub mod RoundLemmas
pub mod SearchLemmas
pub mod SeatLemmas
pub mod SolutionLemmas
pub mod StateLemmas
