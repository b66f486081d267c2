-- The lemmas and laws of `plan_values`, each file a subject.
pub mod Making
pub mod PartLaws
pub mod TrainMeaning
pub mod Running
pub mod Stopping
pub mod Bordering
pub mod Coning
pub mod Choosing
pub mod Placing
pub mod Parting
pub mod Satisfying
pub mod Counting
pub mod Theorems
pub mod Naming
pub mod Exact
