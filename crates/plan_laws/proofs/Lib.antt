-- The lemmas and laws of `plan_laws`, each file a subject.
mod Following
mod Telling
mod Coded
mod Apart
mod Runs
mod Lawful
mod Borders
mod Theorems
pub mod LayoutLaws
