-- The lemmas and laws of `log_rebase`, each file a subject.
mod Carried
mod DeriveLemmas
mod Numbering
mod PlaceLemmas
mod Places
mod Refuting
mod Simulation
