-- The lemmas of `formula_laws`, each file a subject.
mod SameLists
mod SweepOrder
mod OneTable
mod OneClauseList
mod OneRefusal
