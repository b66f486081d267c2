-- The lemmas and laws of `layout_rules`, each file a subject.
mod SeenCells
mod ClassLemmas
