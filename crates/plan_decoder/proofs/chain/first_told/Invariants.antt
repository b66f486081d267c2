-- What the loop of `first_told` keeps: no item before the place is told.
use Rattle.std.specs.Prelude.{◌≡◌, filter, drop}
use Rattle.plan_laws.specs.Telling.{is_told}
use Rattle.plan_decoder.proofs.chain.first_told.Given as goal

abbrev pub invariant-loop-place : goal.invariant-loop-place
invariant-loop-place l = filter (λ v. is_told l.values l.train l.step v.0) l.items ≡ filter (λ v. is_told l.values l.train l.step v.0) (drop l.place l.items)
