-- Why `undo` does what its contract says.
use Rattle.std.proofs.Common.{◌≡◌, ◌<◌, ◌≤◌, ◌-◌, inl, inr, length, take, arith, refl}
use Rattle.std.proofs.lemmas.Bool.{cases_eq}
use Rattle.std.proofs.lemmas.List.{get_or-take, length-take-le}
use Rattle.search_trail.proofs.KeptLemmas.{undo_more, mark_within_at, level_at}
use Rattle.search_trail.proofs.undo.undo.Goals as goal

pub place-requires : goal.place-requires
place-requires c = (c.requires.in_range (c.loop-size.size - 1) _ (omega arith)).0

pub bounds-marks-place : goal.bounds-marks-place
bounds-marks-place c = omega (arith, mark_within_at c.args.vars c.args.entries.now (c.loop-size.size - 1) c.requires.in_range (omega arith) _ c.place.result c.place.ensures, c.loop-size.invariant.1.all_places)

pub loop-size-preserved : goal.loop-size-preserved
loop-size-preserved c = (
  omega arith,
  rw (c.place.ensures) (undo_more c.args.vars c.loop-size.marks c.args.entries.now c.loop-size.size _ c.requires.distinct (omega arith) (omega arith) c.loop-size.invariant.1),
  λ k d from below. elim (cases_eq k (c.loop-size.size - 1)) [
    | inl here ↦ level_at c.args.entries.now k (c.loop-size.size - 1) d _ (λ n. c.args.level < n) here (omega arith) c.if-entries-size.true
    | inr above ↦ c.loop-size.invariant.2 k d (omega arith) below
  ],
)

pub returns-else-entries-size-clause-kept : goal.returns-else-entries-size-clause-kept
returns-else-entries-size-clause-kept c = λ k d within.
    let long : length (take c.loop-size.size c.args.entries.now) ≡ c.loop-size.size = length-take-le c.loop-size.size c.args.entries.now (omega arith) in
    rw (get_or-take c.loop-size.size c.args.entries.now k d (omega arith)) (elim (cases_eq k (c.loop-size.size - 1)) [
      | inl here ↦ level_at c.args.entries.now k (c.loop-size.size - 1) d _ (λ n. n ≤ c.args.level) here (omega arith) c.if-entries-size.false
      | inr below ↦ omega (arith, c.requires.rising k (c.loop-size.size - 1) d (omega arith) (omega arith), level_at c.args.entries.now (c.loop-size.size - 1) (c.loop-size.size - 1) d _ (λ n. n ≤ c.args.level) refl (omega arith) c.if-entries-size.false)
    ])
