-- What the loop of `put_filled` keeps: the bytes so far.
use Rattle.std.specs.Prelude.{◌≡◌, ◌++◌, take}
use Rattle.std.specs.List.{flat_map}
use Rattle.case_maker.specs.Texts.{filled_at}
use Rattle.case_maker.proofs.text.put_filled.Given as goal

abbrev pub invariant-loop-place : goal.invariant-loop-place
invariant-loop-place l = l.out.items ≡ l.fn.out.items ++ flat_map (filled_at l.number) (take l.place l.text)
