-- What the loop of `put_each_sections` keeps: the texts of the stations so far.
use Rattle.std.specs.Prelude.{◌≡◌, ◌-◌, ◌++◌}
use Rattle.std.specs.List.{flat_map, range_with_len}
use Rattle.case_maker.specs.Networks.{sections_of}
use Rattle.case_maker.proofs.network.put_each_sections.Given as goal

abbrev pub invariant-loop-i : goal.invariant-loop-i
invariant-loop-i l = l.out.items ≡ l.fn.out.items ++ flat_map sections_of (range_with_len 1 (l.i - 1))
