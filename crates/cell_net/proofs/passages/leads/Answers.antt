-- Why `leads` does what its contract says.
use Rattle.std.proofs.Common.{◌≡◌, arith, rules, true, false}
use Rattle.cell_net.specs.Passages.{passage_between}
use Rattle.cell_net.specs.declared.passages.Passage.{Passage}
use Rattle.cell_net.proofs.PassageLemmas.{found_in_range, is_in_range}
use Rattle.cell_net.proofs.passages.leads.Goals as goal

pub returns-then-is_same_end : goal.returns-then-is_same_end
returns-then-is_same_end c = (
  λ _. found_in_range c.args.passages.now c.args.starts.now c.end_place-end.result c.loop-place.place _
      (passage_between c.args.one c.args.other) c.requires.starts (omega arith) (omega arith) (omega arith) (search rules)
      (c.if-is_same_end.ensures.0 (search rules)),
  λ _. search rules,
)

pub returns : goal.returns
returns c = (
  λ f. absurd (let e : false ≡ true = f in cc),
  λ there. let p : Passage = passage_between c.args.one c.args.other in
      let at = is_in_range c.args.passages.now c.args.starts.now c.end_place-end.result p c.requires.starts (omega arith) (search rules) there in
      absurd (c.loop-place.invariant at.0 p (search rules) (omega arith) (search rules)),
)
