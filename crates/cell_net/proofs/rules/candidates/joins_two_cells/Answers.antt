-- Why `joins_two_cells` does what its contract says.
use Rattle.std.proofs.Common.{◌≡◌, false, true}
use Rattle.std.proofs.lemmas.Bool.{eq-eqb, eqb-true}
use Rattle.cell_net.proofs.CandidateLemmas.{joined, joined_part, of_joined}
use Rattle.cell_net.proofs.rules.candidates.joins_two_cells.Goals as goal

pub returns-in-None : goal.returns-in-None
returns-in-None c = (
  λ f. absurd (let e : false ≡ true = f in cc),
  λ j. let (one, other, two) = of_joined _ _ _ _ c.requires.ends c.ends_at.ensures j in absurd (c.in-None.ensures one other two),
)

pub returns-in-Some : goal.returns-in-Some
returns-in-Some c = (
  λ same. joined _ _ _ _ c.requires.ends c.ends_at.ensures _ _ c.in-Some.ensures (eqb-true _ _ same),
  λ j. eq-eqb _ _ (joined_part _ _ _ _ c.requires.ends c.ends_at.ensures _ _ c.in-Some.ensures j),
)
