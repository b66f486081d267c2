-- Why `contains` does what its contract says.
use Rattle.std.proofs.lemmas.Bool.{eq-eqb, eqb-true}
use Rattle.cell_net.proofs.LayoutLemmas.{contains_at, stands_at}
use Rattle.cell_net.proofs.layout.contains.Goals as goal

pub returns-then-place-borders : goal.returns-then-place-borders
returns-then-place-borders c = (
  λ same. contains_at _ _ _ (record { 0 = 0 }) c.if-place-borders.true (eqb-true _ _ same),
  λ there. let stands = stands_at _ c.requires _ _ c.count_below-place.ensures.split there in eq-eqb _ _ (stands.1 (record { 0 = 0 })),
)
