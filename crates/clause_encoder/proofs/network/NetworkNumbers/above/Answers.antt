-- Why `NetworkNumbers::above` does what its contract says.
use Rattle.std.proofs.Common.{◌∙◌, arith}
use Rattle.clause_encoder.proofs.NetworkLemmas.{place_at, above_at, above_members}
use Rattle.clause_encoder.proofs.network.NetworkNumbers.above.Goals as goal

pub index-requires : goal.index-requires
index-requires c = let within = (place_at _ _ _ _ _ _ c.args.cell 0 c.self.view_is c.self.invariant c.requires).0 in omega (arith, within)

pub behind-requires : goal.behind-requires
behind-requires c =
    let place = c.index.ensures ∙ (place_at _ _ _ _ _ _ c.args.cell _ c.self.view_is c.self.invariant c.requires).1 in
    let at = above_at c.args.self.now c.args.cell _ _ c.requires c.section_of.ensures.value place in
    omega (arith, at.0)

pub returns-clause-value : goal.returns-clause-value
returns-clause-value c =
    let place = c.index.ensures ∙ (place_at _ _ _ _ _ _ c.args.cell _ c.self.view_is c.self.invariant c.requires).1 in
    c.behind.ensures ∙ (above_at c.args.self.now c.args.cell _ _ c.requires c.section_of.ensures.value place).1

pub returns-clause-cells : goal.returns-clause-cells
returns-clause-cells c = above_members c.args.self.now c.args.cell
