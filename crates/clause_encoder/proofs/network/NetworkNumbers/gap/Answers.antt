-- Why `NetworkNumbers::gap` does what its contract says.
use Rattle.std.proofs.Common.{◌∙◌, arith}
use Rattle.clause_encoder.proofs.NetworkLemmas.{gap_at, place_at, gap_is}
use Rattle.clause_encoder.proofs.network.NetworkNumbers.gap.Goals as goal

pub index-requires : goal.index-requires
index-requires c = let within = (gap_at _ _ _ _ _ _ c.args.cell 0 c.self.view_is c.self.invariant (omega (arith, c.requires.order, c.requires.within))).0 in omega (arith, within)

pub index-requires-2 : goal.index-requires-2
index-requires-2 c = let within = (place_at _ _ _ _ _ _ c.args.other 0 c.self.view_is c.self.invariant c.requires.within).0 in omega (arith, within)

pub index-requires-3 : goal.index-requires-3
index-requires-3 c = let within = (place_at _ _ _ _ _ _ c.args.cell 0 c.self.view_is c.self.invariant (omega (arith, c.requires.order, c.requires.within))).0 in omega (arith, within)

pub overflow_sub-result : goal.overflow_sub-result
overflow_sub-result c =
    let first = c.index.ensures ∙ (gap_at _ _ _ _ _ _ c.args.cell _ c.self.view_is c.self.invariant (omega (arith, c.requires.order, c.requires.within))).1 in
    let other = c.index-2.ensures ∙ (place_at _ _ _ _ _ _ c.args.other _ c.self.view_is c.self.invariant c.requires.within).1 in
    let place = c.index-3.ensures ∙ (place_at _ _ _ _ _ _ c.args.cell _ c.self.view_is c.self.invariant (omega (arith, c.requires.order, c.requires.within))).1 in
    let is = gap_is _ _ _ _ _ _ c.args.cell c.args.other _ _ _ c.self.view_is c.self.invariant c.requires.order c.requires.within c.requires.section first place other in
    omega (arith, is.0, is.2)

pub overflow_sub-result-2 : goal.overflow_sub-result-2
overflow_sub-result-2 c =
    let first = c.index.ensures ∙ (gap_at _ _ _ _ _ _ c.args.cell _ c.self.view_is c.self.invariant (omega (arith, c.requires.order, c.requires.within))).1 in
    let other = c.index-2.ensures ∙ (place_at _ _ _ _ _ _ c.args.other _ c.self.view_is c.self.invariant c.requires.within).1 in
    let place = c.index-3.ensures ∙ (place_at _ _ _ _ _ _ c.args.cell _ c.self.view_is c.self.invariant (omega (arith, c.requires.order, c.requires.within))).1 in
    let is = gap_is _ _ _ _ _ _ c.args.cell c.args.other _ _ _ c.self.view_is c.self.invariant c.requires.order c.requires.within c.requires.section first place other in
    omega (arith, is.0, is.2)

pub overflow_add-result : goal.overflow_add-result
overflow_add-result c =
    let first = c.index.ensures ∙ (gap_at _ _ _ _ _ _ c.args.cell _ c.self.view_is c.self.invariant (omega (arith, c.requires.order, c.requires.within))).1 in
    let other = c.index-2.ensures ∙ (place_at _ _ _ _ _ _ c.args.other _ c.self.view_is c.self.invariant c.requires.within).1 in
    let place = c.index-3.ensures ∙ (place_at _ _ _ _ _ _ c.args.cell _ c.self.view_is c.self.invariant (omega (arith, c.requires.order, c.requires.within))).1 in
    let is = gap_is _ _ _ _ _ _ c.args.cell c.args.other _ _ _ c.self.view_is c.self.invariant c.requires.order c.requires.within c.requires.section first place other in
    omega (arith, is.0, is.2)

pub returns : goal.returns
returns c =
    let first = c.index.ensures ∙ (gap_at _ _ _ _ _ _ c.args.cell _ c.self.view_is c.self.invariant (omega (arith, c.requires.order, c.requires.within))).1 in
    let other = c.index-2.ensures ∙ (place_at _ _ _ _ _ _ c.args.other _ c.self.view_is c.self.invariant c.requires.within).1 in
    let place = c.index-3.ensures ∙ (place_at _ _ _ _ _ _ c.args.cell _ c.self.view_is c.self.invariant (omega (arith, c.requires.order, c.requires.within))).1 in
    let is = gap_is _ _ _ _ _ _ c.args.cell c.args.other _ _ _ c.self.view_is c.self.invariant c.requires.order c.requires.within c.requires.section first place other in
    is.1
