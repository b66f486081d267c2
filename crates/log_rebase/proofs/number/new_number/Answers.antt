-- A number of the formula stays, a unit has its new one by its place, and others move behind the units.
use Rattle.std.proofs.Common.{sym, ◌∙◌, arith}
use Rattle.log_rebase.proofs.PlaceLemmas.{numbers_rise, room_above, place_found, stands_behind, stands_before, unit_renumbered, other_renumbered}
use Rattle.log_rebase.proofs.number.new_number.Goals as goal

pub count_below-below-requires : goal.count_below-below-requires
count_below-below-requires c = numbers_rise c.args.clauses _ c.requires.rise

pub returns-then-below-units : goal.returns-then-below-units
returns-then-below-units c =
    let is = other_renumbered c.args.clauses c.args.number c.args.units.now _ (omega arith) (stands_behind c.args.units.now c.args.number _ c.count_below-below.ensures.split (omega arith)) in
    omega (arith, is)

pub returns-then-units-below : goal.returns-then-units-below
returns-then-units-below c =
    c.unit_number.ensures ∙ sym (unit_renumbered c.args.clauses c.args.number c.args.units.now _ (omega arith)
    (place_found c.args.clauses c.args.number c.args.units.now _ c.index-units-below.result c.requires.rise (omega arith) (omega arith)))

pub overflow_cast-result : goal.overflow_cast-result
overflow_cast-result c = omega (arith, c.requires.few)

pub overflow_sub-result-3 : goal.overflow_sub-result-3
overflow_sub-result-3 c =
    let stands = stands_before c.args.clauses c.args.units.now c.args.number _ c.index-units-below.result c.requires.rise c.count_below-below.ensures.split (omega arith) c.if-units-below.false in
    let room = room_above c.args.clauses c.args.units.now c.args.number _ c.index-units-units.result c.requires.rise stands (omega arith) in
    omega (arith, room)

pub returns : goal.returns
returns c =
    let stands = stands_before c.args.clauses c.args.units.now c.args.number _ c.index-units-below.result c.requires.rise c.count_below-below.ensures.split (omega arith) c.if-units-below.false in
    let room = room_above c.args.clauses c.args.units.now c.args.number _ c.index-units-units.result c.requires.rise stands (omega arith) in
    let is = other_renumbered c.args.clauses c.args.number c.args.units.now _ (omega arith) stands in
    omega (arith, room, is)
