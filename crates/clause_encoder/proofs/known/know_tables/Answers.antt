-- Why `know_tables` does what its contract says.
use Rattle.std.proofs.Common.{◌<◌, length, sym, subst, arith}
use Rattle.std.specs.Prelude.{All}
use Rattle.std.proofs.lemmas.List.{take_all}
use Rattle.std.proofs.lemmas.List.Elements.{All-nil}
use Rattle.clause_encoder.specs.TableLists.{IsKnownBy}
use Rattle.clause_encoder.proofs.FitLemmas.{known_more}
use Rattle.clause_encoder.proofs.EncodeLemmas.{tables_are}
use Rattle.clause_encoder.proofs.known.know_tables.Goals as goal

pub loop-place-init : goal.loop-place-init
loop-place-init g c = All-nil (IsKnownBy g.M.Moves.items g.M.Moves.table c.args.inst.now)

pub loop-place-preserved : goal.loop-place-preserved
loop-place-preserved g c =
    let within : c.loop-place.place < length c.args.tables.now = c.loop-place-test.true in
    let made = subst (λ x. g.M.Moves.is_made_for x c.args.inst.now) (sym c.index-tables-place.is) (c.requires c.loop-place.place c.index-tables-place.result within) in
    let this : IsKnownBy g.M.Moves.items g.M.Moves.table c.args.inst.now c.index-tables-place.result = record { rules = c.len-count.ensures.rules c.args.inst.now made; size = c.len-count.ensures.items c.args.inst.now } in
    known_more g.M.Moves.items g.M.Moves.table c.args.inst.now c.args.tables.now c.loop-place.place c.index-tables-place.result c.loop-place.invariant within (sym c.index-tables-place.is) this

pub returns-clause-known : goal.returns-clause-known
returns-clause-known g c = subst (All (IsKnownBy g.M.Moves.items g.M.Moves.table c.args.inst.now)) (take_all c.loop-place.place c.args.tables.now (omega arith)) c.loop-place.invariant

pub returns-clause-rules : goal.returns-clause-rules
returns-clause-rules g c = tables_are g.M.Moves.items g.M.Moves.table c.args.inst.now c.args.tables.now (subst (All (IsKnownBy g.M.Moves.items g.M.Moves.table c.args.inst.now)) (take_all c.loop-place.place c.args.tables.now (omega arith)) c.loop-place.invariant)
