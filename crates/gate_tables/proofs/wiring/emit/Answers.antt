-- Why `emit` does what its contract says.
use Rattle.std.proofs.Common.{◌≡◌, ℕ, ◌<◌, ◌++◌, ◌∷◌, [], List, length, get_or, subst, sym, arith}
use Rattle.std.specs.Prelude.{IsOk}
use Rattle.std.proofs.lemmas.Bool.{false≢true}
use Rattle.std.proofs.lemmas.List.{get_or-map, length-map}
use Rattle.gate_tables.specs.declared.gate.GateLit.{GateLit}
use Rattle.gate_tables.specs.declared.gate.GateClause.{GateClause}
use Rattle.gate_tables.specs.Gates.{clauses_of, lits_of}
use Rattle.gate_tables.proofs.GateLaws.{gate_means}
use Rattle.gate_tables.proofs.EmitLemmas.{emitted_more, room_left, lits_left}
use Rattle.gate_tables.proofs.wiring.emit.Goals as goal

-- the clause that an iteration adds
this : (clauses : List GateClause) (index : ℕ) → index < length clauses → lits_of (get_or clauses index (record { lits = []; len = 0 })) ≡ get_or (clauses_of clauses) index []
this clauses index within = sym (get_or-map lits_of clauses index (record { lits = []; len = 0 }) [] within)

pub returns-in_err-push_clause-clause-within_room : goal.returns-in_err-push_clause-clause-within_room
returns-in_err-push_clause-clause-within_room g c = λ enough fits.
    let clauses : List (List GateLit) = clauses_of c.args.gate.now.clauses in
    let many : length clauses ≡ length c.args.gate.now.clauses = length-map c.args.gate.now.clauses lits_of in
    let left = room_left (c.args.inputs.now ++ c.args.out ∷ []) clauses _ _ _ c.loop-clause.clause-index (omega arith) (this c.args.gate.now.clauses c.loop-clause.clause-index (omega arith)) c.loop-clause.invariant (omega arith) fits in
    absurd (false≢true (subst IsOk c.in_err-push_clause.was (c.push_clause.ensures.within_room left.0 left.1)))

pub returns-in_err-push_clause-clause-room_for_lits : goal.returns-in_err-push_clause-clause-room_for_lits
returns-in_err-push_clause-clause-room_for_lits g c =
    let clauses : List (List GateLit) = clauses_of c.args.gate.now.clauses in
    let many : length clauses ≡ length c.args.gate.now.clauses = length-map c.args.gate.now.clauses lits_of in
    lits_left (c.args.inputs.now ++ c.args.out ∷ []) clauses _ _ _ c.loop-clause.clause-index _ (omega arith) (this c.args.gate.now.clauses c.loop-clause.clause-index (omega arith)) c.loop-clause.invariant c.push_clause.ensures.room_for_lits

pub returns-in_err-push_clause-clause-meaning : goal.returns-in_err-push_clause-clause-meaning
returns-in_err-push_clause-clause-meaning g c = λ values total. gate_means c.args.gate.now.rows c.args.gate.now.clauses c.args.inputs.now c.args.out c.args.formula.now.vars g.row.IN values (sym c.told-inputs) c.requires.sound c.requires.pins total

pub loop-clause-preserved : goal.loop-clause-preserved
loop-clause-preserved g c =
    let clauses : List (List GateLit) = clauses_of c.args.gate.now.clauses in
    let many : length clauses ≡ length c.args.gate.now.clauses = length-map c.args.gate.now.clauses lits_of in
    emitted_more (c.args.inputs.now ++ c.args.out ∷ []) clauses _ _ _ _ c.loop-clause.clause-index (omega arith) (this c.args.gate.now.clauses c.loop-clause.clause-index (omega arith)) c.loop-clause.invariant (record { vars = c.in_ok-push_clause.ensures.vars; list = c.in_ok-push_clause.ensures.ok; room_for_clauses = c.in_ok-push_clause.ensures.room_for_clauses; room_for_lits = c.in_ok-push_clause.ensures.room_for_lits })

pub returns-clause-meaning : goal.returns-clause-meaning
returns-clause-meaning g c = λ values total. gate_means c.args.gate.now.rows c.args.gate.now.clauses c.args.inputs.now c.args.out c.args.formula.now.vars g.row.IN values (sym c.told-inputs) c.requires.sound c.requires.pins total
