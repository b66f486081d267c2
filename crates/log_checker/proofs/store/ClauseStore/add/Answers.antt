-- Why `ClauseStore::add` does what its contract says.
use Rattle.std.proofs.Common.{◌≡◌, ◌++◌, ◌∷◌, [], List, false, refl, arith, ap, sym, ◌∙◌, length-append, append_assoc}
use Rattle.sat_core.specs.declared.literal.Lit.{Lit}
use Rattle.log_checker.specs.declared.dropped.Dropped.{Dropped}
use Rattle.log_checker.proofs.StoreLemmas.{OneFlagMore, AreNumbered-push, live_after-push, clauses_within}
use Rattle.log_checker.proofs.store.ClauseStore.add.Goals as goal

pub push-requires-clause-numbered : goal.push-requires-clause-numbered
push-requires-clause-numbered c = omega (arith, c.requires.in_order, ap (λ database. database.last) c.self.view_is, clauses_within c.self.inside.numbers.items c.self.inside.last c.self.inside.dropped (c.self.inside.formula.clauses ++ c.self.inside.log.clauses) c.self.invariant.numbered, length-append c.self.inside.formula.clauses c.self.inside.log.clauses)

pub invariant_of-self-2 : goal.invariant_of-self-2
invariant_of-self-2 c =
    let dropped : Dropped = record { own = c.self.inside.dropped.own; flags = c.push_reserved-2.new.self } in
    let more : OneFlagMore c.self.inside.dropped dropped = record { same_own = refl; flags = c.push_reserved-2.ensures.items ∙ ap (λ flags. flags ++ false ∷ []) c.in_ok-reserve-2.ensures.items } in
    let numbers : c.push_reserved.new.self.items ≡ c.self.inside.numbers.items ++ c.args.id ∷ [] = cc (c.push_reserved.ensures.items, c.in_ok-reserve.ensures.items) in
    let before : List (List Lit) = c.self.inside.formula.clauses ++ c.self.inside.log.clauses in
    let all : c.self.inside.formula.clauses ++ (c.self.inside.log.clauses ++ c.args.lits.now ∷ []) ≡ before ++ c.args.lits.now ∷ [] = sym (append_assoc c.self.inside.formula.clauses c.self.inside.log.clauses (c.args.lits.now ∷ [])) in
    rw (numbers, c.in_ok-push.ensures.ok, all) (record {
      same_variables = c.in_ok-push.ensures.vars ∙ c.self.invariant.same_variables;
      numbered = AreNumbered-push c.self.inside.numbers.items c.self.inside.last c.self.inside.dropped dropped before c.args.id c.args.lits.now more c.self.invariant.numbered (omega (arith, c.requires.in_order, ap (λ database. database.last) c.self.view_is)) (omega arith);
    })

pub returns-clause-ok : goal.returns-clause-ok
returns-clause-ok c =
    let dropped : Dropped = record { own = c.self.inside.dropped.own; flags = c.push_reserved-2.new.self } in
    let more : OneFlagMore c.self.inside.dropped dropped = record { same_own = refl; flags = c.push_reserved-2.ensures.items ∙ ap (λ flags. flags ++ false ∷ []) c.in_ok-reserve-2.ensures.items } in
    let numbers : c.push_reserved.new.self.items ≡ c.self.inside.numbers.items ++ c.args.id ∷ [] = cc (c.push_reserved.ensures.items, c.in_ok-reserve.ensures.items) in
    let before : List (List Lit) = c.self.inside.formula.clauses ++ c.self.inside.log.clauses in
    let all : c.self.inside.formula.clauses ++ (c.self.inside.log.clauses ++ c.args.lits.now ∷ []) ≡ before ++ c.args.lits.now ∷ [] = sym (append_assoc c.self.inside.formula.clauses c.self.inside.log.clauses (c.args.lits.now ∷ [])) in
    rw (numbers, c.in_ok-push.ensures.ok, all, live_after-push c.self.inside.numbers.items c.self.inside.last c.self.inside.dropped dropped before c.args.id c.args.lits.now more c.self.invariant.numbered) (ap (λ database. record { vars = database.vars; last = c.args.id.0; live = database.live ++ record { id = c.args.id; lits = c.args.lits.now } ∷ [] }) c.self.view_is)
