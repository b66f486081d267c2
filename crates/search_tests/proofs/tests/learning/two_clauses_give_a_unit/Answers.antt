-- The second literal follows by the first clause, and the second clause is false.
use Rattle.std.proofs.Common.{◌≡◌, ◌≢◌, true, ◌+◌, zero, suc, List, [], ◌∷◌, ◌++◌, refl, ap, ◌∙◌, arith}
use Rattle.std.specs.Prelude.{All, Some, None}
use Rattle.sat_core.specs.declared.literal.Lit.{Lit}
use Rattle.sat_core.specs.Clauses.{negated}
use Rattle.sat_core.specs.Hints.{is_known}
use Rattle.sat_core.specs.Derivation.{numbered_from}
use Rattle.search_trail.specs.declared.entry.Entry.{Entry}
use Rattle.search_trail.specs.Trails.{TrailParts, known_of, decided, assigned}
use Rattle.search_trail.specs.Reasons.{AreReasons}
use Rattle.conflict_learn.specs.Learning.{IsConflict}
use Rattle.search_tests.proofs.tests.learning.two_clauses_give_a_unit.Goals as goal

abbrev first : Lit
first = record { var = record { 0 = 1 }; positive = true }

abbrev second : Lit
second = record { var = record { 0 = 2 }; positive = true }

abbrev clauses : List (List Lit)
clauses = (negated first ∷ second ∷ []) ∷ (negated first ∷ negated second ∷ []) ∷ []

abbrev entries : List Entry
entries = record { lit = first; reason = None; level = 1 } ∷ record { lit = second; reason = Some (record { 0 = 1 }); level = 1 } ∷ []

others : All (λ other. other ≢ second → is_known (first ∷ []) (negated other) ≡ true) (negated first ∷ second ∷ [])
others zero d within another = refl
others (suc zero) d within another = absurd (another refl)
others (suc (suc k)) d within another = absurd (omega (arith, within))

reasons : AreReasons (numbered_from 1 clauses) entries
reasons zero d within = tt
reasons (suc zero) d within = record {
  lits = negated first ∷ second ∷ [];
  stands = refl;
  holds = (1, omega arith, refl);
  others_false = others;
}
reasons (suc (suc k)) d within = absurd (omega (arith, within))

both_false : All (λ lit. is_known (known_of entries) (negated lit) ≡ true) (negated first ∷ negated second ∷ [])
both_false zero d within = refl
both_false (suc zero) d within = refl
both_false (suc (suc k)) d within = absurd (omega (arith, within))

conflict : (stored : List (List Lit)) (t : TrailParts) → stored ≡ clauses → t.entries ≡ entries → t.present ≡ 1 → IsConflict (numbered_from 1 stored) t (record { 0 = 2 })
conflict stored t are_clauses are_entries at_one = record {
  lits = negated first ∷ negated second ∷ [];
  stands = rw are_clauses refl;
  all_false = rw are_entries both_false;
  at_present = λ above. rw (are_entries, at_one) (0, negated first, omega arith, refl, (0, record { lit = first; reason = None; level = 1 }, omega arith, refl, (refl, refl)));
}

-- the clauses that two pushes leave
two_clauses : (stored one two : List (List Lit)) (row other : List Lit) → stored ≡ [] → one ≡ stored ++ row ∷ [] → two ≡ one ++ other ∷ [] → row ≡ negated first ∷ second ∷ [] → other ≡ negated first ∷ negated second ∷ [] → two ≡ clauses
two_clauses stored one two row other none once twice is_row is_other = twice ∙ rw (once, none, is_row, is_other) refl

-- the trail that a decision and an assignment leave
two_entries : (t one two : TrailParts) → t.entries ≡ [] → t.present ≡ 0 → one ≡ decided t first → two ≡ assigned one second (record { 0 = 1 }) → (two.entries ≡ entries) × (two.present ≡ 1)
two_entries t one two none zero_level once twice =
    let level : one.present ≡ 1 = ap (λ (p : TrailParts). p.present) once ∙ ap (λ n. n + 1) zero_level in
    let entry : one.entries ≡ record { lit = first; reason = None; level = 1 } ∷ [] = ap (λ (p : TrailParts). p.entries) once ∙ rw (none, zero_level) refl in
    (ap (λ (p : TrailParts). p.entries) twice ∙ rw (entry, level) refl, ap (λ (p : TrailParts). p.present) twice ∙ level)

pub learn-requires-clause-reasons : goal.learn-requires-clause-reasons
learn-requires-clause-reasons g c =
    let is_clauses = two_clauses _ _ _ _ _ c.new-formula.ensures.clauses c.in_ok-push_fixed.ensures.ok c.in_ok-push_fixed-2.ensures.ok (ap (λ l. l ∷ second ∷ []) c.negated.ensures) (rw (c.negated-2.ensures, c.negated-3.ensures) refl) in
    let is_trail = two_entries _ _ _ c.in_ok-trail.ensures.empty.0 c.in_ok-trail.ensures.empty.2 c.decide.ensures.one_more c.assign.ensures.one_more in
    rw (is_clauses, is_trail.0) reasons

pub learn-requires-clause-conflict : goal.learn-requires-clause-conflict
learn-requires-clause-conflict g c =
    let is_clauses = two_clauses _ _ _ _ _ c.new-formula.ensures.clauses c.in_ok-push_fixed.ensures.ok c.in_ok-push_fixed-2.ensures.ok (ap (λ l. l ∷ second ∷ []) c.negated.ensures) (rw (c.negated-2.ensures, c.negated-3.ensures) refl) in
    let is_trail = two_entries _ _ _ c.in_ok-trail.ensures.empty.0 c.in_ok-trail.ensures.empty.2 c.decide.ensures.one_more c.assign.ensures.one_more in
    conflict _ _ is_clauses is_trail.0 is_trail.1
