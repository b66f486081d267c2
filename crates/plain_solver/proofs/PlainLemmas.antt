-- What fits clauses to a trail, through a literal more, a decision, going back and a clause more.
use Rattle.std.proofs.Common.{◌≡◌, ℕ, ◌+◌, ◌<◌, ◌≤◌, inl, inr, List, [], ◌∷◌, ◌++◌, get_or, sym, subst, arith}
use Rattle.std.specs.Prelude.{All, Some, None}
use Rattle.std.proofs.lemmas.Bool.{cases_eq}
use Rattle.std.proofs.lemmas.List.Elements.{All-push, All-nil, All-head, All-tail, All-cons}
use Rattle.sat_core.specs.declared.literal.Lit.{Lit}
use Rattle.sat_core.specs.declared.literal.ClauseId.{ClauseId}
use Rattle.sat_core.specs.Clauses.{negated, IsOver, IsClause}
use Rattle.sat_core.specs.Hints.{NumberedClause}
use Rattle.sat_core.specs.Derivation.{numbered_from}
use Rattle.sat_core.specs.Fresh.{IsOpen, IsAtRest, IsClosed}
use Rattle.search_trail.specs.declared.entry.Entry.{Entry}
use Rattle.search_trail.specs.Trails.{TrailParts, IsTrail, IsCutBack, known_of, up_to, assigned, decided}
use Rattle.search_trail.specs.Reasons.{IsReason}
use Rattle.sat_core.proofs.OpenLaws.{is_known-at}
use Rattle.search_trail.proofs.TrailLaws.{IsTrail-push, now_low, one_sign}
use Rattle.search_trail.proofs.LevelLaws.{up_to-not, known-from_up_to, up_to-above, up_to-same, all_up_to}
use Rattle.search_trail.proofs.ReasonLaws.{AreReasons-push, AreReasons-cut, AreReasons-grow}
use Rattle.conflict_learn.specs.Learning.{IsAsserting}
use Rattle.conflict_learn.proofs.FreshLaws.{learned_rest}
use Rattle.plain_solver.specs.Plain.{IsPlain}

pub IsPlain-assign : (clauses : List (List Lit)) (t : TrailParts) (lit : Lit) (id : ClauseId) → IsOver t.vars lit → IsOpen (known_of t.entries) lit → IsReason (numbered_from 1 clauses) (known_of t.entries) lit id → IsPlain clauses t → IsPlain clauses (assigned t lit id)
IsPlain-assign clauses t lit id over is_open reason plain =
    let e : Entry = record { lit = lit; reason = Some id; level = t.present } in
    record {
      laws = IsTrail-push t e plain.laws over is_open (omega arith) (omega arith) (λ none. absurd (cc)) (omega (arith, now_low t plain.laws));
      clauses_over = plain.clauses_over;
      reasons = AreReasons-push (numbered_from 1 clauses) t.entries e plain.reasons reason;
      closed_below = λ level below. subst (λ known. All (IsAtRest known) clauses) (sym (up_to-above level t.entries e below)) (plain.closed_below level below);
    }

pub IsPlain-decide : (clauses : List (List Lit)) (t : TrailParts) (lit : Lit) → IsTrail (decided t lit) → All (IsAtRest (known_of t.entries)) clauses → IsPlain clauses t → IsPlain clauses (decided t lit)
IsPlain-decide clauses t lit laws closed plain =
    let e : Entry = record { lit = lit; reason = None; level = t.present + 1 } in
    record {
      laws = laws;
      clauses_over = plain.clauses_over;
      reasons = AreReasons-push (numbered_from 1 clauses) t.entries e plain.reasons tt;
      closed_below = λ level below. subst (λ known. All (IsAtRest known) clauses) (sym (up_to-above level t.entries e below))
          (elim (cases_eq level t.present) [
            | inl here ↦ subst (λ known. All (IsAtRest known) clauses) (sym (all_up_to level t.entries (λ k d within. omega (arith, plain.laws.up_to_now k d within, here)))) closed
            | inr lower ↦ plain.closed_below level (omega arith)
          ]);
    }

pub IsPlain-cut : (clauses : List (List Lit)) (t t' : TrailParts) (level : ℕ) → level ≤ t.present → IsTrail t' → t'.vars ≡ t.vars → IsCutBack level t.entries t'.entries → t'.present ≡ level → IsPlain clauses t → IsPlain clauses t'
IsPlain-cut clauses t t' level low laws vars cut present plain = record {
  laws = laws;
  clauses_over = subst (λ n. All (IsClause n) clauses) (sym vars) plain.clauses_over;
  reasons = AreReasons-cut (numbered_from 1 clauses) level t.entries t'.entries cut plain.reasons;
  closed_below = λ n below. subst (λ known. All (IsAtRest known) clauses) (sym (up_to-same level n t.entries t'.entries cut (omega arith))) (plain.closed_below n (omega arith));
}

-- a clause that is at rest under what is true up to each level below the present one
pub IsPlain-add : (clauses : List (List Lit)) (t : TrailParts) (lits : List Lit) → IsClause t.vars lits → ((level : ℕ) → level < t.present → IsAtRest (up_to level t.entries) lits) → IsPlain clauses t → IsPlain (clauses ++ lits ∷ []) t
IsPlain-add clauses t lits clause rest plain = record {
  laws = plain.laws;
  clauses_over = All-push (IsClause t.vars) clauses lits plain.clauses_over clause;
  reasons = AreReasons-grow clauses lits t.entries plain.reasons;
  closed_below = λ level below. All-push (IsAtRest (up_to level t.entries)) clauses lits (plain.closed_below level below) (rest level below);
}

-- after going back to its level the learned clause is one more
pub learned_plain : (clauses : List (List Lit)) (t t' : TrailParts) (lits : List Lit) (level : ℕ) → IsPlain clauses t → IsClause t.vars lits → IsAsserting t lits level → IsTrail t' → t'.vars ≡ t.vars → IsCutBack level t.entries t'.entries → t'.present ≡ level → IsPlain (clauses ++ lits ∷ []) t'
learned_plain clauses t t' lits level plain clause head laws vars cut present =
    IsPlain-add clauses t' lits (subst (λ n. IsClause n lits) (sym vars) clause)
    (λ n below. subst (λ known. IsAtRest known lits) (sym (up_to-same level n t.entries t'.entries cut (omega arith))) (learned_rest t lits level n plain.laws head (omega arith)))
    (IsPlain-cut clauses t t' level (omega (arith, head.lower)) laws vars cut present plain)

-- a learned clause is fresh
pub numbered_all : (P : List Lit → Type 0) (first : ℕ) (clauses : List (List Lit)) → All P clauses → All (λ c. P c.lits) (numbered_from first clauses)
numbered_all P first [] all = All-nil (λ (c : NumberedClause). P c.lits)
numbered_all P first (clause ∷ clauses) all = All-cons (λ (c : NumberedClause). P c.lits) (record { id = record { 0 = first }; lits = clause }) (numbered_from (first + 1) clauses) (All-head P clause clauses all) (numbered_all P (first + 1) clauses (All-tail P clause clauses all))

-- the trail up to the end of each level below the present one is closed over the clauses
pub closed_at : (clauses : List (List Lit)) (t : TrailParts) (level : ℕ) → level < t.present → IsPlain clauses t → IsClosed (up_to level t.entries) (numbered_from 1 clauses)
closed_at clauses t level below plain = record {
  one_sign = λ k d within.
      let lit : Lit = get_or (up_to level t.entries) k d in
      up_to-not level t.entries (negated lit) (one_sign t plain.laws lit (known-from_up_to level t.entries lit (is_known-at (up_to level t.entries) k d within)));
  at_rest = numbered_all (IsAtRest (up_to level t.entries)) 1 clauses (plain.closed_below level below);
}
