-- One pass over the clauses.
use Rattle.std.proofs.Common.{◌≡◌, ℕ, zero, suc, ◌+◌, ◌-◌, ◌<◌, ◌≤◌, inl, inr, List, [], ◌∷◌, ◌++◌, length, get_or, refl, ap, sym, subst, ◌∙◌, arith}
use Rattle.std.specs.Prelude.{All, Some, slice_get}
use Rattle.std.specs.List.{AllWithin}
use Rattle.std.proofs.lemmas.Bool.{cases_eq}
use Rattle.std.proofs.lemmas.List.{length_push, length-append}
use Rattle.std.proofs.lemmas.List.Elements.{All-push, All-nil, All-contains}
use Rattle.sat_core.specs.declared.literal.Lit.{Lit}
use Rattle.sat_core.specs.declared.literal.ClauseId.{ClauseId}
use Rattle.sat_core.specs.Clauses.{IsOver, IsClause}
use Rattle.sat_core.specs.Hints.{clause_of}
use Rattle.sat_core.specs.Derivation.{numbered_from}
use Rattle.sat_core.specs.Fresh.{IsAtRest, IsUnitUnder}
use Rattle.search_trail.specs.declared.entry.Entry.{Entry}
use Rattle.search_trail.specs.Trails.{TrailParts, Grows, AreFalse, known_of, assigned}
use Rattle.search_trail.specs.Reasons.{IsReason}
use Rattle.search_trail.proofs.TrailLaws.{Grows-none, Grows-on}
use Rattle.search_trail.proofs.ReasonLaws.{clause_of-numbered}
use Rattle.plain_solver.specs.Plain.{IsPlain, IsFalseClause}
use Rattle.plain_solver.proofs.PlainLemmas.{IsPlain-assign}

pub record IsPassing (clauses : List (List Lit)) (first t : TrailParts) (place : ℕ) : Type 0 where
  pub plain : IsPlain clauses t
  pub grows : Grows first t
  pub at_rest : length t.entries ≡ length first.entries → AllWithin (IsAtRest (known_of t.entries)) clauses 0 place

pub passing_start : (clauses : List (List Lit)) (t : TrailParts) → IsPlain clauses t → IsPassing clauses t t 0
passing_start clauses t plain = record { plain = plain; grows = Grows-none t; at_rest = λ _ k d low high. absurd (omega arith) }

lits_at : (clauses : List (List Lit)) (place : ℕ) (lits d : List Lit) → slice_get clauses place ≡ Some lits → get_or clauses place d ≡ lits
lits_at [] place lits d found = absurd (cc)
lits_at (clause ∷ clauses) zero lits d found = cc
lits_at (clause ∷ clauses) (suc place) lits d found = lits_at clauses place lits d found

pub at_place : (clauses : List (List Lit)) (place : ℕ) (lits d : List Lit) → slice_get clauses (place + 1 - 1) ≡ Some lits → get_or clauses place d ≡ lits
at_place clauses place lits d found = let same : place + 1 - 1 ≡ place = omega arith in ap (λ n. get_or clauses n d) (sym same) ∙ lits_at clauses (place + 1 - 1) lits d found

pub passing_rest : (clauses : List (List Lit)) (first t : TrailParts) (place : ℕ) (lits : List Lit) → slice_get clauses (place + 1 - 1) ≡ Some lits → IsAtRest (known_of t.entries) lits → IsPassing clauses first t place → IsPassing clauses first t (place + 1)
passing_rest clauses first t place lits found rest passing = record {
  plain = passing.plain;
  grows = passing.grows;
  at_rest = λ same k d low high. elim (cases_eq k place) [
    | inl here ↦ subst (IsAtRest (known_of t.entries)) (sym (ap (λ n. get_or clauses n d) here ∙ at_place clauses place lits d found)) rest
    | inr apart ↦ passing.at_rest same k d low (omega arith)
  ];
}

grown_long : (a b : TrailParts) → Grows a b → length a.entries ≤ length b.entries
grown_long a b grows = omega (arith, ap length grows.entries, length-append a.entries grows.more)

pub passing_unit : (clauses : List (List Lit)) (first t t' : TrailParts) (place : ℕ) (lits : List Lit) (lit : Lit) (id : ClauseId) → place < length clauses → slice_get clauses (place + 1 - 1) ≡ Some lits → IsClause t.vars lits → IsUnitUnder (known_of t.entries) lits lit → id ≡ record { 0 = place + 1 } → t' ≡ assigned t lit id → IsPassing clauses first t place → IsPassing clauses first t' (place + 1)
passing_unit clauses first t t' place lits lit id within found clause unit number is passing =
    let e : Entry = record { lit = lit; reason = Some id; level = t.present } in
    let over : IsOver t.vars lit = All-contains (IsOver t.vars) lits lit clause.in_range unit.stands in
    let named : id ≡ record { 0 = 1 + place } = number ∙ ap (λ n. record { 0 = n }) (omega arith) in
    let reason : IsReason (numbered_from 1 clauses) (known_of t.entries) lit id = record {
      lits = lits;
      stands = ap (clause_of (numbered_from 1 clauses)) named ∙ (clause_of-numbered clauses 1 place [] within ∙ ap (λ ls. Some ls) (at_place clauses place lits [] found));
      holds = unit.stands;
      others_false = unit.others_false;
    } in
    let longer : length (t.entries ++ e ∷ []) ≡ length t.entries + 1 = length_push t.entries e in
    subst (λ u. IsPassing clauses first u (place + 1)) (sym is) (record {
      plain = IsPlain-assign clauses t lit id over unit.open_lit reason passing.plain;
      grows = Grows-on first t (assigned t lit id) passing.grows (record { vars = refl; present = refl; more = e ∷ []; entries = refl; at_present = All-push (λ (x : Entry). x.level ≡ t.present) [] e (All-nil (λ (x : Entry). x.level ≡ t.present)) refl });
      at_rest = λ same. absurd (omega (arith, same, longer, grown_long first t passing.grows));
    })

pub passing_conflict : (clauses : List (List Lit)) (t : TrailParts) (place : ℕ) (lits : List Lit) → place < length clauses → slice_get clauses (place + 1 - 1) ≡ Some lits → AreFalse (known_of t.entries) lits → IsFalseClause clauses t (record { 0 = place + 1 })
passing_conflict clauses t place lits within found all_false =
    let same : place + 1 - 1 ≡ place = omega arith in
    record {
      first = omega arith;
      last = omega arith;
      all_false = subst (AreFalse (known_of t.entries)) (sym (ap (λ n. get_or clauses n []) same ∙ at_place clauses place lits [] found)) all_false;
    }

pub passing_end : (clauses : List (List Lit)) (first t : TrailParts) (place : ℕ) → length clauses ≤ place → IsPassing clauses first t place → length t.entries ≡ length first.entries → All (IsAtRest (known_of t.entries)) clauses
passing_end clauses first t place all passing same k d within = passing.at_rest same k d (omega arith) (omega arith)

pub clause_at : (clauses : List (List Lit)) (first t : TrailParts) (place : ℕ) (lits : List Lit) → place < length clauses → slice_get clauses (place + 1 - 1) ≡ Some lits → IsPassing clauses first t place → IsClause t.vars lits
clause_at clauses first t place lits within found passing = subst (IsClause t.vars) (at_place clauses place lits [] found) (passing.plain.clauses_over place [] within)

pub unit_over : (vars : ℕ) (known lits : List Lit) (lit : Lit) → IsClause vars lits → IsUnitUnder known lits lit → IsOver vars lit
unit_over vars known lits lit clause unit = All-contains (IsOver vars) lits lit clause.in_range unit.stands
