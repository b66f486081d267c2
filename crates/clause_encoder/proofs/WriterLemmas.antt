-- A clause is no longer than there are variables; and what a writer keeps when it takes one more.
use Rattle.std.proofs.Common.{◌≡◌, ◌≢◌, ℕ, ◌+◌, ◌-◌, ◌*◌, ◌<◌, ◌≤◌, ◌^◌, Bool, true, eqb, List, [], ◌∷◌, ◌++◌, length, get_or, map, ap, ◌∙◌, subst, ⊎_elim, arith}
use Rattle.std.specs.Prelude.{All, ◌||◌}
use Rattle.std.specs.List.{list_any, AllPairs, IsDistinct}
use Rattle.std.proofs.lemmas.Bool.{false≢true}
use Rattle.std.proofs.lemmas.Bool.Decides.{eqb_tells, Decides-eqb}
use Rattle.std.proofs.lemmas.List.{length-map, get_or-map, length_push}
use Rattle.std.proofs.lemmas.List.Elements.{All-tail}
use Rattle.std.proofs.lemmas.Map.Made.{IsDistinct-from_AllPairs}
use Rattle.std.proofs.lemmas.Map.Steps.{length-le_from_distinct_below}
use Rattle.sat_core.specs.declared.literal.Lit.{Lit}
use Rattle.sat_core.specs.Clauses.{IsClause, IsOver}
use Rattle.sat_core.specs.Storage.{FormulaParts}
use Rattle.clause_encoder.specs.Writing.{AreClauses, IsWriter}
use Rattle.clause_encoder.proofs.WritingLemmas.{one_clause}

zero_lit : Lit
zero_lit = record { var = record { 0 = 0 }; positive = true }

number_below : (vars : ℕ) (lits : List Lit) (q : ℕ) → All (IsOver vars) lits → list_any (eqb q) (map (λ lit. lit.var.0 - 1) lits) ≡ true → q < vars
number_below vars [] q all found = absurd (false≢true found)
number_below vars (lit ∷ lits) q all found =
    let this : (1 ≤ lit.var.0) × (lit.var.0 ≤ vars) = all 0 lit (omega arith) in
    ⊎_elim (λ h. let e : q ≡ lit.var.0 - 1 = h.1 in omega arith)
    (λ h. number_below vars lits q (All-tail (IsOver vars) lit lits all) (subst (λ b. (b || list_any (eqb q) (map (λ lit. lit.var.0 - 1) lits)) ≡ true) h.0 found))
    (eqb_tells q (lit.var.0 - 1))

-- numbers 1 to n, none twice, are at most n
pub clause_short : (vars : ℕ) (lits : List Lit) → IsClause vars lits → length lits ≤ vars
clause_short vars lits clause =
    let numbers : List ℕ = map (λ lit. lit.var.0 - 1) lits in
    let differ : AllPairs (λ x y. x ≢ y) numbers = λ i j d below within same.
    let few : j < length lits = omega (arith, length-map lits (λ lit. lit.var.0 - 1)) in
    let first : get_or numbers i d ≡ (get_or lits i zero_lit).var.0 - 1 = get_or-map (λ lit. lit.var.0 - 1) lits i zero_lit d (omega arith) in
    let second : get_or numbers j d ≡ (get_or lits j zero_lit).var.0 - 1 = get_or-map (λ lit. lit.var.0 - 1) lits j zero_lit d few in
    let low : 1 ≤ (get_or lits i zero_lit).var.0 = (clause.in_range i zero_lit (omega arith)).0 in
    let low_too : 1 ≤ (get_or lits j zero_lit).var.0 = (clause.in_range j zero_lit few).0 in
    clause.no_variable_twice i j zero_lit below few (omega arith) in
    let distinct : IsDistinct eqb numbers = IsDistinct-from_AllPairs Decides-eqb numbers differ in
    let bound : (q : ℕ) → list_any (eqb q) numbers ≡ true → q < vars = λ q found. number_below vars lits q clause.in_range found in
    omega (arith, length-map lits (λ lit. lit.var.0 - 1), length-le_from_distinct_below numbers vars distinct bound)

pub short_enough : (vars n : ℕ) (clause : List Lit) → AreClauses vars (clause ∷ []) → n ≡ length clause → vars < 2 ^ 32 → n < 2 ^ 32
short_enough vars n clause fits same few = omega (arith, clause_short vars clause (one_clause vars clause fits))

pub writer_more : (most count lits n : ℕ) (keeps : Bool) (f g : FormulaParts) (clause : List Lit) → IsWriter most count lits keeps f → count ≢ most → n ≡ length clause → n < 2 ^ 32 → (keeps ≡ true → g.clauses ≡ f.clauses ++ clause ∷ []) → IsWriter most (count + 1) (lits + n) keeps g
writer_more most count lits n keeps f g clause writer more same short kept = record {
  within = (let w : count ≤ most = writer.within in omega arith);
  few = writer.few;
  few_lits = (let l : lits ≤ count * 2 ^ 32 = writer.few_lits in omega arith);
  kept = λ k. (let e : length g.clauses ≡ length f.clauses + 1 = ap length (kept k) ∙ length_push f.clauses clause in let h : length f.clauses ≡ count = writer.kept k in omega arith);
}
