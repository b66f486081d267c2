-- Laws of reasons: an entry more, the trail that goes back, a clause more.
use Rattle.std.proofs.Common.{◌≡◌, ◌≢◌, ℕ, zero, suc, ◌+◌, ◌<◌, true, false, cond, inl, inr, List, [], ◌∷◌, ◌++◌, length, take, get_or, refl, ap, sym, subst, ◌∙◌, arith}
use Rattle.std.specs.Prelude.{Option, Some, None, nat_eq, find, option_map}
use Rattle.std.proofs.lemmas.Bool.{cases_eq, eq-eqb, eqb-true}
use Rattle.std.proofs.lemmas.List.{length_push, get_or_push, get_or_append_left, get_or-take, length-take-le, take-append-le, take_all, take-take}
use Rattle.sat_core.specs.declared.literal.Lit.{Lit}
use Rattle.sat_core.specs.declared.literal.ClauseId.{ClauseId}
use Rattle.sat_core.specs.Hints.{NumberedClause, clause_of}
use Rattle.search_trail.specs.declared.entry.Entry.{Entry}
use Rattle.sat_core.specs.Derivation.{numbered_from}
use Rattle.search_trail.specs.Trails.{IsCutBack, known_of}
use Rattle.search_trail.specs.Reasons.{ReasonFits, AreReasons}

-- different numbers don't test equal
pub apart-eqb : (a b : ℕ) → a ≢ b → nat_eq a b ≡ false
apart-eqb a b apart = elim (nat_eq a b) as (λ t. nat_eq a b ≡ t → t ≡ false) [
  | true ↦ λ same. absurd (apart (eqb-true a b same))
  | false ↦ λ _. refl
] refl

-- the clause with that place has the next number
pub clause_of-numbered : (clauses : List (List Lit)) (first place : ℕ) (d : List Lit) → place < length clauses → clause_of (numbered_from first clauses) (record { 0 = first + place }) ≡ Some (get_or clauses place d)
clause_of-numbered [] first place d within = absurd (omega arith)
clause_of-numbered (clause ∷ clauses) first zero d within = rw (eq-eqb first (first + 0) (omega arith)) refl
clause_of-numbered (clause ∷ clauses) first (suc place) d within =
    let id : ClauseId = record { 0 = first + suc place } in
    let later : record { 0 = first + 1 + place } ≡ id = ap (λ n. record { 0 = n }) (omega arith) in
    rw (apart-eqb first (first + suc place) (omega arith))
    (ap (clause_of (numbered_from (first + 1) clauses)) (sym later) ∙ clause_of-numbered clauses (first + 1) place d (omega arith))

pub AreReasons-push : (live : List NumberedClause) (entries : List Entry) (e : Entry) → AreReasons live entries → ReasonFits live (known_of entries) e.lit e.reason → AreReasons live (entries ++ e ∷ [])
AreReasons-push live entries e all new k d within = elim (cases_eq k (length entries)) [
  | inl here ↦
      let is : get_or (entries ++ e ∷ []) k d ≡ e = get_or_push entries e d k (sym here) in
      let front : take k (entries ++ e ∷ []) ≡ entries = ap (λ n. take n (entries ++ e ∷ [])) here ∙ (take-append-le (length entries) entries (e ∷ []) (omega arith) ∙ take_all (length entries) entries (omega arith)) in
      rw (is, front) new
  | inr before ↦
      let within' : k < length entries = omega (arith, within, length_push entries e) in
      rw (get_or_append_left entries (e ∷ []) d k within', take-append-le k entries (e ∷ []) (omega arith)) (all k d within')
]

pub AreReasons-cut : (live : List NumberedClause) (level : ℕ) (old new : List Entry) → IsCutBack level old new → AreReasons live old → AreReasons live new
AreReasons-cut live level old new cut all k d within =
    let long : length new ≡ cut.size = ap length cut.front ∙ length-take-le cut.size old cut.within in
    let same : get_or new k d ≡ get_or old k d = ap (λ es. get_or es k d) cut.front ∙ get_or-take cut.size old k d (omega arith) in
    let front : take k new ≡ take k old = ap (take k) cut.front ∙ take-take k cut.size old (omega arith) in
    let old_fits : ReasonFits live (known_of (take k old)) (get_or old k d).lit (get_or old k d).reason = all k d (omega (arith, cut.within)) in
    subst (λ f. ReasonFits live (known_of f) (get_or new k d).lit (get_or new k d).reason) (sym front)
    (subst (λ e. ReasonFits live (known_of (take k old)) e.lit e.reason) (sym same) old_fits)

pub numbered-push : (first : ℕ) (clauses : List (List Lit)) (lits : List Lit) → numbered_from first (clauses ++ lits ∷ []) ≡ numbered_from first clauses ++ record { id = record { 0 = first + length clauses }; lits = lits } ∷ []
numbered-push first [] lits = ap (λ n. record { id = record { 0 = n }; lits = lits } ∷ []) (omega arith)
numbered-push first (clause ∷ clauses) lits =
    let rest = numbered-push (first + 1) clauses lits in
    let number : first + 1 + length clauses ≡ first + suc (length clauses) = omega arith in
    ap (λ ns. record { id = record { 0 = first }; lits = clause } ∷ ns) (rest ∙ ap (λ n. numbered_from (first + 1) clauses ++ record { id = record { 0 = n }; lits = lits } ∷ []) number)

pub clause_of-left : (live more : List NumberedClause) (id : ClauseId) (lits : List Lit) → clause_of live id ≡ Some lits → clause_of (live ++ more) id ≡ Some lits
clause_of-left [] more id lits found = absurd (cc)
clause_of-left (clause ∷ live) more id lits found =
    elim (nat_eq clause.id.0 id.0) as (λ b. option_map (λ c. c.lits) (cond b (Some clause) (find (λ c. nat_eq c.id.0 id.0) live)) ≡ Some lits → option_map (λ c. c.lits) (cond b (Some clause) (find (λ c. nat_eq c.id.0 id.0) (live ++ more))) ≡ Some lits) [
      | true ↦ λ here. here
      | false ↦ λ later. clause_of-left live more id lits later
    ] found

ReasonFits-grow : (live more : List NumberedClause) (front : List Lit) (lit : Lit) (reason : Option ClauseId) → ReasonFits live front lit reason → ReasonFits (live ++ more) front lit reason
ReasonFits-grow live more front lit None fits = tt
ReasonFits-grow live more front lit (Some id) fits = record { lits = fits.lits; stands = clause_of-left live more id fits.lits fits.stands; holds = fits.holds; others_false = fits.others_false }

pub AreReasons-grow : (clauses : List (List Lit)) (lits : List Lit) (entries : List Entry) → AreReasons (numbered_from 1 clauses) entries → AreReasons (numbered_from 1 (clauses ++ lits ∷ [])) entries
AreReasons-grow clauses lits entries all k d within =
    subst (λ live. ReasonFits live (known_of (take k entries)) (get_or entries k d).lit (get_or entries k d).reason) (sym (numbered-push 1 clauses lits))
    (ReasonFits-grow (numbered_from 1 clauses) (record { id = record { 0 = 1 + length clauses }; lits = lits } ∷ []) (known_of (take k entries)) (get_or entries k d).lit (get_or entries k d).reason (all k d within))
