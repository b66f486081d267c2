-- How the live clauses change: what a clause more leaves of the others, and of reasons.
use Rattle.std.proofs.Common.{◌≡◌, ◌≢◌, ℕ, ◌<◌, true, false, cond, inl, inr, List, [], ◌∷◌, ◌++◌, length, take, get_or, refl, ap, sym, subst, ◌∙◌, arith}
use Rattle.std.specs.Prelude.{nat_eq, not, filter, find, option_map, Option, Some, None, All, Any}
use Rattle.std.proofs.lemmas.Bool.{cases_eq, eq-eqb}
use Rattle.std.proofs.lemmas.List.{append-nil}
use Rattle.std.proofs.lemmas.List.Elements.{All-nil, All-cons, All-head, All-tail}
use Rattle.sat_core.specs.declared.literal.Lit.{Lit}
use Rattle.sat_core.specs.declared.literal.ClauseId.{ClauseId}
use Rattle.sat_core.specs.Hints.{NumberedClause, clause_of, is_known}
use Rattle.search_trail.specs.declared.entry.Entry.{Entry}
use Rattle.search_trail.specs.Trails.{TrailParts, known_of, up_to}
use Rattle.search_trail.specs.Reasons.{ReasonFits, AreReasons}
use Rattle.search_trail.proofs.ReasonLaws.{apart-eqb}
use Rattle.watch_store.specs.Places.{IsInserted}
use Rattle.watch_store.specs.Fits.{AreShortTrue}

-- ---- a clause more
-- above all others it comes last
pub IsInserted-last : (id : ClauseId) (lits : List Lit) (old new : List NumberedClause) → All (λ c. c.id.0 < id.0) old → IsInserted id lits old new → new ≡ old ++ record { id = id; lits = lits } ∷ []
IsInserted-last id lits old new above inserted =
    go inserted.higher inserted.were inserted.are (subst (All (λ (c : NumberedClause). c.id.0 < id.0)) inserted.were above) inserted.all_higher where
      behind : (lower : List NumberedClause) (c : NumberedClause) (higher : List NumberedClause) → All (λ (x : NumberedClause). x.id.0 < id.0) (lower ++ c ∷ higher) → c.id.0 < id.0
      behind [] c higher all = All-head (λ (x : NumberedClause). x.id.0 < id.0) c higher all
      behind (l ∷ lower) c higher all = behind lower c higher (All-tail (λ (x : NumberedClause). x.id.0 < id.0) l (lower ++ c ∷ higher) all)

      go : (higher : List NumberedClause) → old ≡ inserted.lower ++ higher → new ≡ inserted.lower ++ record { id = id; lits = lits } ∷ higher → All (λ (c : NumberedClause). c.id.0 < id.0) (inserted.lower ++ higher) → All (λ (c : NumberedClause). id.0 < c.id.0) higher → new ≡ old ++ record { id = id; lits = lits } ∷ []
      go [] were are all rest = are ∙ ap (λ cs. cs ++ record { id = id; lits = lits } ∷ []) (sym (were ∙ append-nil inserted.lower))
      go (c ∷ higher) were are all rest = absurd (omega (arith, behind inserted.lower c higher all, All-head (λ (x : NumberedClause). id.0 < x.id.0) c higher rest))

clause_of-between : (id : ClauseId) (lits : List Lit) (lower higher : List NumberedClause) (other : ClauseId) → other.0 ≢ id.0 → clause_of (lower ++ record { id = id; lits = lits } ∷ higher) other ≡ clause_of (lower ++ higher) other
clause_of-between id lits [] higher other apart = rw (apart-eqb id.0 other.0 (λ same. apart (sym same))) refl
clause_of-between id lits (c ∷ lower) higher other apart =
    elim (nat_eq c.id.0 other.0) as (λ b. option_map (λ x. x.lits) (cond b (Some c) (find (λ x. nat_eq x.id.0 other.0) (lower ++ record { id = id; lits = lits } ∷ higher))) ≡ option_map (λ x. x.lits) (cond b (Some c) (find (λ x. nat_eq x.id.0 other.0) (lower ++ higher)))) [
      | true ↦ refl
      | false ↦ clause_of-between id lits lower higher other apart
    ]

-- the others are found as before
pub clause_of-inserted : (id : ClauseId) (lits : List Lit) (old new : List NumberedClause) (other : ClauseId) → other.0 ≢ id.0 → IsInserted id lits old new → clause_of new other ≡ clause_of old other
clause_of-inserted id lits old new other apart inserted =
    ap (λ cs. clause_of cs other) inserted.are ∙ (clause_of-between id lits inserted.lower inserted.higher other apart ∙ ap (λ cs. clause_of cs other) (sym inserted.were))

clause_of-first : (id : ClauseId) (lits : List Lit) (lower higher : List NumberedClause) → All (λ c. c.id.0 < id.0) lower → clause_of (lower ++ record { id = id; lits = lits } ∷ higher) id ≡ Some lits
clause_of-first id lits [] higher below = rw (eq-eqb id.0 id.0 refl) refl
clause_of-first id lits (c ∷ lower) higher below =
    rw (apart-eqb c.id.0 id.0 (λ same. omega (arith, same, All-head (λ (x : NumberedClause). x.id.0 < id.0) c lower below)))
    (clause_of-first id lits lower higher (All-tail (λ (x : NumberedClause). x.id.0 < id.0) c lower below))

-- it is found under its number
pub clause_of-itself : (id : ClauseId) (lits : List Lit) (old new : List NumberedClause) → IsInserted id lits old new → clause_of new id ≡ Some lits
clause_of-itself id lits old new inserted = ap (λ cs. clause_of cs id) inserted.are ∙ clause_of-first id lits inserted.lower inserted.higher inserted.all_lower

-- what holds of the old ones and of the new one holds of all
pub All-inserted : (P : NumberedClause → Type 0) (id : ClauseId) (lits : List Lit) (old new : List NumberedClause) → All P old → P (record { id = id; lits = lits }) → IsInserted id lits old new → All P new
All-inserted P id lits old new all own inserted =
    subst (All P) (sym inserted.are) (between inserted.lower inserted.higher (subst (All P) inserted.were all)) where
      between : (lower higher : List NumberedClause) → All P (lower ++ higher) → All P (lower ++ record { id = id; lits = lits } ∷ higher)
      between [] higher both = All-cons P (record { id = id; lits = lits }) higher own both
      between (c ∷ lower) higher both = All-cons P c (lower ++ record { id = id; lits = lits } ∷ higher) (All-head P c (lower ++ higher) both) (between lower higher (All-tail P c (lower ++ higher) both))

ReasonFits-inserted : (id : ClauseId) (lits : List Lit) (old new : List NumberedClause) (front : List Lit) (lit : Lit) (reason : Option ClauseId) → clause_of old id ≡ None → IsInserted id lits old new → ReasonFits old front lit reason → ReasonFits new front lit reason
ReasonFits-inserted id lits old new front lit None free inserted fits = tt
ReasonFits-inserted id lits old new front lit (Some other) free inserted fits = record {
  lits = fits.lits;
  stands = clause_of-inserted id lits old new other (λ same. never fits.lits (sym free ∙ (ap (λ n. clause_of old (record { 0 = n })) (sym same) ∙ fits.stands))) inserted ∙ fits.stands;
  holds = fits.holds;
  others_false = fits.others_false;
} where
  never : (ls : List Lit) → None ≡ Some ls → ⊥
  never ls same = cc

-- reasons stay
pub AreReasons-inserted : (id : ClauseId) (lits : List Lit) (old new : List NumberedClause) (entries : List Entry) → clause_of old id ≡ None → IsInserted id lits old new → AreReasons old entries → AreReasons new entries
AreReasons-inserted id lits old new entries free inserted all k d within =
    ReasonFits-inserted id lits old new (known_of (take k entries)) (get_or entries k d).lit (get_or entries k d).reason free inserted (all k d within)

pub AreShortTrue-inserted : (id : ClauseId) (lits : List Lit) (old new : List NumberedClause) (t : TrailParts) → (length lits < 2 → Any (λ lit. is_known (up_to 0 t.entries) lit ≡ true) lits) → IsInserted id lits old new → AreShortTrue old t → AreShortTrue new t
AreShortTrue-inserted id lits old new t own inserted short = All-inserted (λ c. length c.lits < 2 → Any (λ lit. is_known (up_to 0 t.entries) lit ≡ true) c.lits) id lits old new short own inserted

-- ---- a clause less
clause_of-less : (number : ℕ) (live : List NumberedClause) (other : ClauseId) → other.0 ≢ number → clause_of (filter (λ c. not (nat_eq c.id.0 number)) live) other ≡ clause_of live other
clause_of-less number [] other apart = refl
clause_of-less number (c ∷ live) other apart = elim (cases_eq c.id.0 number) [
  | inl here ↦ rw (eq-eqb c.id.0 number here, apart-eqb c.id.0 other.0 (λ same. apart (sym same ∙ here))) (clause_of-less number live other apart)
  | inr kept ↦ rw (apart-eqb c.id.0 number kept)
      (elim (nat_eq c.id.0 other.0) as (λ b. option_map (λ x. x.lits) (cond b (Some c) (find (λ x. nat_eq x.id.0 other.0) (filter (λ x. not (nat_eq x.id.0 number)) live))) ≡ option_map (λ x. x.lits) (cond b (Some c) (find (λ x. nat_eq x.id.0 other.0) live))) [
        | true ↦ refl
        | false ↦ clause_of-less number live other apart
      ])
]

pub All-less : (P : NumberedClause → Type 0) (number : ℕ) (live : List NumberedClause) → All P live → All P (filter (λ c. not (nat_eq c.id.0 number)) live)
All-less P number [] all = All-nil P
All-less P number (c ∷ live) all = elim (cases_eq c.id.0 number) [
  | inl here ↦ rw (eq-eqb c.id.0 number here) (All-less P number live (All-tail P c live all))
  | inr kept ↦ rw (apart-eqb c.id.0 number kept) (All-cons P c (filter (λ x. not (nat_eq x.id.0 number)) live) (All-head P c live all) (All-less P number live (All-tail P c live all)))
]

ReasonFits-less : (id : ClauseId) (live : List NumberedClause) (front : List Lit) (lit : Lit) (reason : Option ClauseId) → reason ≢ Some id → ReasonFits live front lit reason → ReasonFits (filter (λ c. not (nat_eq c.id.0 id.0)) live) front lit reason
ReasonFits-less id live front lit None apart fits = tt
ReasonFits-less id live front lit (Some other) apart fits = record {
  lits = fits.lits;
  stands = clause_of-less id.0 live other (λ same. apart (ap (λ n. Some (record { 0 = n })) same)) ∙ fits.stands;
  holds = fits.holds;
  others_false = fits.others_false;
}

-- reasons stay where none of them goes
pub AreReasons-less : (id : ClauseId) (live : List NumberedClause) (entries : List Entry) → All (λ e. e.reason ≢ Some id) entries → AreReasons live entries → AreReasons (filter (λ c. not (nat_eq c.id.0 id.0)) live) entries
AreReasons-less id live entries apart all k d within =
    ReasonFits-less id live (known_of (take k entries)) (get_or entries k d).lit (get_or entries k d).reason (apart k d within) (all k d within)
