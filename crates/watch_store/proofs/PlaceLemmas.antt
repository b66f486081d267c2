-- Laws of clauses at places: how the live clauses are found, and how they change with a place.
use Rattle.std.proofs.Common.{◌≡◌, ◌≢◌, ℕ, zero, suc, ◌+◌, ◌-◌, ◌<◌, not, inl, inr, List, [], ◌∷◌, ◌++◌, length, get_or, set, replicate, refl, ap, sym, subst, ◌∙◌, arith}
use Rattle.std.specs.Prelude.{nat_eq, filter, Option, Some, None, All, Contains, slice_get}
use Rattle.std.proofs.lemmas.Bool.{cases_eq, eq-eqb}
use Rattle.std.proofs.lemmas.List.{get_or_append_left, get_or_push, get_or-set_same, get_or-set_other, length_push, length-append, length-replicate}
use Rattle.std.proofs.lemmas.List.Elements.{All-nil, All-cons, All-push}
use Rattle.sat_core.specs.declared.literal.Lit.{Lit}
use Rattle.sat_core.specs.declared.literal.ClauseId.{ClauseId}
use Rattle.sat_core.specs.Clauses.{IsClause}
use Rattle.sat_core.specs.Hints.{NumberedClause, clause_of}
use Rattle.search_trail.proofs.ReasonLaws.{apart-eqb}
use Rattle.watch_store.specs.Places.{PlacedClauses, ArePlaced, IsPlacedAt, IsLiveAt, IsInserted, live_from, live_in, clause_at, number_of_place, with_clause, without_clause}

-- the clause that stands at a place under a number
abbrev pub clause_under : List (List Lit) → ℕ → ℕ → NumberedClause
clause_under clauses number place = record { id = record { 0 = number }; lits = get_or clauses place [] }

some_same : (one other : ℕ) → Some one ≡ Some other → one ≡ other
some_same one other same = cc

pub none_is_not_some : (place : ℕ) → None ≡ Some place → ⊥
none_is_not_some place same = cc

-- ---- the clause with a number
live_below : (clauses : List (List Lit)) (first number : ℕ) (places : List (Option ℕ)) → number < first → clause_of (live_from clauses first places) (record { 0 = number }) ≡ None
live_below clauses first number [] below = refl
live_below clauses first number (None ∷ places) below = live_below clauses (first + 1) number places (omega arith)
live_below clauses first number (Some place ∷ places) below = rw (apart-eqb first number (λ same. omega (arith, same, below))) (live_below clauses (first + 1) number places (omega arith))

live_stands : (clauses : List (List Lit)) (first n place : ℕ) (places : List (Option ℕ)) → get_or places n None ≡ Some place → clause_of (live_from clauses first places) (record { 0 = first + n }) ≡ Some (get_or clauses place [])
live_stands clauses first n place [] found = absurd (none_is_not_some place found)
live_stands clauses first zero place (None ∷ places) found = absurd (none_is_not_some place found)
live_stands clauses first (suc n) place (None ∷ places) found =
    let later : first + suc n ≡ first + 1 + n = omega arith in
    ap (λ m. clause_of (live_from clauses (first + 1) places) (record { 0 = m })) later ∙ live_stands clauses (first + 1) n place places found
live_stands clauses first zero place (Some p ∷ places) found = rw (eq-eqb first (first + 0) (omega arith)) (ap (λ q. Some (get_or clauses q [])) (some_same p place found))
live_stands clauses first (suc n) place (Some p ∷ places) found =
    let later : first + suc n ≡ first + 1 + n = omega arith in
    rw (apart-eqb first (first + suc n) (λ same. omega (arith, same))) (ap (λ m. clause_of (live_from clauses (first + 1) places) (record { 0 = m })) later ∙ live_stands clauses (first + 1) n place places found)

live_none : (clauses : List (List Lit)) (first n : ℕ) (places : List (Option ℕ)) → get_or places n None ≡ None → clause_of (live_from clauses first places) (record { 0 = first + n }) ≡ None
live_none clauses first n [] none = refl
live_none clauses first zero (None ∷ places) none = live_below clauses (first + 1) (first + 0) places (omega arith)
live_none clauses first (suc n) (None ∷ places) none =
    let later : first + suc n ≡ first + 1 + n = omega arith in
    ap (λ m. clause_of (live_from clauses (first + 1) places) (record { 0 = m })) later ∙ live_none clauses (first + 1) n places none
live_none clauses first zero (Some p ∷ places) none = absurd (none_is_not_some p (sym none))
live_none clauses first (suc n) (Some p ∷ places) none =
    let later : first + suc n ≡ first + 1 + n = omega arith in
    rw (apart-eqb first (first + suc n) (λ same. omega (arith, same))) (ap (λ m. clause_of (live_from clauses (first + 1) places) (record { 0 = m })) later ∙ live_none clauses (first + 1) n places none)

pub placed_clause : (table : PlacedClauses) (id : ClauseId) (place : ℕ) → IsPlacedAt table id.0 place → clause_of (live_in table) id ≡ Some (clause_at table place)
placed_clause table id place found =
    let from_zero : 0 + id.0 ≡ id.0 = omega arith in
    subst (λ n. clause_of (live_in table) (record { 0 = n }) ≡ Some (clause_at table place)) from_zero (live_stands table.clauses 0 id.0 place table.places found)

pub unplaced_clause : (table : PlacedClauses) (id : ClauseId) → get_or table.places id.0 None ≡ None → clause_of (live_in table) id ≡ None
unplaced_clause table id none =
    let from_zero : 0 + id.0 ≡ id.0 = omega arith in
    subst (λ n. clause_of (live_in table) (record { 0 = n }) ≡ None) from_zero (live_none table.clauses 0 id.0 table.places none)

pub unplaced : (table : PlacedClauses) (id : ClauseId) (place : ℕ) → clause_of (live_in table) id ≡ None → IsPlacedAt table id.0 place → ⊥
unplaced table id place none found = apart (clause_at table place) (sym none ∙ placed_clause table id place found) where
  apart : (lits : List Lit) → None ≡ Some lits → ⊥
  apart lits same = cc

-- ---- the places of the live clauses
live_contains : (clauses : List (List Lit)) (first n place : ℕ) (places : List (Option ℕ)) → get_or places n None ≡ Some place → Contains (live_from clauses first places) (clause_under clauses (first + n) place)
live_contains clauses first n place [] found = absurd (none_is_not_some place found)
live_contains clauses first zero place (None ∷ places) found = absurd (none_is_not_some place found)
live_contains clauses first (suc n) place (None ∷ places) found =
    let later : first + 1 + n ≡ first + suc n = omega arith in
    subst (λ m. Contains (live_from clauses (first + 1) places) (clause_under clauses m place)) later (live_contains clauses (first + 1) n place places found)
live_contains clauses first zero place (Some p ∷ places) found =
    let here : first ≡ first + 0 = omega arith in
    (0, omega arith, ap (λ m. clause_under clauses m p) here ∙ ap (clause_under clauses (first + 0)) (some_same p place found))
live_contains clauses first (suc n) place (Some p ∷ places) found =
    let later : first + 1 + n ≡ first + suc n = omega arith in
    let at = live_contains clauses (first + 1) n place places found in
    (suc at.0, omega (arith, at.1), subst (λ m. get_or (live_from clauses (first + 1) places) at.0 (clause_under clauses m place) ≡ clause_under clauses m place) later at.2)

pub placed_stands : (table : PlacedClauses) (number place : ℕ) → IsPlacedAt table number place → Contains (live_in table) (clause_under table.clauses number place)
placed_stands table number place found =
    let from_zero : 0 + number ≡ number = omega arith in
    subst (λ n. Contains (live_in table) (clause_under table.clauses n place)) from_zero (live_contains table.clauses 0 number place table.places found)

live_at : (clauses : List (List Lit)) (first : ℕ) (places : List (Option ℕ)) (k : ℕ) → k < length (live_from clauses first places) → (n : ℕ) × (place : ℕ) × (get_or places n None ≡ Some place) × ((d : NumberedClause) → get_or (live_from clauses first places) k d ≡ clause_under clauses (first + n) place)
live_at clauses first [] k within = absurd (omega arith)
live_at clauses first (None ∷ places) k within =
    let at = live_at clauses (first + 1) places k within in
    let later : first + 1 + at.0 ≡ first + suc at.0 = omega arith in
    (suc at.0, at.1, at.2, λ d. at.3 d ∙ ap (λ m. clause_under clauses m at.1) later)
live_at clauses first (Some p ∷ places) zero within =
    let here : first ≡ first + 0 = omega arith in
    (0, p, refl, λ d. ap (λ m. clause_under clauses m p) here)
live_at clauses first (Some p ∷ places) (suc k) within =
    let at = live_at clauses (first + 1) places k (omega arith) in
    let later : first + 1 + at.0 ≡ first + suc at.0 = omega arith in
    (suc at.0, at.1, at.2, λ d. at.3 d ∙ ap (λ m. clause_under clauses m at.1) later)

-- what holds at each live place holds of each live clause
pub all_live : (P : NumberedClause → Type 0) (table : PlacedClauses) → ((number place : ℕ) → IsPlacedAt table number place → P (clause_under table.clauses number place)) → All P (live_in table)
all_live P table at_places k d within =
    let at = live_at table.clauses 0 table.places k within in
    let from_zero : 0 + at.0 ≡ at.0 = omega arith in
    subst P (sym (at.3 d)) (subst (λ n. P (clause_under table.clauses n at.1)) (sym from_zero) (at_places at.0 at.1 at.2))

-- a place that is live under a number
pub placed_live : (table : PlacedClauses) (number place : ℕ) → ArePlaced table → IsPlacedAt table number place → IsLiveAt table place
placed_live table number place laws found = subst (λ n. IsPlacedAt table n place) (sym (laws.numbered number place found)) found

-- ---- a clause ends
keep_above : (clauses : List (List Lit)) (first number : ℕ) (places : List (Option ℕ)) → number < first → filter (λ c. not (nat_eq c.id.0 number)) (live_from clauses first places) ≡ live_from clauses first places
keep_above clauses first number [] below = refl
keep_above clauses first number (None ∷ places) below = keep_above clauses (first + 1) number places (omega arith)
keep_above clauses first number (Some p ∷ places) below = rw (apart-eqb first number (λ same. omega (arith, same, below))) (ap (λ cs. clause_under clauses first p ∷ cs) (keep_above clauses (first + 1) number places (omega arith)))

live_ended : (clauses : List (List Lit)) (first n : ℕ) (places : List (Option ℕ)) → live_from clauses first (set places n None) ≡ filter (λ c. not (nat_eq c.id.0 (first + n))) (live_from clauses first places)
live_ended clauses first n [] = refl
live_ended clauses first zero (None ∷ places) = sym (keep_above clauses (first + 1) (first + 0) places (omega arith))
live_ended clauses first (suc n) (None ∷ places) =
    let later : first + 1 + n ≡ first + suc n = omega arith in
    live_ended clauses (first + 1) n places ∙ ap (λ m. filter (λ c. not (nat_eq c.id.0 m)) (live_from clauses (first + 1) places)) later
live_ended clauses first zero (Some p ∷ places) = rw (eq-eqb first (first + 0) (omega arith)) (sym (keep_above clauses (first + 1) (first + 0) places (omega arith)))
live_ended clauses first (suc n) (Some p ∷ places) =
    let later : first + 1 + n ≡ first + suc n = omega arith in
    rw (apart-eqb first (first + suc n) (λ same. omega (arith, same))) (ap (λ cs. clause_under clauses first p ∷ cs) (live_ended clauses (first + 1) n places ∙ ap (λ m. filter (λ c. not (nat_eq c.id.0 m)) (live_from clauses (first + 1) places)) later))

pub live_without : (table : PlacedClauses) (place : ℕ) → live_in (without_clause table place) ≡ filter (λ c. not (nat_eq c.id.0 (number_of_place table place).0)) (live_in table)
live_without table place =
    let number : ℕ = (number_of_place table place).0 in
    let from_zero : 0 + number ≡ number = omega arith in
    live_ended table.clauses 0 number table.places ∙ ap (λ n. filter (λ c. not (nat_eq c.id.0 n)) (live_in table)) from_zero

-- after that a number has a place if it had one and is another
pub placed_without : (table : PlacedClauses) (ended number place : ℕ) → IsPlacedAt (without_clause table ended) number place → IsPlacedAt table number place × (number ≢ (number_of_place table ended).0)
placed_without table ended number place found =
    let id : ℕ = (number_of_place table ended).0 in
    elim (cases_eq number id) [
      | inr apart ↦ (sym (get_or-set_other table.places id number None None apart) ∙ found, apart)
      | inl here ↦ absurd (none_is_not_some place (sym (now_none table.places id) ∙ (ap (λ n. get_or (set table.places id None) n None) (sym here) ∙ found)))
    ] where
      now_none : (places : List (Option ℕ)) (n : ℕ) → get_or (set places n None) n None ≡ None
      now_none [] n = refl
      now_none (p ∷ places) zero = refl
      now_none (p ∷ places) (suc n) = now_none places n

pub placed_still : (table : PlacedClauses) (ended number place : ℕ) → number ≢ (number_of_place table ended).0 → IsPlacedAt table number place → IsPlacedAt (without_clause table ended) number place
placed_still table ended number place apart found = get_or-set_other table.places (number_of_place table ended).0 number None None apart ∙ found

pub ArePlaced-without : (table : PlacedClauses) (place : ℕ) → ArePlaced table → ArePlaced (without_clause table place)
ArePlaced-without table place laws = record {
  all_clauses = laws.all_clauses;
  all_numbered = laws.all_numbered;
  within = λ number other found. laws.within number other (placed_without table place number other found).0;
  numbered = λ number other found. laws.numbered number other (placed_without table place number other found).0;
}

-- ---- a clause comes
at_or_above : (clauses : List (List Lit)) (first : ℕ) (places : List (Option ℕ)) (least : ℕ) → least < first → All (λ c. least < c.id.0) (live_from clauses first places)
at_or_above clauses first [] least above = All-nil (λ (c : NumberedClause). least < c.id.0)
at_or_above clauses first (None ∷ places) least above = at_or_above clauses (first + 1) places least (omega arith)
at_or_above clauses first (Some p ∷ places) least above = All-cons (λ (c : NumberedClause). least < c.id.0) (clause_under clauses first p) (live_from clauses (first + 1) places) above (at_or_above clauses (first + 1) places least (omega arith))

live_inserted : (clauses : List (List Lit)) (first n place : ℕ) (lits : List Lit) (places : List (Option ℕ)) → n < length places → get_or places n None ≡ None → get_or clauses place [] ≡ lits → IsInserted (record { 0 = first + n }) lits (live_from clauses first places) (live_from clauses first (set places n (Some place)))
live_inserted clauses first n place lits [] within none is = absurd (omega arith)
live_inserted clauses first zero place lits (None ∷ places) within none is =
    let here : first ≡ first + 0 = omega arith in
    record {
      lower = [];
      higher = live_from clauses (first + 1) places;
      were = refl;
      are = ap (λ m. record { id = record { 0 = m }; lits = get_or clauses place [] } ∷ live_from clauses (first + 1) places) here ∙ ap (λ ls. record { id = record { 0 = first + 0 }; lits = ls } ∷ live_from clauses (first + 1) places) is;
      all_lower = All-nil (λ (c : NumberedClause). c.id.0 < first + 0);
      all_higher = at_or_above clauses (first + 1) places (first + 0) (omega arith);
    }
live_inserted clauses first (suc n) place lits (None ∷ places) within none is =
    let later : first + 1 + n ≡ first + suc n = omega arith in
    subst (λ m. IsInserted (record { 0 = m }) lits (live_from clauses (first + 1) places) (live_from clauses (first + 1) (set places n (Some place)))) later (live_inserted clauses (first + 1) n place lits places (omega arith) none is)
live_inserted clauses first zero place lits (Some p ∷ places) within none is = absurd (none_is_not_some p (sym none))
live_inserted clauses first (suc n) place lits (Some p ∷ places) within none is =
    let later : first + 1 + n ≡ first + suc n = omega arith in
    let inner = live_inserted clauses (first + 1) n place lits places (omega arith) none is in
    let head : NumberedClause = clause_under clauses first p in
    record {
      lower = head ∷ inner.lower;
      higher = inner.higher;
      were = ap (λ cs. head ∷ cs) inner.were;
      are = ap (λ cs. head ∷ cs) inner.are ∙ ap (λ m. (head ∷ inner.lower) ++ record { id = record { 0 = m }; lits = lits } ∷ inner.higher) later;
      all_lower = All-cons (λ (c : NumberedClause). c.id.0 < first + suc n) head inner.lower (omega arith) (subst (λ m. All (λ (c : NumberedClause). c.id.0 < m) inner.lower) later inner.all_lower);
      all_higher = subst (λ m. All (λ (c : NumberedClause). m < c.id.0) inner.higher) later inner.all_higher;
    }

live_longer : (clauses more : List (List Lit)) (first : ℕ) (places : List (Option ℕ)) → ((n place : ℕ) → get_or places n None ≡ Some place → place < length clauses) → live_from (clauses ++ more) first places ≡ live_from clauses first places
live_longer clauses more first [] within = refl
live_longer clauses more first (None ∷ places) within = live_longer clauses more (first + 1) places (λ n. within (suc n))
live_longer clauses more first (Some p ∷ places) within =
    ap (λ ls. record { id = record { 0 = first }; lits = ls } ∷ live_from (clauses ++ more) (first + 1) places) (get_or_append_left clauses more [] p (within 0 p refl))
    ∙ ap (λ cs. clause_under clauses first p ∷ cs) (live_longer clauses more (first + 1) places (λ n. within (suc n)))

live_empty : (clauses : List (List Lit)) (first count : ℕ) → live_from clauses first (replicate count None) ≡ []
live_empty clauses first zero = refl
live_empty clauses first (suc count) = live_empty clauses (first + 1) count

live_padded : (clauses : List (List Lit)) (first count : ℕ) (places : List (Option ℕ)) → live_from clauses first (places ++ replicate count None) ≡ live_from clauses first places
live_padded clauses first count [] = live_empty clauses first count
live_padded clauses first count (None ∷ places) = live_padded clauses (first + 1) count places
live_padded clauses first count (Some p ∷ places) = ap (λ cs. clause_under clauses first p ∷ cs) (live_padded clauses (first + 1) count places)

-- typed, for the lemmas on replicated places
abbrev pub no_place : Option ℕ
no_place = None

none_at : (count n : ℕ) → get_or (replicate count no_place) n no_place ≡ no_place
none_at zero n = refl
none_at (suc count) zero = refl
none_at (suc count) (suc n) = none_at count n

padded_at : (places : List (Option ℕ)) (count n : ℕ) → get_or (places ++ replicate count None) n None ≡ get_or places n None
padded_at [] count n = none_at count n
padded_at (p ∷ places) count zero = refl
padded_at (p ∷ places) count (suc n) = padded_at places count n

padded : PlacedClauses → ClauseId → List (Option ℕ)
padded table id = table.places ++ replicate (id.0 + 1 - length table.places) None

padded_long : (table : PlacedClauses) (id : ClauseId) → id.0 < length (padded table id)
unfolding padded
padded_long table id = omega (arith, length-append table.places (replicate (id.0 + 1 - length table.places) None), length-replicate (id.0 + 1 - length table.places) no_place)

-- the new clause stands at the new place
pub placed_new : (table : PlacedClauses) (id : ClauseId) (lits : List Lit) → IsPlacedAt (with_clause table id lits) id.0 (length table.clauses)
unfolding padded
placed_new table id lits = get_or-set_same (padded table id) id.0 (Some (length table.clauses)) None (padded_long table id)

-- the others stand where they stood
pub placed_old : (table : PlacedClauses) (id : ClauseId) (lits : List Lit) (number place : ℕ) → number ≢ id.0 → IsPlacedAt table number place → IsPlacedAt (with_clause table id lits) number place
unfolding padded
placed_old table id lits number place apart found = get_or-set_other (padded table id) id.0 number (Some (length table.clauses)) None apart ∙ (padded_at table.places (id.0 + 1 - length table.places) number ∙ found)

pub placed_was : (table : PlacedClauses) (id : ClauseId) (lits : List Lit) (number place : ℕ) → number ≢ id.0 → IsPlacedAt (with_clause table id lits) number place → IsPlacedAt table number place
unfolding padded
placed_was table id lits number place apart found = sym (padded_at table.places (id.0 + 1 - length table.places) number) ∙ (sym (get_or-set_other (padded table id) id.0 number (Some (length table.clauses)) None apart) ∙ found)

pub live_with : (table : PlacedClauses) (id : ClauseId) (lits : List Lit) → ArePlaced table → clause_of (live_in table) id ≡ None → IsInserted id lits (live_in table) (live_in (with_clause table id lits))
unfolding padded
live_with table id lits laws none =
    let clauses : List (List Lit) = table.clauses ++ lits ∷ [] in
    let nowhere : get_or (padded table id) id.0 None ≡ None = padded_at table.places (id.0 + 1 - length table.places) id.0 ∙ place_none (get_or table.places id.0 None) refl in
    let last : get_or clauses (length table.clauses) [] ≡ lits = get_or_push table.clauses lits [] (length table.clauses) refl in
    let same : live_from clauses 0 (padded table id) ≡ live_in table = live_padded clauses 0 (id.0 + 1 - length table.places) table.places ∙ live_longer table.clauses (lits ∷ []) 0 table.places (λ n place found. laws.within n place found) in
    let from_zero : 0 + id.0 ≡ id.0 = omega arith in
    subst (λ old. IsInserted id lits old (live_in (with_clause table id lits))) same
    (subst (λ n. IsInserted (record { 0 = n }) lits (live_from clauses 0 (padded table id)) (live_in (with_clause table id lits))) from_zero (live_inserted clauses 0 id.0 (length table.clauses) lits (padded table id) (padded_long table id) nowhere last))
  where
    place_none : (at : Option ℕ) → get_or table.places id.0 None ≡ at → get_or table.places id.0 None ≡ None
    place_none None is = is
    place_none (Some place) is = absurd (unplaced table id place none is)

pub ArePlaced-with : (table : PlacedClauses) (id : ClauseId) (lits : List Lit) → IsClause table.vars lits → clause_of (live_in table) id ≡ None → ArePlaced table → ArePlaced (with_clause table id lits)
ArePlaced-with table id lits clause none laws =
    let count : ℕ = length table.clauses in
    let more : length (table.clauses ++ lits ∷ []) ≡ count + 1 = length_push table.clauses lits in
    let new_place : (place : ℕ) → IsPlacedAt (with_clause table id lits) id.0 place → place ≡ count = λ place found. some_same place count (sym found ∙ placed_new table id lits) in
    record {
      all_clauses = All-push (IsClause table.vars) table.clauses lits laws.all_clauses clause;
      all_numbered = omega (arith, length_push table.numbers id, more, laws.all_numbered);
      within = λ number place found. elim (cases_eq number id.0) [
        | inl here ↦ omega (arith, more, new_place place (subst (λ n. IsPlacedAt (with_clause table id lits) n place) here found))
        | inr apart ↦ omega (arith, more, laws.within number place (placed_was table id lits number place apart found))
      ];
      numbered = λ number place found. elim (cases_eq number id.0) [
        | inl here ↦
            let at : place ≡ length table.numbers = new_place place (subst (λ n. IsPlacedAt (with_clause table id lits) n place) here found) ∙ sym laws.all_numbered in
            ap (λ (c : ClauseId). c.0) (get_or_push table.numbers id (record { 0 = 0 }) place (sym at)) ∙ sym here
        | inr apart ↦
            let was = placed_was table id lits number place apart found in
            ap (λ (c : ClauseId). c.0) (get_or_append_left table.numbers (id ∷ []) (record { 0 = 0 }) place (omega (arith, laws.within number place was, laws.all_numbered))) ∙ laws.numbered number place was
      ];
    }

-- the numbers and clauses of the old places
pub number_with : (table : PlacedClauses) (id : ClauseId) (lits : List Lit) (place : ℕ) → ArePlaced table → place < length table.clauses → number_of_place (with_clause table id lits) place ≡ number_of_place table place
number_with table id lits place laws within = get_or_append_left table.numbers (id ∷ []) (record { 0 = 0 }) place (omega (arith, within, laws.all_numbered))

pub clause_with : (table : PlacedClauses) (id : ClauseId) (lits : List Lit) (place : ℕ) → place < length table.clauses → clause_at (with_clause table id lits) place ≡ clause_at table place
clause_with table id lits place within = get_or_append_left table.clauses (lits ∷ []) [] place within

-- ---- a place as it is read
pub place_read : (places : List (Option ℕ)) (n : ℕ) (at : Option ℕ) → slice_get places n ≡ Some at → get_or places n None ≡ at
place_read [] n at found = absurd (cc)
place_read (p ∷ places) zero at found = cc
place_read (p ∷ places) (suc n) at found = place_read places n at found

pub place_missing : (places : List (Option ℕ)) (n : ℕ) → slice_get places n ≡ None → get_or places n None ≡ None
place_missing [] n missing = refl
place_missing (p ∷ places) zero missing = absurd (cc)
place_missing (p ∷ places) (suc n) missing = place_missing places n missing

-- the fields after a push
pub pushed_table : (table : PlacedClauses) (id : ClauseId) (lits : List Lit) (clauses : List (List Lit)) (numbers : List ClauseId) (places : List (Option ℕ)) (place : ℕ) → clauses ≡ table.clauses ++ lits ∷ [] → numbers ≡ table.numbers ++ id ∷ [] → places ≡ table.places ++ replicate (id.0 + 1 - length table.places) None → place ≡ length table.clauses → record { vars = table.vars; clauses = clauses; numbers = numbers; places = set places id.0 (Some place) } ≡ with_clause table id lits
pushed_table table id lits clauses numbers places place is_clauses is_numbers is_places is_place = rw (is_clauses, is_numbers, is_places, is_place) refl
