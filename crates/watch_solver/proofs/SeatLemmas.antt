-- Short clauses, whose literals are true at level 0.
use Rattle.std.proofs.Common.{◌≡◌, ℕ, ◌+◌, ◌-◌, ◌<◌, ◌≤◌, true, false, ◌||◌, inl, inr, List, [], ◌∷◌, ◌++◌, length, get_or, refl, ap, sym, subst, ◌∙◌, arith}
use Rattle.std.specs.Prelude.{cond, nat_eq, find, option_map, All, Any, Some, None}
use Rattle.std.proofs.lemmas.Bool.{cases_eq, cases_lt}
use Rattle.std.proofs.lemmas.List.{map-append, take_all, get_or_append_left, length-append, get_or_default}
use Rattle.std.proofs.lemmas.List.Folds.{list_any-append}
use Rattle.std.proofs.lemmas.List.Elements.{All-nil, All-cons}
use Rattle.sat_core.specs.declared.literal.Lit.{Lit}
use Rattle.sat_core.specs.declared.literal.ClauseId.{ClauseId}
use Rattle.sat_core.specs.Clauses.{negated, IsOver, IsClause}
use Rattle.sat_core.specs.Derivation.{numbered_from}
use Rattle.sat_core.specs.Hints.{NumberedClause, clause_of, is_known, is_same}
use Rattle.search_trail.specs.declared.entry.Entry.{Entry}
use Rattle.search_trail.specs.Trails.{TrailParts, IsTrail, IsCutBack, known_of, up_to}
use Rattle.search_trail.proofs.LevelLaws.{up_to-at, up_to-from, all_up_to}
use Rattle.conflict_learn.specs.Learning.{IsConflict}
use Rattle.sat_core.specs.Fresh.{IsOpen}
use Rattle.search_trail.specs.Trails.{Grows, assigned}
use Rattle.watch_store.proofs.FitLaws.{FitsTrail-assign}
use Rattle.search_trail.proofs.TrailLaws.{Grows-none, Grows-on}
use Rattle.watch_store.specs.Fits.{StoreParts, FitsTrail, AreShortTrue}

-- some literal of the clause is true at level 0
abbrev pub IsSeated : List Entry → List Lit → Type 0
IsSeated entries lits = Any (λ lit. is_known (up_to 0 entries) lit ≡ true) lits

-- ---- a trail that has grown
pub known_grown : (entries more : List Entry) (lit : Lit) → is_known (known_of entries) lit ≡ true → is_known (known_of (entries ++ more)) lit ≡ true
known_grown entries more lit is =
    ap (λ ls. is_known ls lit) (map-append (λ (e : Entry). e.lit) entries more)
    ∙ (list_any-append (is_same lit) (known_of entries) (known_of more) ∙ ap (λ b. b || is_known (known_of more) lit) is)

pub up_to_grown : (n : ℕ) (entries more : List Entry) (lit : Lit) → is_known (up_to n entries) lit ≡ true → is_known (up_to n (entries ++ more)) lit ≡ true
up_to_grown n entries more lit is =
    let at = up_to-from n entries lit is in
    let d : Entry = record { lit = lit; reason = None; level = 0 } in
    let same : get_or (entries ++ more) at.0 d ≡ get_or entries at.0 d = get_or_append_left entries more d at.0 at.1 in
    subst (λ l. is_known (up_to n (entries ++ more)) l ≡ true) (ap (λ (e : Entry). e.lit) same ∙ (at.2 d).0)
    (up_to-at n (entries ++ more) at.0 d (omega (arith, at.1, length-append entries more)) (omega (arith, ap (λ (e : Entry). e.level) same, (at.2 d).1)))

pub seated_grown : (entries later more : List Entry) (lits : List Lit) → later ≡ entries ++ more → IsSeated entries lits → IsSeated later lits
seated_grown entries later more lits is any = subst (λ es. IsSeated es lits) (sym is) (any.0, any.1, any.2, any.3, up_to_grown 0 entries more any.1 any.4)

pub short_grown : (live : List NumberedClause) (t later : TrailParts) (more : List Entry) → later.entries ≡ t.entries ++ more → AreShortTrue live t → AreShortTrue live later
short_grown live t later more is short k d within few = seated_grown t.entries later.entries more (get_or live k d).lits is (short k d within few)

pub conflict_grown : (live : List NumberedClause) (t later : TrailParts) (more : List Entry) (id : ClauseId) → later.entries ≡ t.entries ++ more → later.present ≡ 0 → IsConflict live t id → IsConflict live later id
conflict_grown live t later more id is bottom conflict = record {
  lits = conflict.lits;
  stands = conflict.stands;
  all_false = subst (λ es. All (λ lit. is_known (known_of es) (negated lit) ≡ true) conflict.lits) (sym is) (λ k d within. known_grown t.entries more (negated (get_or conflict.lits k d)) (conflict.all_false k d within));
  at_present = λ above. absurd (omega (arith, above, bottom));
}

-- at level 0 going back to it changes nothing
pub cut_bottom : (t : TrailParts) (entries : List Entry) → IsTrail t → t.present ≡ 0 → IsCutBack 0 t.entries entries → entries ≡ t.entries
cut_bottom t entries laws bottom cut = elim (cases_lt cut.size (length t.entries)) [
  | inl short ↦
      let d : Entry = record { lit = record { var = record { 0 = 0 }; positive = true }; reason = None; level = 0 } in
      absurd (omega (arith, cut.gone cut.size d (omega arith) short, laws.up_to_now cut.size d short, bottom))
  | inr whole ↦ cut.front ∙ take_all cut.size t.entries whole
]

-- ---- one clause is seated
pub empty_conflict : (live : List NumberedClause) (t : TrailParts) (id : ClauseId) (lits : List Lit) → t.present ≡ 0 → length lits ≡ 0 → clause_of live id ≡ Some lits → IsConflict live t id
empty_conflict live t id lits bottom none stands = record {
  lits = lits;
  stands = stands;
  all_false = λ k d within. absurd (omega (arith, within, none));
  at_present = λ above. absurd (omega (arith, above, bottom));
}

pub unit_conflict : (live : List NumberedClause) (t : TrailParts) (id : ClauseId) (lits : List Lit) (lit : Lit) → t.present ≡ 0 → length lits ≤ 1 → get_or lits 0 lit ≡ lit → is_known (known_of t.entries) (negated lit) ≡ true → clause_of live id ≡ Some lits → IsConflict live t id
unit_conflict live t id lits lit bottom one is_lit is_false stands = record {
  lits = lits;
  stands = stands;
  all_false = λ k d within.
      let first : k ≡ 0 = omega (arith, within, one) in
      ap (λ l. is_known (known_of t.entries) (negated l)) (ap (λ n. get_or lits n d) first ∙ (get_or_default lits 0 d lit (omega (arith, within)) ∙ is_lit)) ∙ is_false;
  at_present = λ above. absurd (omega (arith, above, bottom));
}

pub seated_true : (t : TrailParts) (lits : List Lit) (lit : Lit) → IsTrail t → t.present ≡ 0 → 0 < length lits → get_or lits 0 lit ≡ lit → is_known (known_of t.entries) lit ≡ true → IsSeated t.entries lits
seated_true t lits lit laws bottom some is_lit is =
    let whole : up_to 0 t.entries ≡ known_of t.entries = all_up_to 0 t.entries (λ k d within. omega (arith, laws.up_to_now k d within, bottom)) in
    (0, lit, some, is_lit, ap (λ ls. is_known ls lit) whole ∙ is)

-- ---- the clauses that are seated so far
pub record AreSeatedTo (clauses : List (List Lit)) (entries : List Entry) (number : ℕ) : Type 0 where
  pub seated : (k : ℕ) (d : List Lit) → k + 1 < number → k < length clauses → length (get_or clauses k d) < 2 → IsSeated entries (get_or clauses k d)

pub seated_none : (clauses : List (List Lit)) (entries : List Entry) → AreSeatedTo clauses entries 1
seated_none clauses entries = record { seated = λ k d low within few. absurd (omega arith) }

pub seated_more : (clauses : List (List Lit)) (entries later more : List Entry) (number : ℕ) (lits : List Lit) → later ≡ entries ++ more → clause_of (numbered_from 1 clauses) (record { 0 = number }) ≡ Some lits → 1 ≤ number → (length lits < 2 → IsSeated later lits) → AreSeatedTo clauses entries number → AreSeatedTo clauses later (number + 1)
seated_more clauses entries later more number lits is stands from own was = record {
  seated = λ k d low within few. elim (cases_eq (k + 1) number) [
    | inl here ↦
        let place : 1 + k ≡ number = omega (arith, here) in
        let found : clause_of (numbered_from 1 clauses) (record { 0 = number }) ≡ Some (get_or clauses k d) = ap (λ n. clause_of (numbered_from 1 clauses) (record { 0 = n })) (sym place) ∙ Rattle.search_trail.proofs.ReasonLaws.clause_of-numbered clauses 1 k d within in
        let same : get_or clauses k d ≡ lits = some_same (get_or clauses k d) lits (sym found ∙ stands) in
        subst (IsSeated later) (sym same) (own (subst (λ l. length l < 2) same few))
    | inr before ↦ seated_grown entries later more (get_or clauses k d) is (was.seated k d (omega (arith, low, before)) within few)
  ];
} where
  some_same : (one other : List Lit) → Some one ≡ Some other → one ≡ other
  some_same one other same = cc

pub seated_all : (clauses : List (List Lit)) (live : List NumberedClause) (t : TrailParts) (count : ℕ) → live ≡ numbered_from 1 clauses → length clauses ≡ count → AreSeatedTo clauses t.entries (count + 1) → AreShortTrue live t
seated_all clauses live t count is long was = subst (λ l. AreShortTrue l t) (sym is) (each 1 clauses (λ k d within few. was.seated k d (omega (arith, within, long)) within few)) where
  each : (first : ℕ) (cs : List (List Lit)) → All (λ c. length c < 2 → IsSeated t.entries c) cs → AreShortTrue (numbered_from first cs) t
  each first [] all = All-nil (λ (c : NumberedClause). length c.lits < 2 → IsSeated t.entries c.lits)
  each first (c ∷ cs) all = All-cons (λ (x : NumberedClause). length x.lits < 2 → IsSeated t.entries x.lits) (record { id = record { 0 = first }; lits = c }) (numbered_from (first + 1) cs)
      (Rattle.std.proofs.lemmas.List.Elements.All-head (λ (x : List Lit). length x < 2 → IsSeated t.entries x) c cs all)
      (each (first + 1) cs (Rattle.std.proofs.lemmas.List.Elements.All-tail (λ (x : List Lit). length x < 2 → IsSeated t.entries x) c cs all))

-- so far no clause was false
pub record IsSeatingTo (s : StoreParts) (first t : TrailParts) (number : ℕ) : Type 0 where
  pub fits : FitsTrail s t
  pub bottom : t.present ≡ 0
  pub grows : Grows first t
  pub seated : (clauses : List (List Lit)) → s.live ≡ numbered_from 1 clauses → AreSeatedTo clauses t.entries number

pub seating_start : (s : StoreParts) (t : TrailParts) → FitsTrail s t → t.present ≡ 0 → IsSeatingTo s t t 1
seating_start s t fits bottom = record { fits = fits; bottom = bottom; grows = Grows-none t; seated = λ clauses is. seated_none clauses t.entries }

pub seating_more : (s : StoreParts) (first t later : TrailParts) (number : ℕ) (id : ClauseId) (lits : List Lit) → id ≡ record { 0 = number } → 1 ≤ number → clause_of s.live id ≡ Some lits → FitsTrail s later → Grows t later → (length lits < 2 → IsSeated later.entries lits) → IsSeatingTo s first t number → IsSeatingTo s first later (number + 1)
seating_more s first t later number id lits is from stands fits grows own was = record {
  fits = fits;
  bottom = grows.present ∙ was.bottom;
  grows = Grows-on first t later was.grows grows;
  seated = λ clauses live. seated_more clauses t.entries later.entries grows.more number lits grows.entries (ap (λ l. clause_of l (record { 0 = number })) (sym live) ∙ (ap (clause_of s.live) (sym is) ∙ stands)) from own (was.seated clauses live);
}

-- no clause has that number
pub seating_none : (s : StoreParts) (first t : TrailParts) (number count : ℕ) (id : ClauseId) → id ≡ record { 0 = number } → 1 ≤ number → number ≤ count → clause_of s.live id ≡ None → (clauses : List (List Lit)) × (s.live ≡ numbered_from 1 clauses) × (length clauses ≡ count) → IsSeatingTo s first t number → IsSeatingTo s first t (number + 1)
seating_none s first t number count id is from upto none all was =
    let place : 1 + (number - 1) ≡ number = omega (arith, from) in
    absurd (some_is_none (get_or all.0 (number - 1) []) (sym (Rattle.search_trail.proofs.ReasonLaws.clause_of-numbered all.0 1 (number - 1) [] (omega (arith, from, upto, all.2))) ∙ (ap (λ n. clause_of (numbered_from 1 all.0) (record { 0 = n })) place ∙ (ap (λ l. clause_of l (record { 0 = number })) (sym all.1) ∙ (ap (clause_of s.live) (sym is) ∙ none))))) where
      some_is_none : (lits : List Lit) → Some lits ≡ None → ⊥
      some_is_none lits same = cc

pub seating_end : (s : StoreParts) (first t : TrailParts) (number count : ℕ) → (clauses : List (List Lit)) × (s.live ≡ numbered_from 1 clauses) × (length clauses ≡ count) → count < number → IsSeatingTo s first t number → AreShortTrue s.live t
seating_end s first t number count all past was = seated_all all.0 s.live t count all.1 all.2 (record { seated = λ k d low within few. (was.seated all.0 all.1).seated k d (omega (arith, low, past)) within few })

-- what holds of each live clause holds of the one that is found
pub found_all : (P : List Lit → Type 0) (live : List NumberedClause) (id : ClauseId) (lits : List Lit) → All (λ c. P c.lits) live → clause_of live id ≡ Some lits → P lits
found_all P [] id lits all is = absurd (cc)
found_all P (c ∷ live) id lits all is =
    elim (nat_eq c.id.0 id.0) as (λ b. option_map (λ x. x.lits) (cond b (Some c) (find (λ x. nat_eq x.id.0 id.0) live)) ≡ Some lits → P lits) [
      | true ↦ λ here. subst P (same_lits c.lits here) (Rattle.std.proofs.lemmas.List.Elements.All-head (λ (x : NumberedClause). P x.lits) c live all)
      | false ↦ λ later. found_all P live id lits (Rattle.std.proofs.lemmas.List.Elements.All-tail (λ (x : NumberedClause). P x.lits) c live all) later
    ] is where
      same_lits : (one : List Lit) → Some one ≡ Some lits → one ≡ lits
      same_lits one same = cc

pub lit_over : (s : StoreParts) (t : TrailParts) (id : ClauseId) (lits : List Lit) (d : Lit) → FitsTrail s t → clause_of s.live id ≡ Some lits → 0 < length lits → IsOver t.vars (get_or lits 0 d)
lit_over s t id lits d fits stands some = (found_all (IsClause t.vars) s.live id lits fits.over stands).in_range 0 d some

pub last_known : (entries : List Entry) (e : Entry) → is_known (known_of (entries ++ e ∷ [])) e.lit ≡ true
last_known entries e =
    subst (λ (x : Entry). is_known (known_of (entries ++ e ∷ [])) x.lit ≡ true) (Rattle.std.proofs.lemmas.List.get_or_push entries e e (length entries) refl)
    (Rattle.search_trail.proofs.TrailLaws.known-at_entry (entries ++ e ∷ []) (length entries) e (omega (arith, Rattle.std.proofs.lemmas.List.length_push entries e)))

-- the one literal of a clause is forced by it
pub seat_fits : (s : StoreParts) (t later : TrailParts) (id : ClauseId) (lits : List Lit) (d : Lit) → FitsTrail s t → clause_of s.live id ≡ Some lits → 0 < length lits → length lits ≤ 1 → IsOpen (known_of t.entries) (get_or lits 0 d) → later ≡ assigned t (get_or lits 0 d) id → FitsTrail s later
seat_fits s t later id lits d fits stands some one is_open is =
    let lit : Lit = get_or lits 0 d in
    subst (FitsTrail s) (sym is)
    (FitsTrail-assign s t lit id (lit_over s t id lits d fits stands some) is_open
    (record {
      lits = lits;
      stands = stands;
      holds = (0, some, get_or_default lits 0 lit d some);
      others_false = λ k e within apart. absurd (apart (ap (λ n. get_or lits n e) (omega (arith, within, one)) ∙ get_or_default lits 0 e d some));
    })
    fits)

pub seat_open : (s : StoreParts) (t later : TrailParts) (id : ClauseId) (lits : List Lit) (d : Lit) → FitsTrail s later → t.present ≡ 0 → 0 < length lits → later ≡ assigned t (get_or lits 0 d) id → IsSeated later.entries lits
seat_open s t later id lits d fits bottom some is =
    let lit : Lit = get_or lits 0 d in
    let e : Entry = record { lit = lit; reason = Some id; level = t.present } in
    seated_true later lits lit fits.laws (ap (λ (x : TrailParts). x.present) is ∙ bottom) some (get_or_default lits 0 lit d some)
    (ap (λ (x : TrailParts). is_known (known_of x.entries) lit) is ∙ last_known t.entries e)
