-- Store and trail through the calls: how what the store keeps and what fits the trail lead into a walk and out of it, and on to a
-- clause more or less.
use Rattle.std.proofs.Common.{◌≡◌, ◌≢◌, ℕ, ◌+◌, ◌-◌, ◌*◌, ◌^◌, ◌<◌, ◌≤◌, true, false, ◌⊎◌, inl, inr, List, [], ◌∷◌, ◌++◌, length, get_or, replicate, refl, ap, sym, subst, ◌∙◌, arith}
use Rattle.std.specs.Prelude.{nat_eq, not, filter, All, Any, Contains, Option, Some, None, IfNone, Result, Ok, Err, OnOk}
use Rattle.std.proofs.lemmas.Bool.{cases_eq, cases_lt}
use Rattle.std.proofs.lemmas.List.{length_push, get_or_push, get_or_append_left, get_or_default, get_or-replicate, length-replicate}
use Rattle.std.proofs.lemmas.List.Elements.{All-contains}
use Rattle.sat_core.specs.declared.literal.Lit.{Lit}
use Rattle.sat_core.specs.declared.literal.ClauseId.{ClauseId}
use Rattle.sat_core.specs.Clauses.{negated, IsOver, IsClause}
use Rattle.sat_core.specs.Hints.{NumberedClause, clause_of, is_known}
use Rattle.sat_core.specs.Fresh.{IsUnitUnder}
use Rattle.sat_core.proofs.OpenLaws.{true_is_not_false}
use Rattle.search_trail.specs.declared.entry.Entry.{Entry}
use Rattle.search_trail.specs.Trails.{TrailParts, IsTrail, known_of, up_to, assigned}
use Rattle.search_trail.specs.Reasons.{IsReason, AreReasons}
use Rattle.search_trail.proofs.TrailLaws.{IsTrail-push, now_low, one_sign, known-at_entry}
use Rattle.search_trail.proofs.LevelLaws.{up_to-at}
use Rattle.search_trail.proofs.ReasonLaws.{AreReasons-push}
use Rattle.watch_store.specs.declared.node.Node.{Node}
use Rattle.watch_store.specs.Places.{PlacedClauses, ArePlaced, IsInserted, live_in, number_of_place, with_clause, without_clause}
use Rattle.watch_store.specs.Watching.{watches_of, IsWatching, IsGuarded, AreGuarded}
use Rattle.watch_store.specs.Fits.{StoreParts, IsWatched, FitsTrail, HasTwoNotFalse, IsChosen, IsEnded, IsKeeping}
use Rattle.watch_store.specs.Walking.{IsStore}
use Rattle.watch_store.proofs.PlaceLemmas.{all_live, live_without, none_is_not_some}
use Rattle.watch_store.proofs.LiveLaws.{AreReasons-inserted, AreReasons-less, clause_of-itself}
use Rattle.watch_store.proofs.FitLaws.{FitsTrail-assign}
use Rattle.watch_store.proofs.WatchingLemmas.{IsWatched-live}
use Rattle.watch_store.proofs.GuardLemmas.{AreGuarded-push, IsGuarded-open}
use Rattle.watch_store.proofs.PushLemmas.{lives-out}
use Rattle.watch_store.proofs.AddLemmas.{AreGuarded-pair}
use Rattle.watch_store.proofs.EndLemmas.{IsGuarded-idle, AreGuarded-end}
use Rattle.watch_store.proofs.StepLemmas.{lit_cases}

-- what contracts see of a store
abbrev pub parts_of : PlacedClauses → List Node → StoreParts
parts_of table nodes = record { vars = table.vars; live = live_in table; watches = watches_of nodes }

-- ---- into a walk and out of it
pub IsStore-of : (table : PlacedClauses) (heads : List ℕ) (nodes : List Node) (t : TrailParts) → IsKeeping table heads nodes → FitsTrail (parts_of table nodes) t → IsStore table heads nodes t
IsStore-of table heads nodes t keeping fits = record {
  fits = record {
    laws = fits.laws;
    placed = keeping.placed;
    same_vars = fits.same_vars;
    room = omega (arith, keeping.room, fits.same_vars);
    few = keeping.few;
    watching = keeping.watching;
    guarded = fits.guarded;
    reasons = fits.reasons;
    unread_present = fits.unread_present;
  };
  chained = keeping.chained;
}

pub all_over : (table : PlacedClauses) → ArePlaced table → All (λ c. IsClause table.vars c.lits) (live_in table)
all_over table placed = all_live (λ c. IsClause table.vars c.lits) table (λ number place found. placed.all_clauses place [] (placed.within number place found))

pub all_watched : (table : PlacedClauses) (watches : List Lit) → ArePlaced table → IsWatching table watches → All (λ c. 2 ≤ length c.lits → IsWatched watches c.lits) (live_in table)
all_watched table watches placed watching = all_live (λ c. 2 ≤ length c.lits → IsWatched watches c.lits) table (λ number place found many. IsWatched-live table watches number place placed watching found many)

pub FitsTrail-of : (table : PlacedClauses) (heads : List ℕ) (nodes : List Node) (t : TrailParts) → IsStore table heads nodes t → FitsTrail (parts_of table nodes) t
FitsTrail-of table heads nodes t store = record {
  laws = store.fits.laws;
  same_vars = store.fits.same_vars;
  over = subst (λ n. All (λ (c : NumberedClause). IsClause n c.lits) (live_in table)) store.fits.same_vars (all_over table store.fits.placed);
  watched = all_watched table (watches_of nodes) store.fits.placed store.fits.watching;
  guarded = store.fits.guarded;
  reasons = store.fits.reasons;
  unread_present = store.fits.unread_present;
}

pub IsKeeping-of : (table : PlacedClauses) (heads heads' : List ℕ) (nodes nodes' : List Node) (t : TrailParts) → length heads' ≡ length heads → IsKeeping table heads nodes → IsStore table heads' nodes' t → IsKeeping table heads' nodes'
IsKeeping-of table heads heads' nodes nodes' t long keeping store = record {
  placed = keeping.placed;
  numbered = keeping.numbered;
  few = keeping.few;
  room = omega (arith, long, keeping.room);
  watching = store.fits.watching;
  chained = store.chained;
}

-- ---- an empty trail
pub FitsTrail-empty : (table : PlacedClauses) (heads : List ℕ) (nodes : List Node) (t : TrailParts) → IsKeeping table heads nodes → IsTrail t → t.vars ≡ table.vars → t.entries ≡ [] → FitsTrail (parts_of table nodes) t
FitsTrail-empty table heads nodes t keeping laws vars empty =
    let none : length t.entries ≡ 0 = ap length empty in
    record {
      laws = laws;
      same_vars = sym vars;
      over = subst (λ n. All (λ (c : NumberedClause). IsClause n c.lits) (live_in table)) (sym vars) (all_over table keeping.placed);
      watched = all_watched table (watches_of nodes) keeping.placed keeping.watching;
      guarded = λ node d within k e below. absurd (omega (arith, below, laws.read_within, none));
      reasons = λ k d within. absurd (omega (arith, within, none));
      unread_present = λ k d from within. absurd (omega (arith, within, none));
    }

-- ---- a clause more
-- where both of its watches are guarded
pub FitsTrail-add : (table : PlacedClauses) (heads heads' : List ℕ) (nodes nodes' : List Node) (id : ClauseId) (lits : List Lit) (a b : Lit) (t : TrailParts) → IsKeeping table heads nodes → IsKeeping (with_clause table id lits) heads' nodes' → IsInserted id lits (live_in table) (live_in (with_clause table id lits)) → clause_of (live_in table) id ≡ None → watches_of nodes' ≡ (watches_of nodes ++ a ∷ []) ++ b ∷ [] → IsGuarded t.entries t.read a b → IsGuarded t.entries t.read b a → FitsTrail (parts_of table nodes) t → FitsTrail (parts_of (with_clause table id lits) nodes') t
FitsTrail-add table heads heads' nodes nodes' id lits a b t keeping keeping' inserted free watches one two fits = record {
  laws = fits.laws;
  same_vars = fits.same_vars;
  over = subst (λ n. All (λ (c : NumberedClause). IsClause n c.lits) (live_in (with_clause table id lits))) fits.same_vars (all_over (with_clause table id lits) keeping'.placed);
  watched = all_watched (with_clause table id lits) (watches_of nodes') keeping'.placed keeping'.watching;
  guarded = subst (AreGuarded t.entries t.read) (sym watches) (AreGuarded-pair t.entries t.read (length table.clauses) (watches_of nodes) a b keeping.watching.two_each fits.guarded one two);
  reasons = AreReasons-inserted id lits (live_in table) (live_in (with_clause table id lits)) t.entries free inserted fits.reasons;
  unread_present = fits.unread_present;
}

one_place : (entries : List Entry) (j k : ℕ) (d : Entry) → ((i l : ℕ) (e : Entry) → i < l → l < length entries → (get_or entries i e).lit.var.0 ≢ (get_or entries l e).lit.var.0) → j < length entries → k < length entries → (get_or entries j d).lit.var.0 ≡ (get_or entries k d).lit.var.0 → j ≡ k
one_place entries j k d distinct one other same = elim (cases_eq j k) [
  | inl here ↦ here
  | inr apart ↦ elim (cases_lt j k) [
    | inl below ↦ absurd (distinct j k d below other same)
    | inr above ↦ absurd (distinct k j d (omega (arith, above, apart)) one (sym same))
  ]
]

-- a literal that is false at some place guards one that is true up to its level
IsGuarded-at : (t : TrailParts) (watch partner : Lit) (level place : ℕ) → IsTrail t → place < length t.entries → ((d : Entry) → ((get_or t.entries place d).lit ≡ negated watch) × ((get_or t.entries place d).level ≡ level)) → is_known (up_to level t.entries) partner ≡ true → IsGuarded t.entries t.read watch partner
IsGuarded-at t watch partner level place laws within at true_partner k d below is =
    let same : k ≡ place = one_place t.entries k place d laws.no_variable_twice (omega (arith, below, laws.read_within)) within (ap (λ (l : Lit). l.var.0) (is ∙ sym (at d).0)) in
    subst (λ n. is_known (up_to n t.entries) partner ≡ true) (sym (ap (λ n. (get_or t.entries n d).level) same ∙ (at d).1)) true_partner

-- a clause that is unit on the trail, from the moment on in which its open literal is assigned
pub FitsTrail-add_forced : (table : PlacedClauses) (heads heads' : List ℕ) (nodes nodes' : List Node) (id : ClauseId) (lits : List Lit) (a b : Lit) (t : TrailParts) → IsKeeping table heads nodes → IsKeeping (with_clause table id lits) heads' nodes' → IsInserted id lits (live_in table) (live_in (with_clause table id lits)) → clause_of (live_in table) id ≡ None → watches_of nodes' ≡ (watches_of nodes ++ a ∷ []) ++ b ∷ [] → IsOver t.vars a → IsUnitUnder (known_of t.entries) lits a → Any (λ e. (e.lit ≡ negated b) × (e.level ≡ t.present)) t.entries → FitsTrail (parts_of table nodes) t → FitsTrail (parts_of (with_clause table id lits) nodes') (assigned t a id)
FitsTrail-add_forced table heads heads' nodes nodes' id lits a b t keeping keeping' inserted free watches over unit latest fits =
    let e : Entry = record { lit = a; reason = Some id; level = t.present } in
    let pushed : List Entry = t.entries ++ e ∷ [] in
    let more : length pushed ≡ length t.entries + 1 = length_push t.entries e in
    let laws : IsTrail (assigned t a id) = IsTrail-push t e fits.laws over unit.open_lit (omega arith) (omega arith) (λ none. absurd (cc)) (omega (arith, now_low t fits.laws)) in
    let last : get_or pushed (length t.entries) e ≡ e = get_or_push t.entries e e (length t.entries) refl in
    let true_a : is_known (known_of pushed) a ≡ true = ap (is_known (known_of pushed)) (ap (λ (x : Entry). x.lit) (sym last)) ∙ known-at_entry pushed (length t.entries) e (omega (arith, more)) in
    let true_a_now : is_known (up_to t.present pushed) a ≡ true = ap (is_known (up_to t.present pushed)) (ap (λ (x : Entry). x.lit) (sym last)) ∙ up_to-at t.present pushed (length t.entries) e (omega (arith, more)) (subst (λ (x : Entry). x.level ≤ t.present) (sym last) (omega arith)) in
    let not_false_a : is_known (known_of pushed) (negated a) ≡ false = one_sign (assigned t a id) laws a true_a in
    let place : ℕ = latest.0 in
    let false_b : (d : Entry) → ((get_or pushed place d).lit ≡ negated b) × ((get_or pushed place d).level ≡ t.present) = λ d.
    let same : get_or pushed place d ≡ latest.1 = get_or_append_left t.entries (e ∷ []) d place latest.2 ∙ (get_or_default t.entries place d latest.1 latest.2 ∙ latest.3) in
    (ap (λ (x : Entry). x.lit) same ∙ latest.4.0, ap (λ (x : Entry). x.level) same ∙ latest.4.1) in
    let reason : IsReason (live_in (with_clause table id lits)) (known_of t.entries) a id = record { lits = lits; stands = clause_of-itself id lits (live_in table) (live_in (with_clause table id lits)) inserted; holds = unit.stands; others_false = unit.others_false } in
    record {
      laws = laws;
      same_vars = fits.same_vars;
      over = subst (λ n. All (λ (c : NumberedClause). IsClause n c.lits) (live_in (with_clause table id lits))) fits.same_vars (all_over (with_clause table id lits) keeping'.placed);
      watched = all_watched (with_clause table id lits) (watches_of nodes') keeping'.placed keeping'.watching;
      guarded = subst (AreGuarded pushed t.read) (sym watches) (AreGuarded-pair pushed t.read (length table.clauses) (watches_of nodes) a b keeping.watching.two_each
          (AreGuarded-push t.entries t.read (watches_of nodes) e fits.laws.read_within fits.guarded)
          (IsGuarded-open pushed t.read a b (omega (arith, more, fits.laws.read_within)) not_false_a)
          (IsGuarded-at (assigned t a id) b a t.present place laws (omega (arith, latest.2, more)) false_b true_a_now));
      reasons = AreReasons-push (live_in (with_clause table id lits)) t.entries e (AreReasons-inserted id lits (live_in table) (live_in (with_clause table id lits)) t.entries free inserted fits.reasons) reason;
      unread_present = λ k d from inside. elim (cases_eq k (length t.entries)) [
        | inl here ↦ ap (λ (x : Entry). x.level) (get_or_push t.entries e d k (sym here))
        | inr old ↦ let inside' : k < length t.entries = omega (arith, inside, more) in
            ap (λ (x : Entry). x.level) (get_or_append_left t.entries (e ∷ []) d k inside') ∙ fits.unread_present k d from inside'
      ];
    }

-- the clause that comes is unit, or two of its literals aren't false
two_open : (known lits : List Lit) (a b lit : Lit) → Contains lits a → Contains lits b → a ≢ b → is_known known (negated a) ≡ false → is_known known (negated b) ≡ false → IsUnitUnder known lits lit → ⊥
two_open known lits a b lit has_a has_b apart open_a open_b unit = elim (lit_cases a lit) [
  | inr other ↦ true_is_not_false (sym (All-contains (λ one. one ≢ lit → is_known known (negated one) ≡ true) lits a unit.others_false has_a other) ∙ open_a)
  | inl same ↦ true_is_not_false (sym (All-contains (λ one. one ≢ lit → is_known known (negated one) ≡ true) lits b unit.others_false has_b (λ is. apart (same ∙ sym is))) ∙ open_b)
]

pub chosen_open : (t : TrailParts) (lits : List Lit) (a b : Lit) → HasTwoNotFalse (known_of t.entries) lits → IsChosen t lits a b → is_known (known_of t.entries) (negated b) ≡ false
chosen_open t lits a b two chosen = elim chosen.second_so [
  | inl open_b ↦ open_b
  | inr forced ↦ absurd (two_open (known_of t.entries) lits two.one two.other a two.one_stands two.other_stands two.different two.one_not_false two.other_not_false forced.0)
]

pub chosen_forced : (t : TrailParts) (lits : List Lit) (a b lit : Lit) → IsUnitUnder (known_of t.entries) lits lit → IsChosen t lits a b → (a ≡ lit) × Any (λ e. (e.lit ≡ negated b) × (e.level ≡ t.present)) t.entries
chosen_forced t lits a b lit unit chosen = elim chosen.second_so [
  | inl open_b ↦ absurd (two_open (known_of t.entries) lits a b lit chosen.first_stands chosen.second_stands chosen.differ chosen.first_not_false open_b unit)
  | inr forced ↦ elim (lit_cases a lit) [
    | inl same ↦ (same, forced.1)
    | inr apart ↦ absurd (true_is_not_false (sym (All-contains (λ one. one ≢ lit → is_known (known_of t.entries) (negated one) ≡ true) lits a unit.others_false chosen.first_stands apart) ∙ chosen.first_not_false))
  ]
]

-- the idle literals of a clause of fewer than two literals are guarded
fits_idle : (table : PlacedClauses) (heads heads' : List ℕ) (nodes nodes' : List Node) (id : ClauseId) (lits : List Lit) (a b : Lit) (t : TrailParts) → IsKeeping table heads nodes → IsKeeping (with_clause table id lits) heads' nodes' → IsInserted id lits (live_in table) (live_in (with_clause table id lits)) → clause_of (live_in table) id ≡ None → watches_of nodes' ≡ (watches_of nodes ++ a ∷ []) ++ b ∷ [] → (table.vars < a.var.0) × (table.vars < b.var.0) → FitsTrail (parts_of table nodes) t → FitsTrail (parts_of (with_clause table id lits) nodes') t
fits_idle table heads heads' nodes nodes' id lits a b t keeping keeping' inserted free watches idle fits =
    FitsTrail-add table heads heads' nodes nodes' id lits a b t keeping keeping' inserted free watches
    (IsGuarded-idle t a b fits.laws (omega (arith, idle.0, fits.same_vars))) (IsGuarded-idle t b a fits.laws (omega (arith, idle.1, fits.same_vars))) fits

-- a clause more, as it was put
pub added_fits : (table table' : PlacedClauses) (heads heads' : List ℕ) (nodes nodes' : List Node) (id : ClauseId) (lits : List Lit) (a b : Lit) (t : TrailParts) → IsKeeping table heads nodes → IsKeeping table' heads' nodes' → clause_of (live_in table) id ≡ None → FitsTrail (parts_of table nodes) t → (2 ≤ length lits → IsChosen t lits a b) → (length lits < 2 → (table.vars < a.var.0) × (table.vars < b.var.0)) → table' ≡ with_clause table id lits → watches_of nodes' ≡ (watches_of nodes ++ a ∷ []) ++ b ∷ [] → IsInserted id lits (live_in table) (live_in table') → (length lits < 2) ⊎ HasTwoNotFalse (known_of t.entries) lits → FitsTrail (parts_of table' nodes') t
added_fits table table' heads heads' nodes nodes' id lits a b t keeping keeping' free fits chosen idle is watches inserted so =
    let keeping'' : IsKeeping (with_clause table id lits) heads' nodes' = subst (λ tb. IsKeeping tb heads' nodes') is keeping' in
    let inserted' : IsInserted id lits (live_in table) (live_in (with_clause table id lits)) = subst (λ tb. IsInserted id lits (live_in table) (live_in tb)) is inserted in
    subst (λ tb. FitsTrail (parts_of tb nodes') t) (sym is) (elim (cases_lt (length lits) 2) [
      | inl few ↦ fits_idle table heads heads' nodes nodes' id lits a b t keeping keeping'' inserted' free watches (idle few) fits
      | inr many ↦ elim so [
        | inl few ↦ absurd (omega (arith, few, many))
        | inr two ↦
            let open_b = chosen_open t lits a b two (chosen many) in
            FitsTrail-add table heads heads' nodes nodes' id lits a b t keeping keeping'' inserted' free watches
            (IsGuarded-open t.entries t.read a b fits.laws.read_within (chosen many).first_not_false) (IsGuarded-open t.entries t.read b a fits.laws.read_within open_b) fits
      ]
    ])

pub added_forced : (table table' : PlacedClauses) (heads heads' : List ℕ) (nodes nodes' : List Node) (id : ClauseId) (lits : List Lit) (a b : Lit) (t : TrailParts) → IsKeeping table heads nodes → IsKeeping table' heads' nodes' → clause_of (live_in table) id ≡ None → FitsTrail (parts_of table nodes) t → IsClause table.vars lits → (2 ≤ length lits → IsChosen t lits a b) → (length lits < 2 → (table.vars < a.var.0) × (table.vars < b.var.0)) → table' ≡ with_clause table id lits → watches_of nodes' ≡ (watches_of nodes ++ a ∷ []) ++ b ∷ [] → IsInserted id lits (live_in table) (live_in table') → (lit : Lit) → IsUnitUnder (known_of t.entries) lits lit → FitsTrail (parts_of table' nodes') (assigned t lit id)
added_forced table table' heads heads' nodes nodes' id lits a b t keeping keeping' free fits clause chosen idle is watches inserted lit unit =
    let keeping'' : IsKeeping (with_clause table id lits) heads' nodes' = subst (λ tb. IsKeeping tb heads' nodes') is keeping' in
    let inserted' : IsInserted id lits (live_in table) (live_in (with_clause table id lits)) = subst (λ tb. IsInserted id lits (live_in table) (live_in tb)) is inserted in
    let over : IsOver t.vars lit = subst (λ n. IsOver n lit) fits.same_vars (All-contains (IsOver table.vars) lits lit clause.in_range unit.stands) in
    subst (λ tb. FitsTrail (parts_of tb nodes') (assigned t lit id)) (sym is) (elim (cases_lt (length lits) 2) [
      | inl few ↦
          let reason : IsReason (live_in (with_clause table id lits)) (known_of t.entries) lit id = record { lits = lits; stands = clause_of-itself id lits (live_in table) (live_in (with_clause table id lits)) inserted'; holds = unit.stands; others_false = unit.others_false } in
          FitsTrail-assign (parts_of (with_clause table id lits) nodes') t lit id over unit.open_lit reason (fits_idle table heads heads' nodes nodes' id lits a b t keeping keeping'' inserted' free watches (idle few) fits)
      | inr many ↦
          let forced = chosen_forced t lits a b lit unit (chosen many) in
          subst (λ l. FitsTrail (parts_of (with_clause table id lits) nodes') (assigned t l id)) forced.0
          (FitsTrail-add_forced table heads heads' nodes nodes' id lits a b t keeping keeping'' inserted' free watches (subst (IsOver t.vars) (sym forced.0) over) (subst (IsUnitUnder (known_of t.entries) lits) (sym forced.0) unit) forced.1 fits)
    ])

-- ---- a store without clauses
pub IsKeeping-none : (table : PlacedClauses) (heads : List ℕ) (nodes : List Node) (vars count : ℕ) → table ≡ record { vars = vars; clauses = []; numbers = []; places = [] } → heads ≡ replicate count (2 ^ 32 - 1) → count ≡ 2 * vars + 2 → nodes ≡ [] → vars < 2 ^ 32 - 1 → IsKeeping table heads nodes
IsKeeping-none table heads nodes vars count is_table is_heads is_count is_nodes low =
    subst (λ tb. IsKeeping tb heads nodes) (sym is_table) (subst (IsKeeping (record { vars = vars; clauses = []; numbers = []; places = [] }) heads) (sym is_nodes) (record {
      placed = record {
        all_clauses = λ k d within. absurd (omega (arith, within));
        all_numbered = refl;
        within = λ number place found. absurd (none_is_not_some place found);
        numbered = λ number place found. absurd (none_is_not_some place found);
      };
      numbered = low;
      few = omega arith;
      room = omega (arith, ap length is_heads, length-replicate count (2 ^ 32 - 1), is_count);
      watching = record {
        two_each = refl;
        named = λ node d within. absurd (omega (arith, within));
        live = λ node d within is_low. absurd (omega (arith, within));
        stand = λ node d within is_low. absurd (omega (arith, within));
        both = λ node d within is_low. absurd (omega (arith, within));
        differ = λ node d within. absurd (omega (arith, within));
        watched = λ place d within live many. absurd (omega (arith, within));
      };
      chained = record {
        table = record { all_nodes = refl; few_nodes = omega arith; all_homes = λ node within. absurd (omega (arith, within)) };
        chains = λ home within. (
          [],
          record {
            linked = omega (arith, ap (λ hs. get_or hs home 0) is_heads, get_or-replicate count home (2 ^ 32 - 1) 0 (omega (arith, within, ap length is_heads, length-replicate count (2 ^ 32 - 1))));
            once = tt;
            exact = λ node. sym (lives-out [] home node (omega arith));
          },
        );
      };
    }))

-- ---- a clause less
pub FitsTrail-less : (table : PlacedClauses) (heads heads' : List ℕ) (nodes nodes' : List Node) (place : ℕ) (id : ClauseId) (t : TrailParts) → IsKeeping table heads nodes → IsKeeping (without_clause table place) heads' nodes' → IsEnded table.vars (2 * place) (watches_of nodes) (watches_of nodes') → (number_of_place table place).0 ≡ id.0 → All (λ e. e.reason ≢ Some id) t.entries → FitsTrail (parts_of table nodes) t → FitsTrail (parts_of (without_clause table place) nodes') t
FitsTrail-less table heads heads' nodes nodes' place id t keeping keeping' ended number none fits = record {
  laws = fits.laws;
  same_vars = fits.same_vars;
  over = subst (λ n. All (λ (c : NumberedClause). IsClause n c.lits) (live_in (without_clause table place))) fits.same_vars (all_over (without_clause table place) keeping'.placed);
  watched = all_watched (without_clause table place) (watches_of nodes') keeping'.placed keeping'.watching;
  guarded = AreGuarded-end t place (watches_of nodes) (watches_of nodes') fits.laws (subst (λ n. IsEnded n (2 * place) (watches_of nodes) (watches_of nodes')) fits.same_vars ended) fits.guarded;
  reasons = subst (λ live. AreReasons live t.entries) (ap (λ n. filter (λ (c : NumberedClause). not (nat_eq c.id.0 n)) (live_in table)) (sym number) ∙ sym (live_without table place)) (AreReasons-less id (live_in table) t.entries none fits.reasons);
  unread_present = fits.unread_present;
}

-- ---- in the words of calls
pub none_map : {X : Type 0} (found : Option X) (P Q : Type 0) → (P → Q) → IfNone found P → IfNone found Q
none_map None P Q on holds = on holds
none_map (Some x) P Q on holds = holds

pub ok_map : {X E : Type 0} (answer : Result X E) (P Q R S : Type 0) → (P → Q → R → S) → OnOk answer P → OnOk answer Q → OnOk answer R → OnOk answer S
ok_map (Ok x) P Q R S on one two three = on one two three
ok_map (Err e) P Q R S on one two three = one
