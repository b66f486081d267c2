-- What fits a store to a trail, through a literal more, a decision and going back; and that the fit leaves nothing to follow.
use Rattle.std.proofs.Common.{◌≡◌, ℕ, ◌+◌, ◌<◌, ◌≤◌, true, inl, inr, List, [], ◌∷◌, ◌++◌, length, get_or, min, ap, sym, subst, ◌∙◌, arith}
use Rattle.std.specs.Prelude.{None, Some, All, Any}
use Rattle.std.proofs.lemmas.Bool.{cases_eq, cases_lt}
use Rattle.std.proofs.lemmas.List.{length_push, get_or_push, get_or_append_left, get_or-take, length-take-le}
use Rattle.sat_core.specs.declared.literal.Lit.{Lit}
use Rattle.sat_core.specs.declared.literal.ClauseId.{ClauseId}
use Rattle.sat_core.specs.Clauses.{negated, IsOver, IsClause}
use Rattle.sat_core.specs.Hints.{NumberedClause, is_known}
use Rattle.sat_core.specs.Fresh.{IsOpen, IsAtRest, IsClosed}
use Rattle.sat_core.proofs.OpenLaws.{is_known-at}
use Rattle.search_trail.specs.declared.entry.Entry.{Entry}
use Rattle.search_trail.specs.Trails.{TrailParts, IsTrail, IsCutBack, known_of, up_to, assigned, decided}
use Rattle.search_trail.specs.Reasons.{IsReason}
use Rattle.search_trail.proofs.TrailLaws.{IsTrail-push, now_low, one_sign}
use Rattle.search_trail.proofs.LevelLaws.{up_to-more, up_to-push, up_to-cut, up_to-not, known-from_up_to, all_up_to}
use Rattle.search_trail.proofs.ReasonLaws.{AreReasons-push, AreReasons-cut}
use Rattle.watch_store.specs.Watching.{other_of, IsGuarded, AreGuarded}
use Rattle.watch_store.specs.Fits.{StoreParts, IsWatched, FitsTrail, AreShortTrue}
use Rattle.watch_store.proofs.PairLemmas.{other-other}
use Rattle.watch_store.proofs.GuardLemmas.{AreGuarded-push, AreGuarded-cut, at_rest}

-- a literal more that a live clause forces
pub FitsTrail-assign : (s : StoreParts) (t : TrailParts) (lit : Lit) (id : ClauseId) → IsOver t.vars lit → IsOpen (known_of t.entries) lit → IsReason s.live (known_of t.entries) lit id → FitsTrail s t → FitsTrail s (assigned t lit id)
FitsTrail-assign s t lit id over is_open reason fits =
    let e : Entry = record { lit = lit; reason = Some id; level = t.present } in
    record {
      laws = IsTrail-push t e fits.laws over is_open (omega arith) (omega arith) (λ none. absurd (cc)) (omega (arith, now_low t fits.laws));
      same_vars = fits.same_vars;
      over = fits.over;
      watched = fits.watched;
      guarded = AreGuarded-push t.entries t.read s.watches e fits.laws.read_within fits.guarded;
      reasons = AreReasons-push s.live t.entries e fits.reasons reason;
      unread_present = λ k d from within. elim (cases_eq k (length t.entries)) [
        | inl here ↦ ap (λ (x : Entry). x.level) (get_or_push t.entries e d k (sym here))
        | inr old ↦ let inside : k < length t.entries = omega (arith, within, length_push t.entries e) in
            ap (λ (x : Entry). x.level) (get_or_append_left t.entries (e ∷ []) d k inside) ∙ fits.unread_present k d from inside
      ];
    }

-- where all is read, an open literal is decided
pub FitsTrail-decide : (s : StoreParts) (t : TrailParts) (lit : Lit) → length t.entries ≤ t.read → IsOver t.vars lit → IsOpen (known_of t.entries) lit → FitsTrail s t → FitsTrail s (decided t lit)
FitsTrail-decide s t lit all_read over is_open fits =
    let e : Entry = record { lit = lit; reason = None; level = t.present + 1 } in
    record {
      laws = IsTrail-push t e fits.laws over is_open (omega arith) (omega arith) (λ none. omega arith) (omega (arith, now_low t fits.laws));
      same_vars = fits.same_vars;
      over = fits.over;
      watched = fits.watched;
      guarded = AreGuarded-push t.entries t.read s.watches e fits.laws.read_within fits.guarded;
      reasons = AreReasons-push s.live t.entries e fits.reasons tt;
      unread_present = λ k d from within. ap (λ (x : Entry). x.level) (get_or_push t.entries e d k (omega (arith, within, from, all_read, length_push t.entries e, fits.laws.read_within)));
    }

-- the trail goes back to a level
pub FitsTrail-cut : (s : StoreParts) (t t' : TrailParts) (level : ℕ) → level ≤ t.present → IsTrail t' → t'.vars ≡ t.vars → IsCutBack level t.entries t'.entries → t'.read ≡ min t.read (length t'.entries) → t'.present ≡ level → FitsTrail s t → FitsTrail s t'
FitsTrail-cut s t t' level low laws vars cut read present fits =
    let long : length t'.entries ≡ cut.size = ap length cut.front ∙ length-take-le cut.size t.entries cut.within in
    record {
      laws = laws;
      same_vars = fits.same_vars ∙ sym vars;
      over = subst (λ n. All (λ (c : NumberedClause). IsClause n c.lits) s.live) (sym vars) fits.over;
      watched = fits.watched;
      guarded = subst (λ n. AreGuarded t'.entries n s.watches) (sym read) (AreGuarded-cut level t.entries t'.entries t.read s.watches cut fits.guarded);
      reasons = AreReasons-cut s.live level t.entries t'.entries cut fits.reasons;
      unread_present = λ k d from within.
          let same : get_or t'.entries k d ≡ get_or t.entries k d = ap (λ es. get_or es k d) cut.front ∙ get_or-take cut.size t.entries k d (omega (arith, within, long)) in
          let was : (get_or t.entries k d).level ≡ t.present = fits.unread_present k d (omega (arith, from, within, read)) (omega (arith, within, long, cut.within)) in
          let now : (get_or t'.entries k d).level ≡ t.present = ap (λ e. e.level) same ∙ was in
          omega (arith, now, cut.kept k d within, low, present);
    }

-- ---- what is true at level 0 stays so
pub AreShortTrue-push : (live : List NumberedClause) (t : TrailParts) (e : Entry) → AreShortTrue live t → AreShortTrue live (record t { entries = t.entries ++ e ∷ []; present = e.level })
AreShortTrue-push live t e short k d within few =
    let any = short k d within few in
    (any.0, any.1, any.2, any.3, up_to-push 0 t.entries e any.1 any.4)

pub AreShortTrue-cut : (live : List NumberedClause) (t t' : TrailParts) (level : ℕ) → IsCutBack level t.entries t'.entries → AreShortTrue live t → AreShortTrue live t'
AreShortTrue-cut live t t' level cut short k d within few =
    let any = short k d within few in
    (any.0, any.1, any.2, any.3, up_to-cut level 0 t.entries t'.entries any.1 cut (omega arith) any.4)

-- ---- nothing follows from a clause at once
clause_rests : (s : StoreParts) (t : TrailParts) (level : ℕ) (lits : List Lit) → ((k : ℕ) (d : Entry) → k < length t.entries → (get_or t.entries k d).level ≤ level → k < t.read) → (2 ≤ length lits → IsWatched s.watches lits) → (length lits < 2 → Any (λ lit. is_known (up_to 0 t.entries) lit ≡ true) lits) → FitsTrail s t → IsAtRest (up_to level t.entries) lits
unfolding IsAtRest
clause_rests s t level lits all_read watched short fits = elim (cases_lt (length lits) 2) [
  | inl few ↦
      let any = short few in
      inl (any.0, any.1, any.2, any.3, up_to-more 0 level t.entries any.1 (omega arith) any.4)
  | inr many ↦
      let w = watched many in
      let d : Lit = record { var = record { 0 = 0 }; positive = true } in
      at_rest t.entries t.read level lits (get_or s.watches w.node d) (get_or s.watches (other_of w.node) d) all_read (w.one_stands d) (w.other_stands d) (w.differ d)
      (fits.guarded w.node d w.within)
      (subst (λ n. IsGuarded t.entries t.read (get_or s.watches (other_of w.node) d) (get_or s.watches n d)) (other-other w.node) (fits.guarded (other_of w.node) d w.other_within))
]

closed_up_to : (s : StoreParts) (t : TrailParts) (level : ℕ) → ((k : ℕ) (d : Entry) → k < length t.entries → (get_or t.entries k d).level ≤ level → k < t.read) → AreShortTrue s.live t → FitsTrail s t → IsClosed (up_to level t.entries) s.live
closed_up_to s t level all_read short fits = record {
  one_sign = λ k e within.
      let lit : Lit = get_or (up_to level t.entries) k e in
      up_to-not level t.entries (negated lit) (one_sign t fits.laws lit (known-from_up_to level t.entries lit (is_known-at (up_to level t.entries) k e within)));
  at_rest = λ k c within. clause_rests s t level (get_or s.live k c).lits all_read (fits.watched k c within) (short k c within) fits;
}

-- where all is read the trail is closed over the live clauses
pub closed_read : (s : StoreParts) (t : TrailParts) → length t.entries ≤ t.read → AreShortTrue s.live t → FitsTrail s t → IsClosed (known_of t.entries) s.live
closed_read s t all_read short fits =
    subst (λ known. IsClosed known s.live) (all_up_to t.present t.entries fits.laws.up_to_now)
    (closed_up_to s t t.present (λ k d within low. omega (arith, within, all_read)) short fits)

-- at the end of each level below the present one the trail up to there is closed over the live clauses
pub closed_below : (s : StoreParts) (t : TrailParts) (level : ℕ) → level < t.present → AreShortTrue s.live t → FitsTrail s t → IsClosed (up_to level t.entries) s.live
closed_below s t level below short fits = closed_up_to s t level (λ k d within low. elim (cases_lt k t.read) [
  | inl read ↦ read
  | inr unread ↦ absurd (omega (arith, low, below, fits.unread_present k d unread within))
]) short fits
