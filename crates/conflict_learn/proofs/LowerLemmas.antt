-- The marked literals below the present level are settled at their places, from the last one down.
use Rattle.std.proofs.Common.{◌≡◌, ◌≢◌, ℕ, zero, suc, ◌+◌, ◌-◌, ◌<◌, ◌≤◌, Bool, true, false, cond, inl, inr, List, [], ◌∷◌, ◌++◌, length, get_or, max, refl, ap, sym, subst, ◌∙◌, arith}
use Rattle.std.specs.Prelude.{All, Option, Some, None, MatchOption, nat_eq}
use Rattle.std.specs.List.{list_any}
use Rattle.std.specs.List.Sorted.{IsPermutation, IsNonDecreasing}
use Rattle.std.proofs.lemmas.Bool.{cases_eq, cases_lt, cases_Bool, eq-eqb, eqb-true}
use Rattle.std.proofs.lemmas.List.{get_or_default, length_push, get_or_push, get_or_append_left}
use Rattle.std.proofs.lemmas.List.Folds.{list_any_at, Any-from_list_any}
use Rattle.std.proofs.lemmas.List.Sorted.{list_any-IsPermutation}
use Rattle.sat_core.specs.declared.literal.Lit.{Lit}
use Rattle.sat_core.specs.declared.literal.Var.{Var}
use Rattle.sat_core.specs.declared.literal.ClauseId.{ClauseId}
use Rattle.sat_core.specs.Clauses.{negated}
use Rattle.sat_core.specs.Hints.{NumberedClause}
use Rattle.search_trail.specs.declared.entry.Entry.{Entry}
use Rattle.search_trail.specs.Trails.{TrailParts, IsTrail}
use Rattle.sat_core.proofs.OpenLaws.{true_is_not_false}
use Rattle.search_trail.proofs.ReasonLaws.{apart-eqb}
use Rattle.conflict_learn.specs.Marks.{AreAmong}
use Rattle.conflict_learn.specs.Working.{IsMarked, IsWorking, IsPlaceToResolve, IsListed, IsTouchedAt, IsImplied, MarksOf, pending}
use Rattle.conflict_learn.proofs.HintOrder.{one_place}
use Rattle.conflict_learn.proofs.PendingLemmas.{index_of, pending-yes}
use Rattle.conflict_learn.proofs.WorkLemmas.{work_pass, work_resolve, here_pending}
use Rattle.conflict_learn.proofs.CallLemmas.{no_entry, kept_low, clause_over}

pub pending_some : (entries : List Entry) (marks : List Bool) (level place : ℕ) → 0 < pending entries marks level place → 0 < place
pending_some entries marks level zero some = absurd (omega arith)
pending_some entries marks level (suc place) some = omega arith

-- ---- lists of places
pub listed_push : (places : List ℕ) (last k : ℕ) → IsListed places k → IsListed (places ++ last ∷ []) k
listed_push places last k listed = (listed.0, omega (arith, listed.1, length_push places last), λ d. get_or_append_left places (last ∷ []) d listed.0 listed.1 ∙ listed.2 d)

pub listed_last : (places : List ℕ) (last : ℕ) → IsListed (places ++ last ∷ []) last
listed_last places last = (length places, omega (arith, length_push places last), λ d. get_or_push places last d (length places) refl)

pub listed_sorted : (places sorted : List ℕ) (k : ℕ) → IsPermutation places sorted → IsListed places k → IsListed sorted k
listed_sorted places sorted k permutation listed =
    let found : list_any (nat_eq k) places ≡ true = list_any_at (nat_eq k) places listed.0 0 listed.1 (eq-eqb k (get_or places listed.0 0) (sym (listed.2 0))) in
    let any = Any-from_list_any (nat_eq k) sorted (sym (list_any-IsPermutation (nat_eq k) places sorted permutation) ∙ found) in
    (any.0, any.2, λ d. get_or_default sorted any.0 d any.1 any.2 ∙ (any.3 ∙ sym (eqb-true k any.1 any.4)))

-- the place of a touched variable
pub touched_listed : (t : TrailParts) (touched : List Var) (places : List ℕ) (index p k : ℕ) (d : Var) → IsTrail t → p < length t.entries → ((e : Entry) → (get_or t.entries p e).lit.var.0 ≡ (get_or touched index d).0) → k < length t.entries → ((e : Entry) → (get_or t.entries k e).lit.var.0 ≡ (get_or touched index d).0) → p ≡ k
touched_listed t touched places index p k d laws within at within' at' = one_place t.entries p k no_entry laws.no_variable_twice within within' (at no_entry ∙ sym (at' no_entry))

-- a marked place belongs to a touched variable
pub marked_touched : (t : TrailParts) (marks : List Bool) (touched : List Var) (k : ℕ) → IsTrail t → All (λ v. (1 ≤ v.0) × (v.0 ≤ length marks)) touched → AreAmong marks touched → k < length t.entries → IsMarked t.entries marks k → IsTouchedAt t.entries touched (length touched) k
marked_touched t marks touched k laws range among within marked =
    let any = among (index_of (get_or t.entries k no_entry)) (marked no_entry) in
    let over = laws.in_range k no_entry within in
    let low = range any.0 any.1 any.2 in
    let number : any.1.0 - 1 ≡ (get_or t.entries k no_entry).lit.var.0 - 1 = any.4 in
    let is : get_or touched any.0 any.1 ≡ any.1 = any.3 in
    let low' : 1 ≤ any.1.0 = subst (λ (v : Var). 1 ≤ v.0) is low.0 in
    let same : (get_or t.entries k no_entry).lit.var.0 ≡ any.1.0 = omega (arith, number, over.0, low') in
    (any.0, any.2, λ d e. ap (λ (x : Entry). x.lit.var.0) (get_or_default t.entries k e no_entry within) ∙ (same ∙ ap (λ (v : Var). v.0) (sym (get_or_default touched any.0 d any.1 any.2 ∙ is))))

-- ---- unmarked places are passed
unmarked_at : (t : TrailParts) (marks : List Bool) (k : ℕ) (d : Entry) → k < length t.entries → ¬ IsMarked t.entries marks k → get_or marks (index_of (get_or t.entries k d)) false ≡ false
unmarked_at t marks k d within unmarked = elim (cases_Bool (get_or marks (index_of (get_or t.entries k d)) false)) [
  | inr fine ↦ fine
  | inl is ↦ absurd (unmarked (λ e. ap (λ (x : Entry). get_or marks (index_of x) false) (get_or_default t.entries k e d within) ∙ is))
]

passes_by : (live : List NumberedClause) (t : TrailParts) (lower many : ℕ) (marks : List Bool) (open_count level : ℕ) (cut : List Lit) (hints : List ClauseId) → lower + many ≤ length t.entries → ((k : ℕ) → lower ≤ k → k < lower + many → ¬ IsMarked t.entries marks k) → IsWorking live t (lower + many) marks open_count level cut hints → IsWorking live t lower marks open_count level cut hints
passes_by live t lower zero marks open_count level cut hints within unmarked work = subst (λ n. IsWorking live t n marks open_count level cut hints) (omega arith) work
passes_by live t lower (suc many) marks open_count level cut hints within unmarked work =
    let next : lower + suc many ≡ lower + many + 1 = omega arith in
    passes_by live t lower many marks open_count level cut hints (omega arith) (λ k low high. unmarked k low (omega arith))
    (work_pass live t (lower + many) marks open_count level cut hints no_entry (omega arith) (unmarked_at t marks (lower + many) no_entry (omega arith) (unmarked (lower + many) (omega arith) (omega arith)))
    (subst (λ n. IsWorking live t n marks open_count level cut hints) next work))

pub passes : (live : List NumberedClause) (t : TrailParts) (lower place : ℕ) (marks : List Bool) (open_count level : ℕ) (cut : List Lit) (hints : List ClauseId) → lower ≤ place → place ≤ length t.entries → ((k : ℕ) → lower ≤ k → k < place → ¬ IsMarked t.entries marks k) → IsWorking live t place marks open_count level cut hints → IsWorking live t lower marks open_count level cut hints
passes live t lower place marks open_count level cut hints low within unmarked work =
    let whole : lower + (place - lower) ≡ place = omega arith in
    passes_by live t lower (place - lower) marks open_count level cut hints (omega arith) (λ k from below. unmarked k from (omega arith)) (subst (λ n. IsWorking live t n marks open_count level cut hints) (sym whole) work)

-- ---- a marked literal below the present level
pub lower_apart : (live : List NumberedClause) (t : TrailParts) (place : ℕ) (lit : Lit) (marks : List Bool) (open_count level : ℕ) (cut : List Lit) (hints : List ClauseId) → IsPlaceToResolve live t place lit → get_or marks (lit.var.0 - 1) false ≡ true → open_count ≡ 0 → IsWorking live t (place + 1) marks open_count level cut hints → (get_or t.entries place no_entry).level ≢ t.present
lower_apart live t place lit marks open_count level cut hints at marked none work here =
    let is : get_or marks (index_of (get_or t.entries place no_entry)) false ≡ true = ap (λ (l : Lit). get_or marks (l.var.0 - 1) false) (at.here no_entry) ∙ marked in
    let more : pending t.entries marks t.present (place + 1) ≡ pending t.entries marks t.present place + 1 = pending-yes t.entries marks t.present place no_entry at.within (here_pending marks t.present (get_or t.entries place no_entry) is here) in
    omega (arith, work.counted)

pub implied_place : (live : List NumberedClause) (t : TrailParts) (place : ℕ) (lit : Lit) (marks : List Bool) (open_count level : ℕ) (cut : List Lit) (hints hints' : List ClauseId) (id : ClauseId) → IsPlaceToResolve live t place lit → get_or marks (lit.var.0 - 1) false ≡ true → open_count ≡ 0 → All (λ e. e.lit.var.0 ≡ lit.var.0 → e.reason ≡ Some id) t.entries → IsImplied live marks id → hints' ≡ hints ++ id ∷ [] → IsWorking live t (place + 1) marks open_count level cut hints → IsWorking live t place marks open_count level cut hints'
implied_place live t place lit marks open_count level cut hints hints' id at marked none reason implied more work =
    let apart = lower_apart live t place lit marks open_count level cut hints at marked none work in
    let variable : (get_or t.entries place no_entry).lit.var.0 ≡ lit.var.0 = ap (λ (l : Lit). l.var.0) (at.here no_entry) in
    let marks_of : MarksOf t marks marks implied.lits 0 = record { long = refl; kept = λ n m. m; done = implied.marked; counted = λ p all. omega arith } in
    let step = work_resolve live t place marks marks open_count level cut hints no_entry id implied.lits 0 0 at.laws at.over at.reasons at.within (ap (λ v. get_or marks (v - 1) false) variable ∙ marked)
    (reason place no_entry at.within variable, λ above here. absurd (apart here)) implied.stands (clause_over live t id implied.lits at.over implied.stands) marks_of (sym (ap (λ b. cond b 1 0) (apart-eqb (get_or t.entries place no_entry).level t.present apart))) work in
    let same : open_count - 0 + 0 ≡ open_count = omega arith in
    subst (IsWorking live t place marks open_count level cut) (sym more) (subst (λ n. IsWorking live t place marks n level cut (hints ++ id ∷ [])) same step.1)

pub kept_place : (live : List NumberedClause) (t : TrailParts) (place : ℕ) (lit : Lit) (marks : List Bool) (open_count level level' at_level : ℕ) (cut cut' : List Lit) (hints : List ClauseId) → IsPlaceToResolve live t place lit → get_or marks (lit.var.0 - 1) false ≡ true → open_count ≡ 0 → All (λ e. e.lit.var.0 ≡ lit.var.0 → e.level ≡ at_level) t.entries → level' ≡ max level at_level → cut' ≡ cut ++ negated lit ∷ [] → IsWorking live t (place + 1) marks open_count level cut hints → IsWorking live t place marks open_count level' cut' hints
kept_place live t place lit marks open_count level level' at_level cut cut' hints at marked none levels level_is cut_is work =
    let apart = lower_apart live t place lit marks open_count level cut hints at marked none work in
    let variable : (get_or t.entries place no_entry).lit.var.0 ≡ lit.var.0 = ap (λ (l : Lit). l.var.0) (at.here no_entry) in
    kept_low live t place lit marks open_count level level' at_level cut cut' hints at levels (λ same. apart (levels place no_entry at.within variable ∙ same)) level_is cut_is work

-- ---- the loop over the places
abbrev pub AreListedTo : List Entry → List Bool → List ℕ → ℕ → ℕ → Type 0
AreListedTo entries marks places below left = (k : ℕ) → k < below → IsMarked entries marks k → (j : ℕ) × (j < left) × ((d : ℕ) → get_or places j d ≡ k)

pub none_between : (entries : List Entry) (marks : List Bool) (places : List ℕ) (below left : ℕ) (d : ℕ) → IsNonDecreasing places → 0 < left → left ≤ length places → AreListedTo entries marks places below left → (k : ℕ) → get_or places (left - 1) d < k → k < below → ¬ IsMarked entries marks k
none_between entries marks places below left d rising some within listed k above high marked =
    let at = listed k high marked in
    omega (arith, rising at.0 (left - 1) d (omega (arith, at.1)) (omega arith), at.2 d)

pub listed_less : (entries : List Entry) (marks : List Bool) (places : List ℕ) (below now left : ℕ) (d : ℕ) → 0 < left → now ≤ below → ((k : ℕ) → k < now → IsMarked entries marks k → k < get_or places (left - 1) d) → AreListedTo entries marks places below left → AreListedTo entries marks places now (left - 1)
listed_less entries marks places below now left d some lower settled listed k high marked =
    let at = listed k (omega arith) marked in
    let small : k < get_or places (left - 1) d = settled k high marked in (
      at.0,
      elim (cases_eq at.0 (left - 1)) [
        | inl here ↦ absurd (omega (arith, at.2 d, ap (λ n. get_or places n d) here))
        | inr apart ↦ omega (arith, at.1)
      ],
      at.2,
    )

-- the place that the trail gives for a variable
pub place_is : (t : TrailParts) (v k : ℕ) (r : Option ℕ) → IsTrail t → k < length t.entries → ((e : Entry) → (get_or t.entries k e).lit.var.0 ≡ v) → MatchOption r (All (λ e. e.lit.var.0 ≢ v) t.entries) (λ p. (p < length t.entries) × ((d : Entry) → (get_or t.entries p d).lit.var.0 ≡ v)) → r ≡ Some k
place_is t v k None laws within at told = absurd (told k no_entry within (at no_entry))
place_is t v k (Some p) laws within at told = ap (λ n. Some n) (one_place t.entries p k no_entry laws.no_variable_twice told.0 within (told.1 no_entry ∙ sym (at no_entry)))

-- a place that isn't marked is settled
pub unmarked_here : (entries : List Entry) (marks : List Bool) (next below : ℕ) (lit : Lit) → ((d : Entry) → (get_or entries next d).lit ≡ lit) → get_or marks (lit.var.0 - 1) false ≡ false → ((k : ℕ) → next < k → k < below → ¬ IsMarked entries marks k) → (k : ℕ) → k < below → IsMarked entries marks k → k < next
unmarked_here entries marks next below lit here unmarked passed k high marked = elim (cases_lt k next) [
  | inl lower ↦ lower
  | inr above ↦ elim (cases_eq k next) [
    | inl is ↦ absurd (true_is_not_false (sym (marked no_entry) ∙ (ap (λ n. get_or marks (index_of (get_or entries n no_entry)) false) is ∙ (ap (λ (l : Lit). get_or marks (l.var.0 - 1) false) (here no_entry) ∙ unmarked))))
    | inr apart ↦ absurd (passed k (omega arith) high marked)
  ]
]
