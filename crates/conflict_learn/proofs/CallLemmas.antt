-- The steps of learning in the words of the calls that take them.
use Rattle.std.proofs.Common.{◌≡◌, ◌≢◌, ℕ, ◌+◌, ◌-◌, ◌<◌, ◌≤◌, Bool, true, false, cond, inl, inr, List, [], ◌∷◌, ◌++◌, length, map, take, get_or, max, ap, sym, subst, ◌∙◌, arith}
use Rattle.std.specs.Prelude.{All, nat_eq, find, option_map, Some, None}
use Rattle.std.proofs.lemmas.List.{get_or_default, length-map, get_or-map, length-take}
use Rattle.std.proofs.lemmas.List.Sums.{count_by-le-length}
use Rattle.std.proofs.lemmas.List.Elements.{All-head, All-tail}
use Rattle.sat_core.specs.declared.literal.Lit.{Lit}
use Rattle.sat_core.specs.declared.literal.ClauseId.{ClauseId}
use Rattle.sat_core.specs.Clauses.{negated, IsOver, IsClause}
use Rattle.sat_core.specs.Hints.{NumberedClause, clause_of, is_known}
use Rattle.search_trail.specs.declared.entry.Entry.{Entry}
use Rattle.search_trail.specs.Trails.{TrailParts, IsTrail, known_of}
use Rattle.search_trail.specs.Reasons.{IsReason, ReasonFits, AreReasons}
use Rattle.sat_core.proofs.OpenLaws.{place_of_known, distinct_below}
use Rattle.conflict_learn.specs.Learning.{IsConflict}
use Rattle.conflict_learn.specs.Working.{is_pending, pending, IsWorking, MarksOf, IsKeptBack, IsResolved, IsPlaceToResolve, IsOnTrail}
use Rattle.conflict_learn.proofs.HintOrder.{front_has}
use Rattle.conflict_learn.proofs.WorkLemmas.{some_same, some_not_none, work_pass, work_keep_present, work_keep_low, lit_cases, work_resolve, work_start}

pub place_assigned : (live : List NumberedClause) (t : TrailParts) (place : ℕ) (lit : Lit) → IsPlaceToResolve live t place lit → IsOnTrail t lit
place_assigned live t place lit at =
    let d : Entry = record { lit = lit; reason = None; level = 0 } in
    (subst (IsOver t.vars) (at.here d) (at.laws.in_range place d at.within), (place, get_or t.entries place d, at.within, get_or_default t.entries place (get_or t.entries place d) d at.within, ap (λ l. l.var.0) (at.here d)))

pub no_entry : Entry
no_entry = record { lit = record { var = record { 0 = 0 }; positive = true }; reason = None; level = 0 }

pub clause_over : (live : List NumberedClause) (t : TrailParts) (id : ClauseId) (lits : List Lit) → All (λ c. IsClause t.vars c.lits) live → clause_of live id ≡ Some lits → IsClause t.vars lits
clause_over [] t id lits over stands = absurd (cc)
clause_over (clause ∷ live) t id lits over stands =
    elim (nat_eq clause.id.0 id.0) as (λ b. option_map (λ c. c.lits) (cond b (Some clause) (find (λ c. nat_eq c.id.0 id.0) live)) ≡ Some lits → IsClause t.vars lits) [
      | true ↦ λ here. subst (IsClause t.vars) (some_same here) (All-head (λ (c : NumberedClause). IsClause t.vars c.lits) clause live over)
      | false ↦ λ later. clause_over live t id lits (All-tail (λ (c : NumberedClause). IsClause t.vars c.lits) clause live over) later
    ] stands

-- the entry at a place
pub kept_present : (live : List NumberedClause) (t : TrailParts) (place : ℕ) (lit : Lit) (marks : List Bool) (open_count level at_level : ℕ) (cut cut' : List Lit) (hints : List ClauseId) → IsPlaceToResolve live t place lit → get_or marks (lit.var.0 - 1) false ≡ true → All (λ e. e.lit.var.0 ≡ lit.var.0 → IsKeptBack t.present open_count e) t.entries → All (λ e. e.lit.var.0 ≡ lit.var.0 → e.level ≡ at_level) t.entries → at_level ≡ t.present → cut' ≡ cut ++ negated lit ∷ [] → IsWorking live t (place + 1) marks open_count level cut hints → (0 < open_count) × IsWorking live t place marks (open_count - 1) level cut' hints
kept_present live t place lit marks open_count level at_level cut cut' hints at marked kept levels present cut_is work =
    let d : Entry = no_entry in
    let variable : (get_or t.entries place d).lit.var.0 ≡ lit.var.0 = ap (λ l. l.var.0) (at.here d) in
    let step = work_keep_present live t place marks open_count level cut hints d at.laws at.within (ap (λ v. get_or marks (v - 1) false) variable ∙ marked) (levels place d at.within variable ∙ present) (kept place d at.within variable) work in
    (step.0, subst (λ c. IsWorking live t place marks (open_count - 1) level c hints) (ap (λ l. cut ++ negated l ∷ []) (at.here d) ∙ sym cut_is) step.1)

pub kept_low : (live : List NumberedClause) (t : TrailParts) (place : ℕ) (lit : Lit) (marks : List Bool) (open_count level level' at_level : ℕ) (cut cut' : List Lit) (hints : List ClauseId) → IsPlaceToResolve live t place lit → All (λ e. e.lit.var.0 ≡ lit.var.0 → e.level ≡ at_level) t.entries → at_level ≢ t.present → level' ≡ max level at_level → cut' ≡ cut ++ negated lit ∷ [] → IsWorking live t (place + 1) marks open_count level cut hints → IsWorking live t place marks open_count level' cut' hints
kept_low live t place lit marks open_count level level' at_level cut cut' hints at levels apart level_is cut_is work =
    let d : Entry = no_entry in
    let variable : (get_or t.entries place d).lit.var.0 ≡ lit.var.0 = ap (λ l. l.var.0) (at.here d) in
    let is : (get_or t.entries place d).level ≡ at_level = levels place d at.within variable in
    let step = work_keep_low live t place marks open_count level cut hints d at.laws at.within (omega (arith, is, at.laws.up_to_now place d at.within)) work in
    rw (level_is ∙ ap (max level) (sym is), cut_is ∙ ap (λ l. cut ++ negated l ∷ []) (sym (at.here d))) step

pub resolved_place : (live : List NumberedClause) (t : TrailParts) (place : ℕ) (lit : Lit) (marks marks' : List Bool) (open_count level at_level : ℕ) (cut : List Lit) (hints hints' : List ClauseId) (id : ClauseId) (lits : List Lit) (found less : ℕ) → IsPlaceToResolve live t place lit → get_or marks (lit.var.0 - 1) false ≡ true → All (λ e. e.lit.var.0 ≡ lit.var.0 → IsResolved t.present open_count id e) t.entries → All (λ e. e.lit.var.0 ≡ lit.var.0 → e.level ≡ at_level) t.entries → clause_of live id ≡ Some lits → MarksOf t marks marks' lits found → less ≡ cond (nat_eq at_level t.present) 1 0 → hints' ≡ hints ++ id ∷ [] → IsWorking live t (place + 1) marks open_count level cut hints → (less ≤ open_count) × IsWorking live t place marks' (open_count - less + found) level cut hints'
resolved_place live t place lit marks marks' open_count level at_level cut hints hints' id lits found less at marked resolved levels stands marks_of less_is hints_is work =
    let d : Entry = no_entry in
    let variable : (get_or t.entries place d).lit.var.0 ≡ lit.var.0 = ap (λ l. l.var.0) (at.here d) in
    let is : (get_or t.entries place d).level ≡ at_level = levels place d at.within variable in
    let step = work_resolve live t place marks marks' open_count level cut hints d id lits found less at.laws at.over at.reasons at.within (ap (λ v. get_or marks (v - 1) false) variable ∙ marked) (resolved place d at.within variable) stands (clause_over live t id lits at.over stands) marks_of (less_is ∙ ap (λ n. cond (nat_eq n t.present) 1 0) (sym is)) work in
    (step.0, subst (IsWorking live t place marks' (open_count - less + found) level cut) (sym hints_is) step.1)

-- the literals of a clause of which each is false are assigned
pub false_assigned : (t : TrailParts) (front : List Lit) (lits : List Lit) → IsTrail t → IsClause t.vars lits → All (λ lit. is_known (known_of t.entries) (negated lit) ≡ true) lits → All (IsOnTrail t) lits
false_assigned t front lits laws clause all_false k f inside =
    let place = place_of_known (known_of t.entries) (negated (get_or lits k f)) (all_false k f inside) in
    let within : place.0 < length t.entries = omega (arith, place.1, length-map t.entries (λ (x : Entry). x.lit)) in
    let d : Entry = no_entry in
    let is : (get_or t.entries place.0 d).lit ≡ negated (get_or lits k f) = sym (get_or-map (λ (x : Entry). x.lit) t.entries place.0 d (get_or lits k f) within) ∙ place.2 (get_or lits k f) in
    (clause.in_range k f inside, (place.0, get_or t.entries place.0 d, within, get_or_default t.entries place.0 (get_or t.entries place.0 d) d within, ap (λ l. l.var.0) is))

-- the literals of a reason are assigned
pub reason_assigned : (live : List NumberedClause) (t : TrailParts) (place : ℕ) (lit : Lit) (open_count : ℕ) (id : ClauseId) (lits : List Lit) → IsPlaceToResolve live t place lit → All (λ e. e.lit.var.0 ≡ lit.var.0 → IsResolved t.present open_count id e) t.entries → clause_of live id ≡ Some lits → All (IsOnTrail t) lits
reason_assigned live t place lit open_count id lits at resolved stands k f inside =
    let d : Entry = no_entry in
    let variable : (get_or t.entries place d).lit.var.0 ≡ lit.var.0 = ap (λ l. l.var.0) (at.here d) in
    let fits : IsReason live (known_of (take place t.entries)) (get_or t.entries place d).lit id = subst (ReasonFits live (known_of (take place t.entries)) (get_or t.entries place d).lit) (resolved place d at.within variable).0 (at.reasons place d at.within) in
    let same_lits : fits.lits ≡ lits = some_same (sym fits.stands ∙ stands) in
    let others = subst (All (λ other. other ≢ (get_or t.entries place d).lit → is_known (known_of (take place t.entries)) (negated other) ≡ true)) same_lits fits.others_false in
    let clause : IsClause t.vars lits = clause_over live t id lits at.over stands in
    elim (lit_cases (get_or lits k f) (get_or t.entries place d).lit) [
      | inl is ↦ (clause.in_range k f inside, (place, get_or t.entries place d, at.within, get_or_default t.entries place (get_or t.entries place d) d at.within, ap (λ l. l.var.0) (sym is)))
      | inr apart ↦
          let j = front_has t.entries place (negated (get_or lits k f)) (others k f inside apart) in
          (clause.in_range k f inside, (j.0, get_or t.entries j.0 d, j.2, get_or_default t.entries j.0 (get_or t.entries j.0 d) d j.2, ap (λ l. l.var.0) (j.3 d)))
    ]

-- a clause is shorter than any number of the machine
pub clause_short : (vars : ℕ) (lits : List Lit) → IsClause vars lits → length lits ≤ vars
clause_short vars lits clause =
    let place : Lit → ℕ = λ l. l.var.0 - 1 in
    let all : length (map place lits) ≤ vars = distinct_below (map place lits) vars
    (λ i j d low high same.
    let high' : j < length lits = omega (arith, high, length-map lits place) in
    let e : Lit = record { var = record { 0 = 0 }; positive = true } in
    let one = clause.in_range i e (omega arith) in
    let two = clause.in_range j e high' in
    clause.no_variable_twice i j e low high' (omega (arith, one, two, same, get_or-map place lits i e d (omega arith), get_or-map place lits j e d high')))
    (λ k d within.
    let within' : k < length lits = omega (arith, within, length-map lits place) in
    let e : Lit = record { var = record { 0 = 0 }; positive = true } in
    let one = clause.in_range k e within' in
    omega (arith, one, get_or-map place lits k e d within'))
    in omega (arith, all, length-map lits place)

pub pending_short : (entries : List Entry) (marks : List Bool) (level place : ℕ) → pending entries marks level place ≤ length entries
pending_short entries marks level place = omega (arith, count_by-le-length (is_pending marks level) (take place entries), length-take place entries)

-- the reason of an entry is live
pub reason_live : (live : List NumberedClause) (t : TrailParts) (place : ℕ) (lit : Lit) (open_count : ℕ) (id : ClauseId) → IsPlaceToResolve live t place lit → All (λ e. e.lit.var.0 ≡ lit.var.0 → IsResolved t.present open_count id e) t.entries → clause_of live id ≡ None → ⊥
reason_live live t place lit open_count id at resolved none =
    let d : Entry = no_entry in
    let variable : (get_or t.entries place d).lit.var.0 ≡ lit.var.0 = ap (λ l. l.var.0) (at.here d) in
    let fits : IsReason live (known_of (take place t.entries)) (get_or t.entries place d).lit id = subst (ReasonFits live (known_of (take place t.entries)) (get_or t.entries place d).lit) (resolved place d at.within variable).0 (at.reasons place d at.within) in
    some_not_none (sym fits.stands ∙ none)

pub conflict_assigned : (live : List NumberedClause) (t : TrailParts) (id : ClauseId) (lits : List Lit) → IsTrail t → All (λ c. IsClause t.vars c.lits) live → IsConflict live t id → clause_of live id ≡ Some lits → All (IsOnTrail t) lits
conflict_assigned live t id lits laws over conflict stands =
    let same_lits : conflict.lits ≡ lits = some_same (sym conflict.stands ∙ stands) in
    false_assigned t lits lits laws (clause_over live t id lits over stands) (subst (All (λ lit. is_known (known_of t.entries) (negated lit) ≡ true)) same_lits conflict.all_false)

pub start_state : (live : List NumberedClause) (t : TrailParts) (marks marks' : List Bool) (id : ClauseId) (lits : List Lit) (found : ℕ) (cut : List Lit) (hints hints' : List ClauseId) → IsTrail t → length marks ≡ t.vars → ((n : ℕ) → get_or marks n false ≡ false) → IsConflict live t id → clause_of live id ≡ Some lits → MarksOf t marks marks' lits found → cut ≡ [] → hints ≡ [] → hints' ≡ hints ++ id ∷ [] → IsWorking live t (length t.entries) marks' found 0 cut hints'
start_state live t marks marks' id lits found cut hints hints' laws long clear conflict stands marks_of no_cut no_hints one_hint =
    rw (no_cut, one_hint, no_hints) (work_start live t marks marks' id lits found laws long clear conflict stands marks_of)

pub is_place : (live : List NumberedClause) (t : TrailParts) (place : ℕ) (lit : Lit) → IsTrail t → All (λ c. IsClause t.vars c.lits) live → AreReasons live t.entries → place < length t.entries → ((d : Entry) → (get_or t.entries place d).lit ≡ lit) → IsPlaceToResolve live t place lit
is_place live t place lit laws over reasons within here = record { laws = laws; over = over; reasons = reasons; within = within; here = here }

pub work_pass_lit : (live : List NumberedClause) (t : TrailParts) (place : ℕ) (lit : Lit) (marks : List Bool) (open_count level : ℕ) (cut : List Lit) (hints : List ClauseId) → IsPlaceToResolve live t place lit → get_or marks (lit.var.0 - 1) false ≡ false → IsWorking live t (place + 1) marks open_count level cut hints → IsWorking live t place marks open_count level cut hints
work_pass_lit live t place lit marks open_count level cut hints at unmarked work =
    work_pass live t place marks open_count level cut hints no_entry at.within (ap (λ l. get_or marks (l.var.0 - 1) false) (at.here no_entry) ∙ unmarked) work
