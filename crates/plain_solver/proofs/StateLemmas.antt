-- The plain solver's state as a search: units and steps woven into one list, the clauses that they make live, and conflicts.
use Rattle.std.proofs.Common.{◌≡◌, ◌≢◌, ℕ, zero, suc, ◌+◌, ◌-◌, ◌<◌, ◌≤◌, Bool, true, false, ◌⊎◌, inl, inr, List, [], ◌∷◌, ◌++◌, length, map, take, get_or, min, refl, ap, sym, subst, ◌∙◌, arith}
use Rattle.std.specs.Prelude.{All, Contains, Option, Some, None, slice_get}
use Rattle.std.proofs.lemmas.Bool.{cases_eq}
use Rattle.std.proofs.lemmas.List.{length_push, length-take-le}
use Rattle.std.proofs.lemmas.List.Elements.{All-push, All-nil, All-append, All-head, All-tail, All-cons}
use Rattle.sat_core.specs.declared.literal.Lit.{Lit}
use Rattle.sat_core.specs.declared.literal.ClauseId.{ClauseId}
use Rattle.sat_core.specs.Clauses.{negated, IsClause}
use Rattle.sat_core.specs.Hints.{NumberedClause, hints_fault}
use Rattle.sat_core.specs.Derivation.{DerivedStep, adds, drops, AddsEmptyClause, numbered_from}
use Rattle.sat_core.specs.Fresh.{IsFresh}
use Rattle.sat_core.specs.Search.{Event, gives, derives, Search, after_event, next_number, IsLearned, log_of, units_of, adds_in}
use Rattle.search_trail.specs.Trails.{TrailParts, IsTrail, IsCutBack}
use Rattle.search_trail.proofs.TrailLaws.{IsTrail-cut}
use Rattle.search_trail.proofs.ReasonLaws.{numbered-push, clause_of-numbered}
use Rattle.conflict_learn.specs.Learning.{IsConflict, IsLearnedFrom}
use Rattle.conflict_learn.proofs.FreshLaws.{IsFresh-learned, at_present}
use Rattle.solver_face.specs.Solving.{AddNoEmptyClause, EndsInAdd}
use Rattle.plain_solver.specs.Plain.{IsPlain, IsFalseClause}
use Rattle.plain_solver.specs.States.{weave, steps_in, added_by, IsAdd, IsAt, Refuted}
use Rattle.plain_solver.proofs.PlainLemmas.{closed_at, numbered_all}

-- ---- units and steps as one list
pub weave-unit : (history : List (Option Lit)) (steps : List DerivedStep) (lit : Lit) → steps_in history ≡ length steps → weave (history ++ Some lit ∷ []) steps ≡ weave history steps ++ gives lit ∷ []
weave-unit [] steps lit count = refl
weave-unit (Some one ∷ history) steps lit count = ap (λ es. gives one ∷ es) (weave-unit history steps lit count)
weave-unit (None ∷ history) [] lit count = absurd (omega arith)
weave-unit (None ∷ history) (step ∷ steps) lit count = ap (λ es. derives step ∷ es) (weave-unit history steps lit (omega arith))

pub weave-step : (history : List (Option Lit)) (steps : List DerivedStep) (more : DerivedStep) → steps_in history ≡ length steps → weave (history ++ None ∷ []) (steps ++ more ∷ []) ≡ weave history steps ++ derives more ∷ []
weave-step [] [] more count = refl
weave-step [] (step ∷ steps) more count = absurd (omega arith)
weave-step (Some one ∷ history) steps more count = ap (λ es. gives one ∷ es) (weave-step history steps more count)
weave-step (None ∷ history) [] more count = absurd (omega arith)
weave-step (None ∷ history) (step ∷ steps) more count = ap (λ es. derives step ∷ es) (weave-step history steps more (omega arith))

pub log_of-weave : (history : List (Option Lit)) (steps : List DerivedStep) → steps_in history ≡ length steps → log_of (weave history steps) ≡ steps
log_of-weave [] [] count = refl
log_of-weave [] (step ∷ steps) count = absurd (omega arith)
log_of-weave (Some lit ∷ history) steps count = log_of-weave history steps count
log_of-weave (None ∷ history) [] count = absurd (omega arith)
log_of-weave (None ∷ history) (step ∷ steps) count = ap (λ l. step ∷ l) (log_of-weave history steps (omega arith))

pub steps_in-unit : (history : List (Option Lit)) (lit : Lit) → steps_in (history ++ Some lit ∷ []) ≡ steps_in history
steps_in-unit [] lit = refl
steps_in-unit (Some one ∷ history) lit = steps_in-unit history lit
steps_in-unit (None ∷ history) lit = ap (λ n. n + 1) (steps_in-unit history lit)

pub steps_in-step : (history : List (Option Lit)) → steps_in (history ++ None ∷ []) ≡ steps_in history + 1
steps_in-step [] = refl
steps_in-step (Some one ∷ history) = steps_in-step history
steps_in-step (None ∷ history) = ap (λ n. n + 1) (steps_in-step history)

-- ---- the clauses that events make live
pub added_by-append : (one other : List Event) → added_by (one ++ other) ≡ added_by one ++ added_by other
added_by-append [] other = refl
added_by-append (gives lit ∷ one) other = ap (λ cs. (lit ∷ []) ∷ cs) (added_by-append one other)
added_by-append (derives (adds id lits hints) ∷ one) other = ap (λ cs. lits ∷ cs) (added_by-append one other)
added_by-append (derives (drops ids) ∷ one) other = added_by-append one other

pub length-added : (events : List Event) → length (added_by events) ≡ length (units_of events) + adds_in (log_of events)
length-added [] = refl
length-added (gives lit ∷ events) = let rest : length (added_by events) ≡ length (units_of events) + adds_in (log_of events) = length-added events in omega arith
length-added (derives (adds id lits hints) ∷ events) = let rest : length (added_by events) ≡ length (units_of events) + adds_in (log_of events) = length-added events in omega arith
length-added (derives (drops ids) ∷ events) = length-added events

pub adds_in-all : (steps : List DerivedStep) → All IsAdd steps → adds_in steps ≡ length steps
adds_in-all [] all = refl
adds_in-all (adds id lits hints ∷ steps) all = let rest : adds_in steps ≡ length steps = adds_in-all steps (All-tail IsAdd (adds id lits hints) steps all) in omega arith
adds_in-all (drops ids ∷ steps) all = absurd (All-head IsAdd (drops ids) steps all)

-- ---- the search comes to one clause more
at_more : (search : Search) (vars : ℕ) (formula clauses : List (List Lit)) (number : ClauseId) (lits : List Lit) → IsAt search vars formula clauses → number.0 ≡ next_number search → search.database.live ++ record { id = number; lits = lits } ∷ [] ≡ numbered_from 1 (clauses ++ lits ∷ [])
at_more search vars formula clauses number lits at is =
    let one : record { 0 = 1 + length clauses } ≡ number = ap (λ n. record { 0 = n }) (omega (arith, at.last, is)) in
    ap (λ (l : List NumberedClause). l ++ record { id = number; lits = lits } ∷ []) at.live
    ∙ (ap (λ (i : ClauseId). numbered_from 1 clauses ++ record { id = i; lits = lits } ∷ []) (sym one) ∙ sym (numbered-push 1 clauses lits))

pub at_unit : (search : Search) (vars : ℕ) (formula clauses : List (List Lit)) (lit : Lit) → IsAt search vars formula clauses → IsAt (after_event search (gives lit)) vars formula (clauses ++ (lit ∷ []) ∷ [])
at_unit search vars formula clauses lit at = record {
  same_vars = at.same_vars;
  same_formula = at.same_formula;
  live = at_more search vars formula clauses (record { 0 = next_number search }) (lit ∷ []) at refl;
  last = omega (arith, at.last, length_push clauses (lit ∷ []));
}

pub at_add : (search : Search) (vars : ℕ) (formula clauses : List (List Lit)) (id : ClauseId) (lits : List Lit) (hints : List ClauseId) → IsAt search vars formula clauses → id.0 ≡ next_number search → IsAt (after_event search (derives (adds id lits hints))) vars formula (clauses ++ lits ∷ [])
at_add search vars formula clauses id lits hints at is = record {
  same_vars = at.same_vars;
  same_formula = at.same_formula;
  live = at_more search vars formula clauses id lits at is;
  last = omega (arith, at.last, is, length_push clauses lits);
}

-- ---- the trail that has gone back
pub IsTrail-back : (t t' : TrailParts) (level : ℕ) → IsTrail t → level ≤ t.present → t'.vars ≡ t.vars → IsCutBack level t.entries t'.entries → t'.read ≡ min t.read (length t'.entries) → t'.present ≡ level → IsTrail t'
IsTrail-back t t' level laws low vars cut read present =
    let long : length t'.entries ≡ cut.size = ap length cut.front ∙ length-take-le cut.size t.entries cut.within in
    let make : ℕ → List Rattle.search_trail.specs.declared.entry.Entry.Entry → ℕ → ℕ → TrailParts = λ v es r p. record { vars = v; entries = es; read = r; present = p } in
    let kept = subst (All (λ (e : Rattle.search_trail.specs.declared.entry.Entry.Entry). e.level ≤ level)) cut.front cut.kept in
    let is : t' ≡ make t.vars (take cut.size t.entries) (min t.read cut.size) level =
    ap (λ v. make v t'.entries t'.read t'.present) vars
    ∙ (ap (λ es. make t.vars es t'.read t'.present) cut.front
    ∙ (ap (λ r. make t.vars (take cut.size t.entries) r t'.present) (read ∙ ap (min t.read) long)
    ∙ ap (make t.vars (take cut.size t.entries) (min t.read cut.size)) present)) in
    subst IsTrail (sym is) (IsTrail-cut t cut.size level laws cut.within kept cut.gone low)

-- ---- a conflict
lits_here : (clauses : List (List Lit)) (n : ℕ) → n < length clauses → (d : List Lit) → get_or clauses n d ≡ get_or clauses n []
lits_here [] n within d = absurd (omega arith)
lits_here (clause ∷ clauses) zero within d = refl
lits_here (clause ∷ clauses) (suc n) within d = lits_here clauses n (omega arith) d

pub conflict_of : (clauses : List (List Lit)) (t : TrailParts) (id : ClauseId) → IsPlain clauses t → IsFalseClause clauses t id → IsConflict (numbered_from 1 clauses) t id
conflict_of clauses t id plain false_clause =
    let place : ℕ = id.0 - 1 in
    let within : place < length clauses = omega (arith, false_clause.first, false_clause.last) in
    let number : record { 0 = 1 + place } ≡ id = ap (λ n. record { 0 = n }) (omega (arith, false_clause.first)) in
    record {
      lits = get_or clauses place [];
      stands = ap (Rattle.sat_core.specs.Hints.clause_of (numbered_from 1 clauses)) (sym number) ∙ clause_of-numbered clauses 1 place [] within;
      all_false = false_clause.all_false;
      at_present = λ above. at_present t (get_or clauses place []) plain.laws above (plain.closed_below (t.present - 1) (omega arith) place [] within) false_clause.all_false;
    }

pub clauses_over : (clauses : List (List Lit)) (t : TrailParts) → IsPlain clauses t → All (λ (c : NumberedClause). IsClause t.vars c.lits) (numbered_from 1 clauses)
clauses_over clauses t plain = numbered_all (IsClause t.vars) 1 clauses plain.clauses_over

-- a list has an empty clause or none is empty
empty_cases : (clauses : List (List Lit)) → All (λ c. c ≢ []) clauses ⊎ Contains clauses []
empty_cases [] = inl (All-nil (λ (c : List Lit). c ≢ []))
empty_cases ([] ∷ clauses) = inr (0, omega arith, refl)
empty_cases ((lit ∷ lits) ∷ clauses) = elim (empty_cases clauses) [
  | inl none ↦ inl (All-cons (λ (c : List Lit). c ≢ []) (lit ∷ lits) clauses (λ same. absurd (cc)) none)
  | inr some ↦ inr (suc some.0, omega (arith, some.1), some.2)
]

-- units and learned clauses aren't empty while nothing is refuted
none_empty : (events : List Event) → AddNoEmptyClause (log_of events) → All (λ c. c ≢ []) (added_by events)
none_empty [] none = All-nil (λ (c : List Lit). c ≢ [])
none_empty (gives lit ∷ events) none = All-cons (λ (c : List Lit). c ≢ []) (lit ∷ []) (added_by events) (λ same. absurd (cc)) (none_empty events none)
none_empty (derives (adds id [] hints) ∷ events) none = absurd (All-head (λ (step : DerivedStep). ¬ AddsEmptyClause (Some step)) (adds id [] hints) (log_of events) none tt)
none_empty (derives (adds id (lit ∷ lits) hints) ∷ events) none = All-cons (λ (c : List Lit). c ≢ []) (lit ∷ lits) (added_by events) (λ same. absurd (cc)) (none_empty events (All-tail (λ (step : DerivedStep). ¬ AddsEmptyClause (Some step)) (adds id (lit ∷ lits) hints) (log_of events) none))
none_empty (derives (drops ids) ∷ events) none = none_empty events (All-tail (λ (step : DerivedStep). ¬ AddsEmptyClause (Some step)) (drops ids) (log_of events) none)

fresh_empty : (formula added clauses : List (List Lit)) → clauses ≡ formula ++ added → All (λ c. c ≢ []) added → IsFresh formula (numbered_from 1 clauses) []
unfolding IsFresh
fresh_empty formula added clauses all none = elim (empty_cases formula) [
  | inl fine ↦ inl (numbered_all (λ c. c ≢ []) 1 clauses (subst (All (λ c. c ≢ [])) (sym all) (All-append (λ (c : List Lit). c ≢ []) formula added fine none)))
  | inr some ↦ inr some
]

-- what is learned is fresh
fresh_learned : (formula added clauses : List (List Lit)) (t : TrailParts) (lits : List Lit) (hints : List ClauseId) (level : ℕ) → IsPlain clauses t → clauses ≡ formula ++ added → All (λ c. c ≢ []) added → IsLearnedFrom (numbered_from 1 clauses) t lits hints level → IsFresh formula (numbered_from 1 clauses) lits
fresh_learned formula added clauses t lits hints level plain all none learned = elim (cases_eq t.present 0) [
  | inl bottom ↦ subst (IsFresh formula (numbered_from 1 clauses)) (sym (learned.at_zero bottom)) (fresh_empty formula added clauses all none)
  | inr above ↦
      let head = learned.asserting (omega arith) in
      IsFresh-learned formula (numbered_from 1 clauses) t lits level plain.laws (closed_at clauses t level head.lower plain) head
]

-- the learned step may come next
pub step_learned : (search : Search) (vars : ℕ) (formula clauses : List (List Lit)) (events : List Event) (t : TrailParts) (id : ClauseId) (lits : List Lit) (hints : List ClauseId) (level : ℕ) → IsAt search vars formula clauses → t.vars ≡ vars → IsPlain clauses t → clauses ≡ formula ++ added_by events → AddNoEmptyClause (log_of events) → id.0 ≡ length clauses + 1 → IsLearnedFrom (numbered_from 1 clauses) t lits hints level → IsLearned search id lits hints
step_learned search vars formula clauses events t id lits hints level at same_vars plain all none number learned = record {
  numbered = omega (arith, number, at.last);
  accepted = record {
    in_order = omega (arith, number, at.last);
    clause = subst (λ n. IsClause n lits) (same_vars ∙ sym at.same_vars) learned.clause;
    conflict = subst (λ (l : List NumberedClause). hints_fault l (map negated lits) hints ≡ None) (sym at.live) learned.accepted;
  };
  fresh =
      subst (λ (f : List (List Lit)). IsFresh f search.database.live lits) (sym at.same_formula)
      (subst (λ (l : List NumberedClause). IsFresh formula l lits) (sym at.live) (fresh_learned formula (added_by events) clauses t lits hints level plain all (none_empty events none) learned));
}

-- ---- the end of the log
ends_at : (steps : List DerivedStep) (step : DerivedStep) → slice_get (steps ++ step ∷ []) (length (steps ++ step ∷ []) - 1) ≡ Some step
ends_at steps step =
    let place : length (steps ++ step ∷ []) - 1 ≡ length steps = omega (arith, length_push steps step) in
    ap (slice_get (steps ++ step ∷ [])) place ∙ last steps step where
      last : (steps : List DerivedStep) (step : DerivedStep) → slice_get (steps ++ step ∷ []) (length steps) ≡ Some step
      last [] step = refl
      last (one ∷ steps) step = last steps step

pub ends_in_add : (steps : List DerivedStep) (id : ClauseId) (lits : List Lit) (hints : List ClauseId) → EndsInAdd (steps ++ adds id lits hints ∷ [])
ends_in_add steps id lits hints = (id, lits, hints, ends_at steps (adds id lits hints))

pub refuted_now : (steps : List DerivedStep) (id : ClauseId) (lits : List Lit) (hints : List ClauseId) (refuted : Bool) → Refuted false steps → (refuted ≡ true → lits ≡ []) → (refuted ≡ false → lits ≢ []) → Refuted refuted (steps ++ adds id lits hints ∷ [])
refuted_now steps id [] hints true none empty some = subst AddsEmptyClause (sym (ends_at steps (adds id [] hints))) tt
refuted_now steps id [] hints false none empty some = absurd (some refl refl)
refuted_now steps id (lit ∷ lits) hints true none empty some = absurd (cc (empty refl))
refuted_now steps id (lit ∷ lits) hints false none empty some = All-push (λ (step : DerivedStep). ¬ AddsEmptyClause (Some step)) steps (adds id (lit ∷ lits) hints) none (λ bad. bad)
