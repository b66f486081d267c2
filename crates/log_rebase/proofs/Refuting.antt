-- A rebased log refutes the formula with the last unit.
use Rattle.std.proofs.Common.{◌≡◌, ℕ, suc, ◌+◌, ◌-◌, ◌≤◌, inl, inr, List, [], ◌∷◌, ◌++◌, length, map, refl, sym, ap, subst, ◌∙◌, arith}
use Rattle.std.specs.Prelude.{Some, None}
use Rattle.std.proofs.lemmas.Bool.{cases_eq, eq-eqb, ne_eqb}
use Rattle.std.proofs.lemmas.List.{append_assoc, length-append}
use Rattle.std.proofs.lemmas.List.Elements.{All-nil, All-cons, All-head, All-tail, All-push}
use Rattle.sat_core.specs.declared.literal.Lit.{Lit}
use Rattle.sat_core.specs.declared.literal.ClauseId.{ClauseId}
use Rattle.sat_core.specs.Clauses.{negated, IsOver, IsClause}
use Rattle.sat_core.specs.Hints.{NumberedClause, clause_of, hints_fault}
use Rattle.sat_core.specs.Derivation.{DerivedStep, adds, drops, ClauseDatabase, numbered_from, database_of, after, after_all, AreAccepted, AddsEmptyClause, EndsInEmptyClause}
use Rattle.sat_core.specs.Search.{Event, gives, derives, Search, search_of, after_event, AreNext, log_of}
use Rattle.log_rebase.specs.declared.mark.UnitMark.{UnitMark}
use Rattle.log_rebase.specs.Rebasing.{RiseFrom, mark_number, renumbered, with_numbers, derive_marks, AreMarksOf, with_last, AreDerived, RebasedRefutes}
use Rattle.log_rebase.proofs.Carried.{Carries, renamed, hints_carried, found_still, AreUpTo, found_new}
use Rattle.log_rebase.proofs.Simulation.{simulates}
use Rattle.log_rebase.proofs.Numbering.{renumbered_apart, not_below}
use Rattle.log_rebase.proofs.Places.{MarksLive, marks_rise, units_live, rises_on}

-- the clauses of a formula, and one more
numbered_push : (first : ℕ) (formula : List (List Lit)) (clause : List Lit) → numbered_from first (formula ++ clause ∷ []) ≡ numbered_from first formula ++ record { id = record { 0 = first + length formula }; lits = clause } ∷ []
numbered_push first [] clause = ap (λ (n : ℕ). record { id = record { 0 = n }; lits = clause } ∷ []) (omega arith)
numbered_push first (c ∷ formula) clause =
    ap (λ (l : List NumberedClause). record { id = record { 0 = first }; lits = c } ∷ l)
    (numbered_push (first + 1) formula clause ∙ ap (λ (n : ℕ). numbered_from (first + 1) formula ++ record { id = record { 0 = n }; lits = clause } ∷ []) (omega arith))

numbered_up_to : (first last : ℕ) (formula : List (List Lit)) → first + length formula ≤ last + 1 → AreUpTo last (numbered_from first formula)
numbered_up_to first last [] within = All-nil (λ c. c.id.0 ≤ last)
numbered_up_to first last (c ∷ formula) within =
    All-cons (λ c. c.id.0 ≤ last) (record { id = record { 0 = first }; lits = c }) (numbered_from (first + 1) formula) (omega arith) (numbered_up_to (first + 1) last formula (omega arith))

found_low : (last : ℕ) (live : List NumberedClause) (id : ClauseId) (lits : List Lit) → AreUpTo last live → clause_of live id ≡ Some lits → id.0 ≤ last
found_low last [] id lits up is = absurd (cc)
found_low last (first ∷ live) id lits up is =
    elim (cases_eq first.id.0 id.0) [
      | inl same ↦ let low : first.id.0 ≤ last = All-head (λ c. c.id.0 ≤ last) first live up in omega arith
      | inr differs ↦ found_low last live id lits (All-tail (λ c. c.id.0 ≤ last) first live up) (rw (ne_eqb first.id.0 id.0 differs) at is)
    ]

abbrev same_number : ℕ → ℕ
same_number n = n

names_same : (hints : List ClauseId) → map (renamed same_number) hints ≡ hints
names_same [] = refl
names_same (hint ∷ hints) = ap (λ (l : List ClauseId). hint ∷ l) (names_same hints)

-- a unit is a clause
unit_clause : (vars : ℕ) (lit : Lit) → IsOver vars lit → IsClause vars (lit ∷ [])
unit_clause vars lit over = record {
  in_range = All-cons (IsOver vars) lit [] over (All-nil (IsOver vars));
  no_variable_twice = λ i j d less within. absurd (omega arith);
}

-- the literals of the marks are over the variables
abbrev AreOver : ℕ → List UnitMark → Type 0
AreOver vars [] = Unit {0}
AreOver vars (mark ∷ marks) = IsOver vars mark.lit × AreOver vars marks

-- what the steps of the marks leave
record IsBegun (d e : ClauseDatabase) (marks : List UnitMark) : Type 0 where
  vars : e.vars ≡ d.vars
  last : e.last ≡ d.last + (length marks - 1)
  up : AreUpTo e.last e.live
  carries : Carries same_number d.live e.live
  live : (past : List UnitMark) (mark next : UnitMark) (rest : List UnitMark) → marks ≡ past ++ mark ∷ next ∷ rest → clause_of e.live (record { 0 = d.last + 1 + length past }) ≡ Some (mark.lit ∷ [])

not_two : (past : List UnitMark) (m mark next : UnitMark) (rest : List UnitMark) → m ∷ [] ≡ past ++ mark ∷ next ∷ rest → ⊥
not_two [] m mark next rest e = cc
not_two (p ∷ []) m mark next rest e = cc
not_two (p ∷ q ∷ past) m mark next rest e = cc

not_none : (past : List UnitMark) (mark : UnitMark) (rest : List UnitMark) → [] ≡ past ++ mark ∷ rest → ⊥
not_none [] mark rest e = cc
not_none (p ∷ past) mark rest e = cc

abbrev with_unit : ClauseDatabase → UnitMark → ClauseDatabase
with_unit d mark = after d (adds (record { 0 = d.last + 1 }) (mark.lit ∷ []) mark.hints)

unit_up : (d : ClauseDatabase) (mark : UnitMark) → AreUpTo d.last d.live → AreUpTo (with_unit d mark).last (with_unit d mark).live
unit_up d mark up = All-push (λ c. c.id.0 ≤ d.last + 1) d.live (record { id = record { 0 = d.last + 1 }; lits = mark.lit ∷ [] }) (λ k d' lt. omega (arith, up k d' lt)) (omega arith)

unit_carries : (d : ClauseDatabase) (mark : UnitMark) → Carries same_number d.live (with_unit d mark).live
unit_carries d mark = λ id lits is. found_still d.live (record { id = record { 0 = d.last + 1 }; lits = mark.lit ∷ [] }) id lits is

begun_live : (d e : ClauseDatabase) (m n : UnitMark) (marks : List UnitMark) → AreUpTo d.last d.live → IsBegun (with_unit d m) e (n ∷ marks)
    → (past : List UnitMark) (mark next : UnitMark) (rest : List UnitMark) → m ∷ n ∷ marks ≡ past ++ mark ∷ next ∷ rest → clause_of e.live (record { 0 = d.last + 1 + length past }) ≡ Some (mark.lit ∷ [])
begun_live d e m n marks up begun [] mark next rest split =
    let same : m ≡ mark = cc in
    let found : clause_of (with_unit d m).live (record { 0 = d.last + 1 }) ≡ Some (m.lit ∷ []) =
    found_new d.last d.live (record { id = record { 0 = d.last + 1 }; lits = m.lit ∷ [] }) up (omega arith) in
    let number : d.last + 1 ≡ d.last + 1 + 0 = omega arith in
    subst (λ (k : ℕ). clause_of e.live (record { 0 = k }) ≡ Some (mark.lit ∷ [])) number
    (begun.carries (record { 0 = d.last + 1 }) (mark.lit ∷ []) (found ∙ ap (λ (x : UnitMark). Some (x.lit ∷ [])) same))
begun_live d e m n marks up begun (p ∷ past) mark next rest split =
    let tail : n ∷ marks ≡ past ++ mark ∷ next ∷ rest = cc in
    let number : d.last + 1 + 1 + length past ≡ d.last + 1 + length (p ∷ past) = omega arith in
    subst (λ (k : ℕ). clause_of e.live (record { 0 = k }) ≡ Some (mark.lit ∷ [])) number (begun.live past mark next rest tail)

-- the marks are derived one after another
begin_marks : (base : List NumberedClause) (d : ClauseDatabase) (marks : List UnitMark) → AreUpTo d.last d.live → Carries same_number base d.live → AreOver d.vars marks → AreDerived base marks
    → AreAccepted d (derive_marks (d.last + 1) marks) × IsBegun d (after_all d (derive_marks (d.last + 1) marks)) marks
begin_marks base d [] up carries over each = (
  tt,
  record {
    vars = refl;
    last = omega arith;
    up = up;
    carries = λ id lits is. is;
    live = λ past mark next rest split. absurd (not_none past mark (next ∷ rest) split);
  },
)
begin_marks base d (m ∷ []) up carries over each = (
  tt,
  record {
    vars = refl;
    last = omega arith;
    up = up;
    carries = λ id lits is. is;
    live = λ past mark next rest split. absurd (not_two past m mark next rest split);
  },
)
begin_marks base d (m ∷ n ∷ marks) up carries over each =
    let d' : ClauseDatabase = with_unit d m in
    let further = begin_marks base d' (n ∷ marks) (unit_up d m up) (λ id lits is. unit_carries d m id lits (carries id lits is)) over.1 each.1 in
    let begun = further.1 in (
      (
        record {
          in_order = omega arith;
          clause = unit_clause d.vars m.lit over.0;
          conflict = subst (λ (h : List ClauseId). hints_fault d.live (negated m.lit ∷ []) h ≡ None) (names_same m.hints) (hints_carried same_number base d.live (negated m.lit ∷ []) m.hints carries each.0);
        },
        further.0,
      ),
      record {
        vars = begun.vars;
        last = begun.last ∙ omega arith;
        up = begun.up;
        carries = λ id lits is. begun.carries id lits (unit_carries d m id lits is);
        live = begun_live d (after_all d' (derive_marks (d'.last + 1) (n ∷ marks))) m n marks up begun;
      },
    )

marks_over : (s : Search) (last : ℕ) (events : List Event) (marks : List UnitMark) → AreNext s events → AreMarksOf last events marks → AreOver s.database.vars marks
marks_over s last [] [] are marks = tt
marks_over s last [] (m ∷ ms) are marks = absurd marks
marks_over s last (gives lit ∷ events) [] are marks = absurd marks
marks_over s last (gives lit ∷ events) (m ∷ ms) are marks = (subst (λ (l : Lit). IsOver s.database.vars l) (sym marks.1) are.0, marks_over (after_event s (gives lit)) (last + 1) events ms are.1 marks.2)
marks_over s last (derives (adds id lits hints) ∷ events) ms are marks = marks_over (after_event s (derives (adds id lits hints))) (last + 1) events ms are.1 marks
marks_over s last (derives (drops ids) ∷ events) ms are marks = marks_over (after_event s (derives (drops ids))) last events ms are.1 marks

accepted_append : (d : ClauseDatabase) (one other : List DerivedStep) → AreAccepted d one → AreAccepted (after_all d one) other → AreAccepted d (one ++ other)
accepted_append d [] other first second = second
accepted_append d (step ∷ one) other first second = (first.0, accepted_append (after d step) one other first.1 second)

ends_cons : (step second : DerivedStep) (steps : List DerivedStep) → EndsInEmptyClause (second ∷ steps) → EndsInEmptyClause (step ∷ second ∷ steps)
ends_cons step second steps ends =
    let one : length (step ∷ second ∷ steps) - 1 ≡ suc (length steps) = omega arith in
    let other : length (second ∷ steps) - 1 ≡ length steps = omega arith in
    rw one (rw other at ends)

ends_back : (step second : DerivedStep) (steps : List DerivedStep) → EndsInEmptyClause (step ∷ second ∷ steps) → EndsInEmptyClause (second ∷ steps)
ends_back step second steps ends =
    let one : length (step ∷ second ∷ steps) - 1 ≡ suc (length steps) = omega arith in
    let other : length (second ∷ steps) - 1 ≡ length steps = omega arith in
    rw other (rw one at ends)

ends_behind : (front : List DerivedStep) (step : DerivedStep) (steps : List DerivedStep) → EndsInEmptyClause (step ∷ steps) → EndsInEmptyClause (front ++ step ∷ steps)
ends_behind [] step steps ends = ends
ends_behind (first ∷ []) step steps ends = ends_cons first step steps ends
ends_behind (first ∷ second ∷ front) step steps ends = ends_cons first second (front ++ step ∷ steps) (ends_behind (second ∷ front) step steps ends)

empty_still : (f : ℕ → ℕ) (step : DerivedStep) → AddsEmptyClause (Some step) → AddsEmptyClause (Some (with_numbers f step))
empty_still f (adds id [] hints) empty = tt
empty_still f (adds id (lit ∷ lits) hints) empty = absurd empty
empty_still f (drops ids) empty = absurd empty

ends_still : (f : ℕ → ℕ) (front steps : List DerivedStep) → EndsInEmptyClause steps → EndsInEmptyClause (front ++ map (with_numbers f) steps)
ends_still f front [] ends = absurd ends
ends_still f front (step ∷ []) ends = ends_behind front (with_numbers f step) [] (empty_still f step ends)
ends_still f front (step ∷ second ∷ steps) ends =
    subst EndsInEmptyClause (append_assoc front (with_numbers f step ∷ []) (map (with_numbers f) (second ∷ steps)))
    (ends_still f (front ++ with_numbers f step ∷ []) (second ∷ steps) (ends_back step second steps ends))

abbrev base_of : ℕ → List (List Lit) → List UnitMark → ClauseDatabase
base_of vars formula marks = database_of vars (with_last formula marks)

abbrev begun_of : ℕ → List (List Lit) → List UnitMark → ClauseDatabase
begun_of vars formula marks = after_all (base_of vars formula marks) (derive_marks ((base_of vars formula marks).last + 1) marks)

-- the formula with the last unit: its length, its old clauses, and the unit
with_last_length : (formula : List (List Lit)) (mark : UnitMark) (marks : List UnitMark) → length (with_last formula (mark ∷ marks)) ≡ length formula + 1
with_last_length formula mark [] = length-append formula ((mark.lit ∷ []) ∷ [])
with_last_length formula mark (next ∷ marks) = with_last_length formula next marks

carries_formula : (formula : List (List Lit)) (marks : List UnitMark) → Carries same_number (numbered_from 1 formula) (numbered_from 1 (with_last formula marks))
carries_formula formula [] = λ id lits is. is
carries_formula formula (mark ∷ []) = λ id lits is.
    subst (λ (l : List NumberedClause). clause_of l id ≡ Some lits) (sym (numbered_push 1 formula (mark.lit ∷ [])))
    (found_still (numbered_from 1 formula) (record { id = record { 0 = 1 + length formula }; lits = mark.lit ∷ [] }) id lits is)
carries_formula formula (mark ∷ next ∷ marks) = carries_formula formula (next ∷ marks)

last_live : (formula : List (List Lit)) (past : List UnitMark) (mark : UnitMark) → clause_of (numbered_from 1 (with_last formula (past ++ mark ∷ []))) (record { 0 = length formula + 1 }) ≡ Some (mark.lit ∷ [])
last_live formula [] mark =
    let number : 1 + length formula ≡ length formula + 1 = omega arith in
    subst (λ (l : List NumberedClause). clause_of l (record { 0 = length formula + 1 }) ≡ Some (mark.lit ∷ [])) (sym (numbered_push 1 formula (mark.lit ∷ [])))
    (subst (λ (n : ℕ). clause_of (numbered_from 1 formula ++ record { id = record { 0 = 1 + length formula }; lits = mark.lit ∷ [] } ∷ []) (record { 0 = n }) ≡ Some (mark.lit ∷ [])) number
    (found_new (length formula) (numbered_from 1 formula) (record { id = record { 0 = 1 + length formula }; lits = mark.lit ∷ [] }) (numbered_up_to 1 (length formula) formula (omega arith)) (omega arith)))
last_live formula (p ∷ []) mark = last_live formula [] mark
last_live formula (p ∷ q ∷ past) mark = last_live formula (q ∷ past) mark

marks_live : (vars : ℕ) (formula : List (List Lit)) (m : UnitMark) (ms : List UnitMark) → IsBegun (base_of vars formula (m ∷ ms)) (begun_of vars formula (m ∷ ms)) (m ∷ ms)
    → MarksLive (length formula) (begun_of vars formula (m ∷ ms)).live (m ∷ ms)
marks_live vars formula m ms begun past mark [] split =
    let count : length (m ∷ ms) ≡ length past + 1 = ap length split ∙ length-append past (mark ∷ []) in
    let number : mark_number (length formula) (length (m ∷ ms)) (length past) ≡ length formula + 1 = rw (eq-eqb (length past + 1) (length (m ∷ ms)) (sym count)) refl in
    subst (λ (n : ℕ). clause_of (begun_of vars formula (m ∷ ms)).live (record { 0 = n }) ≡ Some (mark.lit ∷ [])) (sym number)
    (begun.carries (record { 0 = length formula + 1 }) (mark.lit ∷ [])
    (subst (λ (l : List UnitMark). clause_of (numbered_from 1 (with_last formula l)) (record { 0 = length formula + 1 }) ≡ Some (mark.lit ∷ [])) (sym split) (last_live formula past mark)))
marks_live vars formula m ms begun past mark (next ∷ rest) split =
    let count : length (m ∷ ms) ≡ length past + length (mark ∷ next ∷ rest) = ap length split ∙ length-append past (mark ∷ next ∷ rest) in
    let more : length (mark ∷ next ∷ rest) ≡ length rest + 2 = omega arith in
    let lengths : length (with_last formula (m ∷ ms)) ≡ length formula + 1 = with_last_length formula m ms in
    let number : mark_number (length formula) (length (m ∷ ms)) (length past) ≡ length (with_last formula (m ∷ ms)) + 1 + length past =
    rw (ne_eqb (length past + 1) (length (m ∷ ms)) (λ same. omega arith)) (omega arith) in
    subst (λ (n : ℕ). clause_of (begun_of vars formula (m ∷ ms)).live (record { 0 = n }) ≡ Some (mark.lit ∷ [])) (sym number) (begun.live past mark next rest split)

all_live : (vars : ℕ) (formula : List (List Lit)) (marks : List UnitMark) → IsBegun (base_of vars formula marks) (begun_of vars formula marks) marks
    → MarksLive (length formula) (begun_of vars formula marks).live marks
all_live vars formula [] begun = λ past mark rest split. absurd (not_none past mark rest split)
all_live vars formula (m ∷ ms) begun = marks_live vars formula m ms begun

last_begun : (vars : ℕ) (formula : List (List Lit)) (marks : List UnitMark) → IsBegun (base_of vars formula marks) (begun_of vars formula marks) marks → (begun_of vars formula marks).last ≡ length formula + length marks + 0
last_begun vars formula [] begun = begun.last ∙ omega arith
last_begun vars formula (m ∷ ms) begun = begun.last ∙ (let lengths : length (with_last formula (m ∷ ms)) ≡ length formula + 1 = with_last_length formula m ms in omega arith)

carries_low : (vars : ℕ) (formula : List (List Lit)) (marks : List UnitMark) → IsBegun (base_of vars formula marks) (begun_of vars formula marks) marks
    → Carries (renumbered (length formula) marks) (numbered_from 1 formula) (begun_of vars formula marks).live
carries_low vars formula marks begun = λ id lits is.
    let low : id.0 ≤ length formula = found_low (length formula) (numbered_from 1 formula) id lits (numbered_up_to 1 (length formula) formula (omega arith)) is in
    let number : renumbered (length formula) marks id.0 ≡ id.0 = rw (not_below (length formula) id.0 low) refl in
    subst (λ (n : ℕ). clause_of (begun_of vars formula marks).live (record { 0 = n }) ≡ Some lits) (sym number) (begun.carries id lits (carries_formula formula marks id lits is))

-- the numbers of the marks' steps begin behind the formula and the last unit
front_same : (vars : ℕ) (formula : List (List Lit)) (marks : List UnitMark) → derive_marks ((base_of vars formula marks).last + 1) marks ≡ derive_marks (length formula + 2) marks
front_same vars formula [] = refl
front_same vars formula (m ∷ ms) = let lengths : length (with_last formula (m ∷ ms)) ≡ length formula + 1 = with_last_length formula m ms in ap (λ (n : ℕ). derive_marks n (m ∷ ms)) (omega arith)

pub rebased_refutes : RebasedRefutes
rebased_refutes vars formula events marks are ends marked each =
    let s : Search = search_of vars formula in
    let n : ℕ = length formula in
    let f : ℕ → ℕ = renumbered n marks in
    let d : ClauseDatabase = base_of vars formula marks in
    let rise : RiseFrom n marks = marks_rise n events marks marked in
    let begin = begin_marks (numbered_from 1 (with_last formula marks)) d marks (numbered_up_to 1 (length (with_last formula marks)) (with_last formula marks) (omega arith)) (λ id lits is. is) (marks_over s n events marks are marked) each in
    let begun : IsBegun d (begun_of vars formula marks) marks = begin.1 in
    let steps : AreAccepted (begun_of vars formula marks) (map (with_numbers f) (log_of events)) =
    simulates f s (begun_of vars formula marks) events (renumbered_apart n marks rise) are begun.vars
    (numbered_up_to 1 n formula (omega arith)) begun.up (carries_low vars formula marks begun)
    (units_live n marks [] marks (begun_of vars formula marks).live n events refl rise (omega arith) marked (all_live vars formula marks begun))
    (rises_on n marks [] marks s (begun_of vars formula marks).last 0 events refl rise tt (omega arith) (omega arith) (last_begun vars formula marks begun) are marked) in
    let accepted : AreAccepted d (derive_marks (d.last + 1) marks ++ map (with_numbers f) (log_of events)) = accepted_append d (derive_marks (d.last + 1) marks) (map (with_numbers f) (log_of events)) begin.0 steps in
    record {
      accepted = subst (λ (front : List DerivedStep). AreAccepted d (front ++ map (with_numbers f) (log_of events))) (front_same vars formula marks) accepted;
      empty_last = ends_still f (derive_marks (n + 2) marks) (log_of events) ends;
    }
