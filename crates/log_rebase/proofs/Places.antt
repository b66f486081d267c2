-- Where the units and the added clauses of a search stand among the new numbers.
use Rattle.std.proofs.Common.{◌≡◌, ℕ, ◌+◌, ◌<◌, ◌≤◌, List, [], ◌∷◌, ◌++◌, length, refl, sym, ap, subst, ◌∙◌, arith}
use Rattle.std.specs.Prelude.{Some, None}
use Rattle.std.proofs.lemmas.Bool.{eq-eqb, ne_eqb}
use Rattle.std.proofs.lemmas.List.{append_assoc, length-append}
use Rattle.sat_core.specs.declared.literal.Lit.{Lit}
use Rattle.sat_core.specs.Hints.{NumberedClause, clause_of}
use Rattle.sat_core.specs.Derivation.{adds, drops}
use Rattle.sat_core.specs.Search.{Event, gives, derives, Search, after_event, AreNext}
use Rattle.log_rebase.specs.declared.mark.UnitMark.{UnitMark}
use Rattle.log_rebase.specs.Rebasing.{RiseFrom, marks_above, next_place, place_among, mark_number, renumbered, AreMarksOf}
use Rattle.log_rebase.proofs.Numbering.{yes_below, not_below, all_above}
use Rattle.log_rebase.proofs.Simulation.{UnitsLive, Rises}

pub rise_weaken : (a b : ℕ) (marks : List UnitMark) → RiseFrom a marks → b ≤ a → RiseFrom b marks
rise_weaken a b [] rise less = tt
rise_weaken a b (mark ∷ marks) rise less = let first : a < mark.id.0 = rise.0 in (omega arith, rise.1)

-- the marks of events rise
pub marks_rise : (last : ℕ) (events : List Event) (marks : List UnitMark) → AreMarksOf last events marks → RiseFrom last marks
marks_rise last [] [] are = tt
marks_rise last [] (mark ∷ marks) are = absurd are
marks_rise last (gives lit ∷ events) [] are = absurd are
marks_rise last (gives lit ∷ events) (mark ∷ marks) are = (omega (arith, are.0), subst (λ (n : ℕ). RiseFrom n marks) (sym are.0) (marks_rise (last + 1) events marks are.2))
marks_rise last (derives (adds id lits hints) ∷ events) marks are = rise_weaken (last + 1) last marks (marks_rise (last + 1) events marks are) (omega arith)
marks_rise last (derives (drops ids) ∷ events) marks are = marks_rise last events marks are

rise_reach : (last : ℕ) (past : List UnitMark) (mark : UnitMark) (rest : List UnitMark) → RiseFrom last (past ++ mark ∷ rest) → last < mark.id.0
rise_reach last [] mark rest rise = rise.0
rise_reach last (p ∷ past) mark rest rise = let one : last < p.id.0 = rise.0 in let other : p.id.0 < mark.id.0 = rise_reach p.id.0 past mark rest rise.1 in omega arith

pub place_at : (last : ℕ) (past : List UnitMark) (mark : UnitMark) (rest : List UnitMark) → RiseFrom last (past ++ mark ∷ rest) → place_among mark.id.0 (past ++ mark ∷ rest) ≡ Some (length past)
place_at last [] mark rest rise = rw (eq-eqb mark.id.0 mark.id.0 refl) refl
place_at last (p ∷ past) mark rest rise =
    let before : p.id.0 < mark.id.0 = rise_reach p.id.0 past mark rest rise.1 in
    rw (ne_eqb mark.id.0 p.id.0 (λ same. omega arith)) (ap next_place (place_at p.id.0 past mark rest rise.1) ∙ ap (λ (n : ℕ). Some n) (omega arith))

-- each mark's clause is live under its new number
abbrev pub MarksLive : ℕ → List NumberedClause → List UnitMark → Type 0
MarksLive clauses live all = (past : List UnitMark) (mark : UnitMark) (rest : List UnitMark) → all ≡ past ++ mark ∷ rest
    → clause_of live (record { 0 = mark_number clauses (length all) (length past) }) ≡ Some (mark.lit ∷ [])

pub units_live : (clauses : ℕ) (all past future : List UnitMark) (live : List NumberedClause) (last : ℕ) (events : List Event) → all ≡ past ++ future → RiseFrom clauses all → clauses ≤ last
    → AreMarksOf last events future → MarksLive clauses live all → UnitsLive (renumbered clauses all) last live events
units_live clauses all past future live last [] split rise behind are marks = tt
units_live clauses all past [] live last (gives lit ∷ events) split rise behind are marks = absurd are
units_live clauses all past (mark ∷ future) live last (gives lit ∷ events) split rise behind are marks =
    let found : place_among (last + 1) all ≡ Some (length past) =
    subst (λ (n : ℕ). place_among n all ≡ Some (length past)) are.0
    (subst (λ (l : List UnitMark). place_among mark.id.0 l ≡ Some (length past)) (sym split) (place_at clauses past mark future (subst (λ (l : List UnitMark). RiseFrom clauses l) split rise))) in
    let number : renumbered clauses all (last + 1) ≡ mark_number clauses (length all) (length past) = rw (yes_below clauses (last + 1) (omega arith), found) refl in
    let is : clause_of live (record { 0 = mark_number clauses (length all) (length past) }) ≡ Some (mark.lit ∷ []) = marks past mark future split in (
      subst (λ (n : ℕ). clause_of live (record { 0 = n }) ≡ Some (lit ∷ [])) (sym number) (is ∙ ap (λ (l : Lit). Some (l ∷ [])) are.1),
      units_live clauses all (past ++ mark ∷ []) future live (last + 1) events (split ∙ sym (append_assoc past (mark ∷ []) future)) rise (omega arith) are.2 marks,
    )
units_live clauses all past future live last (derives (adds id lits hints) ∷ events) split rise behind are marks = units_live clauses all past future live (last + 1) events split rise (omega arith) are marks
units_live clauses all past future live last (derives (drops ids) ∷ events) split rise behind are marks = units_live clauses all past future live last events split rise behind are marks

abbrev pub UpTo : ℕ → List UnitMark → Type 0
UpTo last [] = Unit {0}
UpTo last (mark ∷ marks) = (mark.id.0 ≤ last) × UpTo last marks

up_to_push : (last now : ℕ) (past : List UnitMark) (mark : UnitMark) → UpTo last past → last ≤ now → mark.id.0 ≤ now → UpTo now (past ++ mark ∷ [])
up_to_push last now [] mark up grows low = (low, tt)
up_to_push last now (p ∷ past) mark up grows low = let first : p.id.0 ≤ last = up.0 in (omega arith, up_to_push last now past mark up.1 grows low)

up_to_more : (last now : ℕ) (past : List UnitMark) → UpTo last past → last ≤ now → UpTo now past
up_to_more last now [] up grows = tt
up_to_more last now (p ∷ past) up grows = let first : p.id.0 ≤ last = up.0 in (omega arith, up_to_more last now past up.1 grows)

none_above : (number : ℕ) (future : List UnitMark) → RiseFrom number future → place_among number future ≡ None
none_above number [] rise = refl
none_above number (mark ∷ future) rise =
    let first : number < mark.id.0 = rise.0 in
    rw (ne_eqb number mark.id.0 (λ same. omega arith)) (ap next_place (none_above number future (rise_weaken mark.id.0 number future rise.1 (omega arith))))

-- a number between the marks so far and those to come is none of theirs, and all that come are above it
place_between : (last number : ℕ) (past future : List UnitMark) → UpTo last past → last < number → RiseFrom number future → place_among number (past ++ future) ≡ None
place_between last number [] future up high rise = none_above number future rise
place_between last number (p ∷ past) future up high rise =
    let low : p.id.0 ≤ last = up.0 in
    rw (ne_eqb number p.id.0 (λ same. omega arith)) (ap next_place (place_between last number past future up.1 high rise))

above_between : (last number : ℕ) (past future : List UnitMark) → UpTo last past → last < number → RiseFrom number future → marks_above number (past ++ future) ≡ length future
above_between last number [] future up high rise = all_above number number future rise (omega arith)
above_between last number (p ∷ past) future up high rise =
    let low : p.id.0 ≤ last = up.0 in
    let rest : marks_above number (past ++ future) ≡ length future = above_between last number past future up.1 high rise in
    rw (not_below number p.id.0 (omega arith)) (omega arith)

pub rises_on : (clauses : ℕ) (all past future : List UnitMark) (s : Search) (now added : ℕ) (events : List Event) → all ≡ past ++ future → RiseFrom clauses all → UpTo s.database.last past → clauses ≤ s.database.last
    → s.database.last ≡ clauses + added + length past → now ≡ clauses + length all + added → AreNext s events → AreMarksOf s.database.last events future → Rises (renumbered clauses all) now events
rises_on clauses all past future s now added [] split rise up behind old new are marks = tt
rises_on clauses all past [] s now added (gives lit ∷ events) split rise up behind old new are marks = absurd marks
rises_on clauses all past (mark ∷ future) s now added (gives lit ∷ events) split rise up behind old new are marks =
    let longer : length (past ++ mark ∷ []) ≡ length past + 1 = length-append past (mark ∷ []) in
    rises_on clauses all (past ++ mark ∷ []) future (after_event s (gives lit)) now added events (split ∙ sym (append_assoc past (mark ∷ []) future)) rise
    (up_to_push s.database.last (s.database.last + 1) past mark up (omega arith) (omega (arith, marks.0))) (omega arith) (omega arith) new are.1 marks.2
rises_on clauses all past future s now added (derives (adds id lits hints) ∷ events) split rise up behind old new are marks =
    let next : id.0 ≡ s.database.last + 1 = are.0.numbered in
    let coming : RiseFrom id.0 future = subst (λ (n : ℕ). RiseFrom n future) (sym next) (marks_rise (s.database.last + 1) events future marks) in
    let none : place_among id.0 all ≡ None = subst (λ (l : List UnitMark). place_among id.0 l ≡ None) (sym split) (place_between s.database.last id.0 past future up (omega arith) coming) in
    let count : marks_above id.0 all ≡ length future = subst (λ (l : List UnitMark). marks_above id.0 l ≡ length future) (sym split) (above_between s.database.last id.0 past future up (omega arith) coming) in
    let number : renumbered clauses all id.0 ≡ id.0 + length future = rw (yes_below clauses id.0 (omega arith), none) (omega arith) in
    let lengths : length all ≡ length past + length future = ap length split ∙ length-append past future in (
      omega arith,
      rises_on clauses all past future (after_event s (derives (adds id lits hints))) (renumbered clauses all id.0) (added + 1) events split rise
          (up_to_more s.database.last id.0 past up (omega arith)) (omega arith) (omega arith) (omega arith) are.1 (subst (λ (n : ℕ). AreMarksOf n events future) (sym next) marks),
    )
rises_on clauses all past future s now added (derives (drops ids) ∷ events) split rise up behind old new are marks =
    rises_on clauses all past future (after_event s (derives (drops ids))) now added events split rise up behind old new are.1 marks
