-- Where a number stands among units whose numbers rise.
use Rattle.std.proofs.Common.{◌≡◌, ◌≢◌, ℕ, zero, suc, ◌+◌, ◌-◌, ◌<◌, ◌≤◌, List, [], ◌∷◌, length, get_or, refl, sym, ap, subst, arith}
use Rattle.std.specs.Prelude.{Some, None}
use Rattle.std.specs.List.Sorted.{IsNonDecreasingBy, IsPartitionPoint}
use Rattle.std.proofs.lemmas.Bool.{eq-eqb, ne_eqb}
use Rattle.std.proofs.lemmas.List.{get_or_default}
use Rattle.log_rebase.specs.declared.mark.UnitMark.{UnitMark}
use Rattle.log_rebase.specs.Rebasing.{RiseFrom, marks_above, place_among, mark_number, renumbered}
use Rattle.log_rebase.proofs.Numbering.{yes_below, not_below}

-- the unit at a place has a number that is above by more than its place
pub above_last : (last : ℕ) (marks : List UnitMark) (k : ℕ) (d : UnitMark) → RiseFrom last marks → k < length marks → last + k < (get_or marks k d).id.0
above_last last [] k d rise within = absurd (omega (arith, within))
above_last last (mark ∷ marks) zero d rise within = omega (arith, rise.0)
above_last last (mark ∷ marks) (suc k) d rise within = let rest = above_last mark.id.0 marks k d rise.1 (omega (arith, within)) in omega (arith, rest, rise.0)

-- numbers rise by one for each place at least
pub rise_between : (last : ℕ) (marks : List UnitMark) (i j : ℕ) (d : UnitMark) → RiseFrom last marks → i ≤ j → j < length marks → (get_or marks i d).id.0 + (j - i) ≤ (get_or marks j d).id.0
rise_between last [] i j d rise low within = absurd (omega (arith, within))
rise_between last (mark ∷ marks) zero zero d rise low within = omega arith
rise_between last (mark ∷ marks) zero (suc j) d rise low within = let rest = above_last mark.id.0 marks j d rise.1 (omega (arith, within)) in omega (arith, rest)
rise_between last (mark ∷ marks) (suc i) zero d rise low within = absurd (omega (arith, low))
rise_between last (mark ∷ marks) (suc i) (suc j) d rise low within = let rest = rise_between mark.id.0 marks i j d rise.1 (omega (arith, low)) (omega (arith, within)) in omega (arith, rest)

pub numbers_rise : (last : ℕ) (marks : List UnitMark) → RiseFrom last marks → IsNonDecreasingBy (λ mark. mark.id.0) marks
numbers_rise last marks rise = λ i j d low within. omega (arith, rise_between last marks i j d rise low within)

-- the unit at a place has that place
pub place_found : (last number : ℕ) (marks : List UnitMark) (k : ℕ) (d : UnitMark) → RiseFrom last marks → k < length marks → (get_or marks k d).id.0 ≡ number → place_among number marks ≡ Some k
place_found last number [] k d rise within is = absurd (omega (arith, within))
place_found last number (mark ∷ marks) zero d rise within is = rw (eq-eqb number mark.id.0 (sym is)) refl
place_found last number (mark ∷ marks) (suc k) d rise within is =
    let later = above_last mark.id.0 marks k d rise.1 (omega (arith, within)) in
    rw (ne_eqb number mark.id.0 (λ same. omega (arith, same, later, is)), place_found mark.id.0 number marks k d rise.1 (omega (arith, within)) is) (ap Some (omega arith))

-- the number stands between the units before a place and those from it on
abbrev pub StandsAt : List UnitMark → ℕ → ℕ → Type 0
StandsAt marks number k = ((i : ℕ) (d : UnitMark) → i < k → i < length marks → (get_or marks i d).id.0 < number) × ((i : ℕ) (d : UnitMark) → k ≤ i → i < length marks → number < (get_or marks i d).id.0)

-- so it is no unit's, and the units from that place on are above it
pub none_found : (number : ℕ) (marks : List UnitMark) (k : ℕ) → StandsAt marks number k → (place_among number marks ≡ None) × (marks_above number marks ≡ length marks - k)
none_found number [] k stands = (refl, omega arith)
none_found number (mark ∷ marks) zero stands =
    let first = stands.1 0 mark (omega arith) (omega arith) in
    let rest = none_found number marks zero ((λ i d low within. absurd (omega (arith, low))), (λ i d low within. stands.1 (suc i) d (omega arith) (omega (arith, within)))) in
    (rw (ne_eqb number mark.id.0 (λ same. omega (arith, same, first)), rest.0) refl, rw (yes_below number mark.id.0 first) (omega (arith, rest.1)))
none_found number (mark ∷ marks) (suc k) stands =
    let first = stands.0 0 mark (omega arith) (omega arith) in
    let rest = none_found number marks k ((λ i d low within. stands.0 (suc i) d (omega (arith, low)) (omega (arith, within))), (λ i d low within. stands.1 (suc i) d (omega (arith, low)) (omega (arith, within)))) in
    (rw (ne_eqb number mark.id.0 (λ same. omega (arith, same, first)), rest.0) refl, rw (not_below number mark.id.0 (omega (arith, first))) (omega (arith, rest.1)))

-- behind all units
pub stands_behind : (marks : List UnitMark) (number k : ℕ) → IsPartitionPoint (λ m. m.id.0 < number) (λ m. number ≤ m.id.0) marks k → k ≡ length marks → StandsAt marks number k
stands_behind marks number k split behind = ((λ i d low within. split.0 i d (omega arith) low), (λ i d high within. absurd (omega (arith, high, within, behind))))

-- before a unit with another number
pub stands_before : (last : ℕ) (marks : List UnitMark) (number k : ℕ) (e : UnitMark) → RiseFrom last marks → IsPartitionPoint (λ m. m.id.0 < number) (λ m. number ≤ m.id.0) marks k → k < length marks → (get_or marks k e).id.0 ≢ number → StandsAt marks number k
stands_before last marks number k e rise split here differs = (
  (λ i d low within. split.0 i d (omega arith) low),
  (λ i d high within.
      let first = split.1 k e (omega arith) here in
      let later = rise_between last marks k i e rise high within in
      let above = subst (λ (m : UnitMark). number < m.id.0) (get_or_default marks i e d within) (omega (arith, first, later, high, differs)) in
      above),
)

-- a number before a unit leaves room for those from it on, up to the last one's number
pub room_above : (last : ℕ) (marks : List UnitMark) (number k : ℕ) (d : UnitMark) → RiseFrom last marks → StandsAt marks number k → k < length marks → number + (length marks - k) ≤ (get_or marks (length marks - 1) d).id.0
room_above last marks number k d rise stands here =
    let first = stands.1 k d (omega arith) here in
    let steps = rise_between last marks k (length marks - 1) d rise (omega (arith, here)) (omega (arith, here)) in
    omega (arith, first, steps, here)

-- the new number of a unit, and that of another clause behind the formula
pub unit_renumbered : (clauses number : ℕ) (marks : List UnitMark) (k : ℕ) → clauses < number → place_among number marks ≡ Some k → renumbered clauses marks number ≡ mark_number clauses (length marks) k
unit_renumbered clauses number marks k high found = rw (yes_below clauses number high, found) refl

pub other_renumbered : (clauses number : ℕ) (marks : List UnitMark) (k : ℕ) → clauses < number → StandsAt marks number k → renumbered clauses marks number ≡ number + (length marks - k)
other_renumbered clauses number marks k high stands = let none = none_found number marks k stands in rw (yes_below clauses number high, none.0, none.1) refl

pub front_renumbered : (clauses number : ℕ) (marks : List UnitMark) → number ≤ clauses → renumbered clauses marks number ≡ number
front_renumbered clauses number marks low = rw (not_below clauses number low) refl
