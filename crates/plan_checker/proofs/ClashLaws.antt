-- A plan has one first clash at most.
use Rattle.std.proofs.Common.{◌≡◌, ◌⊎◌, inl, inr, ℕ, List, Some, slice_get, sym, subst, ◌∙◌, arith}
use Rattle.std.proofs.lemmas.Bool.{cases_lt}
use Rattle.std.proofs.lemmas.Option.{same_Some}
use Rattle.cell_net.specs.Borders.{Linked}
use Rattle.cell_net.specs.declared.ids.CandidateId.{CandidateId}
use Rattle.cell_net.specs.declared.ids.CellId.{CellId}
use Rattle.cell_net.specs.declared.cells.DirCell.{DirCell}
use Rattle.cell_net.specs.declared.plans.Sweep.{Sweep}
use Rattle.cell_net.specs.declared.plans.TrainRun.{TrainRun}
use Rattle.cell_net.specs.declared.parts.InstanceParts.{InstanceParts}
use Rattle.plan_checker.specs.Clashes.{AreApartAt, AreFirstLinked, ComesBefore, IsFirstClash}
use Rattle.plan_checker.proofs.JudgingLemmas.{contains_at}
use Rattle.plan_checker.proofs.PairLemmas.{same_sweep}

-- of two pairs, the one stands before the other, or it before the one, or they are the same
ordered : (x y a b : ℕ) → ComesBefore x y a b ⊎ (ComesBefore a b x y ⊎ ((x ≡ a) × (y ≡ b)))
ordered x y a b = elim (cases_lt x a) [
  | inl low ↦ inl (inl low)
  | inr from ↦ elim (cases_lt a x) [
    | inl high ↦ inr (inl (inl high))
    | inr to ↦ elim (cases_lt y b) [
      | inl low ↦ inl (inr (omega arith, low))
      | inr from' ↦ elim (cases_lt b y) [
        | inl high ↦ inr (inl (inr (omega arith, high)))
        | inr to' ↦ inr (inr (omega arith, omega arith))
      ]
    ]
  ]
]

-- the cells found are linked
found_linked : (p : InstanceParts) (borders : List CandidateId) (one other : List DirCell) (e f : CellId) (found : AreFirstLinked p borders one other e f) →
    Linked p borders found.first.cell found.second.cell
found_linked p borders one other e f found =
    subst (λ c. Linked p borders c found.second.cell) (sym found.cell_is) (subst (λ c. Linked p borders e c) (sym found.other_cell_is) found.linked)

not_linked_before : (p : InstanceParts) (borders : List CandidateId) (one other : List DirCell) (e f g h : CellId)
    (found : AreFirstLinked p borders one other e f) (again : AreFirstLinked p borders one other g h) →
    ¬ ComesBefore found.place found.place_in_other again.place again.place_in_other
not_linked_before p borders one other e f g h found again before =
    again.none_before found.place found.place_in_other found.first found.second found.is_first found.is_second before
    (found_linked p borders one other e f found)

-- the first two cells that are linked stand at one pair of places
same_places : (p : InstanceParts) (borders : List CandidateId) (one other : List DirCell) (e f g h : CellId)
    (found : AreFirstLinked p borders one other e f) (again : AreFirstLinked p borders one other g h) →
    (found.place ≡ again.place) × (found.place_in_other ≡ again.place_in_other)
same_places p borders one other e f g h found again = elim (ordered found.place found.place_in_other again.place again.place_in_other) [
  | inl before ↦ absurd (not_linked_before p borders one other e f g h found again before)
  | inr (inl after) ↦ absurd (not_linked_before p borders one other g h e f again found after)
  | inr (inr same) ↦ same
]

-- they are the same cells
same_cells : (p : InstanceParts) (borders : List CandidateId) (one other : List DirCell) (e f g h : CellId) →
    AreFirstLinked p borders one other e f → AreFirstLinked p borders one other g h → (e ≡ g) × (f ≡ h)
same_cells p borders one other e f g h found again =
    let at = same_places p borders one other e f g h found again in
    let first : found.first ≡ again.first =
    same_Some found.first again.first (sym (subst (λ (k : ℕ). slice_get one k ≡ Some found.first) at.0 found.is_first) ∙ again.is_first) in
    let second : found.second ≡ again.second =
    same_Some found.second again.second (sym (subst (λ (k : ℕ). slice_get other k ≡ Some found.second) at.1 found.is_second) ∙ again.is_second) in
    let e_is = found.cell_is in
    let f_is = found.other_cell_is in
    let g_is = again.cell_is in
    let h_is = again.other_cell_is in
    (cc, cc)

-- the two trains of a clash aren't apart
pub not_apart : (p : InstanceParts) (borders : List CandidateId) (runs : List TrainRun) (a b step : ℕ) (e f : CellId) →
    IsFirstClash p borders runs a b step e f → ¬ AreApartAt p borders runs step a b
unfolding AreApartAt
not_apart p borders runs a b step e f clash apart =
    let linked = clash.first_linked in
    apart clash.one clash.other clash.has_one clash.has_other linked.first linked.second
    (contains_at clash.one.cells linked.place linked.first linked.is_first) (contains_at clash.other.cells linked.place_in_other linked.second linked.is_second)
    (found_linked p borders clash.one.cells clash.other.cells e f linked)

pub one_step : (p : InstanceParts) (borders : List CandidateId) (runs : List TrainRun) (a b step x y s : ℕ) (e f g h : CellId) →
    IsFirstClash p borders runs a b step e f → IsFirstClash p borders runs x y s g h → step ≡ s
one_step p borders runs a b step x y s e f g h first second = elim (cases_lt step s) [
  | inl low ↦ absurd (not_apart p borders runs a b step e f first (second.steps_before step a b low first.in_order))
  | inr from ↦ elim (cases_lt s step) [
    | inl low ↦ absurd (not_apart p borders runs x y s g h second (first.steps_before s x y low second.in_order))
    | inr same ↦ omega arith
  ]
]

-- at one step, no pair of trains stands before that of the first clash
not_before : (p : InstanceParts) (borders : List CandidateId) (runs : List TrainRun) (a b x y step : ℕ) (e f g h : CellId) →
    IsFirstClash p borders runs a b step e f → IsFirstClash p borders runs x y step g h → ¬ ComesBefore a b x y
not_before p borders runs a b x y step e f g h first second before =
    not_apart p borders runs a b step e f first (second.pairs_before a b first.in_order before)

same_pair : (p : InstanceParts) (borders : List CandidateId) (runs : List TrainRun) (a b x y step : ℕ) (e f g h : CellId) →
    IsFirstClash p borders runs a b step e f → IsFirstClash p borders runs x y step g h → (a ≡ x) × (b ≡ y)
same_pair p borders runs a b x y step e f g h first second = elim (ordered a b x y) [
  | inl before ↦ absurd (not_before p borders runs a b x y step e f g h first second before)
  | inr (inl after) ↦ absurd (not_before p borders runs x y a b step g h e f second first after)
  | inr (inr same) ↦ same
]

pub one_pair : (p : InstanceParts) (borders : List CandidateId) (runs : List TrainRun) (a b step x y s : ℕ) (e f g h : CellId) →
    IsFirstClash p borders runs a b step e f → IsFirstClash p borders runs x y s g h → (a ≡ x) × (b ≡ y)
one_pair p borders runs a b step x y s e f g h first second =
    let at : step ≡ s = one_step p borders runs a b step x y s e f g h first second in
    same_pair p borders runs a b x y s e f g h (subst (λ (k : ℕ). IsFirstClash p borders runs a b k e f) at first) second

-- of two trains at a step, the first cells that are linked
cells_of_pair : (p : InstanceParts) (borders : List CandidateId) (runs : List TrainRun) (a b step : ℕ) (e f g h : CellId) →
    IsFirstClash p borders runs a b step e f → IsFirstClash p borders runs a b step g h → (e ≡ g) × (f ≡ h)
cells_of_pair p borders runs a b step e f g h first second =
    let one : first.one ≡ second.one = same_sweep runs a step first.one second.one first.has_one second.has_one in
    let other : first.other ≡ second.other = same_sweep runs b step first.other second.other first.has_other second.has_other in
    let moved : AreFirstLinked p borders second.one.cells second.other.cells e f =
    subst (λ (w : Sweep). AreFirstLinked p borders second.one.cells w.cells e f) other
    (subst (λ (w : Sweep). AreFirstLinked p borders w.cells first.other.cells e f) one first.first_linked) in
    same_cells p borders second.one.cells second.other.cells e f g h moved second.first_linked

pub one_pair_of_cells : (p : InstanceParts) (borders : List CandidateId) (runs : List TrainRun) (a b step x y s : ℕ) (e f g h : CellId) →
    IsFirstClash p borders runs a b step e f → IsFirstClash p borders runs x y s g h → (e ≡ g) × (f ≡ h)
one_pair_of_cells p borders runs a b step x y s e f g h first second =
    let at : step ≡ s = one_step p borders runs a b step x y s e f g h first second in
    let pair = one_pair p borders runs a b step x y s e f g h first second in
    let moved : IsFirstClash p borders runs x y s e f =
    subst (λ (k : ℕ). IsFirstClash p borders runs x y k e f) at
    (subst (λ (k : ℕ). IsFirstClash p borders runs x k step e f) pair.1 (subst (λ (k : ℕ). IsFirstClash p borders runs k b step e f) pair.0 first)) in
    cells_of_pair p borders runs x y s e f g h moved second
