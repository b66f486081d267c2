-- Steps of the loops that follow a chain.
use Rattle.std.proofs.Common.{◌≡◌, ℕ, suc, ◌+◌, ◌-◌, ◌<◌, ◌≤◌, Bool, true, false, List, [], ◌∷◌, ◌++◌, length, get_or, filter, refl, sym, ap, ◌∙◌, subst, arith, append_assoc}
use Rattle.std.specs.Prelude.{All, ◌&&◌, drop}
use Rattle.std.proofs.lemmas.List.{append-nil, drop_more}
use Rattle.std.proofs.lemmas.List.Elements.{All-filter, All-push}
use Rattle.cell_net.specs.declared.parts.InstanceParts.{InstanceParts}
use Rattle.sweep_table.specs.declared.ids.SweepId.{SweepId}
use Rattle.sweep_table.specs.Tables.{Table, IsTable, is_entry, next_of}
use Rattle.clause_list.specs.Numbers.{CodedTrain, cone, sweep, run_ended, waits}
use Rattle.clause_list.specs.Values.{value}
use Rattle.plan_laws.specs.Telling.{no_item, is_told, is_told_entry, entry_at, first_told, first_step, follow}

-- the items so far, and what comes after the last of them, are the whole
pub record IsFollowed (values : List Bool) (table : Table) (a : CodedTrain) (whole items : List SweepId) (now : ℕ) (last : SweepId) (count : ℕ) : Type 0 where
  pub item : last.0 < count
  pub rest : whole ≡ items ++ follow values table a (a.by - now) now last
  pub inside : All (λ (v : SweepId). v.0 < count) items

pub ends_here : (values : List Bool) (table : Table) (a : CodedTrain) (whole items : List SweepId) (now : ℕ) (last : SweepId) (count : ℕ) → IsFollowed values table a whole items now last count → now < a.by → value values (run_ended a (now + 1)) ≡ true → whole ≡ items
ends_here values table a whole items now last count followed h over =
    let step : a.by - now ≡ suc (a.by - (now + 1)) = omega arith in
    let none : follow values table a (a.by - now) now last ≡ [] = rw step (rw over refl) in
    followed.rest ∙ ap (λ xs. items ++ xs) none ∙ append-nil items

head_below : (xs : List SweepId) (n : ℕ) → All (λ (v : SweepId). v.0 < n) xs → 0 < n → (get_or xs 0 no_item).0 < n
head_below [] n all h = h
head_below (x ∷ xs) n all h = all 0 no_item (omega arith)

-- the first that is told is one of the items, or 0
pub told_below : (values : List Bool) (a : CodedTrain) (t : ℕ) (items : List SweepId) (n : ℕ) → All (λ (v : SweepId). v.0 < n) items → 0 < n → (first_told values a t items).0 < n
told_below values a t items n all h = head_below (filter (λ (v : SweepId). is_told values a t v.0) items) n (All-filter (λ (v : SweepId). is_told values a t v.0) (λ (v : SweepId). v.0 < n) items all) h

pub goes_on_here : (values : List Bool) (table : Table) (a : CodedTrain) (whole items more : List SweepId) (now : ℕ) (last next : SweepId) (count : ℕ) → IsFollowed values table a whole items now last count → now < a.by → value values (run_ended a (now + 1)) ≡ false → next ≡ first_told values a (now + 1) (next_of table last.0) → All (λ (v : SweepId). v.0 < count) (next_of table last.0) → more ≡ items ++ next ∷ [] → IsFollowed values table a whole more (now + 1) next count
goes_on_here values table a whole items more now last next count followed h on is_next inside longer =
    let step : a.by - now ≡ suc (a.by - (now + 1)) = omega arith in
    let first : SweepId = first_told values a (now + 1) (next_of table last.0) in
    let some : follow values table a (a.by - now) now last ≡ first ∷ follow values table a (a.by - (now + 1)) (now + 1) first = rw step (rw on refl) in
    let below : first.0 < count = told_below values a (now + 1) (next_of table last.0) count inside (let l : last.0 < count = followed.item in omega arith) in
    let whole_is : whole ≡ (items ++ first ∷ []) ++ follow values table a (a.by - (now + 1)) (now + 1) first = followed.rest ∙ ap (λ xs. items ++ xs) some ∙ sym (append_assoc items (first ∷ []) (follow values table a (a.by - (now + 1)) (now + 1) first)) in
    rw (longer, is_next) (record {
      item = below;
      rest = whole_is;
      inside = All-push (λ (v : SweepId). v.0 < count) items first followed.inside below;
    })

pub stops_here : (values : List Bool) (table : Table) (a : CodedTrain) (whole items : List SweepId) (now : ℕ) (last : SweepId) (count : ℕ) → IsFollowed values table a whole items now last count → a.by ≤ now → whole ≡ items
stops_here values table a whole items now last count followed h =
    let none : a.by - now ≡ 0 = omega arith in
    followed.rest ∙ ap (λ xs. items ++ xs) (rw none refl) ∙ append-nil items

-- the search for the first step: the train waits after the step, or goes, or the window is over
pub waits_on : (values : List Bool) (a : CodedTrain) (step : ℕ) → step < a.latest → value values (waits a step) ≡ true → first_step values a (a.latest - step) step ≡ first_step values a (a.latest - (step + 1)) (step + 1)
waits_on values a step h waiting =
    let more : a.latest - step ≡ suc (a.latest - (step + 1)) = omega arith in
    rw more (rw waiting refl)

pub goes_now : (values : List Bool) (a : CodedTrain) (step : ℕ) → step < a.latest → value values (waits a step) ≡ false → first_step values a (a.latest - step) step ≡ step
goes_now values a step h going =
    let more : a.latest - step ≡ suc (a.latest - (step + 1)) = omega arith in
    rw more (rw going refl)

pub window_over : (values : List Bool) (a : CodedTrain) → first_step values a (a.latest - a.latest) a.latest ≡ a.latest
window_over values a = let none : a.latest - a.latest ≡ 0 = omega arith in rw none refl

-- the search for the first entry: the item at a place is one, or not
abbrev Unpassed : List Bool → Table → CodedTrain → ℕ → ℕ → Type 0
Unpassed values table a t k = filter (is_told_entry values table a t) (cone a t) ≡ filter (is_told_entry values table a t) (drop k (cone a t))

entry_test : (values : List Bool) (table : Table) (a : CodedTrain) (t w number : ℕ) (b : Bool) → number ≡ sweep a t w → b ≡ (is_entry table w && value values number) → b ≡ is_told_entry values table a t w
unfolding is_told_entry
entry_test values table a t w number b same is = is ∙ ap (λ n. is_entry table w && value values n) same

pub entry_found : (values : List Bool) (table : Table) (a : CodedTrain) (t k number : ℕ) (b : Bool) (xs : List ℕ) → xs ≡ cone a t → Unpassed values table a t k → k < length xs → number ≡ sweep a t (get_or (cone a t) k 0) → b ≡ (is_entry table (get_or xs k 0) && value values number) → b ≡ true → record { 0 = get_or xs k 0 } ≡ entry_at values table a t
entry_found values table a t k number b xs same before within numbered is holds =
    let place : get_or xs k 0 ≡ get_or (cone a t) k 0 = ap (λ ys. get_or ys k 0) same in
    let inside : k < length (cone a t) = subst (λ ys. k < length ys) same within in
    let passes : is_told_entry values table a t (get_or (cone a t) k 0) ≡ true = sym (entry_test values table a t (get_or (cone a t) k 0) number b numbered (is ∙ ap (λ w. is_entry table w && value values number) place)) ∙ holds in
    let first : filter (is_told_entry values table a t) (cone a t) ≡ get_or (cone a t) k 0 ∷ filter (is_told_entry values table a t) (drop (k + 1) (cone a t)) =
    before ∙ ap (filter (is_told_entry values table a t)) (drop_more (cone a t) k 0 inside) ∙ rw passes refl in
    ap (λ (n : ℕ). record { 0 = n }) (place ∙ sym (ap (λ ys. get_or ys 0 0) first))

pub entry_passed : (values : List Bool) (table : Table) (a : CodedTrain) (t k number : ℕ) (b : Bool) (xs : List ℕ) → xs ≡ cone a t → Unpassed values table a t k → k < length xs → number ≡ sweep a t (get_or (cone a t) k 0) → b ≡ (is_entry table (get_or xs k 0) && value values number) → b ≡ false → Unpassed values table a t (k + 1)
entry_passed values table a t k number b xs same before within numbered is other =
    let place : get_or xs k 0 ≡ get_or (cone a t) k 0 = ap (λ ys. get_or ys k 0) same in
    let inside : k < length (cone a t) = subst (λ ys. k < length ys) same within in
    let fails : is_told_entry values table a t (get_or (cone a t) k 0) ≡ false = sym (entry_test values table a t (get_or (cone a t) k 0) number b numbered (is ∙ ap (λ w. is_entry table w && value values number) place)) ∙ other in
    before ∙ ap (filter (is_told_entry values table a t)) (drop_more (cone a t) k 0 inside) ∙ rw fails refl

-- what may come after an item of the table is of the table
pub next_inside : (p : InstanceParts) (table : Table) (count : ℕ) (item : SweepId) → IsTable p table → length table.cells ≡ count → item.0 < count → All (λ (v : SweepId). v.0 < count) (next_of table item.0)
next_inside p table count item rules size inside =
    let each : length table.next ≡ length table.cells = rules.next_for_each in
    subst (λ n. All (λ (v : SweepId). v.0 < n) (next_of table item.0)) size (rules.next_are_items item.0 [] (omega arith))
