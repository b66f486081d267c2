-- Where the values of some variables stand in a valuation.
use Rattle.std.proofs.Common.{◌≡◌, ℕ, ◌+◌, ◌-◌, ◌<◌, ◌≤◌, Bool, false, List, [], ◌++◌, length, take, get_or, map, ap, ◌∙◌, subst, arith, length-append}
use Rattle.std.specs.List.{sum_by}
use Rattle.std.proofs.lemmas.List.{get_or_append_left, get_or-append-add, get_or-map, length-map}
use Rattle.std.proofs.lemmas.List.Sums.{sum_by_more_le}
use Rattle.clause_list.specs.Rows.{rows}
use Rattle.clause_list.proofs.RowLaws.{row_value, length-rows}
use Rattle.plan_values.specs.Meanings.{Is}

-- the variables from this number on have these values
pub record IsPart (values : List Bool) (first : ℕ) (part : List Bool) : Type 0 where
  pub one : 1 ≤ first
  pub at : (k : ℕ) → k < length part → get_or values (first - 1 + k) false ≡ get_or part k false
  pub within : first - 1 + length part ≤ length values

-- all of them
pub whole_part : (values : List Bool) → IsPart values 1 values
whole_part values = record { one = omega arith; at = λ k inside. ap (λ n. get_or values n false) (omega arith); within = omega arith }

-- the front of a part, and what is behind it
pub front_part : (values : List Bool) (first : ℕ) (xs ys : List Bool) → IsPart values first (xs ++ ys) → IsPart values first xs
front_part values first xs ys part = record {
  one = part.one;
  at = λ k inside. part.at k (omega (arith, length-append xs ys)) ∙ get_or_append_left xs ys false k inside;
  within = (let all : first - 1 + length (xs ++ ys) ≤ length values = part.within in omega (arith, length-append xs ys));
}

pub back_part : (values : List Bool) (first : ℕ) (xs ys : List Bool) → IsPart values first (xs ++ ys) → IsPart values (first + length xs) ys
back_part values first xs ys part =
    let one : 1 ≤ first = part.one in
    record {
      one = omega arith;
      at = λ k inside. ap (λ n. get_or values n false) (omega arith) ∙ (part.at (length xs + k) (omega (arith, length-append xs ys)) ∙ get_or-append-add xs ys k false);
      within = (let all : first - 1 + length (xs ++ ys) ≤ length values = part.within in omega (arith, length-append xs ys));
    }

pub part_at : (values : List Bool) (first other : ℕ) (part : List Bool) → first ≡ other → IsPart values first part → IsPart values other part
part_at values first other part same given = subst (λ n. IsPart values n part) same given

-- the value of a variable among them
pub part_value : (values : List Bool) (first : ℕ) (part : List Bool) (k : ℕ) (truth : Bool) → IsPart values first part → k < length part → get_or part k false ≡ truth → Is values (first + k) truth
part_value values first part k truth given inside is =
    let one : 1 ≤ first = given.one in
    let all : first - 1 + length part ≤ length values = given.within in
    let place : first + k - 1 ≡ first - 1 + k = omega arith in
    record { is = ap (λ n. get_or values n false) place ∙ (given.at k inside ∙ is); within = omega arith }

-- in rows, and in a list that is mapped
pub row_part : {X : Type 0} (values : List Bool) (first : ℕ) (of : ℕ → X → Bool) (start : ℕ) (lists : List (List X)) (k j : ℕ) (d : X) → IsPart values first (rows of start lists) → k < length lists → j < length (get_or lists k []) → Is values (first + sum_by length (take k lists) + j) (of (start + k) (get_or (get_or lists k []) j d))
row_part values first of start lists k j d given within inside =
    let size : length (rows of start lists) ≡ sum_by length lists = length-rows of start lists in
    let total : sum_by length (take k lists) + length (get_or lists k []) ≤ sum_by length lists = sum_by_more_le length lists k [] within in
    let place : first + (sum_by length (take k lists) + j) ≡ first + sum_by length (take k lists) + j = omega arith in
    subst (λ n. Is values n (of (start + k) (get_or (get_or lists k []) j d))) place
    (part_value values first (rows of start lists) (sum_by length (take k lists) + j) (of (start + k) (get_or (get_or lists k []) j d)) given (omega arith) (row_value of start lists k j d false within inside))

pub map_part : {X : Type 0} (values : List Bool) (first : ℕ) (of : X → Bool) (xs : List X) (k : ℕ) (d : X) → IsPart values first (map of xs) → k < length xs → Is values (first + k) (of (get_or xs k d))
map_part values first of xs k d given inside = part_value values first (map of xs) k (of (get_or xs k d)) given (omega (arith, length-map xs of)) (get_or-map of xs k d false inside)

-- under another number and another truth
pub is_as : (values : List Bool) (v w : ℕ) (one other : Bool) → v ≡ w → one ≡ other → Is values v one → Is values w other
is_as values v w one other same alike given = subst (λ n. Is values n other) same (subst (Is values v) alike given)
