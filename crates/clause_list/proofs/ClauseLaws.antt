-- Clauses put together: from literals whose variables differ and are in range.
use Rattle.std.proofs.Common.{◌≡◌, ◌≢◌, ℕ, zero, suc, ◌<◌, ◌≤◌, Bool, true, false, List, [], ◌∷◌, ◌++◌, get_or, map, refl, arith}
use Rattle.std.specs.Prelude.{All, AllPairs, Contains}
use Rattle.std.specs.List.{flat_map}
use Rattle.std.proofs.lemmas.List.Kept.{AllPairs-cons}
use Rattle.std.proofs.lemmas.List.Elements.{All-nil, All-cons, All-append, All-map, All-head, All-tail}
use Rattle.sat_core.specs.declared.literal.Lit.{Lit}
use Rattle.sat_core.specs.Clauses.{IsClause, IsOver}
use Rattle.clause_list.specs.Numbers.{is}
use Rattle.clause_list.specs.RunClauses.{where_}

pub all_one : {A : Type 0} (P : A → Type 0) (x : A) → P x → All P (x ∷ [])
all_one P x holds zero d within = holds
all_one P x holds (suc k) d within = absurd (omega arith)

pub no_literal : (vars : ℕ) → IsClause vars []
no_literal vars = record { in_range = All-nil (IsOver vars); no_variable_twice = λ i j d h k. absurd (omega arith) }

-- a literal more in front, of another variable than all others
pub one_more : (vars : ℕ) (lit : Lit) (lits : List Lit) → IsOver vars lit → All (λ other. lit.var.0 ≢ other.var.0) lits → IsClause vars lits → IsClause vars (lit ∷ lits)
one_more vars lit lits over differ clause = record {
  in_range = All-cons (IsOver vars) lit lits over clause.in_range;
  no_variable_twice = AllPairs-cons (λ first later. first.var.0 ≢ later.var.0) lit lits differ clause.no_variable_twice;
}

pub one_literal : (vars : ℕ) (lit : Lit) → IsOver vars lit → IsClause vars (lit ∷ [])
one_literal vars lit over = one_more vars lit [] over (All-nil (λ other. lit.var.0 ≢ other.var.0)) (no_literal vars)

pub two_literals : (vars : ℕ) (one other : Lit) → IsOver vars one → IsOver vars other → one.var.0 ≢ other.var.0 → IsClause vars (one ∷ other ∷ [])
two_literals vars one other over over_too differ = one_more vars one (other ∷ []) over (all_one (λ l. one.var.0 ≢ l.var.0) other differ) (one_literal vars other over_too)

-- literals of lower variables in front
pub both_clauses : (vars n : ℕ) (xs ys : List Lit) → IsClause vars xs → IsClause vars ys → All (λ l. l.var.0 < n) xs → All (λ l. n ≤ l.var.0) ys → IsClause vars (xs ++ ys)
both_clauses vars n [] ys one other low high = other
both_clauses vars n (x ∷ xs) ys one other low high =
    let less : x.var.0 < n = low 0 x (omega arith) in
    one_more vars x (xs ++ ys) (All-head (IsOver vars) x xs one.in_range)
    (All-append (λ l. x.var.0 ≢ l.var.0) xs ys (λ k d within. one.no_variable_twice 0 (suc k) d (omega arith) (omega arith)) (λ k d within. let more : n ≤ (get_or ys k d).var.0 = high k d within in omega arith))
    (both_clauses vars n xs ys (rest_clause vars x xs one) other (All-tail (λ l. l.var.0 < n) x xs low) high)
  where
    rest_clause : (vars : ℕ) (x : Lit) (xs : List Lit) → IsClause vars (x ∷ xs) → IsClause vars xs
    rest_clause vars x xs clause = record {
      in_range = All-tail (IsOver vars) x xs clause.in_range;
      no_variable_twice = λ i j d h k. clause.no_variable_twice (suc i) (suc j) d (omega arith) (omega arith);
    }

-- the variables of the items, whose numbers rise
pub items_clause : {X : Type 0} (vars : ℕ) (number : X → ℕ) (xs : List X) → ((x : X) → Contains xs x → (1 ≤ number x) × (number x ≤ vars)) → AllPairs (λ x y. number x < number y) xs → IsClause vars (map (λ x. is (number x)) xs)
items_clause vars number [] over rise = no_literal vars
items_clause vars number (x ∷ xs) over rise =
    one_more vars (is (number x)) (map (λ x. is (number x)) xs) (over x (0, omega arith, refl))
    (All-map (λ l. number x ≢ l.var.0) (λ x. is (number x)) xs (λ k d within. let less : number x < number (get_or xs k d) = rise 0 (suc k) d (omega arith) (omega arith) in omega arith))
    (items_clause vars number xs (λ y inside. let (k, within, same) = inside in over y (suc k, omega arith, same)) (λ i j d h k. rise (suc i) (suc j) d (omega arith) (omega arith)))

-- what holds of the number of each item, of the literals
pub items_all : {X : Type 0} (P : ℕ → Type 0) (number : X → ℕ) (xs : List X) → ((x : X) → Contains xs x → P (number x)) → All (λ l. P (l.var.0)) (map (λ x. is (number x)) xs)
items_all P number [] each = All-nil (λ l. P (l.var.0))
items_all P number (x ∷ xs) each = All-cons (λ l. P (l.var.0)) (is (number x)) (map (λ x. is (number x)) xs) (each x (0, omega arith, refl)) (items_all P number xs (λ y inside. let (k, within, same) = inside in each y (suc k, omega arith, same)))

-- a literal that stands where a test holds
pub where_clause : (vars : ℕ) (test : Bool) (lit : Lit) → (test ≡ true → IsOver vars lit) → IsClause vars (where_ test lit)
where_clause vars true lit over = one_literal vars lit (over refl)
where_clause vars false lit over = no_literal vars

pub where_all : (P : Lit → Type 0) (test : Bool) (lit : Lit) → (test ≡ true → P lit) → All P (where_ test lit)
where_all P true lit holds = all_one P lit (holds refl)
where_all P false lit holds = All-nil P

-- what holds of each clause of each item
pub all_each : {X A : Type 0} (P : A → Type 0) (of : X → List A) (xs : List X) → ((x : X) → Contains xs x → All P (of x)) → All P (flat_map of xs)
all_each P of [] each = All-nil P
all_each P of (x ∷ xs) each = All-append P (of x) (flat_map of xs) (each x (0, omega arith, refl)) (all_each P of xs (λ y inside. let (k, within, same) = inside in each y (suc k, omega arith, same)))

-- literals of numbers in range
pub items_all_over : {X : Type 0} (vars : ℕ) (number : X → ℕ) (xs : List X) → ((x : X) → Contains xs x → (1 ≤ number x) × (number x ≤ vars)) → All (IsOver vars) (map (λ x. is (number x)) xs)
items_all_over vars number xs each = items_all (λ n. (1 ≤ n) × (n ≤ vars)) number xs each
