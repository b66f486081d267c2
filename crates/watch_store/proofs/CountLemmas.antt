-- A chain has at most as many nodes as live clauses hold its literal.
use Rattle.std.proofs.Common.{◌≡◌, ◌≢◌, ℕ, zero, suc, ◌+◌, ◌/◌, ◌%◌, ◌<◌, ◌≤◌, Bool, true, false, cond, ◌||◌, inl, inr, List, [], ◌∷◌, length, map, get_or, refl, ap, sym, subst, ◌∙◌, arith}
use Rattle.std.specs.Prelude.{nat_eq, count_by, Some, None}
use Rattle.std.specs.List.{IsDistinct, AllByRecursion}
use Rattle.std.proofs.lemmas.Bool.{cases_eq, cases_Bool, eqb-true, eq-eqb, or_cases}
use Rattle.std.proofs.lemmas.List.{length-map}
use Rattle.std.proofs.lemmas.List.Folds.{list_any_at}
use Rattle.std.proofs.lemmas.List.Sums.{sum_by-cons}
use Rattle.std.proofs.lemmas.Map.Made.{length-le_from_is_member}
use Rattle.std.proofs.lemmas.Cmp.{nat_eq_equiv}
use Rattle.std.proofs.Math.Bool.{or-true}
use Rattle.sat_core.specs.declared.literal.Lit.{Lit}
use Rattle.sat_core.specs.Clauses.{IsOver}
use Rattle.sat_core.specs.Hints.{NumberedClause, is_same, is_known}
use Rattle.sat_core.specs.Marks.{mark_place}
use Rattle.sat_core.proofs.LiteralLaws.{is_same-refl}
use Rattle.sat_core.proofs.OpenLaws.{true_is_not_false}
use Rattle.watch_store.specs.Places.{PlacedClauses, IsLiveAt, live_in, clause_at, number_of_place}
use Rattle.watch_store.specs.Chains.{is_among, Once, IsLinkedChain}
use Rattle.watch_store.specs.Watching.{other_of, homes_of, IsWatching, holders}
use Rattle.watch_store.proofs.ChainLemmas.{apart-eqb, lives_parts}
use Rattle.watch_store.proofs.PlaceLemmas.{clause_under, placed_stands}
use Rattle.watch_store.proofs.WalkLemmas.{same_home, home_at}

-- the numbers of the clauses that pass
numbers_where : (NumberedClause → Bool) → List NumberedClause → List ℕ
numbers_where test [] = []
numbers_where test (clause ∷ live) = cond (test clause) (clause.id.0 ∷ numbers_where test live) (numbers_where test live)

length-numbers : (test : NumberedClause → Bool) (live : List NumberedClause) → length (numbers_where test live) ≡ count_by test live
unfolding numbers_where
length-numbers test [] = refl
length-numbers test (clause ∷ live) =
    let rest : length (numbers_where test live) ≡ count_by test live = length-numbers test live in
    let whole : count_by test (clause ∷ live) ≡ cond (test clause) 1 0 + count_by test live = sum_by-cons (λ c. cond (test c) 1 0) clause live in
    elim (test clause) as (λ b. count_by test (clause ∷ live) ≡ cond b 1 0 + count_by test live → length (cond b (clause.id.0 ∷ numbers_where test live) (numbers_where test live)) ≡ count_by test (clause ∷ live)) [
      | true ↦ λ is. omega (arith, is, rest)
      | false ↦ λ is. omega (arith, is, rest)
    ] whole

numbers-have : (test : NumberedClause → Bool) (live : List NumberedClause) (k : ℕ) (d : NumberedClause) → k < length live → test (get_or live k d) ≡ true → is_among (numbers_where test live) (get_or live k d).id.0 ≡ true
unfolding numbers_where
numbers-have test [] k d within passes = absurd (omega arith)
numbers-have test (clause ∷ live) zero d within passes = rw passes (ap (λ b. b || is_among (numbers_where test live) clause.id.0) (eq-eqb clause.id.0 clause.id.0 refl))
numbers-have test (clause ∷ live) (suc k) d within passes =
    let number : ℕ = (get_or live k d).id.0 in
    let rest : is_among (numbers_where test live) number ≡ true = numbers-have test live k d (omega arith) passes in
    elim (test clause) as (λ b. is_among (cond b (clause.id.0 ∷ numbers_where test live) (numbers_where test live)) number ≡ true) [
      | true ↦ ap (λ b. nat_eq number clause.id.0 || b) rest ∙ or-true (nat_eq number clause.id.0)
      | false ↦ rest
    ]

both_false : (a b : Bool) → (a || b) ≡ false → (a ≡ false) × (b ≡ false)
both_false true b never = absurd (cc)
both_false false b is = (refl, is)

has-false : (ns : List ℕ) (n : ℕ) → is_among ns n ≡ false → AllByRecursion (λ m. nat_eq n m ≡ false) ns
has-false [] n out = tt
has-false (m ∷ ns) n out = let parts = both_false (nat_eq n m) (is_among ns n) out in (parts.0, has-false ns n parts.1)

has_image : (f : ℕ → ℕ) (nodes : List ℕ) (s : ℕ) → is_among (map f nodes) s ≡ true → (m : ℕ) × (is_among nodes m ≡ true) × (s ≡ f m)
has_image f [] s found = absurd (cc)
has_image f (n ∷ nodes) s found = elim (or_cases (nat_eq s (f n)) (is_among (map f nodes) s) found) [
  | inl here ↦ (n, ap (λ b. b || is_among nodes n) (eq-eqb n n refl), eqb-true s (f n) here)
  | inr later ↦ let at = has_image f nodes s later in (at.0, ap (λ b. nat_eq at.0 n || b) at.1 ∙ or-true (nat_eq at.0 n), at.2)
]

-- different nodes of a list have different images, where f tells them apart
images-distinct : (f : ℕ → ℕ) (nodes : List ℕ) → Once nodes → ((n m : ℕ) → is_among nodes n ≡ true → is_among nodes m ≡ true → n ≢ m → f n ≢ f m) → IsDistinct nat_eq (map f nodes)
unfolding IsDistinct
images-distinct f [] once apart = tt
images-distinct f (n ∷ nodes) once apart =
    let out : is_among (map f nodes) (f n) ≡ false = elim (cases_Bool (is_among (map f nodes) (f n))) [
      | inr fine ↦ fine
      | inl found ↦
          let at = has_image f nodes (f n) found in
          let differ : n ≢ at.0 = λ same. true_is_not_false (sym at.1 ∙ (ap (is_among nodes) (sym same) ∙ once.0)) in
          absurd (apart n at.0 (ap (λ b. b || is_among nodes n) (eq-eqb n n refl)) (ap (λ b. nat_eq at.0 n || b) at.1 ∙ or-true (nat_eq at.0 n)) differ at.2)
    ] in (
      has-false (map f nodes) (f n) out,
      images-distinct f nodes once.1 (λ a b in_a in_b. apart a b (ap (λ t. nat_eq a n || t) in_a ∙ or-true (nat_eq a n)) (ap (λ t. nat_eq b n || t) in_b ∙ or-true (nat_eq b n))),
    )

two_of_one : (n m : ℕ) → n / 2 ≡ m / 2 → n ≢ m → m ≡ other_of n
two_of_one n m same differ = elim (cases_eq (n % 2) 0) [
  | inl even ↦ rw (eq-eqb (n % 2) 0 even) (omega arith)
  | inr odd ↦ rw (apart-eqb (n % 2) 0 odd) (omega arith)
]

some_same : (one other : ℕ) → Some one ≡ Some other → one ≡ other
some_same one other same = cc

pub chain_length : (table : PlacedClauses) (heads nexts : List ℕ) (watches : List Lit) (nodes : List ℕ) (lit : Lit) → IsWatching table watches → IsOver table.vars lit → IsLinkedChain heads nexts (homes_of watches) (mark_place lit) nodes → length nodes ≤ holders (live_in table) lit
chain_length table heads nexts watches nodes lit watching lit_over chain =
    let number : ℕ → ℕ = λ n. (number_of_place table (n / 2)).0 in
    let test : NumberedClause → Bool = λ c. is_known c.lits lit in
    let inside : (n : ℕ) → is_among nodes n ≡ true → (n < length watches) × (get_or watches n lit ≡ lit) = λ n found.
    let lives = lives_parts (homes_of watches) (mark_place lit) n (sym (chain.exact n) ∙ found) in
    let within : n < length watches = omega (arith, lives.0, length-map watches mark_place) in
    (within, same_home (get_or watches n lit) lit (watching.named n lit within) lit_over.0 (sym (home_at watches n lit within) ∙ lives.1)) in
    let low : (n : ℕ) → is_among nodes n ≡ true → (get_or watches n lit).var.0 ≤ table.vars = λ n found. subst (λ (l : Lit). l.var.0 ≤ table.vars) (sym (inside n found).1) lit_over.1 in
    let live : (n : ℕ) → is_among nodes n ≡ true → IsLiveAt table (n / 2) = λ n found. watching.live n lit (inside n found).0 (low n found) in
    let apart : (n m : ℕ) → is_among nodes n ≡ true → is_among nodes m ≡ true → n ≢ m → number n ≢ number m = λ n m in_n in_m differ same.
    let one = inside n in_n in
    let two = inside m in_m in
    let place : n / 2 ≡ m / 2 = some_same (n / 2) (m / 2) (sym (live n in_n) ∙ (ap (λ k. get_or table.places k None) same ∙ live m in_m)) in
    watching.differ n lit one.0 (one.1 ∙ (sym two.1 ∙ ap (λ k. get_or watches k lit) (two_of_one n m place differ))) in
    let few : length (map number nodes) ≤ length (numbers_where test (live_in table)) =
    length-le_from_is_member nat_eq_equiv (map number nodes) (numbers_where test (live_in table)) (images-distinct number nodes chain.once apart)
    (λ s found.
    let at = has_image number nodes s found in
    let here = inside at.0 at.1 in
    let clause : NumberedClause = clause_under table.clauses (number at.0) (at.0 / 2) in
    let stands = placed_stands table (number at.0) (at.0 / 2) (live at.0 at.1) in
    let held = watching.stand at.0 lit here.0 (low at.0 at.1) in
    let holds : test clause ≡ true = subst (λ l. is_known (clause_at table (at.0 / 2)) l ≡ true) here.1
    (list_any_at (is_same (get_or watches at.0 lit)) (clause_at table (at.0 / 2)) held.0 (get_or watches at.0 lit) held.1 (ap (is_same (get_or watches at.0 lit)) held.2 ∙ is_same-refl (get_or watches at.0 lit))) in
    subst (λ n. is_among (numbers_where test (live_in table)) n ≡ true) (ap (λ (c : NumberedClause). c.id.0) stands.2 ∙ sym at.2)
    (numbers-have test (live_in table) stands.0 clause stands.1 (ap test stands.2 ∙ holds)))
    in omega (arith, few, length-map nodes number, length-numbers test (live_in table))
