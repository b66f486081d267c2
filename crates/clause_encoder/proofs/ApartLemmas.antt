-- How many clauses and literals keep a cell of one train apart from those of another.
use Rattle.std.proofs.Common.{◌≡◌, ◌≢◌, ℕ, zero, suc, ◌+◌, ◌*◌, ◌<◌, ◌≤◌, cond, List, [], ◌∷◌, length, refl, sym, ap, arith}
use Rattle.std.specs.Prelude.{AllPairs, Contains, not, min, max}
use Rattle.std.proofs.lemmas.Bool.{eq-eqb, ne_eqb}
use Rattle.std.proofs.lemmas.List.Sums.{sum_by-cons}
use Rattle.vss_rows.proofs.JoinedLaws.{AllPairs-head, AllPairs-tail}
use Rattle.sat_core.specs.declared.literal.Lit.{Lit}
use Rattle.clause_list.specs.Numbers.{CodedTrain, Network, gap, is, section_of}
use Rattle.clause_list.specs.PairClauses.{apart, apart_from}
use Rattle.clause_list.specs.Ranges.{one_each}
use Rattle.clause_list.proofs.SectionLaws.{in_own_section, section_rises}
use Rattle.clause_encoder.specs.Writing.{literal_count}

pub one_length : {X : Type 0} (f : X → List Lit) (xs : List X) → length (one_each f xs) ≡ length xs
one_length f [] = refl
one_length f (x ∷ xs) = omega (arith, one_length f xs)

one_more : {X : Type 0} (f : X → List Lit) (x : X) (xs : List X) → literal_count (one_each f (x ∷ xs)) ≡ length (f x) + literal_count (one_each f xs)
one_more f x xs = sum_by-cons length (f x) (one_each f xs)

apart_other : (net : Network) (a b : CodedTrain) (t e f : ℕ) → e ≢ f → length (apart net a b t e f) ≡ 3
unfolding apart
apart_other net a b t e f differs = ap (λ same. suc (suc (length (cond (not same) (is (gap net (min e f) (max e f)) ∷ []) [])))) (ne_eqb e f differs)

apart_same : (net : Network) (a b : CodedTrain) (t e f : ℕ) → e ≡ f → length (apart net a b t e f) ≡ 2
unfolding apart
apart_same net a b t e f same = ap (λ same. suc (suc (length (cond (not same) (is (gap net (min e f) (max e f)) ∷ []) [])))) (eq-eqb e f same)

-- cells without the cell itself
others_literals : (net : Network) (a b : CodedTrain) (t e : ℕ) (fs : List ℕ) → ((f : ℕ) → Contains fs f → e ≢ f) → literal_count (one_each (apart net a b t e) fs) ≡ 3 * length fs
others_literals net a b t e [] other = refl
others_literals net a b t e (f ∷ fs) other =
    omega (arith, one_more (apart net a b t e) f fs, apart_other net a b t e f (other f (0, omega arith, refl)), others_literals net a b t e fs (λ g there. other g (suc there.0, omega (arith, there.1), there.2)))

-- rising cells with the cell itself
row_with : (net : Network) (a b : CodedTrain) (t e : ℕ) (fs : List ℕ) → AllPairs (λ x y. x < y) fs → Contains fs e → literal_count (one_each (apart net a b t e) fs) + 1 ≡ 3 * length fs
row_with net a b t e [] rise there = absurd (let low : there.0 < 0 = there.1 in omega arith)
row_with net a b t e (f ∷ fs) rise (zero, within, is) =
    omega (
      arith,
      one_more (apart net a b t e) f fs,
      apart_same net a b t e f (sym is),
      others_literals net a b t e fs (λ g there same. let less : f < g = AllPairs-head (λ x y. x < y) f g fs rise there in omega arith),
    )
row_with net a b t e (f ∷ fs) rise (suc k, within, is) =
    let less : f < e = AllPairs-head (λ x y. x < y) f e fs rise (k, omega arith, is) in
    omega (
      arith,
      one_more (apart net a b t e) f fs,
      apart_other net a b t e f (λ same. omega arith),
      row_with net a b t e fs (AllPairs-tail (λ x y. x < y) f fs rise) (k, omega arith, is),
    )

pub row_length : (net : Network) (a b : CodedTrain) (t e : ℕ) → length (apart_from net a b t e) ≡ length (section_of net e)
unfolding apart_from
row_length net a b t e = one_length (apart net a b t e) (section_of net e)

pub row_literals : (net : Network) (a b : CodedTrain) (t e : ℕ) → e < length net.sections → literal_count (apart_from net a b t e) + 1 ≡ 3 * length (section_of net e)
unfolding apart_from
row_literals net a b t e within = row_with net a b t e (section_of net e) (section_rises net e) (in_own_section net e within)

-- a section has a cell, and not too many
pub row_some : (net : Network) (e : ℕ) → e < length net.sections → 1 ≤ length (section_of net e)
row_some net e within = let there = in_own_section net e within in omega (arith, there.1)
