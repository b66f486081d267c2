-- All that grows, advance by advance, is each sweep once, in order.
use Rattle.std.proofs.Common.{◌≡◌, ◌<◌, ◌+◌, ◌-◌, ◌*◌, inl, inr, ℕ, zero, suc, List, [], length, get_or, ap, sym, ◌∙◌, refl, subst, arith}
use Rattle.std.specs.Prelude.{Contains, AllPairs, All, ◌↔◌}
use Rattle.std.specs.List.{range_with_len}
use Rattle.std.proofs.lemmas.List.{get_or_default}
use Rattle.std.proofs.lemmas.List.FromFn.{length-range_with_len, get_or-range_with_len}
use Rattle.vss_rows.proofs.JoinedLaws.{Contains-from_flat_map, Contains-flat_map, AllPairs-flat_map}
use Rattle.cell_net.specs.Runs.{IsSweep, IsWithinLimit}
use Rattle.cell_net.specs.declared.cells.End.{End}
use Rattle.cell_net.specs.declared.cells.End.TheVariants.{Low, High}
use Rattle.cell_net.specs.declared.cells.DirCell.{DirCell}
use Rattle.cell_net.specs.declared.trains.TrainSpec.{TrainSpec}
use Rattle.cell_net.specs.declared.parts.InstanceParts.{InstanceParts}
use Rattle.sweep_table.specs.Order.{directed_number, end_digit, IsLower, IsSweepBefore}
use Rattle.sweep_table.specs.Growing.{AreAfter, both_ways, directed, grown_by_advance, sweeps_below}
use Rattle.sweep_table.proofs.GrownLaws.{IsPart, IsGrown, AreNext, grown_is_part, grows, grown_rise}

-- the numbers from 0 on
below_range : (n k : ℕ) → Contains (range_with_len 0 n) k → k < n
below_range n k there = let low : there.0 < n = omega (arith, there.1, length-range_with_len 0 n) in omega (arith, there.2, get_or-range_with_len 0 n there.0 k low)

in_range : (n k : ℕ) → k < n → Contains (range_with_len 0 n) k
in_range n k h = (k, omega (arith, length-range_with_len 0 n), get_or-range_with_len 0 n k k h ∙ omega arith)

range_rises : (n : ℕ) → AllPairs ◌<◌ (range_with_len 0 n)
range_rises n i j d low high =
    let j_low : j < n = omega (arith, high, length-range_with_len 0 n) in
    omega (arith, get_or-range_with_len 0 n i d (omega arith), get_or-range_with_len 0 n j d j_low)

-- a directed cell is one of the two of its cell
cell_of_both : (c : ℕ) (e : DirCell) → Contains (both_ways c) e → e.cell.0 ≡ c
unfolding both_ways
cell_of_both c e (zero, within, same) = sym (ap (λ (d : DirCell). d.cell.0) same)
cell_of_both c e (suc zero, within, same) = sym (ap (λ (d : DirCell). d.cell.0) same)
cell_of_both c e (suc (suc k), within, same) = absurd (omega arith)

both_has : (c : ℕ) (e : End) → Contains (both_ways c) (record { cell = record { 0 = c }; end = e })
unfolding both_ways
both_has c Low = (0, omega arith, refl)
both_has c High = (1, omega arith, refl)

both_rise : (c : ℕ) → AllPairs (λ e f. directed_number e < directed_number f) (both_ways c)
unfolding both_ways
both_rise c zero zero d low high = absurd (omega arith)
both_rise c zero (suc zero) d low high = omega arith
both_rise c zero (suc (suc j)) d low high = absurd (omega arith)
both_rise c (suc i) zero d low high = absurd (omega arith)
both_rise c (suc i) (suc zero) d low high = absurd (omega arith)
both_rise c (suc i) (suc (suc j)) d low high = absurd (omega arith)

numbers_apart : (e f : End) (c d : ℕ) → c < d → 2 * c + end_digit e < 2 * d + end_digit f
numbers_apart Low Low c d h = omega arith
numbers_apart Low High c d h = omega arith
numbers_apart High Low c d h = omega arith
numbers_apart High High c d h = omega arith

-- every directed cell of the instance may come first
starts : (p : InstanceParts) → AreNext p [] (directed (length p.cells))
starts p = record {
  which = λ e. (
    λ there. let found = Contains-from_flat_map both_ways (range_with_len 0 (length p.cells)) e there in
        let low : found.0 < length p.cells = below_range (length p.cells) found.0 found.1 in
        (omega (arith, cell_of_both found.0 e found.2), λ none. absurd (omega arith)),
    λ both. Contains-flat_map both_ways (range_with_len 0 (length p.cells)) e.cell.0 e (in_range (length p.cells) e.cell.0 both.0) (both_has e.cell.0 e.end),
  );
  rising = AllPairs-flat_map ◌<◌ (λ e f. directed_number e < directed_number f) both_ways (range_with_len 0 (length p.cells)) (range_rises (length p.cells)) (λ c at. both_rise c)
      (λ c d u v at_c at_d lower in_c in_d. numbers_apart u.end v.end u.cell.0 v.cell.0 (omega (arith, cell_of_both c u in_c, cell_of_both d v in_d)));
}

nothing_yet : (p : InstanceParts) (t : TrainSpec) (count : ℕ) → IsPart p t count []
nothing_yet p t count = record {
  cells = λ k d h. absurd (omega arith);
  in_order = λ k d h. absurd (omega arith);
  no_cell_twice = λ i j d low high. absurd (omega arith);
  slow = λ k d h. absurd (omega arith);
}

-- the paths of one advance
of_advance : (p : InstanceParts) (t : TrainSpec) (after : List (List DirCell)) (k : ℕ) (w : List DirCell) → AreAfter p after → Contains (grown_by_advance p t.length after k) w ↔ IsGrown p t (t.length + k) (t.length + k) w
unfolding grown_by_advance
of_advance p t after k w all = (
  λ there. subst (λ n. IsGrown p t (t.length + k) n w) (omega arith) (grown_is_part p t after (t.length + k) (t.length + k) (directed (length p.cells)) [] w all (nothing_yet p t (t.length + k)) (starts p) there),
  λ here. grows p t after (t.length + k) (t.length + k) (directed (length p.cells)) [] w all (starts p) (subst (λ n. IsGrown p t (t.length + k) n w) (omega arith) here) refl,
)

-- those of all advances are the sweeps
pub each_sweep : (p : InstanceParts) (t : TrainSpec) (after : List (List DirCell)) (w : List DirCell) → AreAfter p after → 0 < t.length → Contains (sweeps_below p t.length after (t.advance + 1)) w ↔ IsSweep p t w
each_sweep p t after w all long = (
  λ there.
      let found = Contains-from_flat_map (grown_by_advance p t.length after) (range_with_len 0 (t.advance + 1)) w there in
      let low : found.0 < t.advance + 1 = below_range (t.advance + 1) found.0 found.1 in
      let here = (of_advance p t after found.0 w all).0 found.2 in
      record {
        path = record { not_empty = omega (arith, here.size_is); cells = here.part.cells; in_order = here.part.in_order; no_cell_twice = here.part.no_cell_twice };
        long_enough = omega (arith, here.size_is);
        slow_enough = record { by_train = omega (arith, here.size_is); by_cells = subst (λ n. All (IsWithinLimit p t n) w) (sym here.size_is) here.part.slow };
      },
  λ sweep.
      let k : ℕ = length w - t.length in
      let size : length w ≡ t.length + k = omega (arith, sweep.long_enough) in
      Contains-flat_map (grown_by_advance p t.length after) (range_with_len 0 (t.advance + 1)) k w (in_range (t.advance + 1) k (omega (arith, sweep.slow_enough.by_train)))
      ((of_advance p t after k w all).1 (record {
        part = record { cells = sweep.path.cells; in_order = sweep.path.in_order; no_cell_twice = sweep.path.no_cell_twice; slow = subst (λ n. All (IsWithinLimit p t n) w) size sweep.slow_enough.by_cells };
        size_is = size;
      })),
)

weaker_pairs : {X : Type 0} (R S : X → X → Type 0) (xs : List X) → AllPairs R xs → ((x y : X) → Contains xs x → Contains xs y → R x y → S x y) → AllPairs S xs
weaker_pairs R S xs pairs weaker i j d low high = weaker (get_or xs i d) (get_or xs j d) (i, omega arith, get_or_default xs i (get_or xs i d) d (omega arith)) (j, high, get_or_default xs j (get_or xs j d) d high) (pairs i j d low high)

pub advance_rises : (p : InstanceParts) (t : TrainSpec) (after : List (List DirCell)) (k : ℕ) → AreAfter p after → AllPairs IsLower (grown_by_advance p t.length after k)
unfolding grown_by_advance
advance_rises p t after k all = grown_rise p t after (t.length + k) (t.length + k) (directed (length p.cells)) [] all (starts p)

-- and they are in order
pub sweeps_rise : (p : InstanceParts) (t : TrainSpec) (after : List (List DirCell)) (advances : ℕ) → AreAfter p after → AllPairs IsSweepBefore (sweeps_below p t.length after advances)
sweeps_rise p t after advances all =
    AllPairs-flat_map ◌<◌ IsSweepBefore (grown_by_advance p t.length after) (range_with_len 0 advances) (range_rises advances)
    (λ k at. weaker_pairs IsLower IsSweepBefore (grown_by_advance p t.length after k) (advance_rises p t after k all)
    (λ u v in_u in_v lower. inr (((of_advance p t after k u all).0 in_u).size_is ∙ sym ((of_advance p t after k v all).0 in_v).size_is, lower)))
    (λ k l u v at_k at_l lower in_u in_v. inl (omega (arith, ((of_advance p t after k u all).0 in_u).size_is, ((of_advance p t after l v all).0 in_v).size_is)))
