-- Which cells of a list were seen, as marks by cell.
use Rattle.std.proofs.Common.{◌≡◌, ◌≢◌, ◌<◌, ◌+◌, inl, inr, ℕ, Bool, true, false, List, length, slice_index_or, slice_set, ap, sym, ◌∙◌, arith, below_more}
use Rattle.std.proofs.lemmas.List.{get_or-set_same, get_or-set_other, get_or_default}
use Rattle.std.proofs.lemmas.Bool.Decides.{eqb_tells}
use Rattle.cell_net.specs.declared.ids.CellId.{CellId}
use Rattle.cell_net.specs.declared.cells.DirCell.{DirCell}

-- so many cells were seen, each is marked, only they are, and no two of them are one
pub record MarksSeen (seen : List Bool) (cells : List DirCell) (count : ℕ) : Type 0 where
  pub marked : (j : ℕ) (d : DirCell) → j < count → slice_index_or seen (slice_index_or cells j d).cell.0 false ≡ true
  pub only : (cell : ℕ) → slice_index_or seen cell false ≡ true →
      (j : ℕ) × (j < count) × ((d : DirCell) → (slice_index_or cells j d).cell.0 ≡ cell)
  pub distinct : (i j : ℕ) (d : DirCell) → i < j → j < count → (slice_index_or cells i d).cell ≢ (slice_index_or cells j d).cell

pub nothing_seen : (seen : List Bool) (cells : List DirCell) → ((k : ℕ) → slice_index_or seen k false ≡ false) → MarksSeen seen cells 0
nothing_seen seen cells none = record {
  marked = λ j d low. absurd (omega arith);
  only = λ cell mark. absurd (let no_mark = none cell in cc);
  distinct = λ i j d low high. absurd (omega arith);
}

-- one cell more is marked, which wasn't
pub seen_more : (seen : List Bool) (cells : List DirCell) (n : ℕ) (e : DirCell) → MarksSeen seen cells n → n < length cells →
    (slice_index_or cells n e).cell.0 < length seen → slice_index_or seen (slice_index_or cells n e).cell.0 false ≡ false →
    MarksSeen (slice_set seen (slice_index_or cells n e).cell.0 true) cells (n + 1)
seen_more seen cells n e before within small unseen =
    let x : ℕ = (slice_index_or cells n e).cell.0 in
    let here : (d : DirCell) → (slice_index_or cells n d).cell.0 ≡ x = λ d. ap (λ (c : DirCell). c.cell.0) (get_or_default cells n d e within) in
    let same : slice_index_or (slice_set seen x true) x false ≡ true = get_or-set_same seen x true false small in
    let others : (k : ℕ) → k ≢ x → slice_index_or (slice_set seen x true) k false ≡ slice_index_or seen k false =
    λ k differs. get_or-set_other seen x k true false differs in
    let kept : (k : ℕ) → slice_index_or seen k false ≡ true → slice_index_or (slice_set seen x true) k false ≡ true =
    λ k mark. elim (eqb_tells k x) [ inl is ↦ let at : k ≡ x = is.1 in rw at same | inr differs ↦ rw (others k differs.1) mark ] in
    record {
      marked = λ j d low. below_more (λ k. slice_index_or (slice_set seen x true) (slice_index_or cells k d).cell.0 false ≡ true) n
          (λ k h. kept _ (before.marked k d h)) (rw (here d) same) j low;
      only = λ cell mark. elim (eqb_tells cell x) [
        | inl is ↦ (n, omega arith, λ d. here d ∙ sym is.1)
        | inr differs ↦ let old = before.only cell (sym (others cell differs.1) ∙ mark) in (old.0, omega arith, old.2)
      ];
      distinct = λ i j d low high. below_more (λ k. i < k → (slice_index_or cells i d).cell ≢ (slice_index_or cells k d).cell) n
          (λ k h low'. before.distinct i k d low' h)
          (λ low' equal. let mark : slice_index_or seen (slice_index_or cells i d).cell.0 false ≡ true = before.marked i d low' in
          let at : (slice_index_or cells i d).cell.0 ≡ x = ap (λ (c : CellId). c.0) equal ∙ here d in
          absurd (let unmarked : slice_index_or seen (slice_index_or cells i d).cell.0 false ≡ false = rw at unseen in cc)) j high low;
    }
