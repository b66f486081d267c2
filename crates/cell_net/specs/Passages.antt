-- The index of joins by cell end, which only this crate's code and proofs see.
use Rattle.std.specs.Prelude.{◌≡◌, ◌<◌, ◌≤◌, ◌+◌, ◌*◌, ◌^◌, ◌↔◌, ℕ, List, length, Any, slice_index, Contains}
use Rattle.std.specs.List.Sorted.{IsPartitionPoint}
use Rattle.cell_net.specs.Space.{Pairs}
use Rattle.cell_net.specs.declared.cells.End.{End}
use Rattle.cell_net.specs.declared.cells.End.TheVariants.{Low, High}
use Rattle.cell_net.specs.declared.cells.CellEnd.{CellEnd}
use Rattle.cell_net.specs.declared.cells.JoinSpec.{JoinSpec}
use Rattle.cell_net.specs.declared.passages.Passage.{Passage}
use Rattle.cell_net.specs.declared.parts.InstanceParts.{InstanceParts}

-- 0 for the low end, 1 for the high end
abbrev pub end_number : End → ℕ
end_number Low = 0
end_number High = 1

-- the ends of all cells in one row: the low end of cell 0, its high end, the low end of cell 1, ..
abbrev pub end_place : CellEnd → ℕ
end_place e = 2 * e.cell.0 + end_number e.end

-- the passage from the one end to the other
abbrev pub passage_between : CellEnd → CellEnd → Passage
passage_between one other = record { from = end_place one; to = other }

-- the passages are those of the joins, in both directions
abbrev pub ArePassagesOf : List JoinSpec → List Passage → Type 0
ArePassagesOf joins passages =
    (one other : CellEnd) → Contains passages (passage_between one other) ↔ Any (Pairs one other) joins

-- so many passages come from an end before this one, and they stand first
abbrev pub Splits : List Passage → ℕ → ℕ → Type 0
Splits passages e count = IsPartitionPoint (λ p. p.from < e) (λ p. e ≤ p.from) passages count

-- for each end, how many passages come from an end before it
pub record AreStarts (passages : List Passage) (starts : List ℕ) : Type 0 where
  pub within : (e : ℕ) → e < length starts → slice_index starts e ≤ length passages
  pub split : (e : ℕ) → e < length starts → Splits passages e (slice_index starts e)

-- an end whose place in the row of all ends is a number of 32 bits
abbrev pub HasPlace : CellEnd → Type 0
HasPlace e = 2 * e.cell.0 + 2 ≤ 2 ^ 32

-- the same of both ends of a join
abbrev pub HasPlaces : JoinSpec → Type 0
HasPlaces j = HasPlace j.one × HasPlace j.other

-- the passages are those of the joins, and each end of each cell has its start, and the end past the
-- last one has one
pub record IsIndexed (p : InstanceParts) (passages : List Passage) (starts : List ℕ) : Type 0 where
  pub passages_are : ArePassagesOf p.joins passages
  pub starts_are : AreStarts passages starts
  pub for_each_end : length starts ≡ 2 * length p.cells + 1
