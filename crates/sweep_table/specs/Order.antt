-- The order of sweeps: by length, then by the numbers of their directed cells from tail to head.
use Rattle.std.specs.Prelude.{◌≡◌, ◌<◌, ◌⊎◌, ◌+◌, ◌*◌, ℕ, List, length, Some, slice_get, take}
use Rattle.cell_net.specs.declared.cells.End.{End}
use Rattle.cell_net.specs.declared.cells.End.TheVariants.{Low, High}
use Rattle.cell_net.specs.declared.cells.DirCell.{DirCell}

-- 0 towards the low end, 1 towards the high end
abbrev pub end_digit : End → ℕ
end_digit Low = 0
end_digit High = 1

-- the number of a directed cell: cell 0 towards its low end and towards its high end, then cell 1, ..
abbrev pub directed_number : DirCell → ℕ
directed_number d = 2 * d.cell.0 + end_digit d.end

-- the two lists are alike up to a place, at which the one has the lower number
pub record IsLower (one other : List DirCell) : Type 0 where
  pub place : ℕ
  pub alike : take place one ≡ take place other
  pub here : DirCell
  pub there : DirCell
  pub is_here : slice_get one place ≡ Some here
  pub is_there : slice_get other place ≡ Some there
  pub lower : directed_number here < directed_number there

-- the one is shorter, or they are of one length and the one is lower
abbrev pub IsSweepBefore : List DirCell → List DirCell → Type 0
IsSweepBefore one other = (length one < length other) ⊎ ((length one ≡ length other) × IsLower one other)
