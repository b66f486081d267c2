-- The ends of cells in the order of their nodes, which only this crate's code and proofs see.
use Rattle.std.specs.Prelude.{◌≡◌, ◌≢◌, ◌⊎◌, List, All, Contains, map}
use Rattle.node_groups.specs.Ends.{AreEndsOf}
use Rattle.node_groups.specs.declared.ends.End.{End}
use Rattle.cell_net.specs.Segments.{segment_of}
use Rattle.cell_net.specs.declared.parts.InstanceParts.{InstanceParts}

-- the ends of all cells, and no other
abbrev pub AreCellEnds : InstanceParts → List End → Type 0
AreCellEnds p ends = AreEndsOf (map segment_of p.cells) ends

-- the two are among the ends, of two different cells, and all ends are of these two cells
pub record AreOfTwo (ends : List End) (one other : End) : Type 0 where
  pub has_one : Contains ends one
  pub has_other : Contains ends other
  pub are_two : one.place ≢ other.place
  pub no_third : All (λ e. (e.place ≡ one.place) ⊎ (e.place ≡ other.place)) ends
