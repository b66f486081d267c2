-- How a trail is kept: a mark for each true literal, and each variable's place.
use Rattle.std.specs.Prelude.{◌≡◌, ℕ, ◌-◌, ◌<◌, ◌≤◌, Bool, List, length, slice_index_or, slice_index}
use Rattle.sat_core.specs.Marks.{AreMarked}
use Rattle.search_trail.specs.declared.entry.Entry.{Entry}
use Rattle.search_trail.specs.Trails.{TrailParts, IsTrail, known_of}

-- the marks are those of the true literals, each variable that has an entry has its place, and the entries have room for every
-- variable
pub record IsKept (t : TrailParts) (marks : List Bool) (places : List ℕ) (room : ℕ) : Type 0 where
  pub laws : IsTrail t
  pub marks_stand : AreMarked t.vars marks (known_of t.entries)
  pub all_placed : length places ≡ t.vars
  pub placed : (k : ℕ) (d : Entry) → k < length t.entries → slice_index places ((slice_index_or t.entries k d).lit.var.0 - 1) ≡ k
  pub enough : t.vars ≤ room
