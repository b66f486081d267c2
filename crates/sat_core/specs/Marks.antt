-- How known literals are marked: two places for each variable, one a sign.
use Rattle.std.specs.Prelude.{◌≡◌, ℕ, ◌+◌, ◌-◌, ◌*◌, Bool, false, cond, List, length, All, slice_index_or}
use Rattle.sat_core.specs.declared.literal.Lit.{Lit}
use Rattle.sat_core.specs.Clauses.{IsOver}
use Rattle.sat_core.specs.Hints.{is_known}

-- where a literal has its mark: two places for each variable
abbrev pub mark_place : Lit → ℕ
mark_place lit = 2 * (lit.var.0 - 1) + cond lit.positive 1 0

-- exactly the known literals are marked
pub record AreMarked (vars : ℕ) (marks : List Bool) (known : List Lit) : Type 0 where
  pub all_places : length marks ≡ 2 * vars
  pub in_range : All (IsOver vars) known
  pub marked : (lit : Lit) → IsOver vars lit → slice_index_or marks (mark_place lit) false ≡ is_known known lit
