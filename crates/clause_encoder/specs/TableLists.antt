-- The tables of all trains.
use Rattle.std.specs.Prelude.{◌≡◌, ℕ, List, All, length, map}
use Rattle.cell_net.specs.declared.parts.InstanceParts.{InstanceParts}
use Rattle.sweep_table.specs.Tables.{Table, IsTable}

-- the tables that the values have over an instance
abbrev pub table_over : {X : Type 0} → (X → InstanceParts → Table) → InstanceParts → X → Table
table_over table p x = table x p

abbrev pub tables_of : {X : Type 0} → (X → InstanceParts → Table) → InstanceParts → List X → List Table
tables_of table p xs = map (table_over table p) xs

-- each is made for the instance
abbrev pub AreMadeFor : {X : Type 0} → (X → InstanceParts → Type 0) → InstanceParts → List X → Type 0
AreMadeFor is_made_for p xs = All (λ x. is_made_for x p) xs

-- the table keeps the rules, and has so many items
pub record IsKnown (count : ℕ) (p : InstanceParts) (table : Table) : Type 0 where
  pub rules : IsTable p table
  pub size : length table.cells ≡ count

abbrev pub IsKnownBy : {X : Type 0} → (X → ℕ) → (X → InstanceParts → Table) → InstanceParts → X → Type 0
IsKnownBy items table p x = IsKnown (items x) p (table x p)
