-- A gate's clauses over the literals at its pins.
use Rattle.std.specs.Prelude.{◌≡◌, ℕ, ◌-◌, ◌<◌, Bool, false, cond, List, ◌++◌, length, map, take, slice_index_or}
use Rattle.std.proofs.Math.Bool.{beq}
use Rattle.sat_core.specs.declared.literal.Lit.{Lit}
use Rattle.sat_core.specs.Clauses.{negated}
use Rattle.gate_tables.specs.declared.gate.GateLit.{GateLit}

-- whether the literal is true in the valuation
abbrev pub is_true_in : List Bool → Lit → Bool
is_true_in values lit = beq (slice_index_or values (lit.var.0 - 1) false) lit.positive

-- stands for a literal where there is none
abbrev pub no_lit : Lit
no_lit = record { var = record { 0 = 0 }; positive = false }

-- the literal at the pin, or its negation
abbrev pub at_pin : List Lit → GateLit → Lit
at_pin pins lit = cond lit.positive (slice_index_or pins lit.pin no_lit) (negated (slice_index_or pins lit.pin no_lit))

-- the clauses over the literals at the pins
abbrev pub wired : List Lit → List (List GateLit) → List (List Lit)
wired pins clauses = map (map (at_pin pins)) clauses

-- the list is longer by some of the added clauses, from their front on, and not by all
pub record GainsFront (before added after : List (List Lit)) : Type 0 where
  pub count : ℕ
  pub few : count < length added
  pub list : after ≡ before ++ take count added
