-- Gates: a truth table, and clauses over pins that say it. Pin i below the number of inputs is input i, and the pin behind
-- them is the output.
use Rattle.std.specs.Prelude.{ℕ, ◌^◌, Bool, true, false, not, ◌&&◌, nat_eq, nat_le, List, [], ◌∷◌, ◌++◌, length, map, take, slice_index_or}
use Rattle.std.specs.List.{list_all, list_any, range_with_len}
use Rattle.std.proofs.Math.Bool.{beq}
use Rattle.gate_tables.specs.declared.gate.GateLit.{GateLit}
use Rattle.gate_tables.specs.declared.gate.GateClause.{GateClause}
use Rattle.gate_tables.specs.Rows.{inputs_of}

-- a clause of a gate is its first `len` literals
abbrev pub lits_of : GateClause → List GateLit
lits_of clause = take clause.len clause.lits

abbrev pub clauses_of : List GateClause → List (List GateLit)
clauses_of clauses = map lits_of clauses

-- by the values of all pins: the clause has a literal that is true; each of the clauses has one
abbrev pub holds_at : List Bool → List GateLit → Bool
holds_at pins lits = list_any (λ lit. beq (slice_index_or pins lit.pin false) lit.positive) lits

abbrev pub all_hold_at : List Bool → List (List GateLit) → Bool
all_hold_at pins clauses = list_all (holds_at pins) clauses

-- for this row and this output all clauses hold exactly where the output is the row's value
abbrev pub says_row : ℕ → List Bool → List (List GateLit) → Bool → ℕ → Bool
says_row inputs rows clauses output row = beq (all_hold_at (inputs_of inputs row ++ output ∷ []) clauses) (beq output (slice_index_or rows row false))

-- no pin stands twice
abbrev pub are_different : List ℕ → Bool
are_different [] = true
are_different (pin ∷ pins) = not (list_any (nat_eq pin) pins) && are_different pins

-- a clause has at most four literals, of different pins
abbrev pub is_gate_clause : ℕ → GateClause → Bool
is_gate_clause inputs clause = nat_le clause.len 4 && (list_all (λ lit. nat_le lit.pin inputs) (lits_of clause) && are_different (map (λ lit. lit.pin) (lits_of clause)))

-- The gate is sound: there is a row for all inputs, each clause is one, and for all inputs and both outputs the clauses hold
-- exactly where the output is the row's value.
abbrev pub is_sound : ℕ → List Bool → List GateClause → Bool
is_sound inputs rows clauses =
    nat_eq (length rows) (2 ^ inputs)
    && (list_all (is_gate_clause inputs) clauses
    && (list_all (says_row inputs rows (clauses_of clauses) true) (range_with_len 0 (2 ^ inputs))
    && list_all (says_row inputs rows (clauses_of clauses) false) (range_with_len 0 (2 ^ inputs))))

-- the pin's literal, positive or negative
abbrev pub yes : ℕ → GateLit
yes pin = record { pin = pin; positive = true }

abbrev pub no : ℕ → GateLit
no pin = record { pin = pin; positive = false }

-- The gates with the output s and the inputs p, x, q, as far as they occur, in this order: pins are numbered so.
-- s = x
abbrev pub eq_rows : List Bool
eq_rows = false ∷ true ∷ []

abbrev pub eq_clauses : List (List GateLit)
eq_clauses = (no 0 ∷ yes 1 ∷ []) ∷ (no 1 ∷ yes 0 ∷ []) ∷ []

-- s = p or x
abbrev pub or2_rows : List Bool
or2_rows = false ∷ true ∷ true ∷ true ∷ []

abbrev pub or2_clauses : List (List GateLit)
or2_clauses = (no 0 ∷ yes 2 ∷ []) ∷ (no 1 ∷ yes 2 ∷ []) ∷ (no 2 ∷ yes 0 ∷ yes 1 ∷ []) ∷ []

-- s = x and q
abbrev pub and2_rows : List Bool
and2_rows = false ∷ false ∷ false ∷ true ∷ []

abbrev pub and2_clauses : List (List GateLit)
and2_clauses = (no 0 ∷ no 1 ∷ yes 2 ∷ []) ∷ (no 2 ∷ yes 0 ∷ []) ∷ (no 2 ∷ yes 1 ∷ []) ∷ []

-- s = p or (x and q)
abbrev pub cell_rows : List Bool
cell_rows = false ∷ true ∷ false ∷ true ∷ false ∷ true ∷ true ∷ true ∷ []

abbrev pub cell_clauses : List (List GateLit)
cell_clauses = (no 0 ∷ yes 3 ∷ []) ∷ (no 1 ∷ no 2 ∷ yes 3 ∷ []) ∷ (no 3 ∷ yes 0 ∷ yes 1 ∷ []) ∷ (no 3 ∷ yes 0 ∷ yes 2 ∷ []) ∷ []
