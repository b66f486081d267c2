-- Laws of sound gates: their clauses are satisfied exactly where the output is the value of the row that the inputs are.
use Rattle.std.proofs.Common.{◌≡◌, ℕ, ◌+◌, ◌-◌, ◌*◌, ◌/◌, ◌%◌, ◌^◌, ◌<◌, Bool, true, false, cond, not, List, [], ◌∷◌, ◌++◌, length, ◌&&◌, ◌||◌, map, get_or, refl, sym, ap, ◌∙◌, subst, arith, Some, length-append}
use Rattle.std.specs.Prelude.{All, nat_eq, ◌↔◌}
use Rattle.std.specs.List.{list_all, list_any, range_with_len}
use Rattle.std.specs.Cmp.{booleans_Decides}
use Rattle.std.proofs.Math.Bool.{beq}
use Rattle.std.proofs.Math.Nat.{pow-suc}
use Rattle.std.proofs.lemmas.Bool.{and_parts, eq-eqb, eqb-true}
use Rattle.std.proofs.lemmas.List.{get_or-map, length-map, map-append}
use Rattle.std.proofs.lemmas.List.FromFn.{length-range_with_len, get_or-range_with_len}
use Rattle.std.proofs.lemmas.List.Elements.{All-cons, All-nil, All-head, All-tail, All-map}
use Rattle.std.proofs.lemmas.List.Folds.{list_any-from_Any, Any-from_list_any}
use Rattle.std.proofs.lemmas.List.Sums.{AllPass-from_list_all}
use Rattle.std.proofs.lemmas.Option.{slice_get-get_or, get_or_from_slice_get}
use Rattle.sat_core.specs.declared.literal.Lit.{Lit}
use Rattle.sat_core.specs.Clauses.{IsOver, IsClause, IsTrueIn, Satisfies, SatisfiesAll, negated}
use Rattle.gate_tables.specs.declared.gate.GateLit.{GateLit}
use Rattle.gate_tables.specs.declared.gate.GateClause.{GateClause}
use Rattle.gate_tables.specs.Rows.{inputs_of, row_of}
use Rattle.gate_tables.specs.Gates.{lits_of, clauses_of, holds_at, all_hold_at, says_row, is_gate_clause, is_sound, eq_rows, eq_clauses, or2_rows, or2_clauses, and2_rows, and2_clauses, cell_rows, cell_clauses}
use Rattle.gate_tables.specs.Wiring.{is_true_in, at_pin, no_lit, wired}
use Rattle.gate_tables.proofs.ClauseLemmas.{Fits, fits_from, all_from, at_pin-var}

low_digit : (input : Bool) (row : ℕ) → nat_eq ((cond input 1 0 + 2 * row) % 2) 1 ≡ input
low_digit true row = eq-eqb _ 1 (omega arith)
low_digit false row = let e : (0 + 2 * row) % 2 ≡ 0 = omega arith in rw e refl

other_digits : (input : Bool) (row : ℕ) → (cond input 1 0 + 2 * row) / 2 ≡ row
other_digits true row = omega arith
other_digits false row = omega arith

inputs_of-row_of : (inputs : List Bool) → inputs_of (length inputs) (row_of inputs) ≡ inputs
inputs_of-row_of [] = refl
inputs_of-row_of (input ∷ inputs) =
    let low = low_digit input (row_of inputs) in
    let others : inputs_of (length inputs) ((cond input 1 0 + 2 * row_of inputs) / 2) ≡ inputs = ap (inputs_of (length inputs)) (other_digits input (row_of inputs)) ∙ inputs_of-row_of inputs in
    cc

row_of-below : (inputs : List Bool) → row_of inputs < 2 ^ length inputs
row_of-below [] = omega arith
row_of-below (true ∷ inputs) = let below = row_of-below inputs in omega (arith, below, pow-suc 2 (length inputs))
row_of-below (false ∷ inputs) = let below = row_of-below inputs in omega (arith, below, pow-suc 2 (length inputs))

beq-true : (b : Bool) → beq b true ≡ b
beq-true true = refl
beq-true false = refl

beq-refl : (b : Bool) → beq b b ≡ true
beq-refl true = refl
beq-refl false = refl

beq-not : (b c : Bool) → beq b (not c) ≡ beq (beq b c) false
beq-not true true = refl
beq-not true false = refl
beq-not false true = refl
beq-not false false = refl

beq-same : (b c : Bool) → beq b c ≡ true → b ≡ c
beq-same b c = (booleans_Decides b c).0

negated_truth : (values : List Bool) (positive : Bool) (lit : Lit) → is_true_in values (cond positive lit (negated lit)) ≡ beq (is_true_in values lit) positive
negated_truth values true lit = sym (beq-true (is_true_in values lit))
negated_truth values false lit = beq-not (get_or values (lit.var.0 - 1) false) lit.positive

at_pin-truth : (values : List Bool) (pins : List Lit) (lit : GateLit) → lit.pin < length pins → is_true_in values (at_pin pins lit) ≡ beq (get_or (map (is_true_in values) pins) lit.pin false) lit.positive
at_pin-truth values pins lit within =
    let at : get_or (map (is_true_in values) pins) lit.pin false ≡ is_true_in values (get_or pins lit.pin no_lit) = get_or-map (is_true_in values) pins lit.pin no_lit false within in
    negated_truth values lit.positive (get_or pins lit.pin no_lit) ∙ ap (λ b. beq b lit.positive) (sym at)

holds_wired : (values : List Bool) (pins : List Lit) (lits : List GateLit) → All (λ lit. lit.pin < length pins) lits → list_any (is_true_in values) (map (at_pin pins) lits) ≡ holds_at (map (is_true_in values) pins) lits
holds_wired values pins [] within = refl
holds_wired values pins (lit ∷ lits) within =
    let here = at_pin-truth values pins lit (All-head (λ l. l.pin < length pins) lit lits within) in
    let later = holds_wired values pins lits (All-tail (λ l. l.pin < length pins) lit lits within) in
    cc

-- a literal over the variables is true where the test finds it true
pub true_literal : (values : List Bool) (lit : Lit) → IsOver (length values) lit → IsTrueIn values lit ↔ (is_true_in values lit ≡ true)
true_literal values lit over = (
  λ holds. let e = get_or_from_slice_get values (lit.var.0 - 1) lit.positive false holds in ap (λ b. beq b lit.positive) e ∙ beq-refl lit.positive,
  λ test. slice_get-get_or values (lit.var.0 - 1) false (omega arith) ∙ ap Some (beq-same _ _ test),
)

-- a clause over the variables is satisfied where one of its literals is found true
pub satisfied_clause : (values : List Bool) (clause : List Lit) → All (IsOver (length values)) clause → Satisfies values clause ↔ (list_any (is_true_in values) clause ≡ true)
unfolding Satisfies
satisfied_clause values clause over = (
  λ (k, lit, within, same, holds). list_any-from_Any (is_true_in values) clause (k, lit, within, same, (true_literal values lit (subst (IsOver (length values)) same (over k lit within))).0 holds),
  λ test. let (k, lit, within, same, holds) = Any-from_list_any (is_true_in values) clause test in (k, lit, within, same, (true_literal values lit (subst (IsOver (length values)) same (over k lit within))).1 holds),
)

wired_over : (vars : ℕ) (pins : List Lit) (lits : List GateLit) → IsClause vars pins → All (λ lit. lit.pin < length pins) lits → All (IsOver vars) (map (at_pin pins) lits)
wired_over vars pins lits clause within = All-map (IsOver vars) (at_pin pins) lits (λ k d below.
    let at = clause.in_range (get_or lits k d).pin no_lit (within k d below) in
    let same = at_pin-var pins (get_or lits k d) in
    (omega (arith, same, at.0), omega (arith, same, at.1)))

satisfied_wired : (values : List Bool) (pins : List Lit) (clauses : List (List GateLit)) → IsClause (length values) pins → All (λ lits. All (λ lit. lit.pin < length pins) lits) clauses → SatisfiesAll values (wired pins clauses) ↔ (all_hold_at (map (is_true_in values) pins) clauses ≡ true)
satisfied_wired values pins [] clause within = (λ _. refl, λ _. All-nil (Satisfies values))
satisfied_wired values pins (lits ∷ others) clause within =
    let inside = All-head (λ ls. All (λ lit. lit.pin < length pins) ls) lits others within in
    let here = satisfied_clause values (map (at_pin pins) lits) (wired_over (length values) pins lits clause inside) in
    let same = holds_wired values pins lits inside in
    let later = satisfied_wired values pins others clause (All-tail (λ ls. All (λ lit. lit.pin < length pins) ls) lits others within) in (
      λ all.
          let first : holds_at (map (is_true_in values) pins) lits ≡ true = sym same ∙ here.0 (All-head (Satisfies values) (map (at_pin pins) lits) (wired pins others) all) in
          let rest = later.0 (All-tail (Satisfies values) (map (at_pin pins) lits) (wired pins others) all) in
          cc,
      λ test.
          let parts = and_parts (holds_at (map (is_true_in values) pins) lits) (all_hold_at (map (is_true_in values) pins) others) test in
          All-cons (Satisfies values) (map (at_pin pins) lits) (wired pins others) (here.1 (same ∙ parts.0)) (later.1 parts.1),
    )

-- what the test of a gate finds
pub record SoundGate (inputs : ℕ) (rows : List Bool) (clauses : List GateClause) : Type 0 where
  pub all_rows : length rows ≡ 2 ^ inputs
  pub clauses_fit : All (Fits inputs) clauses
  pub said : (output : Bool) (row : ℕ) → row < 2 ^ inputs → says_row inputs rows (clauses_of clauses) output row ≡ true

row_said : (inputs : ℕ) (rows : List Bool) (clauses : List (List GateLit)) (output : Bool) → list_all (says_row inputs rows clauses output) (range_with_len 0 (2 ^ inputs)) ≡ true → (row : ℕ) → row < 2 ^ inputs → says_row inputs rows clauses output row ≡ true
row_said inputs rows clauses output all row below =
    let each = AllPass-from_list_all (says_row inputs rows clauses output) (range_with_len 0 (2 ^ inputs)) all row 0 (omega (arith, length-range_with_len 0 (2 ^ inputs))) in
    let place : get_or (range_with_len 0 (2 ^ inputs)) row 0 ≡ row = get_or-range_with_len 0 (2 ^ inputs) row 0 below ∙ omega arith in
    ap (says_row inputs rows clauses output) (sym place) ∙ each

pub sound_from : (inputs : ℕ) (rows : List Bool) (clauses : List GateClause) → is_sound inputs rows clauses ≡ true → SoundGate inputs rows clauses
sound_from inputs rows clauses test =
    let one = and_parts (nat_eq (length rows) (2 ^ inputs)) _ test in
    let two = and_parts (list_all (is_gate_clause inputs) clauses) _ one.1 in
    let three = and_parts (list_all (says_row inputs rows (clauses_of clauses) true) (range_with_len 0 (2 ^ inputs))) _ two.1 in
    record {
      all_rows = eqb-true (length rows) (2 ^ inputs) one.0;
      clauses_fit = all_from (is_gate_clause inputs) (Fits inputs) (fits_from inputs) clauses two.0;
      said = elim [ true ↦ row_said inputs rows (clauses_of clauses) true three.0 | false ↦ row_said inputs rows (clauses_of clauses) false three.1 ];
    }

pins_within : (inputs : ℕ) (pins : List Lit) (clauses : List GateClause) → inputs < length pins → All (Fits inputs) clauses → All (λ lits. All (λ lit. lit.pin < length pins) lits) (clauses_of clauses)
pins_within inputs pins clauses enough fit = All-map (λ lits. All (λ lit. lit.pin < length pins) lits) lits_of clauses (λ k d within j e inside.
    let at = (fit k d within).pins j e inside in omega (arith, at, enough))

agree : (a b c : Bool) → beq a (beq b c) ≡ true → (a ≡ true) ↔ (b ≡ c)
agree a b c same =
    let e = beq-same a (beq b c) same in
    (λ h. beq-same b c (sym e ∙ h), λ h. e ∙ (ap (λ d. beq d c) h ∙ beq-refl c))

-- the gate's law
pub gate_means : (rows : List Bool) (clauses : List GateClause) (inputs : List Lit) (out : Lit) (vars count : ℕ) (values : List Bool) → count ≡ length inputs → is_sound count rows clauses ≡ true → IsClause vars (inputs ++ out ∷ []) → length values ≡ vars → SatisfiesAll values (wired (inputs ++ out ∷ []) (clauses_of clauses)) ↔ (is_true_in values out ≡ get_or rows (row_of (map (is_true_in values) inputs)) false)
gate_means rows clauses inputs out vars count values many test clause total =
    let sound = sound_from (length inputs) rows clauses (ap (λ n. is_sound n rows clauses) (sym many) ∙ test) in
    let truths : List Bool = map (is_true_in values) inputs in
    let number : length truths ≡ length inputs = length-map inputs (is_true_in values) in
    let row : ℕ = row_of truths in
    let below : row < 2 ^ length inputs = subst (λ n. row < 2 ^ n) number (row_of-below truths) in
    let back : inputs_of (length inputs) row ≡ truths = ap (λ n. inputs_of n row) (sym number) ∙ inputs_of-row_of truths in
    let said = sound.said (is_true_in values out) row below in
    let pins : map (is_true_in values) (inputs ++ out ∷ []) ≡ inputs_of (length inputs) row ++ is_true_in values out ∷ [] = map-append (is_true_in values) inputs (out ∷ []) ∙ ap (λ bs. bs ++ is_true_in values out ∷ []) (sym back) in
    let holds = satisfied_wired values (inputs ++ out ∷ []) (clauses_of clauses) (subst (λ n. IsClause n (inputs ++ out ∷ [])) (sym total) clause) (pins_within (length inputs) (inputs ++ out ∷ []) clauses (omega (arith, length-append inputs (out ∷ []))) sound.clauses_fit) in
    let means = agree (all_hold_at (inputs_of (length inputs) row ++ is_true_in values out ∷ []) (clauses_of clauses)) (is_true_in values out) (get_or rows row false) said in
    let same = ap (λ bs. all_hold_at bs (clauses_of clauses)) pins in
    (λ all. means.0 (sym same ∙ holds.0 all), λ equal. holds.1 (same ∙ means.1 equal))

-- a clause that uses all its literals
as_clause : List GateLit → GateClause
as_clause lits = record { lits = lits; len = length lits }

same_value : (P : Type 0) (a b c : Bool) → b ≡ c → P ↔ (a ≡ b) → P ↔ (a ≡ c)
same_value P a b c same law = (λ p. law.0 p ∙ same, λ e. law.1 (e ∙ sym same))

eq_row : (x : Bool) → get_or eq_rows (row_of (x ∷ [])) false ≡ x
eq_row true = refl
eq_row false = refl

or2_row : (p x : Bool) → get_or or2_rows (row_of (p ∷ x ∷ [])) false ≡ (p || x)
or2_row true true = refl
or2_row true false = refl
or2_row false true = refl
or2_row false false = refl

and2_row : (x q : Bool) → get_or and2_rows (row_of (x ∷ q ∷ [])) false ≡ (x && q)
and2_row true true = refl
and2_row true false = refl
and2_row false true = refl
and2_row false false = refl

cell_row : (p x q : Bool) → get_or cell_rows (row_of (p ∷ x ∷ q ∷ [])) false ≡ (p || (x && q))
cell_row true true true = refl
cell_row true true false = refl
cell_row true false true = refl
cell_row true false false = refl
cell_row false true true = refl
cell_row false true false = refl
cell_row false false true = refl
cell_row false false false = refl

-- the functions of the gates
pub eq_law : (values : List Bool) (x s : Lit) → IsClause (length values) (x ∷ s ∷ []) → SatisfiesAll values (wired (x ∷ s ∷ []) eq_clauses) ↔ (is_true_in values s ≡ is_true_in values x)
unfolding as_clause
eq_law values x s clause = same_value _ _ _ _ (eq_row (is_true_in values x)) (gate_means eq_rows (map as_clause eq_clauses) (x ∷ []) s (length values) 1 values refl refl clause refl)

pub or2_law : (values : List Bool) (p x s : Lit) → IsClause (length values) (p ∷ x ∷ s ∷ []) → SatisfiesAll values (wired (p ∷ x ∷ s ∷ []) or2_clauses) ↔ (is_true_in values s ≡ (is_true_in values p || is_true_in values x))
unfolding as_clause
or2_law values p x s clause = same_value _ _ _ _ (or2_row (is_true_in values p) (is_true_in values x)) (gate_means or2_rows (map as_clause or2_clauses) (p ∷ x ∷ []) s (length values) 2 values refl refl clause refl)

pub and2_law : (values : List Bool) (x q s : Lit) → IsClause (length values) (x ∷ q ∷ s ∷ []) → SatisfiesAll values (wired (x ∷ q ∷ s ∷ []) and2_clauses) ↔ (is_true_in values s ≡ (is_true_in values x && is_true_in values q))
unfolding as_clause
and2_law values x q s clause = same_value _ _ _ _ (and2_row (is_true_in values x) (is_true_in values q)) (gate_means and2_rows (map as_clause and2_clauses) (x ∷ q ∷ []) s (length values) 2 values refl refl clause refl)

pub cell_law : (values : List Bool) (p x q s : Lit) → IsClause (length values) (p ∷ x ∷ q ∷ s ∷ []) → SatisfiesAll values (wired (p ∷ x ∷ q ∷ s ∷ []) cell_clauses) ↔ (is_true_in values s ≡ (is_true_in values p || (is_true_in values x && is_true_in values q)))
unfolding as_clause
cell_law values p x q s clause = same_value _ _ _ _ (cell_row (is_true_in values p) (is_true_in values x) (is_true_in values q)) (gate_means cell_rows (map as_clause cell_clauses) (p ∷ x ∷ q ∷ []) s (length values) 3 values refl refl clause refl)
