-- How far a gate's clauses have been added.
use Rattle.std.proofs.Common.{◌≡◌, ℕ, ◌+◌, ◌<◌, ◌≤◌, List, [], ◌∷◌, ◌++◌, length, map, take, get_or, sym, ap, ◌∙◌, arith, append_assoc}
use Rattle.std.specs.Prelude.{sum_by}
use Rattle.std.proofs.lemmas.List.{take_more, get_or-map, length-map}
use Rattle.std.proofs.lemmas.List.Sums.{sum_by_push, sum_by-take-le}
use Rattle.sat_core.specs.declared.literal.Lit.{Lit}
use Rattle.sat_core.specs.Storage.{FormulaParts}
use Rattle.gate_tables.specs.declared.gate.GateLit.{GateLit}
use Rattle.gate_tables.specs.Wiring.{at_pin, wired}

-- so many of the clauses stand behind the old ones
pub record IsEmitted (pins : List Lit) (clauses : List (List GateLit)) (before now : FormulaParts) (count : ℕ) : Type 0 where
  pub vars : now.vars ≡ before.vars
  pub list : now.clauses ≡ before.clauses ++ take count (wired pins clauses)
  pub room_for_clauses : before.spare_clauses ≤ now.spare_clauses + count
  pub room_for_lits : before.spare_lits ≤ now.spare_lits + sum_by length (take count clauses)

-- one clause more has been added
pub record IsAdded (pins : List Lit) (lits : List GateLit) (before now : FormulaParts) : Type 0 where
  pub vars : now.vars ≡ before.vars
  pub list : now.clauses ≡ before.clauses ++ map (at_pin pins) lits ∷ []
  pub room_for_clauses : before.spare_clauses ≤ now.spare_clauses + 1
  pub room_for_lits : before.spare_lits ≤ now.spare_lits + length lits

sum_more : (clauses : List (List GateLit)) (count : ℕ) → count < length clauses → sum_by length (take (count + 1) clauses) ≡ sum_by length (take count clauses) + length (get_or clauses count [])
sum_more clauses count within = ap (sum_by length) (take_more clauses count [] within) ∙ sum_by_push length (take count clauses) (get_or clauses count [])

pub emitted_more : (pins : List Lit) (clauses : List (List GateLit)) (lits : List GateLit) (before now after : FormulaParts) (count : ℕ) → count < length clauses → lits ≡ get_or clauses count [] → IsEmitted pins clauses before now count → IsAdded pins lits now after → IsEmitted pins clauses before after (count + 1)
emitted_more pins clauses lits before now after count within same emitted added =
    let more : take (count + 1) (wired pins clauses) ≡ take count (wired pins clauses) ++ get_or (wired pins clauses) count [] ∷ [] = take_more (wired pins clauses) count [] (omega (arith, length-map clauses (map (at_pin pins)))) in
    let at : get_or (wired pins clauses) count [] ≡ map (at_pin pins) (get_or clauses count []) = get_or-map (map (at_pin pins)) clauses count [] [] within in
    let clause : map (at_pin pins) lits ≡ get_or (wired pins clauses) count [] = ap (map (at_pin pins)) same ∙ sym at in
    let sums = sum_more clauses count within in
    let size : length lits ≡ length (get_or clauses count []) = ap length same in
    record {
      vars = added.vars ∙ emitted.vars;
      list = added.list ∙ (ap (λ cs. cs ++ map (at_pin pins) lits ∷ []) emitted.list ∙ (append_assoc before.clauses (take count (wired pins clauses)) (map (at_pin pins) lits ∷ []) ∙ (ap (λ c. before.clauses ++ (take count (wired pins clauses) ++ c ∷ [])) clause ∙ ap (λ cs. before.clauses ++ cs) (sym more))));
      room_for_clauses = omega arith;
      room_for_lits = omega arith;
    }

-- room that is enough for all of them is enough for the next
pub room_left : (pins : List Lit) (clauses : List (List GateLit)) (lits : List GateLit) (before now : FormulaParts) (count : ℕ) → count < length clauses → lits ≡ get_or clauses count [] → IsEmitted pins clauses before now count → length clauses ≤ before.spare_clauses → sum_by length clauses ≤ before.spare_lits → (1 ≤ now.spare_clauses) × (length lits ≤ now.spare_lits)
room_left pins clauses lits before now count within same emitted enough fits =
    let sums = sum_more clauses count within in
    let most = sum_by-take-le length clauses (count + 1) in
    let size : length lits ≡ length (get_or clauses count []) = ap length same in
    (omega arith, omega arith)

-- the room for literals that is left, also where the next clause found none
pub lits_left : (pins : List Lit) (clauses : List (List GateLit)) (lits : List GateLit) (before now : FormulaParts) (count spare : ℕ) → count < length clauses → lits ≡ get_or clauses count [] → IsEmitted pins clauses before now count → now.spare_lits ≤ spare + length lits → before.spare_lits ≤ spare + sum_by length clauses
lits_left pins clauses lits before now count spare within same emitted enough =
    let sums = sum_more clauses count within in
    let most = sum_by-take-le length clauses (count + 1) in
    let size : length lits ≡ length (get_or clauses count []) = ap length same in
    omega arith
