-- Laws of `IsClause` over the front of a list.
use Rattle.std.proofs.Common.{◌≡◌, ◌≢◌, ℕ, ◌+◌, ◌<◌, List, length, take, get_or, arith, ◌∙◌, sym, ap}
use Rattle.std.specs.Prelude.{All}
use Rattle.std.proofs.lemmas.List.{take_more, get_or-take, length-take-le, get_or_default}
use Rattle.std.proofs.lemmas.List.Elements.{All-push}
use Rattle.std.proofs.lemmas.List.Quantifiers.{all_pairs_push}
use Rattle.sat_core.specs.declared.literal.Lit.{Lit}
use Rattle.sat_core.specs.Clauses.{IsOver, IsClause}

-- the literal may stand behind these in a clause
abbrev pub GoesWith : ℕ → List Lit → Lit → Type 0
GoesWith vars lits lit = IsOver vars lit × All (λ other. other.var.0 ≢ lit.var.0) lits

pub clause_more : (vars : ℕ) (lits : List Lit) (place : ℕ) (d : Lit) → place < length lits → IsClause vars (take place lits) → GoesWith vars (take place lits) (get_or lits place d) → IsClause vars (take (place + 1) lits)
clause_more vars lits place d within front fits = rw (take_more lits place d within) (record {
  in_range = All-push (IsOver vars) (take place lits) (get_or lits place d) front.in_range fits.0;
  no_variable_twice = all_pairs_push (λ one other. one.var.0 ≢ other.var.0) (take place lits) (get_or lits place d) front.no_variable_twice fits.1;
})

pub clause_at : (vars : ℕ) (lits : List Lit) (place : ℕ) (d : Lit) → place < length lits → IsClause vars lits → GoesWith vars (take place lits) (get_or lits place d)
clause_at vars lits place d within clause = (
  clause.in_range place d within,
  λ k e below same.
      let front : length (take place lits) ≡ place = length-take-le place lits (omega arith) in
      clause.no_variable_twice k place d (omega arith) within
      (ap (λ lit. lit.var.0) (get_or_default lits k d e (omega arith) ∙ sym (get_or-take place lits k e (omega arith))) ∙ same),
)
