-- The parts of the list of a free task.
use Rattle.std.proofs.Common.{ℕ, Bool, List, [], ◌∷◌, ◌++◌, length, subst}
use Rattle.std.proofs.lemmas.Grind.{flat_map-append}
use Rattle.std.proofs.lemmas.List.Elements.{Contains-push}
use Rattle.sat_core.specs.declared.literal.Lit.{Lit}
use Rattle.sat_core.specs.Clauses.{SatisfiesAll}
use Rattle.border_counter.specs.Counter.{counter_clauses}
use Rattle.cell_net.specs.declared.ids.CandidateId.{CandidateId}
use Rattle.cell_net.specs.declared.parts.InstanceParts.{InstanceParts}
use Rattle.sweep_table.specs.Tables.{Table}
use Rattle.clause_list.specs.BorderClauses.{border_lits, most_clauses}
use Rattle.clause_list.specs.Coding.{first_of_count, network_of, trains_of, walks_in}
use Rattle.clause_list.specs.WholeList.{base_families, whole}
use Rattle.clause_list.proofs.ReadingLaws.{sat_each, sat_front}
use Rattle.plan_decoder.specs.Decoding.{FreeFormulaSays}

-- the clauses of the first families
front_families : (values : List Bool) (xs ys : List (List (List Lit))) → SatisfiesAll values (whole (xs ++ ys)) → SatisfiesAll values (whole xs)
front_families values xs ys all = sat_front values (whole xs) (whole ys) (subst (SatisfiesAll values) (flat_map-append (λ (family : List (List Lit)). family) xs ys) all)

pub free_formula_says : (values : List Bool) (p : InstanceParts) (gaps : List (List (List (List CandidateId)))) (tables : List Table) (most : ℕ) → FreeFormulaSays values p gaps tables most
free_formula_says values p gaps tables most are size few all =
    let base : List (List (List Lit)) = base_families (walks_in gaps) (network_of p) tables (trains_of p tables) in
    let counter : List (List Lit) = counter_clauses (border_lits (length p.candidates)) (first_of_count p tables) (length p.candidates) in
    let bound : List (List Lit) = most_clauses (first_of_count p tables) (length p.candidates) most in
    let counted : SatisfiesAll values (whole (base ++ counter ∷ [])) = front_families values (base ++ counter ∷ []) (bound ∷ []) all in (
      record { gaps = gaps; are_gaps = are; clauses = front_families values base (counter ∷ []) counted },
      record {
        variables = size;
        few = few;
        counter = sat_each values (λ (family : List (List Lit)). family) (base ++ counter ∷ []) counter counted (Contains-push base counter);
        bound = sat_each values (λ (family : List (List Lit)). family) ((base ++ counter ∷ []) ++ bound ∷ []) bound all (Contains-push (base ++ counter ∷ []) bound);
      },
    )
