-- Why `assume_negations` does what its contract says.
use Rattle.std.proofs.Common.{◌≡◌, ◌++◌, ◌∷◌, [], ◌+◌, map, take, arith, ap, sym, ◌∙◌}
use Rattle.std.proofs.lemmas.List.{map_more}
use Rattle.sat_core.specs.Clauses.{negated}
use Rattle.sat_core.proofs.ValueLaws.{has_value_is, VariableTwice, NoVariableTwice-more}
use Rattle.log_checker.proofs.judge.assume_negations.Goals as goal

pub returns-then-has_value-clause-exact : goal.returns-then-has_value-clause-exact
returns-then-has_value-clause-exact c = (
  λ never. absurd (cc),
  λ none. absurd (VariableTwice c.args.lits.now c.loop-lit.lit-index _ (omega arith) (sym (has_value_is (take c.loop-lit.lit-index c.args.lits.now) _) ∙ (rw c.loop-lit.invariant.1 at (sym c.if-has_value.ensures))) none),
)

pub loop-lit-preserved : goal.loop-lit-preserved
loop-lit-preserved c =
    let lits = c.args.lits.now in
    let place = c.loop-lit.lit-index in
    let known : c.assume.new.self.lits ≡ map negated (take (place + 1) lits) = c.assume.ensures.known ∙ (ap (λ known. known ++ c.negated.result ∷ []) c.loop-lit.invariant.1 ∙ (ap (λ lit. map negated (take place lits) ++ lit ∷ []) c.negated.ensures ∙ sym (map_more negated lits place _ (omega arith)))) in
    (c.assume.ensures.vars ∙ c.loop-lit.invariant.0, known, NoVariableTwice-more c.args.lits.now c.loop-lit.lit-index _ (omega arith) c.loop-lit.invariant.2 (sym (has_value_is (take c.loop-lit.lit-index c.args.lits.now) _) ∙ (rw c.loop-lit.invariant.1 at (sym c.if-has_value.ensures))))
