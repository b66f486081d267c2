-- Steps as the definitions of derivations see them.
use Rattle.std.specs.Prelude.{List, map}
use Rattle.sat_core.specs.Derivation.{DerivedStep, adds, drops}
use Rattle.derivation_log.specs.declared.step.Step.{Step}
use Rattle.derivation_log.specs.declared.step.Step.TheVariants.{Add, Drop}

abbrev pub derived : Step → DerivedStep
derived (Add id lits hints) = adds id lits hints
derived (Drop ids) = drops ids

abbrev pub derived_steps : List Step → List DerivedStep
derived_steps steps = map derived steps
