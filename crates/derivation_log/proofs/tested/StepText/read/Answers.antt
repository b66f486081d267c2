-- Why `StepText::read` does what its contract says.
use Rattle.std.proofs.Common.{sym, subst, refl}
use Rattle.derivation_log.specs.Tested.{IsTextOf}
use Rattle.derivation_log.specs.Text.{IsLogNumber}
use Rattle.derivation_log.specs.declared.step.Step.TheVariants.{Add, Drop}
use Rattle.derivation_log.proofs.StepLemmas.{text_once, id_in_range}
use Rattle.derivation_log.proofs.tested.StepText.read.Goals as goal

pub returns-in_ok-ids-in-Drop-clause-only : goal.returns-in_ok-ids-in-Drop-clause-only
returns-in_ok-ids-in-Drop-clause-only c = λ other range is.
    text_once c.args.self.now (Drop c.in_ok-ids-in-Drop.ids) other c.in_ok-ids-in-Drop.ensures.0 range
    (subst (λ text. IsTextOf text (Drop c.in_ok-ids-in-Drop.ids)) (sym c.in-Drop.is) c.in_ok-ids-in-Drop.ensures.1) is

pub returns-in_ok-hints-in-Add-clause-only : goal.returns-in_ok-hints-in-Add-clause-only
returns-in_ok-hints-in-Add-clause-only c = λ other range is.
    let step = Add c.in-Add.id c.in_ok-lits-in-Add.lits c.in_ok-hints-in-Add.hints in
    let id_fits : IsLogNumber c.in-Add.id.0 = id_in_range c.in-Add.id c.in-Add.lits c.in-Add.hints c.requires.step c.requires.in_range (subst (λ text. IsTextOf text c.requires.step) c.in-Add.is c.requires.is_of) in
    text_once c.args.self.now step other (id_fits, c.in_ok-lits-in-Add.ensures.0, c.in_ok-hints-in-Add.ensures.0) range
    (subst (λ text. IsTextOf text step) (sym c.in-Add.is) (refl, c.in_ok-lits-in-Add.ensures.1, c.in_ok-hints-in-Add.ensures.1)) is
