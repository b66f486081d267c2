-- Why `DesignParts::take_border` does what its contract says.
use Rattle.std.proofs.Common.{refl}
use Rattle.vss_report.specs.Found.{name_of_place}
use Rattle.vss_report.proofs.TakenLemmas.{border_taken, low_border}
use Rattle.vss_report.proofs.design_parts.DesignParts.take_border.Goals as goal

pub returns-in-Ok-clause-ok : goal.returns-in-Ok-clause-ok
returns-in-Ok-clause-ok c = λ lines behind taken.
    border_taken c.args.scene.now.labels lines c.args.self.now _ (name_of_place c.args.name.now) c.in-Some.candidate c.args.scene.now.labelled.are_labels taken c.in-Some.ensures.found c.in-Some.ensures.ahead refl c.in-Ok.ensures.items refl refl

pub returns-in-Some-find_place-clause-err : goal.returns-in-Some-find_place-clause-err
returns-in-Some-find_place-clause-err c = λ lines behind taken.
    (refl, low_border c.args.scene.now.labels lines c.args.self.now (name_of_place c.args.name.now) c.in-Some-find_place.field-0 taken c.in-Some-find_place.ensures.found c.in-None.ensures.none)
