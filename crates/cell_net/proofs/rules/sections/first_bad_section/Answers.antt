-- Why `first_bad_section` does what its contract says.
use Rattle.cell_net.proofs.SectionLemmas.{first_bad}
use Rattle.cell_net.proofs.rules.sections.first_bad_section.Goals as goal

pub returns : goal.returns
returns c =
    let found = rw c.requires.segments at c.in_ok-section.ensures in
    first_bad _ c.requires.cells _ found
