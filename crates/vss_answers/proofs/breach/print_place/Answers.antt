-- The line of a place is that of its cut or its joint.
use Rattle.vss_answers.proofs.breach.print_place.Goals as goal

pub returns-in-Cut : goal.returns-in-Cut
returns-in-Cut g c =
    rw c.in-Cut.is (rw (c.name_of_track-track.ensures, c.as_bytes-at_m.ensures.value, c.format.ensures.text) at c.print_line.ensures)

pub returns-in-Joint : goal.returns-in-Joint
returns-in-Joint g c = rw c.in-Joint.is (rw c.as_bytes.ensures at c.print_line-in-Joint.ensures)
