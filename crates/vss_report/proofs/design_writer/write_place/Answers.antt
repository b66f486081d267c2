-- Why `write_place` does what its contract says.
use Rattle.vss_report.proofs.ReportTexts.{prints_same, cut_line, joint_line}
use Rattle.vss_report.proofs.design_writer.write_place.Goals as goal

pub returns-in-Cut : goal.returns-in-Cut
returns-in-Cut g c = rw c.in-Cut.is (prints_same _ _ _ _ _ (cut_line _ _) (rw c.name_of_track.ensures at c.write_cut.ensures))

pub returns-in-Joint : goal.returns-in-Joint
returns-in-Joint g c = rw c.in-Joint.is (prints_same _ _ _ _ _ (joint_line _) (rw c.as_bytes.ensures at c.print_line.ensures))
