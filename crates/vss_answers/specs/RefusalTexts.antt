-- The lines of refusals: the file, the kind, the place and its item. For want of memory nothing is said.
use Rattle.std.specs.Prelude.{ℕ, List, [], ◌∷◌, codes, decimal}
use Rattle.vss_io.specs.Line.{flat, line}
use Rattle.net_reader.specs.declared.refusal.ReadRefusal.{ReadRefusal}
use Rattle.net_reader.specs.declared.refusal.ReadRefusal.TheVariants as net
use Rattle.timetable.specs.declared.refusal.TimeRefusal.{TimeRefusal}
use Rattle.timetable.specs.declared.refusal.TimeRefusal.TheVariants as time
use Rattle.discretise.specs.declared.refusal.CutRefusal.{CutRefusal}
use Rattle.discretise.specs.declared.refusal.CutRefusal.TheVariants as cut
use Rattle.vss_report.specs.declared.fault.ReportFault.{ReportFault}
use Rattle.vss_report.specs.declared.fault.ReportFault.TheVariants as fault
use Rattle.clause_encoder.specs.declared.task.EncodeRefusal.{EncodeRefusal}
use Rattle.clause_encoder.specs.declared.task.EncodeRefusal.TheVariants as size
use Rattle.vss_jobs.specs.declared.refusal.Refusal.{Refusal}
use Rattle.vss_jobs.specs.declared.refusal.Refusal.TheVariants as refusal
use Rattle.vss_answers.specs.RefusalWords.{list_word, net_member_word, net_fault_word, time_member_word, time_fault_word, cut_fault_word}

-- the line of a file, a kind, a place and an item
unfoldable pub refused_line : List ℕ → List ℕ → List ℕ → ℕ → List ℕ
refused_line file word place item = line (flat (codes "refused " ∷ file ∷ codes " " ∷ word ∷ codes " " ∷ place ∷ codes " " ∷ decimal item ∷ []))

unfoldable pub network_refusal_text : ReadRefusal → List ℕ
network_refusal_text net.NotJson = refused_line (codes "network") (codes "NotJson") (codes "document") 0
network_refusal_text (net.Shape member item) = refused_line (codes "network") (codes "Shape") (net_member_word member) item
network_refusal_text (net.BadName spot) = refused_line (codes "network") (codes "BadName") (list_word spot.list) spot.item
network_refusal_text (net.Net kind spot) = refused_line (codes "network") (net_fault_word kind) (list_word spot.list) spot.item
network_refusal_text net.Memory = []

unfoldable pub timetable_refusal_text : TimeRefusal → List ℕ
timetable_refusal_text time.NotJson = refused_line (codes "timetable") (codes "NotJson") (codes "document") 0
timetable_refusal_text (time.Shape member item) = refused_line (codes "timetable") (codes "Shape") (time_member_word member) item
timetable_refusal_text (time.Named kind spot) = refused_line (codes "timetable") (time_fault_word kind) (list_word spot.list) spot.item
timetable_refusal_text time.Memory = []

unfoldable pub grid_refusal_text : CutRefusal → List ℕ
grid_refusal_text (cut.Named kind spot) = refused_line (codes "grid") (cut_fault_word kind) (list_word spot.list) spot.item
grid_refusal_text cut.Memory = []

unfoldable pub report_refusal_text : ReportFault → List ℕ
report_refusal_text (fault.BadLine n) = refused_line (codes "report") (codes "BadLine") (codes "lines") n
report_refusal_text (fault.UnknownName n) = refused_line (codes "report") (codes "UnknownName") (codes "lines") n
report_refusal_text fault.NoPart = refused_line (codes "report") (codes "NoPart") (codes "document") 0
report_refusal_text fault.Memory = []

unfoldable pub sizes_refusal_text : EncodeRefusal → List ℕ
sizes_refusal_text (size.TooManySweeps train) = refused_line (codes "sizes") (codes "TooManySweeps") (codes "trains") train.0
sizes_refusal_text (size.TooManyWalks section) = refused_line (codes "sizes") (codes "TooManyWalks") (codes "sections") section.0
sizes_refusal_text size.TooManyVariables = refused_line (codes "sizes") (codes "TooManyVariables") (codes "document") 0
sizes_refusal_text size.TooManyClauses = refused_line (codes "sizes") (codes "TooManyClauses") (codes "document") 0
sizes_refusal_text size.TooManyLiterals = refused_line (codes "sizes") (codes "TooManyLiterals") (codes "document") 0
sizes_refusal_text size.Memory = []

-- the line of a refusal
unfoldable pub refusal_text : Refusal → List ℕ
refusal_text (refusal.Network why) = network_refusal_text why
refusal_text (refusal.Timetable why) = timetable_refusal_text why
refusal_text (refusal.Grid why) = grid_refusal_text why
refusal_text (refusal.Report why) = report_refusal_text why
refusal_text (refusal.Sizes why) = sizes_refusal_text why
