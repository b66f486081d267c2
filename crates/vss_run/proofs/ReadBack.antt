-- Written reports are read back, since words and files decide.
use Rattle.std.proofs.Common.{ℕ, List, length, Ok}
use Rattle.vss_io.specs.Shown.{Files, Output}
use Rattle.vss_answers.specs.declared.answer.Answer.TheVariants.{Lawful, Proved}
use Rattle.vss_answers.specs.declared.status.Status.{Status}
use Rattle.vss_answers.specs.declared.status.Status.TheVariants.{WriteFault, Memory}
use Rattle.vss_run.specs.Call.{AreDecisive, ReadsBack}
use Rattle.written_reports.specs.WrittenReports.{DesignsAreLawful, RefutationsAreProved}

pub reads_back : DesignsAreLawful → RefutationsAreProved → (words : List (List ℕ)) (files after : Files) (before now : Output) (ended : Status)
    → AreDecisive words files after before now ended → ReadsBack words files after before now ended
reads_back judged checked words files after before now ended decisive = λ tells. (
  λ documents report outcome borders plan asked holds has. decisive tells (Ok (Lawful (length borders))) tt (judged words files after documents report outcome borders plan asked holds has),
  λ documents report outcome r asked holds has. decisive tells (Ok (Proved r.bound)) tt (checked words files after documents report outcome r asked holds has),
)

-- a fault of writing and want of memory come in the place of anything
pub fault_reads_back : (words : List (List ℕ)) (files after : Files) (before now : Output) → ReadsBack words files after before now WriteFault
fault_reads_back words files after before now = λ tells. (λ documents report outcome borders plan asked holds has. tt, λ documents report outcome r asked holds has. tt)

pub memory_reads_back : (words : List (List ℕ)) (files after : Files) (before now : Output) → ReadsBack words files after before now Memory
memory_reads_back words files after before now = λ tells. (λ documents report outcome borders plan asked holds has. tt, λ documents report outcome r asked holds has. tt)
