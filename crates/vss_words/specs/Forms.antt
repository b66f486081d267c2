-- The form of each task's words, as the command that `clap` reads them by: values that have to stand there, and options
-- with one value each.
use Rattle.std.specs.Prelude.{ℕ, true, List, Option, Some, None, cond, codes}
use Rattle.std.specs.Str.{bytes_eq}
use Rattle.clap.specs.Words.{App, Rule, new_app, new_rule, with_rule}
use Rattle.vss_words.specs.declared.task.Task.{Task}
use Rattle.vss_words.specs.declared.task.Task.TheVariants.{Verify, Generate, Optimise, Judge, Check, Make, Trial}

-- the task of that name
abbrev pub task_named : List ℕ → Option Task
task_named word =
    cond (bytes_eq word (codes "verify")) (Some Verify)
    (cond (bytes_eq word (codes "generate")) (Some Generate)
    (cond (bytes_eq word (codes "optimise")) (Some Optimise)
    (cond (bytes_eq word (codes "judge")) (Some Judge)
    (cond (bytes_eq word (codes "check")) (Some Check)
    (cond (bytes_eq word (codes "make")) (Some Make)
    (cond (bytes_eq word (codes "trial")) (Some Trial) None))))))

-- a value that has to stand there
abbrev pub place : List ℕ → Rule
place id = record (new_rule id) { required = true }

-- an option with one value, named as its id
abbrev pub option : List ℕ → Rule
option id = record (new_rule id) { long = Some id }

abbrev pub with_documents : App → App
with_documents app = with_rule (with_rule app (place (codes "net"))) (place (codes "timetable"))

abbrev pub with_case : App → App
with_case app = with_rule (with_rule app (place (codes "seed"))) (place (codes "size"))

abbrev pub with_budget : App → App
with_budget app = with_rule app (option (codes "budget"))

-- the form of a task's words, whose first one is its name
abbrev pub form : Task → App
form Verify = with_budget (with_documents (new_app (codes "verify")))
form Generate = with_budget (with_rule (with_documents (new_app (codes "generate"))) (option (codes "borders")))
form Optimise = with_budget (with_documents (new_app (codes "optimise")))
form Judge = with_rule (with_documents (new_app (codes "judge"))) (place (codes "report"))
form Check = with_rule (with_documents (new_app (codes "check"))) (place (codes "report"))
form Make = with_case (new_app (codes "make"))
form Trial = with_budget (with_case (new_app (codes "trial")))
