-- The command that words ask for: what `clap` finds in them by the form of their task, with each number in form and range.
use Rattle.std.specs.Prelude.{◌≡◌, ◌≤◌, ℕ, List, [], ◌∷◌, Option, Some, None, Result, Ok, Err, ⊤, codes, option_map, option_and_then}
use Rattle.clap.specs.Kinds.{Kinds}
use Rattle.clap.specs.Words.{App, Row, fault_of, first_of, matches_of}
use Rattle.vss_words.specs.Forms.{form, task_named}
use Rattle.vss_words.specs.Numbers.{number_from}
use Rattle.vss_words.specs.declared.task.Task.{Task}
use Rattle.vss_words.specs.declared.task.Task.TheVariants as task
use Rattle.vss_words.specs.declared.command.DocumentNames.{DocumentNames}
use Rattle.vss_words.specs.declared.command.Command.{Command}
use Rattle.vss_words.specs.declared.command.Command.TheVariants.{Verify, Generate, Optimise, Judge, Check, Make, Trial}
use Rattle.vss_words.specs.declared.fault.WordsFault.{WordsFault}
use Rattle.vss_words.specs.declared.fault.WordsFault.TheVariants.{NotTaken, Memory}

-- the rows, where there is no fault
abbrev pub unless_fault : Kinds → List Row → Option (List Row)
unless_fault [] rows = Some rows
unless_fault (kind ∷ kinds) rows = None

-- what words give to the arguments of the form, if it takes them
unfoldable pub rows_given : App → List (List ℕ) → Option (List Row)
rows_given app words = unless_fault (fault_of app words) (matches_of app words)

-- the names of both documents
abbrev pub documents_in : List Row → Option DocumentNames
documents_in rows = option_and_then (λ network.
    option_map (λ timetable. record { network = network; timetable = timetable }) (first_of (codes "timetable") rows))
    (first_of (codes "net") rows)

-- a number that has to be given
abbrev pub number_given : ℕ → ℕ → List ℕ → List Row → Option ℕ
number_given low high id rows = option_and_then (number_from low high) (first_of id rows)

-- a number that may be given: it is the default where it isn't
abbrev pub number_or : ℕ → ℕ → ℕ → Option (List ℕ) → Option ℕ
number_or default low high None = Some default
number_or default low high (Some text) = number_from low high text

-- a budget: how many conflicts a search may come to
abbrev pub budget_in : List Row → Option ℕ
budget_in rows = number_or 200000 1 1000000000 (first_of (codes "budget") rows)

-- how many borders a layout may have at most, where that is given
abbrev pub number_if_given : ℕ → ℕ → Option (List ℕ) → Option (Option ℕ)
number_if_given low high None = Some None
number_if_given low high (Some text) = option_map Some (number_from low high text)

abbrev pub most_in : List Row → Option (Option ℕ)
most_in rows = number_if_given 0 4294967295 (first_of (codes "borders") rows)

abbrev pub seed_in : List Row → Option ℕ
seed_in rows = number_given 0 4294967295 (codes "seed") rows

abbrev pub size_in : List Row → Option ℕ
size_in rows = number_given 1 8 (codes "size") rows

-- the command of a task with these arguments
abbrev pub command_from : Task → List Row → Option Command
command_from task.Verify rows = option_and_then (λ documents. option_map (Verify documents) (budget_in rows)) (documents_in rows)
command_from task.Generate rows = option_and_then (λ documents.
    option_and_then (λ most. option_map (Generate documents most) (budget_in rows)) (most_in rows)) (documents_in rows)
command_from task.Optimise rows = option_and_then (λ documents. option_map (Optimise documents) (budget_in rows)) (documents_in rows)
command_from task.Judge rows = option_and_then (λ documents. option_map (Judge documents) (first_of (codes "report") rows)) (documents_in rows)
command_from task.Check rows = option_and_then (λ documents. option_map (Check documents) (first_of (codes "report") rows)) (documents_in rows)
command_from task.Make rows = option_and_then (λ seed. option_map (Make seed) (size_in rows)) (seed_in rows)
command_from task.Trial rows = option_and_then (λ seed.
    option_and_then (λ size. option_map (Trial seed size) (budget_in rows)) (size_in rows)) (seed_in rows)

-- the command that words ask for, whose first one is its task
abbrev pub command_named : Option Task → List (List ℕ) → Option Command
command_named None words = None
command_named (Some task) words = option_and_then (command_from task) (rows_given (form task) words)

unfoldable pub command : List (List ℕ) → Option Command
command [] = None
command (name ∷ words) = command_named (task_named name) (name ∷ words)

-- what is read means what was asked for; where that is nothing it isn't taken; want of memory says nothing of it
abbrev pub ReadsAs : {X Y : Type 0} → Option Y → (X → Y) → Result X WordsFault → Type 0
ReadsAs asked meaning (Ok read) = asked ≡ Some (meaning read)
ReadsAs asked meaning (Err NotTaken) = asked ≡ None
ReadsAs asked meaning (Err Memory) = ⊤

-- the first word is the name of a task
abbrev pub NamesTask : List (List ℕ) → Type 0
NamesTask [] = ⊥
NamesTask (name ∷ words) = (task : Task) × (task_named name ≡ Some task)

abbrev pub IsBudget : ℕ → Type 0
IsBudget budget = (1 ≤ budget) × (budget ≤ 1000000000)

abbrev pub IsSize : ℕ → Type 0
IsSize size = (1 ≤ size) × (size ≤ 8)

-- the numbers of a command are in their ranges
abbrev pub HasInRange : Command → Type 0
HasInRange (Verify documents budget) = IsBudget budget
HasInRange (Generate documents most budget) = IsBudget budget
HasInRange (Optimise documents budget) = IsBudget budget
HasInRange (Judge documents report) = ⊤
HasInRange (Check documents report) = ⊤
HasInRange (Make seed size) = IsSize size
HasInRange (Trial seed size budget) = IsSize size × IsBudget budget
