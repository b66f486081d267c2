-- The command that words ask for, and the files that it reads.
use Rattle.std.specs.Prelude.{◌≡◌, ℕ, List, [], ◌∷◌, ◌++◌, Option, Some, None, Result, Ok, Err}
use Rattle.vss_words.specs.Commands.{command}
use Rattle.vss_words.specs.declared.command.Command.{Command}
use Rattle.vss_words.specs.declared.command.Command.TheVariants.{Verify, Generate, Optimise, Judge, Check, Make, Trial}
use Rattle.vss_words.specs.declared.command.DocumentNames.{DocumentNames}
use Rattle.vss_stages.specs.declared.stop.Stop.{Stop}
use Rattle.vss_stages.specs.declared.stop.Stop.TheVariants.{Usage}
use Rattle.vss_jobs.specs.declared.refusal.Refusal.{Refusal}

abbrev pub names_of_documents : DocumentNames → List (List ℕ)
names_of_documents names = names.network ∷ names.timetable ∷ []

-- the files that are read for a command
abbrev pub files_named : Command → List (List ℕ)
files_named (Verify documents budget) = names_of_documents documents
files_named (Generate documents most budget) = names_of_documents documents
files_named (Optimise documents budget) = names_of_documents documents
files_named (Judge documents report) = names_of_documents documents ++ report ∷ []
files_named (Check documents report) = names_of_documents documents ++ report ∷ []
files_named (Make seed size) = []
files_named (Trial seed size budget) = []

-- the files that are read where the words ask for this
abbrev pub files_asked_for : Option Command → List (List ℕ)
files_asked_for (Some asked) = files_named asked
files_asked_for None = []

-- the stage of the words: the command that they ask for, or the usage line just where they ask for none
abbrev pub IsCommand : List (List ℕ) → Result Command (Stop Refusal) → Type 0
IsCommand words (Ok asked) = command words ≡ Some asked
IsCommand words (Err Usage) = command words ≡ None
IsCommand words (Err why) = ⊥
