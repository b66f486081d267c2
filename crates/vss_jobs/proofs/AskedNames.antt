-- Words that ask for a command name a task.
use Rattle.std.proofs.Common.{◌≡◌, ℕ, List, [], ◌∷◌, Option, Some, None, refl}
use Rattle.vss_words.specs.Commands.{command, command_named, NamesTask}
use Rattle.vss_words.specs.Forms.{task_named}
use Rattle.vss_words.specs.declared.command.Command.{Command}
use Rattle.vss_words.specs.declared.task.Task.{Task}

pub nothing_asked : (asked : Command) → None ≡ Some asked → ⊥
nothing_asked asked e = cc

named_by : (name : List ℕ) (words : List (List ℕ)) (task : Option Task) (asked : Command) → task_named name ≡ task → command_named task (name ∷ words) ≡ Some asked → NamesTask (name ∷ words)
named_by name words None asked is asks = absurd (nothing_asked asked asks)
named_by name words (Some task) asked is asks = (task, is)

pub names_task : (words : List (List ℕ)) (asked : Command) → command words ≡ Some asked → NamesTask words
unfolding command
names_task [] asked asks = absurd (nothing_asked asked asks)
names_task (name ∷ words) asked asks = named_by name words (task_named name) asked refl asks
