-- Each form is one that `clap` has a meaning for.
use Rattle.std.proofs.Common.{◌∙◌, ap}
use Rattle.clap.specs.Words.{is_simple_and_free}
use Rattle.vss_words.proofs.FormLemmas.{form_is_simple}
use Rattle.vss_words.proofs.words.command_of.Goals as goal

pub matches_in-requires : goal.matches_in-requires
matches_in-requires c = ap is_simple_and_free c.in_ok-form_of.ensures ∙ form_is_simple c.in-Some-task_of.task
