-- What `clap` reads by the form of a task follows from form and words alone.
use Rattle.std.proofs.Common.{◌≡◌, true, refl}
use Rattle.clap.specs.Words.{is_simple_and_free}
use Rattle.clap.proofs.OnLiterals.{clap_on_literals}
use Rattle.vss_words.specs.Forms.{form}
use Rattle.vss_words.specs.declared.task.Task.{Task}
use Rattle.vss_words.specs.declared.task.Task.TheVariants.{Verify, Generate, Optimise, Judge, Check, Make, Trial}

pub form_is_simple : (task : Task) → is_simple_and_free (form task) ≡ true
unfolding clap_on_literals
form_is_simple Verify = refl
form_is_simple Generate = refl
form_is_simple Optimise = refl
form_is_simple Judge = refl
form_is_simple Check = refl
form_is_simple Make = refl
form_is_simple Trial = refl
