-- A fault that isn't want of memory is one of the form's.
use Rattle.std.proofs.Common.{◌∙◌, map, string_bytes}
use Rattle.clap.specs.Words.{app_of}
use Rattle.vss_words.proofs.RowLemmas.{found, not_found}
use Rattle.vss_words.proofs.parse.matches_in.Goals as goal

pub returns-in-Ok : goal.returns-in-Ok
returns-in-Ok c = found (app_of c.args.form) (map string_bytes c.args.words.now) c.in-Ok.matches c.requires
    (c.in-Ok.ensures.kinds c.requires) c.in-Ok.ensures.matches

pub returns : goal.returns
returns c = not_found (app_of c.args.form) (map string_bytes c.args.words.now) c.in-Err.error (c.in-Err.ensures.kinds c.requires)
    (λ memory. c.in_default.not-OutOfMemory (c.kind.ensures ∙ memory))
