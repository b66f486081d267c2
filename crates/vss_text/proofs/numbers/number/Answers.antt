-- Why `number` does what its contract says.
use Rattle.std.proofs.Common.{◌+◌, ◌∷◌, ◌++◌, ap, sym, ◌∙◌, arith}
use Rattle.std.specs.Prelude.{decimal}
use Rattle.std.proofs.lemmas.List.{take_rest}
use Rattle.vss_text.proofs.HeadLemmas.{number_of_head, head_misses}
use Rattle.vss_text.proofs.numbers.number.Goals as goal

pub returns-in-Ok-clause-found : goal.returns-in-Ok-clause-found
returns-in-Ok-clause-found c =
    number_of_head c.args.text.now c.in-Some.head.now c.args.end c.in-Ok.value c.in-Ok.digits c.in-Some.ensures.cases.0 c.in-Ok.ensures.within c.in-Ok.ensures.found
    ∙ ap (λ rest. decimal c.in-Ok.value ++ c.args.end ∷ rest) (sym (take_rest c.args.text.now (c.in-Ok.digits + 1)))

pub returns-in-Err-clause-missed : goal.returns-in-Err-clause-missed
returns-in-Err-clause-missed c = head_misses c.args.text.now c.in-Some.head.now c.args.end c.in-Err.miss c.in-Some.ensures.cases.0 (omega (arith, c.in-Some.ensures.cases.2)) c.in-Err.ensures.missed
