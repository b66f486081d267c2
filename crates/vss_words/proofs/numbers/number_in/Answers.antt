-- Ten digits at most always fit 64 bits.
use Rattle.std.proofs.Common.{rules, ◌≡◌, true}
use Rattle.vss_words.proofs.NumberLemmas.{parses}
use Rattle.vss_words.specs.Numbers.{is_number}
use Rattle.vss_words.proofs.numbers.number_in.Goals as goal

pub returns-in_default-clause-value : goal.returns-in_default-clause-value
returns-in_default-clause-value c =
    let form : is_number c.args.text.now ≡ true = search rules in
    let read = parses c.args.text.now c.parse.result form c.parse.ensures.value.0 in
    absurd (c.in_default.not-Ok _ read)
