-- Why `place_of` does what its contract says.
use Rattle.std.proofs.Common.{◌≡◌, arith, ◌∙◌}
use Rattle.log_checker.proofs.NumberLemmas.{AscendsTo-pairs, number_at-positive}
use Rattle.log_checker.proofs.numbers.place_of.Goals as goal

pub returns-then-number-eq0-clause-missing : goal.returns-then-number-eq0-clause-missing
returns-then-number-eq0-clause-missing c =
    let zero_is : c.args.id.0 ≡ 0 = omega arith in
    λ place within same. number_at-positive c.args.own c.args.numbers.now c.args.last place c.requires within (same ∙ zero_is)

pub search-requires : goal.search-requires
search-requires c = AscendsTo-pairs c.args.own c.args.numbers.now c.args.last c.requires
