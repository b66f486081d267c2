-- Why `write_bound` does what its contract says.
use Rattle.std.proofs.Common.{◌+◌, ◌≤◌, sym, subst}
use Rattle.border_counter.specs.Counter.{sum_to}
use Rattle.clause_list.proofs.BorderLaws.{most_are_clauses}
use Rattle.clause_encoder.proofs.lists.write_bound.Goals as goal

pub write_most-requires-clause-clauses : goal.write_most-requires-clause-clauses
write_most-requires-clause-clauses c = record { each = most_are_clauses c.args.writer.now.vars c.args.numbers.now.behind c.candidate_count-candidates.result c.args.bound c.requires.some (subst (λ n. c.args.numbers.now.behind + sum_to n ≤ c.args.writer.now.vars + 1) (sym c.candidate_count-candidates.ensures.value) c.requires.variables) }
