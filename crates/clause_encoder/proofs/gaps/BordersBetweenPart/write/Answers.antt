-- Why `BordersBetweenPart::write` does what its contract says.
use Rattle.std.proofs.Common.{ℕ, sym, subst}
use Rattle.std.specs.Prelude.{OnOk, IfErr}
use Rattle.std.specs.List.{flat_map}
use Rattle.clause_list.specs.BorderClauses.{borders_between, border_on_walk}
use Rattle.clause_list.specs.Coding.{walks_in}
use Rattle.clause_encoder.specs.WalkFitting.{on_walk, on_walk_alone}
use Rattle.clause_encoder.specs.Writing.{AreClauses, Takes, IsCause}
use Rattle.clause_encoder.proofs.WalkLemmas.{few_on_walks, is_above_at}
use Rattle.clause_encoder.proofs.gaps.BordersBetweenPart.write.Goals as goal

pub gap-number-requires-clause-order : goal.gap-number-requires-clause-order
gap-number-requires-clause-order c = (is_above_at c.args.self.now.net.now c.args.self.now.cell c.args.other _ c.requires.fits.2 c.requires.fits.3).higher

pub gap-number-requires-clause-within : goal.gap-number-requires-clause-within
gap-number-requires-clause-within c = (is_above_at c.args.self.now.net.now c.args.self.now.cell c.args.other _ c.requires.fits.2 c.requires.fits.3).cell

pub gap-number-requires-clause-section : goal.gap-number-requires-clause-section
gap-number-requires-clause-section c = (is_above_at c.args.self.now.net.now c.args.self.now.cell c.args.other _ c.requires.fits.2 c.requires.fits.3).same

pub write_walks-requires-clause-few : goal.write_walks-requires-clause-few
write_walks-requires-clause-few c = few_on_walks c.args.self.now.net.now (walks_in c.args.self.now.gaps.now) c.args.self.now.cell c.args.other _ c.requires.fits.0 c.candidate_count-few.ensures.few c.requires.fits.1 c.requires.fits.2 c.requires.fits.3

pub write_walks-requires-clause-clauses : goal.write_walks-requires-clause-clauses
unfolding borders_between border_on_walk on_walk
write_walks-requires-clause-clauses c = subst (λ (n : ℕ). AreClauses c.args.writer.now.vars (flat_map (on_walk_alone n) (walks_in c.args.self.now.gaps.now c.args.self.now.cell c.args.other))) (sym c.gap-number.ensures) c.requires.clauses

pub returns-clause-ok : goal.returns-clause-ok
unfolding borders_between border_on_walk on_walk
returns-clause-ok c = subst (λ (n : ℕ). OnOk c.write_walks.result (Takes c.args.writer.now (flat_map (on_walk_alone n) (walks_in c.args.self.now.gaps.now c.args.self.now.cell c.args.other)) c.write_walks.new.writer)) c.gap-number.ensures c.write_walks.ensures.ok

pub returns-clause-err : goal.returns-clause-err
unfolding borders_between border_on_walk on_walk
returns-clause-err c = subst (λ (n : ℕ). IfErr c.write_walks.result (IsCause c.args.writer.now (flat_map (on_walk_alone n) (walks_in c.args.self.now.gaps.now c.args.self.now.cell c.args.other)))) c.gap-number.ensures c.write_walks.ensures.err
