-- Why `Gaps::put_walk` does what its contract says.
use Rattle.std.proofs.Common.{◌≡◌, ◌++◌, ◌∙◌, List, ap, arith, length, map, sym}
use Rattle.std.specs.List.{filter, range_with_len}
use Rattle.gap_clauses.specs.Fans.{walk_at, walks_to}
use Rattle.gap_clauses.specs.Searched.{AreMarks, is_marked_candidate}
use Rattle.gap_clauses.specs.Views.{candidate_of}
use Rattle.gap_clauses.specs.Walks.{Step}
use Rattle.gap_clauses.proofs.GapLaws.{walk_of}
use Rattle.gap_clauses.proofs.MarkLemmas.{marked_are}
use Rattle.gap_clauses.proofs.gaps.Gaps.put_walk.Goals as goal

pub mark-span-requires-clause-cell : goal.mark-span-requires-clause-cell
mark-span-requires-clause-cell c = (walk_of c.self.inside.candidates c.self.inside.fans.items c.args.self.now c.args.e c.args.f c.args.walk c.index.result.now c.self.view_is c.requires (sym c.index.ensures)).low

pub mark-span-requires-clause-walk : goal.mark-span-requires-clause-walk
mark-span-requires-clause-walk c = (walk_of c.self.inside.candidates c.self.inside.fans.items c.args.self.now c.args.e c.args.f c.args.walk c.index.result.now c.self.view_is c.requires (sym c.index.ensures)).inside

pub returns-in-Ok-clause-ok : goal.returns-in-Ok-clause-ok
returns-in-Ok-clause-ok c =
    let w : List Step = walk_at (walks_to c.index.result.now.first c.index.result.now.walks c.args.f) c.args.walk in
    let marks : AreMarks c.self.inside.candidates w c.mark-span.new.marks = c.mark-span.ensures.marks in
    let count : c.len-count.result ≡ length c.self.inside.candidates = omega (arith, c.len-count.ensures.value) in
    let all = marked_are c.self.inside.candidates w c.mark-span.new.marks marks in
    let one = walk_of c.self.inside.candidates c.self.inside.fans.items c.args.self.now c.args.e c.args.f c.args.walk c.index.result.now c.self.view_is c.requires (sym c.index.ensures) in
    c.in-Ok.ensures.ok ∙ ap (λ cs. c.args.into.now.items ++ cs) (ap (λ n. filter (is_marked_candidate c.mark-span.new.marks) (map candidate_of (range_with_len 0 n))) count ∙ (all ∙ sym one.is))
