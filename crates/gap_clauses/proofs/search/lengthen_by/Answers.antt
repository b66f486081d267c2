-- Why `lengthen_by` does what its contract says.
use Rattle.std.proofs.Common.{◌≡◌, ◌++◌, ◌∙◌, List, ap, sym, subst}
use Rattle.std.specs.Prelude.{IfErr, OnOk}
use Rattle.std.proofs.lemmas.List.{append-nil}
use Rattle.gap_clauses.specs.Fans.{IsStop, walk_at}
use Rattle.gap_clauses.specs.Walks.{Step}
use Rattle.gap_clauses.proofs.OnceLaws.{visits_first, visits_none}
use Rattle.gap_clauses.proofs.OverLaws.{longer_no, longer_yes}
use Rattle.gap_clauses.proofs.search.lengthen_by.Goals as goal

pub returns-then-begins_with-clause-ok : goal.returns-then-begins_with-clause-ok
returns-then-begins_with-clause-ok c =
    let none = longer_no c.args.fan.now.first c.args.node (walk_at c.args.fan.now.walks c.args.place) c.args.cell (visits_first c.args.fan.now.first c.args.cell _ (sym c.begins_with.ensures ∙ c.if-begins_with.true)) in
    sym (append-nil c.args.fan.now.walks) ∙ ap (λ ws. c.args.fan.now.walks ++ ws) (sym none)

pub returns-clause-ok : goal.returns-clause-ok
returns-clause-ok c =
    let one = longer_yes c.args.fan.now.first c.args.node (walk_at c.args.fan.now.walks c.args.place) c.args.cell (visits_none c.args.fan.now.first c.args.cell _ (sym c.begins_with.ensures ∙ c.if-begins_with.false) c.requires.new) in
    subst (λ (ws : List (List Step)). OnOk c.push.result (c.push.new.self.walks ≡ c.args.fan.now.walks ++ ws)) (sym one) c.push.ensures.ok

pub returns-clause-err : goal.returns-clause-err
returns-clause-err c =
    let one = longer_yes c.args.fan.now.first c.args.node (walk_at c.args.fan.now.walks c.args.place) c.args.cell (visits_none c.args.fan.now.first c.args.cell _ (sym c.begins_with.ensures ∙ c.if-begins_with.false) c.requires.new) in
    subst (λ (ws : List (List Step)). IfErr c.push.result (IsStop c.args.fan.now.first (c.args.fan.now.walks ++ ws))) (sym one) c.push.ensures.err
