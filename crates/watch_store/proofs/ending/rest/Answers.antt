-- Why `rest` does what its contract says.
use Rattle.std.proofs.Common.{◌≤◌, ◌<◌, ℕ, length, sym, subst, ◌∙◌, arith}
use Rattle.sat_core.specs.declared.literal.Lit.{Lit}
use Rattle.watch_store.specs.Watching.{watches_of, nexts_of, homes_of}
use Rattle.watch_store.proofs.ChainLemmas.{walk_end}
use Rattle.watch_store.proofs.FindLemmas.{home_read, before_within, homes_long}
use Rattle.watch_store.proofs.StepLemmas.{partner_read}
use Rattle.watch_store.proofs.ending.rest.Goals as goal

pub place-home-requires : goal.place-home-requires
place-home-requires c = subst (λ (l : Lit). 1 ≤ l.var.0) (partner_read c.args.nodes.now c.args.node _ c.args.watch c.requires.node) (c.requires.named c.args.watch)

pub find-before-requires-clause-home : goal.find-before-requires-clause-home
find-before-requires-clause-home c = subst (λ (h : ℕ). h < length c.args.heads.now) (home_read c.args.nodes.now c.args.node _ c.requires.node ∙ sym c.place-home.ensures) (c.requires.chained.table.all_homes c.args.node (omega (arith, c.requires.node, homes_long c.args.nodes.now)))

pub find-before-requires-clause-lives : goal.find-before-requires-clause-lives
find-before-requires-clause-lives c = home_read c.args.nodes.now c.args.node _ c.requires.node ∙ sym c.place-home.ensures

pub relink-requires-clause-before : goal.relink-requires-clause-before
relink-requires-clause-before c = λ b is. before_within c.args.heads.now c.args.nodes.now c.place-home.result c.find-before.ensures.0 c.args.node c.find-before.ensures.1 c.find-before.result c.args.node b is c.find-before.ensures.2

pub returns-clause-chained : goal.returns-clause-chained
returns-clause-chained c =
    let found = c.find-before.ensures in
    walk_end c.relink.new.heads (nexts_of c.relink.new.nodes) (homes_of (watches_of c.relink.new.nodes)) c.place-home.result found.0 found.1 c.find-before.result _
    (c.relink.ensures.walk found.0 found.1 c.args.node (λ same. c.requires.elsewhere (home_read c.args.nodes.now c.args.node _ c.requires.node ∙ (sym c.place-home.ensures ∙ sym same))) found.2)
