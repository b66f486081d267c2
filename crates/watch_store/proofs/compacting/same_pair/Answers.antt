-- Why `same_pair` does what its contract says.
use Rattle.std.proofs.Common.{◌+◌, ◌*◌, ◌<◌, ◌≤◌, false, List, length, get_or, ap, arith}
use Rattle.std.proofs.lemmas.List.{length-map}
use Rattle.sat_core.specs.declared.literal.Lit.{Lit}
use Rattle.watch_store.specs.declared.node.Node.{Node}
use Rattle.watch_store.specs.Places.{clause_at}
use Rattle.watch_store.specs.Watching.{watches_of}
use Rattle.watch_store.proofs.CompactLemmas.{pair_of_live}
use Rattle.watch_store.proofs.StepLemmas.{partner_read}
use Rattle.watch_store.proofs.compacting.same_pair.Goals as goal

pub returns-clause-pair : goal.returns-clause-pair
returns-clause-pair c =
    let within : 2 * c.args.place + 1 < length c.args.watching.now = omega (arith, c.requires.inside, c.requires.from.two_each, length-map c.args.watching.now (λ (x : Node). x.watch)) in
    let many : 2 ≤ length (clause_at c.args.from.now c.args.place) = omega (arith, c.if-clause-lt2.false, ap (λ (ls : List Lit). length ls) c.clause.ensures) in
    let nothing : Node = record { watch = record { var = record { 0 = 0 }; positive = false }; next = 0 } in
    (pair_of_live c.args.from.now (watches_of c.args.watching.now) c.args.place (get_or c.args.watching.now (2 * c.args.place) nothing).watch (get_or c.args.watching.now (2 * c.args.place + 1) nothing).watch c.requires.inside c.requires.live many
    (λ d. partner_read c.args.watching.now (2 * c.args.place) nothing d (omega (arith, within)))
    (λ d. partner_read c.args.watching.now (2 * c.args.place + 1) nothing d within) c.requires.from).0
