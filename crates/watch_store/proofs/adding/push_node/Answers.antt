-- Why `push_node` does what its contract says.
use Rattle.std.proofs.Common.{ℕ, get_or, set, arith, ap}
use Rattle.watch_store.proofs.FindLemmas.{chained_pushed}
use Rattle.watch_store.proofs.adding.push_node.Goals as goal

pub returns-clause-chained : goal.returns-clause-chained
returns-clause-chained c = chained_pushed c.args.heads.now (set c.args.heads.now c.place-home.result c.len-node.result) c.args.nodes.now.items c.push_reserved.new.self.items c.args.watch c.len-node.result (get_or c.args.heads.now c.place-home.result 0) c.requires.home (omega (arith, c.requires.few)) (omega (arith, c.len-node.ensures)) (ap (λ (n : ℕ). get_or c.args.heads.now n 0) c.place-home.ensures) (ap (λ (n : ℕ). set c.args.heads.now n c.len-node.result) c.place-home.ensures) c.push_reserved.ensures.items c.requires.chained
