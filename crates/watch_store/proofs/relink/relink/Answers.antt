-- Why `relink` does what its contract says.
use Rattle.watch_store.proofs.RelinkLemmas.{relinked, relinked_watches, next_read}
use Rattle.watch_store.proofs.relink.relink.Goals as goal

pub returns-clause-walk : goal.returns-clause-walk
returns-clause-walk c = relinked c.args.heads.now c.args.nodes.now c.args.home c.args.before c.args.node _ c.args.watch c.unlink.new.heads c.link.new.heads c.unlink.new.nodes c.link.new.nodes c.requires.to c.requires.before (next_read c.args.nodes.now c.args.node _ c.requires.node) c.unlink.ensures.first_heads c.unlink.ensures.first_nodes c.unlink.ensures.later_heads c.unlink.ensures.later_nodes c.link.ensures.heads c.link.ensures.nodes

pub returns-clause-watches : goal.returns-clause-watches
returns-clause-watches c = relinked_watches c.args.nodes.now c.args.before c.args.node _ c.args.watch _ c.unlink.new.nodes c.link.new.nodes c.requires.before c.unlink.ensures.first_nodes c.unlink.ensures.later_nodes c.link.ensures.nodes
