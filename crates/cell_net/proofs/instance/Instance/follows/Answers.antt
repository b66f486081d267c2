-- Why `Instance::follows` does what its contract says.
use Rattle.std.proofs.Common.{◌≤◌, length, arith, subst}
use Rattle.cell_net.specs.Space.{Follows, head_of, tail_of}
use Rattle.cell_net.specs.declared.parts.InstanceParts.{InstanceParts}
use Rattle.cell_net.proofs.instance.Instance.follows.Goals as goal

pub leads-requires-clause-here : goal.leads-requires-clause-here
leads-requires-clause-here c =
    let few : length c.args.self.now.cells ≤ 1000 =
    subst (λ (p : InstanceParts). length p.cells ≤ 1000) c.self.view_is c.self.invariant.0.few_cells in
    rw c.head_of.ensures (omega arith)

pub returns : goal.returns
unfolding Follows
returns c =
    let index = c.self.invariant.1.passages_are (head_of c.args.before) (tail_of c.args.after) in
    let told = rw (c.deref.ensures.value, c.head_of.ensures, c.tail_of.ensures) at c.leads.ensures in
    rw (← c.self.view_is) (λ there. index.0 (told.0 there), λ follows. told.1 (index.1 follows))
