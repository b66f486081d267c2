-- Why `exchange` does what its contract says.
use Rattle.activity_order.proofs.PlaceLemmas.{IsPlaced-exchanged, waits-inside, waits-outside}
use Rattle.activity_order.proofs.exchange.exchange.Goals as goal

pub returns-clause-placed : goal.returns-clause-placed
returns-clause-placed c = IsPlaced-exchanged c.args.heap.now c.args.places.now c.args.one c.args.other c.requires.one c.requires.other c.requires.placed

pub returns-clause-inside : goal.returns-clause-inside
returns-clause-inside c = λ size low high. waits-inside c.args.heap.now c.args.places.now c.args.one c.args.other size c.requires.one c.requires.other c.requires.placed low high

pub returns-clause-outside : goal.returns-clause-outside
returns-clause-outside c = λ size low high. waits-outside c.args.heap.now c.args.places.now c.args.one c.args.other size c.requires.one c.requires.other c.requires.placed low high
