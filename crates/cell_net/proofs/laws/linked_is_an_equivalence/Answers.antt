-- Why `linked_is_an_equivalence` does what its contract says.
use Rattle.cell_net.proofs.LinkLaws.{Linked-refl, Linked-sym, Linked-trans}
use Rattle.cell_net.proofs.laws.linked_is_an_equivalence.Goals as goal

pub returns : goal.returns
returns c = record { reflexive = Linked-refl; symmetric = Linked-sym; transitive = Linked-trans }
