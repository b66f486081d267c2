-- The line of each refusal of a network is the one that is printed.
use Rattle.vss_answers.specs.RefusalTexts.{network_refusal_text}
use Rattle.vss_answers.proofs.Nothing.{prints_nothing}
use Rattle.vss_answers.proofs.refusals.print_network.Goals as goal

pub returns-in-NotJson : goal.returns-in-NotJson
unfolding network_refusal_text
returns-in-NotJson g c = rw c.in-NotJson.is c.print_refused.ensures

pub returns-in-Shape : goal.returns-in-Shape
unfolding network_refusal_text
returns-in-Shape g c = rw (c.in-Shape.is, ← c.word_of_net_member.ensures) c.print_refused-in-Shape.ensures

pub returns-in-BadName : goal.returns-in-BadName
unfolding network_refusal_text
returns-in-BadName g c = rw (c.in-BadName.is, ← c.word_of_list.ensures) c.print_refused-in-BadName.ensures

pub returns-in-Net : goal.returns-in-Net
unfolding network_refusal_text
returns-in-Net g c = rw (c.in-Net.is, ← c.word_of_net_fault.ensures, ← c.word_of_list-in-Net.ensures) c.print_refused-in-Net.ensures

pub returns-in-Memory : goal.returns-in-Memory
unfolding network_refusal_text
returns-in-Memory g c = rw c.in-Memory.is (prints_nothing _ _)
