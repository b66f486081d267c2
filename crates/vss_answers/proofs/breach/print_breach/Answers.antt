-- The line of each breach is the one that is printed.
use Rattle.vss_answers.specs.Texts.{breach_text}
use Rattle.vss_answers.proofs.breach.print_breach.Goals as goal

pub returns-in-Border : goal.returns-in-Border
unfolding breach_text
returns-in-Border g c = rw c.in-Border.is c.print_border.ensures

pub returns-in-Entry : goal.returns-in-Entry
unfolding breach_text
returns-in-Entry g c = rw (c.in-Entry.is, ← c.name_of_train.ensures) c.print_line.ensures

pub returns-in-Path : goal.returns-in-Path
unfolding breach_text
returns-in-Path g c = rw c.in-Path.is c.print_step.ensures

pub returns-in-Length : goal.returns-in-Length
unfolding breach_text
returns-in-Length g c = rw c.in-Length.is c.print_step-in-Length.ensures

pub returns-in-Speed : goal.returns-in-Speed
unfolding breach_text
returns-in-Speed g c = rw c.in-Speed.is c.print_step-in-Speed.ensures

pub returns-in-Join : goal.returns-in-Join
unfolding breach_text
returns-in-Join g c = rw c.in-Join.is c.print_step-in-Join.ensures

pub returns-in-Late : goal.returns-in-Late
unfolding breach_text
returns-in-Late g c = rw c.in-Late.is c.print_step-in-Late.ensures

pub returns-in-Stop : goal.returns-in-Stop
unfolding breach_text
returns-in-Stop g c = rw c.in-Stop.is c.print_step-in-Stop.ensures

pub returns-in-Apart : goal.returns-in-Apart
unfolding breach_text
returns-in-Apart g c = rw c.in-Apart.is c.print_apart.ensures
