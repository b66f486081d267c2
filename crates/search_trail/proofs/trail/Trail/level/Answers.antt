-- Why `Trail::level` does what its contract says.
use Rattle.std.proofs.Common.{◌∙◌, ap, sym}
use Rattle.search_trail.proofs.TrailLaws.{one_entry}
use Rattle.search_trail.proofs.trail.Trail.level.Goals as goal

pub returns : goal.returns
returns c = record {
  value = λ k d within number. ap (λ e. e.level) (one_entry c.args.self.now c.entry_of.result c.entry_of.ensures.laws c.entry_of.ensures.stands k d within (number ∙ sym c.entry_of.ensures.variable));
}
