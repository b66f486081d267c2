-- Why `get` does what its contract says.
use Rattle.std.proofs.Common.{◌∙◌, sym, ap, false, arith, get_or}
use Rattle.vss_bits.specs.Words.{is_set}
use Rattle.vss_bits.proofs.BitLemmas.{truth_at, truth_past}
use Rattle.vss_bits.proofs.bits.Bits.get.Goals as goal

pub returns-then-place-self : goal.returns-then-place-self
returns-then-place-self c =
    c.is_set_in.ensures ∙ (ap (λ ws. is_set ws c.args.place) c.deref.ensures.value ∙ (sym (truth_at c.self.inside.words.items c.self.inside.count c.args.place (omega arith)) ∙ ap (λ ts. get_or ts c.args.place false) c.self.view_is))

pub returns-else-place-self : goal.returns-else-place-self
returns-else-place-self c =
    sym (truth_past c.self.inside.words.items c.self.inside.count c.args.place (omega arith)) ∙ ap (λ ts. get_or ts c.args.place false) c.self.view_is
