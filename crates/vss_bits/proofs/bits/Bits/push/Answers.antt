-- Why `push` does what its contract says.
use Rattle.std.proofs.Common.{◌≡◌, ◌++◌, ◌∷◌, [], ◌∙◌, sym, ap, arith, length}
use Rattle.std.proofs.lemmas.List.FromFn.{length-map-range_with_len}
use Rattle.vss_bits.specs.Words.{is_set}
use Rattle.vss_bits.proofs.BitLemmas.{truths_more}
use Rattle.vss_bits.proofs.bits.Bits.push.Goals as goal

pub overflow_add-self : goal.overflow_add-self
overflow_add-self c =
    let size : length c.args.self.now ≡ c.self.inside.count = sym (ap length c.self.view_is) ∙ length-map-range_with_len (is_set c.self.inside.words.items) 0 c.self.inside.count in
    omega (arith, size)

pub returns-clause-ok : goal.returns-clause-ok
returns-clause-ok c =
    truths_more c.self.inside.words.items _ _ c.self.inside.count c.args.truth c.in_ok-make_room.ensures.bits c.set_in.ensures ∙ ap (λ ts. ts ++ c.args.truth ∷ []) c.self.view_is
