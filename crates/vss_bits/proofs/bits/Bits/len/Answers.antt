-- Why `len` does what its contract says.
use Rattle.std.proofs.Common.{◌∙◌, sym, ap, length}
use Rattle.std.proofs.lemmas.List.FromFn.{length-map-range_with_len}
use Rattle.vss_bits.specs.Words.{is_set}
use Rattle.vss_bits.proofs.bits.Bits.len.Goals as goal

pub returns : goal.returns
returns c = sym (length-map-range_with_len (is_set c.self.inside.words.items) 0 c.self.inside.count) ∙ ap length c.self.view_is
