-- Why `nothing_seen` does what its contract says.
use Rattle.std.proofs.Common.{◌≡◌, inl, inr, false, replicate, slice_index_or}
use Rattle.std.proofs.lemmas.List.{get_or-replicate}
use Rattle.std.proofs.Math.ListN.{get_or-eq_default}
use Rattle.std.proofs.lemmas.Bool.Decides.{leb_tells}
use Rattle.layout_rules.proofs.paths.nothing_seen.Goals as goal

pub returns : goal.returns
returns c cell =
    let all : slice_index_or (replicate 1000 false) cell false ≡ false =
    elim (leb_tells 1000 cell) [ inl high ↦ get_or-eq_default (replicate 1000 false) false high.1 | inr low ↦ get_or-replicate 1000 cell false false low.1 ] in
    all
