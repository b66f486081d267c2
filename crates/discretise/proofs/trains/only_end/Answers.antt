-- Why `only_end` does what its contract says.
use Rattle.std.proofs.Common.{◌≡◌, ◌<◌, ℕ, List, [], length, get_or, refl, sym, subst, ap, ◌∙◌, arith}
use Rattle.std.proofs.lemmas.Option.{get_or_from_slice_get, slice_get_read}
use Rattle.discretise.specs.declared.ends.TrackEnd.{TrackEnd}
use Rattle.discretise.proofs.RowLemmas.{one_of}
use Rattle.discretise.proofs.JoinLemmas.{no_end}
use Rattle.discretise.proofs.trains.only_end.Goals as goal

-- the row that was read is the one of the node
row_is : (rows : List (List TrackEnd)) (n : ℕ) (row : List TrackEnd) → row ≡ get_or rows n row → n < length rows → get_or rows n [] ≡ row
row_is rows n row is within = get_or_from_slice_get rows n row [] (slice_get_read rows (length rows) n row refl within is)

pub bounds-as_slice-0 : goal.bounds-as_slice-0
bounds-as_slice-0 c =
    let row : List TrackEnd = c.index-ends-node.result in
    let is = row_is c.args.ends.now c.args.node row c.index-ends-node.is c.requires.within in
    let one : length row ≡ 1 = subst (λ (es : List TrackEnd). length es ≡ 1) is c.requires.one in
    let seen : length c.as_slice.result.now ≡ length row = ap length c.as_slice.ensures in
    omega arith

pub returns : goal.returns
returns c =
    let row : List TrackEnd = c.index-ends-node.result in
    let is = row_is c.args.ends.now c.args.node row c.index-ends-node.is c.requires.within in
    let one : length row ≡ 1 = subst (λ (es : List TrackEnd). length es ≡ 1) is c.requires.one in
    record {
      its = get_or row 0 no_end;
      only = is ∙ one_of row no_end one;
      is = ap (λ (es : List TrackEnd). (get_or es 0 no_end).end) (sym c.as_slice.ensures);
    }
