-- Why `Items::as_mut_slice` does what its contract says.
use Rattle.std.proofs.Common.{◌≡◌, ◌++◌, length, take, drop, List, ap, sym, refl, ◌∙◌}
use Rattle.vss_lists.specs.Lending.{in_place_of}
use Rattle.vss_lists.proofs.list.Items.as_mut_slice.Goals as goal

pub returns : goal.returns
returns g c =
    let items : c.self.inside.items.items ≡ c.args.self.now = c.self.view_is in
    let len : c.self.inside.items.len ≡ length c.self.inside.items.items = sym c.as_mut_slice.ensures.len ∙ ap length c.as_mut_slice.ensures.value in
    ((refl {a = c.as_mut_slice.result.ghost_name}, λ w. ap (λ n. take n (w ++ drop (length w) c.self.inside.items.items)) len ∙ ap (λ (xs : List g.row.T.Denot). in_place_of xs w) items), record { writes_back = tt; items = c.as_mut_slice.ensures.value ∙ items })
