-- Why `Rows::push` does what its contract says.
use Rattle.std.proofs.Common.{◌≡◌, ◌++◌, ◌∷◌, ◌+◌, [], length, ◌∙◌, ap, refl, arith, length-append}
use Rattle.std.specs.Prelude.{List, ℕ}
use Rattle.vss_rows.proofs.PieceLaws.{rises_more, pieces_more}
use Rattle.vss_rows.proofs.rows.Rows.push.Goals as goal

-- where the items end, and the ends with it
end_is : {X : Type 0} (row more longer : List X) (ends reserved new : List ℕ) (before count end : ℕ) → longer ≡ row ++ more → before ≡ length row → count ≡ length more → end ≡ before + count → reserved ≡ ends → new ≡ reserved ++ end ∷ [] → new ≡ ends ++ length longer ∷ []
end_is row more longer ends reserved new before count end is_longer is_before is_count is_end is_reserved is_new =
    let total : end ≡ length longer = omega (arith, ap length is_longer, length-append row more) in
    cc

pub invariant_of-self-2 : goal.invariant_of-self-2
invariant_of-self-2 g c =
    let before : c.len.result ≡ length c.self.inside.items.items = omega arith in
    let end : c.in_ok-end.end ≡ c.len.result + length c.args.row.now = c.in_ok-end.ensures in
    let ends : c.push_reserved.new.self.items ≡ c.self.inside.ends.items ++ length c.extend_from_slice.new.self.items ∷ [] =
    end_is _ _ _ _ _ _ _ _ _ c.in_ok-extend_from_slice.ensures.items before refl end c.in_ok-reserve.ensures.items c.push_reserved.ensures.items in
    rises_more _ c.args.row.now _ c.self.inside.ends.items _ c.self.invariant c.in_ok-extend_from_slice.ensures.items
    ends

pub returns-clause-ok : goal.returns-clause-ok
returns-clause-ok g c =
    let before : c.len.result ≡ length c.self.inside.items.items = omega arith in
    let end : c.in_ok-end.end ≡ c.len.result + length c.args.row.now = c.in_ok-end.ensures in
    let ends : c.push_reserved.new.self.items ≡ c.self.inside.ends.items ++ length c.extend_from_slice.new.self.items ∷ [] =
    end_is _ _ _ _ _ _ _ _ _ c.in_ok-extend_from_slice.ensures.items before refl end c.in_ok-reserve.ensures.items c.push_reserved.ensures.items in
    pieces_more _ c.args.row.now _ c.self.inside.ends.items _ c.self.invariant c.in_ok-extend_from_slice.ensures.items
    ends
    ∙ ap (λ rows. rows ++ c.args.row.now ∷ []) c.self.view_is
