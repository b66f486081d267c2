-- Why `zeros` does what its contract says.
use Rattle.std.proofs.Common.{◌≡◌, ◌+◌, ◌∷◌, [], ◌++◌, ℕ, zero, suc, map, sym, ap, ◌∙◌, arith, add-one}
use Rattle.std.specs.List.{range_with_len}
use Rattle.std.proofs.lemmas.List.{map_push}
use Rattle.rail_net.specs.Tables.{zero_under}
use Rattle.rail_net.proofs.marks.zeros.Goals as goal

range_more : (a n k : ℕ) → k ≡ a + n → range_with_len a (suc n) ≡ range_with_len a n ++ k ∷ []
range_more a zero k is = ap (λ m. m ∷ []) (let same : a ≡ k = omega arith in same)
range_more a (suc n) k is = ap (λ ns. a ∷ ns) (range_more (a + 1) n k (omega arith))

pub loop-key-preserved : goal.loop-key-preserved
loop-key-preserved c =
    let key = c.loop-key.key in
    let longer : range_with_len 0 (key + 1) ≡ range_with_len 0 key ++ key ∷ [] = rw add-one (range_more 0 key key (omega arith)) in
    c.in_ok-push.ensures.items ∙ (ap (λ es. es ++ zero_under key ∷ []) c.loop-key.invariant ∙ (sym (map_push zero_under (range_with_len 0 key) key) ∙ ap (map zero_under) (sym longer)))
