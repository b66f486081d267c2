-- Why `spread` does what its contract says.
use Rattle.std.proofs.Common.{◌≡◌, List, sym, ap, ◌∙◌, ◌++◌, ◌∷◌, [], get_or, arith, append_assoc}
use Rattle.rail_net.specs.Tables.{under, under_both}
use Rattle.rail_net.specs.declared.ends.TrackEnds.{TrackEnds}
use Rattle.rail_net.specs.declared.entries.Entry.{Entry}
use Rattle.rail_net.proofs.ZipLemmas.{joined_more}
use Rattle.rail_net.proofs.joining.spread.Goals as goal

-- two more entries, one behind the other
two : (old mid new : List Entry) (one other : Entry) → mid ≡ old ++ one ∷ [] → new ≡ mid ++ other ∷ [] → new ≡ old ++ (one ∷ other ∷ [])
two old mid new one other first second = second ∙ (ap (λ es. es ++ other ∷ []) first ∙ append_assoc old (one ∷ []) (other ∷ []))

pub loop-at-preserved : goal.loop-at-preserved
loop-at-preserved c =
    let e : TrackEnds = get_or c.args.ends.now c.loop-at.at (record { from = 0; to = 0 }) in
    let value = get_or c.args.values.now c.loop-at.at 0 in
    two _ _ _ (under e.from value) (under e.to value) c.in_ok-push.ensures.items c.in_ok-push-2.ensures.items
    ∙ (ap (λ es. es ++ under_both e value) c.loop-at.invariant
    ∙ sym (joined_more under_both c.args.ends.now c.args.values.now c.loop-at.at (record { from = 0; to = 0 }) 0 (omega arith) (omega arith)))
