-- Laws of the definitions, which the function of `laws.rt` hands to its callers.
use Rattle.std.specs.Prelude.{◌≡◌}
use Rattle.vss_lists.specs.Orders.{IsFirstBroken}
use Rattle.rail_net.specs.Refusals.{IsNet, net_rules}
use Rattle.rail_net.specs.declared.parts.NetParts.{NetParts}
use Rattle.rail_net.specs.declared.refusal.NetRefusal.{NetRefusal}

-- one refusal at most tells the first rule that parts break: one kind, one list, one item
abbrev pub HasOneBrokenRule : NetParts → Type 0
HasOneBrokenRule p =
    (one other : NetRefusal) → IsFirstBroken (net_rules p) one → IsFirstBroken (net_rules p) other → one ≡ other

-- parts that break a rule are no network
abbrev pub BrokenIsNoNet : NetParts → Type 0
BrokenIsNoNet p = (refusal : NetRefusal) → IsFirstBroken (net_rules p) refusal → ¬ IsNet p
