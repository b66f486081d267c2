-- Where a list first breaks a rule, as a test of it answers.
use Rattle.std.specs.Prelude.{ℕ, List, ⊤}
use Rattle.vss_lists.specs.Breaks.{BreaksFirstAt}
use Rattle.rail_net.specs.declared.refusal.ListKind.{ListKind}
use Rattle.rail_net.specs.declared.refusal.NetFault.{NetFault}
use Rattle.rail_net.specs.declared.refusal.NetRefusal.{NetRefusal}
use Rattle.rail_net.specs.declared.refusal.NetRefusal.TheVariants as refusal
use Rattle.rail_net.specs.declared.refusal.NetRefusal.TheVariants.{Named}
use Rattle.rail_net.specs.declared.names.Break.{Break}
use Rattle.rail_net.specs.declared.names.Break.TheVariants.{At, Memory}

-- the list first breaks the rule there; want of memory says nothing of it
abbrev pub IsBreak : {X : Type 0} → (ℕ → X → Type 0) → List X → Break → Type 0
IsBreak holds items (At place) = BreaksFirstAt holds items place
IsBreak holds items Memory = ⊤

-- the refusal that tells it
abbrev pub refusal_of : NetFault → ListKind → Break → NetRefusal
refusal_of kind list (At place) = Named kind (record { list = list; item = place })
refusal_of kind list Memory = refusal.Memory
