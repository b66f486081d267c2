-- Rules of timetables, and what is told of them.
use Rattle.std.proofs.Common.{◌≡◌, ℕ, List, sym, subst}
use Rattle.vss_lists.specs.Breaks.{BreaksFirstAt}
use Rattle.vss_lists.specs.Orders.{BreaksFirst, IsFirstBroken}
use Rattle.rail_net.specs.Breaks.{IsBreak}
use Rattle.rail_net.specs.declared.names.Break.{Break}
use Rattle.rail_net.specs.declared.names.Break.TheVariants.{At}
use Rattle.rail_net.specs.declared.refusal.ListKind.{ListKind}
use Rattle.timetable.specs.Rules.{Tells, TimeRules, told_in}
use Rattle.timetable.specs.declared.refusal.TimeFault.{TimeFault}
use Rattle.timetable.specs.declared.rules.RuleRefusal.{RuleRefusal}

-- the rule of that number is the first that is broken
pub told_place : (rules : TimeRules) (n : ℕ) (kind : TimeFault) (list : ListKind) (place : ℕ) (answer : RuleRefusal)
    → answer ≡ told_in kind list place → BreaksFirst rules n (told_in kind list place) → Tells rules answer
unfolding IsFirstBroken
told_place rules n kind list place answer is first = λ told. (n, subst (BreaksFirst rules n) (sym is) first)

-- a break at a place
pub broken_at : {X : Type 0} (holds : ℕ → X → Type 0) (items : List X) (found : Break) (place : ℕ) → found ≡ At place → IsBreak holds items found → BreaksFirstAt holds items place
broken_at holds items found place is broken = subst (IsBreak holds items) is broken
