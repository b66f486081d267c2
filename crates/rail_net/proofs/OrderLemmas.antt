-- Orders of rules in a row: what is told of a part of them is told of all.
use Rattle.std.proofs.Common.{◌≡◌, ℕ, zero, suc, List, [], ◌∷◌, ◌++◌, sym, subst}
use Rattle.vss_lists.specs.Breaks.{BreaksFirstAt}
use Rattle.vss_lists.specs.Orders.{OrderRule, AreKept, BreaksFirst, IsFirstBroken}
use Rattle.rail_net.specs.Breaks.{IsBreak, refusal_of}
use Rattle.rail_net.specs.Refusals.{Rules, Refuses, broken_by_item}
use Rattle.rail_net.specs.declared.names.Break.{Break}
use Rattle.rail_net.specs.declared.names.Break.TheVariants.{At, Memory}
use Rattle.rail_net.specs.declared.refusal.ListKind.{ListKind}
use Rattle.rail_net.specs.declared.refusal.NetFault.{NetFault}
use Rattle.rail_net.specs.declared.refusal.NetRefusal.{NetRefusal}

later_at : {A : Type 0} (front rest : List (OrderRule A)) (n : ℕ) (answer : A) → AreKept front → BreaksFirst rest n answer → (m : ℕ) × BreaksFirst (front ++ rest) m answer
later_at [] rest n answer kept told = (n, told)
later_at (this ∷ front) rest n answer kept told = let m = later_at front rest n answer kept.1 told in (suc m.0, (kept.0, m.1))

sooner_at : {A : Type 0} (front rest : List (OrderRule A)) (n : ℕ) (answer : A) → BreaksFirst front n answer → BreaksFirst (front ++ rest) n answer
sooner_at [] rest n answer told = absurd told
sooner_at (this ∷ front) rest zero answer told = told
sooner_at (this ∷ front) rest (suc n) answer told = (told.0, sooner_at front rest n answer told.1)

-- rules that are kept, and behind them the first that is broken
pub later : (front rest : Rules) (answer : NetRefusal) → AreKept front → Refuses rest answer → Refuses (front ++ rest) answer
unfolding IsFirstBroken
later front rest answer kept told = λ told_it. let first = told told_it in later_at front rest first.0 answer kept first.1

-- the first that is broken is among the front ones
pub sooner : (front rest : Rules) (answer : NetRefusal) → Refuses front answer → Refuses (front ++ rest) answer
unfolding IsFirstBroken
sooner front rest answer told = λ told_it. let first = told told_it in (first.0, sooner_at front rest first.0 answer first.1)

-- the rule of that number is the first that is broken
pub told_at : (rules : Rules) (n : ℕ) (kind : NetFault) (list : ListKind) {X : Type 0} (holds : ℕ → X → Type 0) (items : List X) (found : Break) (answer : NetRefusal)
    → answer ≡ refusal_of kind list found → IsBreak holds items found
    → ((place : ℕ) → BreaksFirstAt holds items place → BreaksFirst rules n (broken_by_item kind list place)) → Refuses rules answer
unfolding IsFirstBroken
told_at rules n kind list holds items (At place) answer is broken first =
    λ told. (n, subst (BreaksFirst rules n) (sym is) (first place broken))
told_at rules n kind list holds items Memory answer is broken first = λ told. absurd (told is)

pub told_place : (rules : Rules) (n : ℕ) (kind : NetFault) (list : ListKind) (place : ℕ) (answer : NetRefusal)
    → answer ≡ broken_by_item kind list place → BreaksFirst rules n (broken_by_item kind list place) → Refuses rules answer
unfolding IsFirstBroken
told_place rules n kind list place answer is first = λ told. (n, subst (BreaksFirst rules n) (sym is) first)

-- rules in a row are kept, if both rows are
pub both_kept : {A : Type 0} (front rest : List (OrderRule A)) → AreKept front → AreKept rest → AreKept (front ++ rest)
both_kept [] rest kept also = also
both_kept (this ∷ front) rest kept also = (kept.0, both_kept front rest kept.1 also)
