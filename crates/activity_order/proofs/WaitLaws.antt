-- Laws of the order beside a trail: what a trail may do without it.
use Rattle.std.proofs.Common.{◌≡◌, List, [], ◌∷◌, ◌++◌, ◌||◌, ap, sym, subst, ◌∙◌, inl, inr, arith, true, false, get_or, refl}
use Rattle.std.specs.Prelude.{replicate}
use Rattle.std.proofs.lemmas.Bool.{cases_Bool}
use Rattle.std.proofs.lemmas.List.{get_or-replicate}
use Rattle.sat_core.specs.declared.literal.Lit.{Lit}
use Rattle.sat_core.specs.Clauses.{negated}
use Rattle.sat_core.specs.Hints.{is_known, is_same}
use Rattle.sat_core.specs.Fresh.{IsOpen}
use Rattle.sat_core.proofs.OpenLaws.{true_is_not_false}
use Rattle.search_trail.specs.declared.entry.Entry.{Entry}
use Rattle.search_trail.specs.Trails.{TrailParts, known_of}
use Rattle.activity_order.specs.Choices.{OrderParts, OpenOnesWait, denial}

-- at first all wait
pub wait_all : (order : OrderParts) (t : TrailParts) → order.vars ≡ t.vars → order.waits ≡ replicate t.vars true → OpenOnesWait order t
wait_all order t vars waits = record {
  same_vars = vars;
  wait = λ place is_open. ap (λ w. get_or w place false) waits ∙ get_or-replicate t.vars place true false is_open.0;
}

-- an order of which only scores have changed
pub wait_scored : (order later : OrderParts) (t : TrailParts) → later.vars ≡ order.vars → later.waits ≡ order.waits → OpenOnesWait order t → OpenOnesWait later t
wait_scored order later t vars waits wait = record {
  same_vars = vars ∙ wait.same_vars;
  wait = λ place is_open. ap (λ w. get_or w place false) waits ∙ wait.wait place is_open;
}

unknown_front : (entries more : List Entry) (lit : Lit) → is_known (known_of (entries ++ more)) lit ≡ false → is_known (known_of entries) lit ≡ false
unknown_front [] more lit unknown = refl
unknown_front (e ∷ entries) more lit unknown = elim (cases_Bool (is_same lit e.lit)) [
  | inl same ↦ absurd (true_is_not_false (sym (ap (λ b. b || is_known (known_of (entries ++ more)) lit) same) ∙ unknown))
  | inr apart ↦ ap (λ b. b || is_known (known_of entries) lit) apart ∙ unknown_front entries more lit (sym (ap (λ b. b || is_known (known_of (entries ++ more)) lit) apart) ∙ unknown)
]

-- what is open on a longer trail was open before
pub open_before : (entries more : List Entry) (lit : Lit) → IsOpen (known_of (entries ++ more)) lit → IsOpen (known_of entries) lit
open_before entries more lit is_open = (
  unknown_front entries more lit is_open.0,
  unknown_front entries more (negated lit) is_open.1,
)

-- a trail that has grown
pub wait_grown : (order : OrderParts) (t later : TrailParts) (more : List Entry) → later.vars ≡ t.vars → later.entries ≡ t.entries ++ more → OpenOnesWait order t → OpenOnesWait order later
wait_grown order t later more vars grew wait = record {
  same_vars = wait.same_vars ∙ sym vars;
  wait = λ place is_open. wait.wait place (omega (arith, is_open.0, vars), open_before t.entries more (denial place) (subst (λ es. IsOpen (known_of es) (denial place)) grew is_open.1));
}
