-- Who waits beside a trail: how many, who is open, and those whose literals go.
use Rattle.std.proofs.Common.{◌≡◌, ℕ, ◌+◌, ◌-◌, ◌<◌, ◌≤◌, Bool, true, false, cond, inl, inr, List, length, take, get_or, set, refl, ap, sym, subst, ◌∙◌, arith}
use Rattle.std.specs.Prelude.{All, sum_by}
use Rattle.std.proofs.lemmas.Bool.{cases_eq, cases_lt, cases_Bool}
use Rattle.std.proofs.lemmas.List.{get_or-set_same, get_or-set_other, length-map, get_or-map, get_or_past, get_or-take, length-take-le}
use Rattle.std.proofs.lemmas.List.Sums.{sum_by-set}
use Rattle.sat_core.specs.declared.literal.Lit.{Lit}
use Rattle.sat_core.specs.Clauses.{negated, IsOver}
use Rattle.sat_core.specs.Hints.{is_known}
use Rattle.sat_core.specs.Fresh.{IsOpen}
use Rattle.sat_core.proofs.OpenLaws.{place_of_known, is_known-at, true_is_not_false, one_variable}
use Rattle.search_trail.specs.declared.entry.Entry.{Entry}
use Rattle.search_trail.specs.Trails.{TrailParts, IsTrail, IsCutBack, known_of}
use Rattle.activity_order.specs.Choices.{OrderParts, IsFirst, denial, OpenOnesWait, IsNextDecision, NoneIsOpen}

abbrev as_number : Bool → ℕ
as_number b = cond b 1 0

-- how many wait
abbrev pub waiting_count : List Bool → ℕ
waiting_count waits = sum_by as_number waits

pub within_waits : (waits : List Bool) (place : ℕ) → get_or waits place false ≡ true → place < length waits
within_waits waits place waiting = elim (cases_lt place (length waits)) [
  | inl within ↦ within
  | inr past ↦ absurd (true_is_not_false (sym waiting ∙ get_or_past waits place false past))
]

pub one_fewer : (waits : List Bool) (place : ℕ) → get_or waits place false ≡ true → waiting_count (set waits place false) < waiting_count waits
one_fewer waits place waiting =
    let same : waiting_count (set waits place false) + as_number (get_or waits place false) ≡ waiting_count waits + as_number false = sum_by-set as_number waits place false false (within_waits waits place waiting) in
    let one : as_number (get_or waits place false) ≡ 1 = ap as_number waiting in
    omega (arith, same, one)

-- who waits goes on waiting where others are put back
pub set_true : (waits : List Bool) (place other : ℕ) → get_or waits other false ≡ true → get_or (set waits place true) other false ≡ true
set_true waits place other waiting = elim (cases_eq other place) [
  | inl here ↦ ap (λ n. get_or (set waits place true) n false) here ∙ get_or-set_same waits place true false (subst (λ n. n < length waits) here (within_waits waits other waiting))
  | inr apart ↦ get_or-set_other waits place other true false apart ∙ waiting
]

-- the literals of the entries from that place on wait
abbrev pub WaitFrom : List Bool → List Entry → ℕ → Type 0
WaitFrom waits entries place = (k : ℕ) (d : Entry) → place ≤ k → k < length entries → get_or waits ((get_or entries k d).lit.var.0 - 1) false ≡ true

-- ---- what is open
open_denial : (known : List Lit) (lit : Lit) → 1 ≤ lit.var.0 → IsOpen known lit → IsOpen known (denial (lit.var.0 - 1))
open_denial known lit named is_open = elim (one_variable (denial (lit.var.0 - 1)) lit (omega (arith, named))) [
  | inl same ↦ subst (IsOpen known) (sym same) is_open
  | inr turned ↦ subst (IsOpen known) (sym turned) (is_open.1, ap (is_known known) (Rattle.sat_core.proofs.LiteralLaws.negated-negated lit) ∙ is_open.0)
]

-- the variable that was taken from the order was the only one that may be open and wait no longer
pub wait_but : (order later : OrderParts) (t : TrailParts) (var : ℕ) → IsFirst order var → later ≡ record order { waits = set order.waits (var - 1) false } → OpenOnesWait order t → ¬ IsOpen (known_of t.entries) (denial (var - 1)) → OpenOnesWait later t
wait_but order later t var first is wait closed = record {
  same_vars = ap (λ (o : OrderParts). o.vars) is ∙ wait.same_vars;
  wait = λ place is_open. ap (λ (o : OrderParts). get_or o.waits place false) is ∙ (get_or-set_other order.waits (var - 1) place false false (λ e. closed (subst (λ n. IsOpen (known_of t.entries) (denial n)) e is_open.1)) ∙ wait.wait place is_open);
}

pub next_decision : (order : OrderParts) (t : TrailParts) (var : ℕ) (lit : Lit) → IsFirst order var → OpenOnesWait order t → IsOpen (known_of t.entries) lit → lit ≡ denial (var - 1) → IsNextDecision order.scores t lit
next_decision order t var lit first wait is_open is = record {
  place = var - 1;
  is = is;
  is_open = (omega (arith, first.above, first.within, wait.same_vars), subst (IsOpen (known_of t.entries)) is is_open);
  first = λ other other_open. first.first other (wait.wait other other_open);
}

-- where nobody waits no literal is open
pub none_open : (order : OrderParts) (t : TrailParts) → OpenOnesWait order t → All (λ waits. waits ≡ false) order.waits → NoneIsOpen t
none_open order t wait none lit over is_open =
    let waiting : get_or order.waits (lit.var.0 - 1) false ≡ true = wait.wait (lit.var.0 - 1) (omega (arith, over), open_denial (known_of t.entries) lit over.0 is_open) in
    true_is_not_false (sym waiting ∙ none (lit.var.0 - 1) false (within_waits order.waits (lit.var.0 - 1) waiting))

-- ---- what is open after going back was open before, or its literal is gone
known_front : (entries : List Entry) (size : ℕ) (lit : Lit) → size ≤ length entries → is_known (known_of (take size entries)) lit ≡ false → is_known (known_of entries) lit ≡ true → (k : ℕ) × (size ≤ k) × (k < length entries) × ((d : Entry) → (get_or entries k d).lit ≡ lit)
known_front entries size lit within unknown known =
    let at = place_of_known (known_of entries) lit known in
    let short : at.0 < length entries = omega (arith, at.1, length-map entries (λ (e : Entry). e.lit)) in
    let is : (d : Entry) → (get_or entries at.0 d).lit ≡ lit = λ d. sym (get_or-map (λ (e : Entry). e.lit) entries at.0 d lit short) ∙ at.2 lit in
    elim (cases_lt at.0 size) [
      | inr gone ↦ (at.0, gone, short, is)
      | inl kept ↦
          let d : Entry = get_or entries at.0 (record { lit = lit; reason = Rattle.std.specs.Prelude.None; level = 0 }) in
          let low : at.0 < length (take size entries) = omega (arith, kept, length-take-le size entries within) in
          let there : is_known (known_of (take size entries)) (get_or (known_of (take size entries)) at.0 lit) ≡ true = is_known-at (known_of (take size entries)) at.0 lit (omega (arith, low, length-map (take size entries) (λ (e : Entry). e.lit))) in
          let same : get_or (known_of (take size entries)) at.0 lit ≡ lit = get_or-map (λ (e : Entry). e.lit) (take size entries) at.0 d lit low ∙ (ap (λ (e : Entry). e.lit) (get_or-take size entries at.0 d kept) ∙ is d) in
          absurd (true_is_not_false (sym (ap (is_known (known_of (take size entries))) (sym same) ∙ there) ∙ unknown))
    ]

-- each variable whose literal is gone waits
pub wait_cut : (order : OrderParts) (t later : TrailParts) (level : ℕ) → OpenOnesWait order t → All (λ e. level < e.level → get_or order.waits (e.lit.var.0 - 1) false ≡ true) t.entries → later.vars ≡ t.vars → IsCutBack level t.entries later.entries → OpenOnesWait order later
wait_cut order t later level wait back vars cut = record {
  same_vars = wait.same_vars ∙ sym vars;
  wait = λ place is_open.
      let known : List Lit = known_of t.entries in
      let front : known_of later.entries ≡ known_of (take cut.size t.entries) = ap known_of cut.front in
      let here : IsOpen (known_of (take cut.size t.entries)) (denial place) = subst (λ k. IsOpen k (denial place)) front is_open.1 in
      let gone : (lit : Lit) → lit.var.0 ≡ place + 1 → ((k : ℕ) × (cut.size ≤ k) × (k < length t.entries) × ((d : Entry) → (get_or t.entries k d).lit ≡ lit)) → get_or order.waits place false ≡ true =
      λ lit variable at.
      let d : Entry = record { lit = lit; reason = Rattle.std.specs.Prelude.None; level = 0 } in
      let number : (get_or t.entries at.0 d).lit.var.0 - 1 ≡ place = omega (arith, ap (λ (l : Lit). l.var.0) (at.3 d), variable) in
      ap (λ n. get_or order.waits n false) (sym number) ∙ back at.0 d at.2 (cut.gone at.0 d at.1 at.2) in
      elim (cases_Bool (is_known known (denial place))) [
        | inl true_now ↦ gone (denial place) refl (known_front t.entries cut.size (denial place) cut.within here.0 true_now)
        | inr not_true ↦ elim (cases_Bool (is_known known (negated (denial place)))) [
          | inl false_now ↦ gone (negated (denial place)) refl (known_front t.entries cut.size (negated (denial place)) cut.within here.1 false_now)
          | inr not_false ↦ wait.wait place (omega (arith, is_open.0, vars), (not_true, not_false))
        ]
      ];
}

-- ---- one that goes back, and the others behind it
pub wait_more : (waits later : List Bool) (entries : List Entry) (place : ℕ) (lit : Lit) → ((d : Entry) → (get_or entries place d).lit ≡ lit) → later ≡ set waits (lit.var.0 - 1) true → get_or later (lit.var.0 - 1) false ≡ true → WaitFrom waits entries (place + 1) → WaitFrom later entries place
wait_more waits later entries place lit is set_is waiting behind k d from below = elim (cases_eq k place) [
  | inl here ↦ ap (λ n. get_or later n false) (ap (λ (l : Lit). l.var.0 - 1) (ap (λ n. (get_or entries n d).lit) here ∙ is d)) ∙ waiting
  | inr after ↦
      let number : ℕ = (get_or entries k d).lit.var.0 - 1 in
      ap (λ w. get_or w number false) set_is ∙ set_true waits (lit.var.0 - 1) number (behind k d (omega (arith, from, after)) below)
]

pub wait_put : (order later : OrderParts) (t : TrailParts) (place : ℕ) → later ≡ record order { waits = set order.waits place true } → OpenOnesWait order t → OpenOnesWait later t
wait_put order later t place is wait = record {
  same_vars = ap (λ (o : OrderParts). o.vars) is ∙ wait.same_vars;
  wait = λ other is_open. ap (λ (o : OrderParts). get_or o.waits other false) is ∙ set_true order.waits place other (wait.wait other is_open);
}

-- those at lower levels stand in front
pub waits_above : (waits : List Bool) (t : TrailParts) (place level : ℕ) (entry_level : ℕ) → IsTrail t → place < length t.entries → ((d : Entry) → (get_or t.entries place d).level ≡ entry_level) → entry_level ≤ level → WaitFrom waits t.entries (place + 1) → All (λ e. level < e.level → get_or waits (e.lit.var.0 - 1) false ≡ true) t.entries
waits_above waits t place level entry_level laws within is low behind k d below higher = elim (cases_lt place k) [
  | inl later ↦ behind k d (omega (arith, later)) below
  | inr front ↦ elim (cases_eq k place) [
    | inl here ↦ absurd (omega (arith, higher, low, is d, ap (λ n. (get_or t.entries n d).level) here))
    | inr before ↦ absurd (omega (arith, higher, low, is d, laws.levels_rise k place d (omega (arith, front, before)) within))
  ]
]

-- ---- what an entry of the trail tells of its literal
pub entry_over : (t : TrailParts) (place : ℕ) (lit : Lit) → IsTrail t → place < length t.entries → ((d : Entry) → (get_or t.entries place d).lit ≡ lit) → IsOver t.vars lit
entry_over t place lit laws within is =
    let d : Entry = record { lit = lit; reason = Rattle.std.specs.Prelude.None; level = 0 } in
    subst (IsOver t.vars) (is d) (laws.in_range place d within)

pub entry_any : (t : TrailParts) (place : ℕ) (lit : Lit) → place < length t.entries → ((d : Entry) → (get_or t.entries place d).lit ≡ lit) → Rattle.std.specs.Prelude.Any (λ e. e.lit.var.0 ≡ lit.var.0) t.entries
entry_any t place lit within is =
    let d : Entry = record { lit = lit; reason = Rattle.std.specs.Prelude.None; level = 0 } in
    (place, get_or t.entries place d, within, Rattle.std.proofs.lemmas.List.get_or_default t.entries place (get_or t.entries place d) d within, ap (λ (l : Lit). l.var.0) (is d))
