-- Laws of trails: what is known, room for an open variable, one entry more, the front up to a level.
use Rattle.std.proofs.Common.{◌≡◌, ◌≢◌, ℕ, ◌+◌, ◌-◌, ◌<◌, ◌≤◌, Bool, true, false, not, inl, inr, List, [], ◌∷◌, ◌++◌, length, map, take, get_or, min, refl, ap, sym, subst, ◌∙◌, arith}
use Rattle.std.specs.Prelude.{All, AllPairs, Any, None}
use Rattle.std.proofs.lemmas.Bool.{cases_eq, cases_lt, cases_order, cases_Bool}
use Rattle.std.proofs.lemmas.List.{length_push, get_or_push, get_or_append_left, get_or-map, length-map, get_or_default, get_or-take, length-take-le, length-take, append_assoc, append-nil}
use Rattle.std.proofs.lemmas.List.Elements.{All-push, All-nil, All-append}
use Rattle.std.proofs.lemmas.List.Quantifiers.{all_pairs_push, Any-push}
use Rattle.sat_core.specs.declared.literal.Lit.{Lit}
use Rattle.sat_core.specs.Clauses.{negated, IsOver}
use Rattle.sat_core.specs.Hints.{is_known}
use Rattle.sat_core.specs.Fresh.{IsOpen}
use Rattle.sat_core.proofs.LiteralLaws.{negated-negated}
use Rattle.sat_core.proofs.OpenLaws.{is_known-at, place_of_known, open_apart, distinct_below}
use Rattle.search_trail.specs.declared.entry.Entry.{Entry}
use Rattle.search_trail.specs.Trails.{TrailParts, known_of, IsTrail, Grows}

-- a trail on which a variable is open has room for it
pub room_for : (t : TrailParts) (lit : Lit) → IsTrail t → IsOver t.vars lit → IsOpen (known_of t.entries) lit → length t.entries < t.vars
room_for t lit laws over is_open =
    let place : Entry → ℕ = λ e. e.lit.var.0 - 1 in
    let apart : All (λ l. l.var.0 ≢ lit.var.0) (known_of t.entries) = open_apart (known_of t.entries) lit is_open in
    let all : length (map place t.entries ++ (lit.var.0 - 1) ∷ []) ≤ t.vars = distinct_below (map place t.entries ++ (lit.var.0 - 1) ∷ []) t.vars
    (all_pairs_push (λ a b. a ≢ b) (map place t.entries) (lit.var.0 - 1)
    (λ i j d low high same.
    let high' : j < length t.entries = omega (arith, length-map t.entries place, high) in
    let e : Entry = record { lit = lit; reason = None; level = 0 } in
    let one = laws.in_range i e (omega arith) in
    let two = laws.in_range j e high' in
    laws.no_variable_twice i j e low high' (omega (arith, one, two, same, get_or-map place t.entries i e d (omega arith), get_or-map place t.entries j e d high')))
    (λ k d within same.
    let within' : k < length t.entries = omega (arith, length-map t.entries place, within) in
    let e : Entry = record { lit = lit; reason = None; level = 0 } in
    let one = laws.in_range k e within' in
    apart k lit (omega (arith, length-map t.entries (λ (x : Entry). x.lit), within'))
    (ap (λ l. l.var.0) (get_or-map (λ (x : Entry). x.lit) t.entries k e lit within') ∙ omega (arith, one, over, same, get_or-map place t.entries k e d within'))))
    (All-push (λ x. x < t.vars) (map place t.entries) (lit.var.0 - 1)
    (λ k d within.
    let within' : k < length t.entries = omega (arith, length-map t.entries place, within) in
    let e : Entry = record { lit = lit; reason = None; level = 0 } in
    let one = laws.in_range k e within' in
    omega (arith, one, get_or-map place t.entries k e d within'))
    (omega arith))
    in omega (arith, all, length_push (map place t.entries) (lit.var.0 - 1), length-map t.entries place)

-- one entry more, at the present level or as a decision at the next
pub IsTrail-push : (t : TrailParts) (e : Entry) → IsTrail t → IsOver t.vars e.lit → IsOpen (known_of t.entries) e.lit → (t.present ≤ e.level) → (e.level ≤ t.present + 1) → (e.reason ≡ None → t.present < e.level) → (e.level ≤ length t.entries + 1) → IsTrail (record t { entries = t.entries ++ e ∷ []; present = e.level })
IsTrail-push t e laws over is_open low high decided small =
    let apart : All (λ l. l.var.0 ≢ e.lit.var.0) (known_of t.entries) = open_apart (known_of t.entries) e.lit is_open in
    let more : length (t.entries ++ e ∷ []) ≡ length t.entries + 1 = length_push t.entries e in
    record {
      numbered = laws.numbered;
      in_range = All-push (λ x. IsOver t.vars x.lit) t.entries e laws.in_range over;
      no_variable_twice = all_pairs_push (λ one later. one.lit.var.0 ≢ later.lit.var.0) t.entries e laws.no_variable_twice
          (λ k d within same. apart k d.lit (omega (arith, length-map t.entries (λ (x : Entry). x.lit), within)) (ap (λ l. l.var.0) (get_or-map (λ (x : Entry). x.lit) t.entries k d d.lit within) ∙ same));
      read_within = omega (arith, laws.read_within);
      few = omega (arith, room_for t e.lit laws over is_open);
      levels_rise = all_pairs_push (λ one later. one.level ≤ later.level) t.entries e laws.levels_rise (λ k d within. omega (arith, laws.up_to_now k d within));
      up_to_now = All-push (λ x. x.level ≤ e.level) t.entries e (λ k d within. omega (arith, laws.up_to_now k d within)) (omega arith);
      decisions_begin = all_pairs_push (λ one later. later.reason ≡ None → one.level < later.level) t.entries e laws.decisions_begin (λ k d within none. omega (arith, laws.up_to_now k d within, decided none));
      decided_above_zero = All-push (λ x. x.reason ≡ None → 0 < x.level) t.entries e laws.decided_above_zero (λ none. omega (arith, decided none));
      levels_low = λ k d within. elim (cases_eq k (length t.entries)) [
        | inl here ↦ let is : get_or (t.entries ++ e ∷ []) k d ≡ e = get_or_push t.entries e d k (sym here) in
            subst (λ x. x.level ≤ k + 1) (sym is) (omega arith)
        | inr before ↦ let within' : k < length t.entries = omega arith in
            subst (λ x. x.level ≤ k + 1) (sym (get_or_append_left t.entries (e ∷ []) d k within')) (laws.levels_low k d within')
      ];
      no_level_missing = λ level above upto. elim (cases_eq level e.level) [
        | inl here ↦ Any-push (λ x. x.level ≡ level) t.entries e (sym here)
        | inr other ↦ let old = laws.no_level_missing level above (omega arith) in
            (old.0, old.1, omega (arith, old.2), get_or_append_left t.entries (e ∷ []) old.1 old.0 old.2 ∙ old.3, old.4)
      ];
    }

pub now_low : (t : TrailParts) → IsTrail t → t.present ≤ length t.entries
now_low t laws = elim (cases_eq t.present 0) [
  | inl none ↦ omega arith
  | inr some ↦ let last = laws.no_level_missing t.present (omega arith) (omega arith) in
      let is : (get_or t.entries last.0 last.1).level ≡ t.present = ap (λ x. x.level) last.3 ∙ last.4 in
      omega (arith, laws.levels_low last.0 last.1 last.2, is, last.2)
]

pub AllPairs-take : {X : Type 0} (R : X → X → Type 0) (n : ℕ) (xs : List X) → AllPairs R xs → AllPairs R (take n xs)
AllPairs-take R n xs all i j d low high =
    let long : length (take n xs) ≡ min n (length xs) = length-take n xs in
    rw (get_or-take n xs i d (omega arith), get_or-take n xs j d (omega arith)) (all i j d low (omega arith))

-- what is left when the trail goes back to a level
pub IsTrail-cut : (t : TrailParts) (size level : ℕ) → IsTrail t → size ≤ length t.entries → All (λ e. e.level ≤ level) (take size t.entries) → ((k : ℕ) (d : Entry) → size ≤ k → k < length t.entries → level < (get_or t.entries k d).level) → level ≤ t.present → IsTrail (record t { entries = take size t.entries; read = min t.read size; present = level })
IsTrail-cut t size level laws within kept gone upto =
    let long : length (take size t.entries) ≡ size = length-take-le size t.entries within in
    record {
      numbered = laws.numbered;
      in_range = λ k d inside. rw (get_or-take size t.entries k d (omega arith)) (laws.in_range k d (omega arith));
      no_variable_twice = AllPairs-take (λ one later. one.lit.var.0 ≢ later.lit.var.0) size t.entries laws.no_variable_twice;
      read_within = omega arith;
      few = omega (arith, laws.few);
      levels_rise = AllPairs-take (λ one later. one.level ≤ later.level) size t.entries laws.levels_rise;
      up_to_now = kept;
      decisions_begin = AllPairs-take (λ one later. later.reason ≡ None → one.level < later.level) size t.entries laws.decisions_begin;
      decided_above_zero = λ k d inside. rw (get_or-take size t.entries k d (omega arith)) (laws.decided_above_zero k d (omega arith));
      levels_low = λ k d inside. rw (get_or-take size t.entries k d (omega arith)) (laws.levels_low k d (omega arith));
      no_level_missing = λ n above low. let old = laws.no_level_missing n above (omega arith) in
          let is : (get_or t.entries old.0 old.1).level ≡ n = ap (λ x. x.level) old.3 ∙ old.4 in
          elim (cases_lt old.0 size) [
            | inl inside ↦ (old.0, old.1, omega arith, get_or-take size t.entries old.0 old.1 inside ∙ old.3, old.4)
            | inr outside ↦ absurd (omega (arith, gone old.0 old.1 outside old.2, is))
          ];
    }

-- entries of one variable are one
pub one_entry : (t : TrailParts) (e : Entry) → IsTrail t → Any (λ x. (x ≡ e)) t.entries → All (λ x. x.lit.var.0 ≡ e.lit.var.0 → x ≡ e) t.entries
one_entry t e laws (k, x, within, is, same) = λ j d inside number. elim (cases_order j k) [
  | inl here ↦ ap (λ n. get_or t.entries n d) here ∙ (get_or_default t.entries k d x within ∙ (is ∙ same))
  | inr (inl below) ↦ absurd (laws.no_variable_twice j k d below within (number ∙ sym (ap (λ y. y.lit.var.0) (get_or_default t.entries k d x within ∙ (is ∙ same)))))
  | inr (inr above) ↦ absurd (laws.no_variable_twice k j d above inside (ap (λ y. y.lit.var.0) (get_or_default t.entries k d x within ∙ (is ∙ same)) ∙ sym number))
]

pub known-at_entry : (entries : List Entry) (k : ℕ) (d : Entry) → k < length entries → is_known (known_of entries) (get_or entries k d).lit ≡ true
known-at_entry entries k d within = subst (λ l. is_known (known_of entries) l ≡ true) (get_or-map (λ (x : Entry). x.lit) entries k d d.lit within) (is_known-at (known_of entries) k d.lit (omega (arith, within, length-map entries (λ (x : Entry). x.lit))))

-- both signs of a variable are never true
abbrev pub OneSign : List Entry → Type 0
OneSign entries = (lit : Lit) → is_known (known_of entries) lit ≡ true → is_known (known_of entries) (negated lit) ≡ false

not_self : (b : Bool) → b ≡ not b → ⊥
not_self true same = cc
not_self false same = cc

-- both signs of a variable are never on a trail
pub one_sign : (t : TrailParts) → IsTrail t → OneSign t.entries
one_sign t laws lit found = elim (cases_Bool (is_known (known_of t.entries) (negated lit))) [
  | inr fine ↦ fine
  | inl both ↦
      let one = place_of_known (known_of t.entries) lit found in
      let two = place_of_known (known_of t.entries) (negated lit) both in
      let d : Entry = record { lit = lit; reason = None; level = 0 } in
      let long : length (known_of t.entries) ≡ length t.entries = length-map t.entries (λ (x : Entry). x.lit) in
      let in_one : one.0 < length t.entries = omega (arith, one.1) in
      let in_two : two.0 < length t.entries = omega (arith, two.1) in
      let is_one : (get_or t.entries one.0 d).lit ≡ lit = sym (get_or-map (λ (x : Entry). x.lit) t.entries one.0 d lit in_one) ∙ one.2 lit in
      let is_two : (get_or t.entries two.0 d).lit ≡ negated lit = sym (get_or-map (λ (x : Entry). x.lit) t.entries two.0 d lit in_two) ∙ two.2 lit in
      let variables : (get_or t.entries one.0 d).lit.var.0 ≡ (get_or t.entries two.0 d).lit.var.0 = ap (λ l. l.var.0) (is_one ∙ (sym (negated-negated lit) ∙ ap negated (sym is_two))) in
      absurd (elim (cases_eq one.0 two.0) [
        | inl here ↦ not_self lit.positive (ap (λ l. l.positive) (sym is_one ∙ (ap (λ n. (get_or t.entries n d).lit) here ∙ is_two)))
        | inr apart ↦ elim (cases_lt one.0 two.0) [
          | inl below ↦ laws.no_variable_twice one.0 two.0 d below in_two variables
          | inr above ↦ laws.no_variable_twice two.0 one.0 d (omega arith) in_one (sym variables)
        ]
      ])
]

pub Grows-none : (t : TrailParts) → Grows t t
Grows-none t = record { vars = refl; present = refl; more = []; entries = sym (append-nil t.entries); at_present = All-nil (λ (e : Entry). e.level ≡ t.present) }

pub Grows-on : (a b c : TrailParts) → Grows a b → Grows b c → Grows a c
Grows-on a b c one two = record {
  vars = two.vars ∙ one.vars;
  present = two.present ∙ one.present;
  more = one.more ++ two.more;
  entries = two.entries ∙ (ap (λ es. es ++ two.more) one.entries ∙ append_assoc a.entries one.more two.more);
  at_present = All-append (λ (e : Entry). e.level ≡ a.present) one.more two.more one.at_present (λ k d within. two.at_present k d within ∙ one.present);
}
