-- Laws of what is true up to a level: where it stands, and that it stays where the trail grows above the level or goes back to it.
use Rattle.std.proofs.Common.{◌≡◌, ℕ, zero, suc, ◌+◌, ◌<◌, ◌≤◌, Bool, true, false, cond, ◌||◌, inl, inr, List, [], ◌∷◌, ◌++◌, length, map, take, drop, get_or, refl, ap, sym, subst, ◌∙◌, arith}
use Rattle.std.specs.Prelude.{All, None, nat_le, filter}
use Rattle.std.proofs.lemmas.Bool.{cases_eq, cases_lt, cases_Bool, or_cases, le-leb, leb-true}
use Rattle.std.proofs.lemmas.List.{length_push, get_or_append_left, get_or-take, length-take-le, append-nil, take-append-drop, get_or-drop, length-drop}
use Rattle.std.proofs.lemmas.List.Elements.{filter-append, All-head, All-tail}
use Rattle.std.proofs.Math.Bool.{or-true}
use Rattle.sat_core.specs.declared.literal.Lit.{Lit}
use Rattle.sat_core.specs.Hints.{is_same, is_known}
use Rattle.sat_core.proofs.LiteralLaws.{is_same-true, is_same-refl}
use Rattle.search_trail.specs.declared.entry.Entry.{Entry}
use Rattle.search_trail.specs.Trails.{TrailParts, IsTrail, IsCutBack, known_of, up_to}
use Rattle.sat_core.proofs.OpenLaws.{true_is_not_false}
use Rattle.search_trail.proofs.TrailLaws.{known-at_entry}

pub up_to-at : (n : ℕ) (entries : List Entry) (k : ℕ) (d : Entry) → k < length entries → (get_or entries k d).level ≤ n → is_known (up_to n entries) (get_or entries k d).lit ≡ true
up_to-at n [] k d within low = absurd (omega arith)
up_to-at n (e ∷ entries) zero d within low = rw (le-leb e.level n low) (ap (λ b. b || is_known (up_to n entries) e.lit) (is_same-refl e.lit))
up_to-at n (e ∷ entries) (suc k) d within low =
    let rest : is_known (up_to n entries) (get_or entries k d).lit ≡ true = up_to-at n entries k d (omega arith) low in
    elim (nat_le e.level n) as (λ b. is_known (map (λ (x : Entry). x.lit) (cond b (e ∷ filter (λ x. nat_le x.level n) entries) (filter (λ x. nat_le x.level n) entries))) (get_or entries k d).lit ≡ true) [
      | true ↦ ap (λ b. is_same (get_or entries k d).lit e.lit || b) rest ∙ or-true (is_same (get_or entries k d).lit e.lit)
      | false ↦ rest
    ]

pub up_to-from : (n : ℕ) (entries : List Entry) (lit : Lit) → is_known (up_to n entries) lit ≡ true → (k : ℕ) × (k < length entries) × ((d : Entry) → ((get_or entries k d).lit ≡ lit) × ((get_or entries k d).level ≤ n))
up_to-from n [] lit found = absurd (cc)
up_to-from n (e ∷ entries) lit found =
    elim (nat_le e.level n) as (λ b. nat_le e.level n ≡ b → is_known (map (λ (x : Entry). x.lit) (cond b (e ∷ filter (λ x. nat_le x.level n) entries) (filter (λ x. nat_le x.level n) entries))) lit ≡ true → (k : ℕ) × (k < length (e ∷ entries)) × ((d : Entry) → ((get_or (e ∷ entries) k d).lit ≡ lit) × ((get_or (e ∷ entries) k d).level ≤ n))) [
      | true ↦ λ low inside. elim (or_cases (is_same lit e.lit) (is_known (up_to n entries) lit) inside) [
        | inl same ↦ (zero, omega arith, λ d. (sym (is_same-true lit e.lit same), leb-true e.level n low))
        | inr later ↦ let at = up_to-from n entries lit later in (suc at.0, omega (arith, at.1), at.2)
      ]
      | false ↦ λ _ later. let at = up_to-from n entries lit later in (suc at.0, omega (arith, at.1), at.2)
    ] refl found

pub up_to-more : (m n : ℕ) (entries : List Entry) (lit : Lit) → m ≤ n → is_known (up_to m entries) lit ≡ true → is_known (up_to n entries) lit ≡ true
up_to-more m n entries lit le found =
    let at = up_to-from m entries lit found in
    let d : Entry = record { lit = lit; reason = None; level = 0 } in
    subst (λ l. is_known (up_to n entries) l ≡ true) (at.2 d).0 (up_to-at n entries at.0 d at.1 (omega (arith, (at.2 d).1)))

pub up_to-push : (n : ℕ) (entries : List Entry) (e : Entry) (lit : Lit) → is_known (up_to n entries) lit ≡ true → is_known (up_to n (entries ++ e ∷ [])) lit ≡ true
up_to-push n entries e lit found =
    let at = up_to-from n entries lit found in
    let d : Entry = record { lit = lit; reason = None; level = 0 } in
    let same : get_or (entries ++ e ∷ []) at.0 d ≡ get_or entries at.0 d = get_or_append_left entries (e ∷ []) d at.0 at.1 in
    let here : is_known (up_to n (entries ++ e ∷ [])) (get_or (entries ++ e ∷ []) at.0 d).lit ≡ true = up_to-at n (entries ++ e ∷ []) at.0 d (omega (arith, at.1, length_push entries e)) (subst (λ x. x.level ≤ n) (sym same) (at.2 d).1) in
    subst (λ l. is_known (up_to n (entries ++ e ∷ [])) l ≡ true) (ap (λ x. x.lit) same ∙ (at.2 d).0) here

-- going back keeps what was true up to that level
pub up_to-cut : (level n : ℕ) (old new : List Entry) (lit : Lit) → IsCutBack level old new → n ≤ level → is_known (up_to n old) lit ≡ true → is_known (up_to n new) lit ≡ true
up_to-cut level n old new lit cut le found =
    let at = up_to-from n old lit found in
    let d : Entry = record { lit = lit; reason = None; level = 0 } in
    let long : length new ≡ cut.size = ap length cut.front ∙ length-take-le cut.size old cut.within in
    let inside : at.0 < cut.size = elim (cases_lt at.0 cut.size) [ inl low ↦ low | inr high ↦ absurd (omega (arith, cut.gone at.0 d high at.1, (at.2 d).1)) ] in
    let same : get_or new at.0 d ≡ get_or old at.0 d = ap (λ es. get_or es at.0 d) cut.front ∙ get_or-take cut.size old at.0 d inside in
    let here : is_known (up_to n new) (get_or new at.0 d).lit ≡ true = up_to-at n new at.0 d (omega (arith, inside, long)) (subst (λ x. x.level ≤ n) (sym same) (at.2 d).1) in
    subst (λ l. is_known (up_to n new) l ≡ true) (ap (λ x. x.lit) same ∙ (at.2 d).0) here

pub known-from_up_to : (n : ℕ) (entries : List Entry) (lit : Lit) → is_known (up_to n entries) lit ≡ true → is_known (known_of entries) lit ≡ true
known-from_up_to n entries lit found =
    let at = up_to-from n entries lit found in
    let d : Entry = record { lit = lit; reason = None; level = 0 } in
    subst (λ l. is_known (known_of entries) l ≡ true) (at.2 d).0 (known-at_entry entries at.0 d at.1)

pub up_to-not : (n : ℕ) (entries : List Entry) (lit : Lit) → is_known (known_of entries) lit ≡ false → is_known (up_to n entries) lit ≡ false
up_to-not n entries lit unknown = elim (cases_Bool (is_known (up_to n entries) lit)) [
  | inl found ↦ absurd (true_is_not_false (sym (known-from_up_to n entries lit found) ∙ unknown))
  | inr fine ↦ fine
]

pub unknown_below : (t : TrailParts) (place level : ℕ) (lit : Lit) → IsTrail t → place < length t.entries → ((d : Entry) → ((get_or t.entries place d).lit.var.0 ≡ lit.var.0) × (level < (get_or t.entries place d).level)) → is_known (up_to level t.entries) lit ≡ false
unknown_below t place level lit laws within here = elim (cases_Bool (is_known (up_to level t.entries) lit)) [
  | inr fine ↦ fine
  | inl found ↦
      let at = up_to-from level t.entries lit found in
      let d : Entry = record { lit = lit; reason = None; level = 0 } in
      let same : (get_or t.entries at.0 d).lit.var.0 ≡ (get_or t.entries place d).lit.var.0 = ap (λ l. l.var.0) (at.2 d).0 ∙ sym (here d).0 in
      absurd (elim (cases_eq at.0 place) [
        | inl is ↦ omega (arith, (at.2 d).1, (here d).1, ap (λ n. (get_or t.entries n d).level) is)
        | inr apart ↦ elim (cases_lt at.0 place) [
          | inl below ↦ laws.no_variable_twice at.0 place d below within same
          | inr above ↦ laws.no_variable_twice place at.0 d (omega arith) at.1 (sym same)
        ]
      ])
]

filter_none_above : (n : ℕ) (entries : List Entry) → ((k : ℕ) (d : Entry) → k < length entries → n < (get_or entries k d).level) → filter (λ (e : Entry). nat_le e.level n) entries ≡ []
filter_none_above n [] above = refl
filter_none_above n (e ∷ entries) above =
    let head : nat_le e.level n ≡ false = elim (cases_Bool (nat_le e.level n)) [ inl le ↦ absurd (omega (arith, leb-true e.level n le, above 0 e (omega arith))) | inr fine ↦ fine ] in
    rw head (filter_none_above n entries (λ k d within. above (suc k) d (omega arith)))

pub up_to-above : (n : ℕ) (entries : List Entry) (e : Entry) → n < e.level → up_to n (entries ++ e ∷ []) ≡ up_to n entries
up_to-above n entries e above =
    let none : filter (λ (x : Entry). nat_le x.level n) (e ∷ []) ≡ [] = filter_none_above n (e ∷ []) (λ k d within. elim (cases_eq k 0) [ inl here ↦ subst (λ j. n < (get_or (e ∷ []) j d).level) (sym here) above | inr apart ↦ absurd (omega arith) ]) in
    ap known_of (filter-append (λ (x : Entry). nat_le x.level n) entries (e ∷ []) ∙ (ap (λ ys. filter (λ (x : Entry). nat_le x.level n) entries ++ ys) none ∙ append-nil (filter (λ (x : Entry). nat_le x.level n) entries)))

pub up_to-same : (level n : ℕ) (old new : List Entry) → IsCutBack level old new → n ≤ level → up_to n new ≡ up_to n old
up_to-same level n old new cut le =
    let test : Entry → Bool = λ x. nat_le x.level n in
    let none : filter test (drop cut.size old) ≡ [] = filter_none_above n (drop cut.size old) (λ k d within.
    let same : get_or (drop cut.size old) k d ≡ get_or old (cut.size + k) d = get_or-drop cut.size old k d in
    subst (λ (x : Entry). n < x.level) (sym same) (omega (arith, cut.gone (cut.size + k) d (omega arith) (omega (arith, within, length-drop cut.size old))))) in
    let whole : filter test old ≡ filter test (take cut.size old) = ap (filter test) (sym (take-append-drop cut.size old)) ∙ (filter-append test (take cut.size old) (drop cut.size old) ∙ (ap (λ ys. filter test (take cut.size old) ++ ys) none ∙ append-nil (filter test (take cut.size old)))) in
    ap (λ es. up_to n es) cut.front ∙ ap known_of (sym whole)

pub all_up_to : (n : ℕ) (entries : List Entry) → All (λ e. e.level ≤ n) entries → up_to n entries ≡ known_of entries
all_up_to n [] low = refl
all_up_to n (e ∷ entries) low = rw (le-leb e.level n (All-head (λ (x : Entry). x.level ≤ n) e entries low)) (ap (λ k. e.lit ∷ k) (all_up_to n entries (All-tail (λ (x : Entry). x.level ≤ n) e entries low)))
