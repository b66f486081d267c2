-- Laws of guarded watches: an entry more, a cut, a moved watch, an entry read; and that a guarded clause is at rest.
use Rattle.std.proofs.Common.{◌≡◌, ◌≢◌, ℕ, ◌+◌, ◌*◌, ◌<◌, ◌≤◌, true, false, inl, inr, List, [], ◌∷◌, ◌++◌, length, get_or, set, min, ap, sym, subst, ◌∙◌, arith}
use Rattle.std.specs.Prelude.{None, All, Contains}
use Rattle.std.proofs.lemmas.Bool.{cases_eq, cases_Bool}
use Rattle.std.proofs.lemmas.List.{get_or-map, length-map, length-set, get_or-set_same, get_or-set_other, get_or_append_left, get_or_default, get_or-take, length-take-le}
use Rattle.sat_core.specs.declared.literal.Lit.{Lit}
use Rattle.sat_core.specs.Clauses.{negated}
use Rattle.sat_core.specs.Hints.{is_known}
use Rattle.sat_core.specs.Fresh.{IsAtRest}
use Rattle.sat_core.proofs.OpenLaws.{place_of_known, true_is_not_false}
use Rattle.search_trail.specs.declared.entry.Entry.{Entry}
use Rattle.search_trail.specs.Trails.{IsCutBack, known_of, up_to}
use Rattle.search_trail.proofs.TrailLaws.{OneSign, known-at_entry}
use Rattle.search_trail.proofs.LevelLaws.{up_to-at, up_to-from, up_to-more, up_to-push, up_to-cut, known-from_up_to}
use Rattle.watch_store.specs.Watching.{other_of, IsGuarded, AreGuarded}

pub IsGuarded-push : (entries : List Entry) (read : ℕ) (watch partner : Lit) (e : Entry) → read ≤ length entries → IsGuarded entries read watch partner → IsGuarded (entries ++ e ∷ []) read watch partner
IsGuarded-push entries read watch partner e within guarded k d below is =
    let same : get_or (entries ++ e ∷ []) k d ≡ get_or entries k d = get_or_append_left entries (e ∷ []) d k (omega arith) in
    subst (λ n. is_known (up_to n (entries ++ e ∷ [])) partner ≡ true) (ap (λ x. x.level) (sym same))
    (up_to-push (get_or entries k d).level entries e partner (guarded k d below (ap (λ x. x.lit) (sym same) ∙ is)))

pub IsGuarded-cut : (level : ℕ) (old new : List Entry) (read : ℕ) (watch partner : Lit) → IsCutBack level old new → IsGuarded old read watch partner → IsGuarded new (min read (length new)) watch partner
IsGuarded-cut level old new read watch partner cut guarded k d below is =
    let long : length new ≡ cut.size = ap length cut.front ∙ length-take-le cut.size old cut.within in
    let same : get_or new k d ≡ get_or old k d = ap (λ es. get_or es k d) cut.front ∙ get_or-take cut.size old k d (omega arith) in
    subst (λ n. is_known (up_to n new) partner ≡ true) (ap (λ x. x.level) (sym same))
    (up_to-cut level (get_or old k d).level old new partner cut (subst (λ x. x.level ≤ level) same (cut.kept k d (omega arith)))
    (guarded k d (omega arith) (ap (λ x. x.lit) (sym same) ∙ is)))

pub AreGuarded-push : (entries : List Entry) (read : ℕ) (watches : List Lit) (e : Entry) → read ≤ length entries → AreGuarded entries read watches → AreGuarded (entries ++ e ∷ []) read watches
AreGuarded-push entries read watches e within all node d inside = IsGuarded-push entries read (get_or watches node d) (get_or watches (other_of node) d) e within (all node d inside)

pub AreGuarded-cut : (level : ℕ) (old new : List Entry) (read : ℕ) (watches : List Lit) → IsCutBack level old new → AreGuarded old read watches → AreGuarded new (min read (length new)) watches
AreGuarded-cut level old new read watches cut all node d inside = IsGuarded-cut level old new read (get_or watches node d) (get_or watches (other_of node) d) cut (all node d inside)

-- a literal that isn't false guards and is guarded at once, where the one it takes the place of is false
pub AreGuarded-move : (entries : List Entry) (read : ℕ) (watches : List Lit) (count node : ℕ) (new : Lit) (d : Lit) → OneSign entries → read ≤ length entries → length watches ≡ 2 * count → node < length watches → is_known (known_of entries) (negated (get_or watches node d)) ≡ true → is_known (known_of entries) (negated new) ≡ false → AreGuarded entries read watches → AreGuarded entries read (set watches node new)
AreGuarded-move entries read watches count node new d one_sign within even inside false_now not_false all m e inside' =
    let long : length (set watches node new) ≡ length watches = length-set watches node new in
    let false_here : (f : Lit) → is_known (known_of entries) (negated (get_or watches node f)) ≡ true = λ f. ap (λ l. is_known (known_of entries) (negated l)) (get_or_default watches node f d inside) ∙ false_now in
    elim (cases_eq m node) [
      | inl here ↦ λ k f below is.
          let lit_is : get_or (set watches node new) m e ≡ new = ap (λ n. get_or (set watches node new) n e) here ∙ get_or-set_same watches node new e inside in
          absurd (true_is_not_false (sym (ap (is_known (known_of entries)) (sym (is ∙ ap negated lit_is)) ∙ known-at_entry entries k f (omega arith)) ∙ not_false))
      | inr apart ↦ λ k f below is.
          let own : get_or (set watches node new) m e ≡ get_or watches m e = get_or-set_other watches node m new e apart in
          let true_by : is_known (up_to (get_or entries k f).level entries) (get_or watches (other_of m) e) ≡ true = all m e (omega arith) k f below (is ∙ ap negated own) in
          elim (cases_eq (other_of m) node) [
            | inl partner ↦
                let was_true : is_known (known_of entries) (get_or watches node e) ≡ true = ap (λ n. is_known (known_of entries) (get_or watches n e)) (sym partner) ∙ known-from_up_to (get_or entries k f).level entries (get_or watches (other_of m) e) true_by in
                absurd (true_is_not_false (sym (false_here e) ∙ one_sign (get_or watches node e) was_true))
            | inr different ↦ ap (is_known (up_to (get_or entries k f).level entries)) (get_or-set_other watches node (other_of m) new e different) ∙ true_by
          ]
    ]

-- one entry more is read, at a level that isn't below any: each clause that watches its negation has its other watch true
pub AreGuarded-read : (entries : List Entry) (read : ℕ) (watches : List Lit) → AreGuarded entries read watches → ((node : ℕ) (d : Lit) (e : Entry) → node < length watches → (get_or entries read e).lit ≡ negated (get_or watches node d) → is_known (up_to (get_or entries read e).level entries) (get_or watches (other_of node) d) ≡ true) → AreGuarded entries (read + 1) watches
AreGuarded-read entries read watches all now node d inside k e below is = elim (cases_eq k read) [
  | inl here ↦ subst (λ n. is_known (up_to (get_or entries n e).level entries) (get_or watches (other_of node) d) ≡ true) (sym here) (now node d e inside (ap (λ n. (get_or entries n e).lit) (sym here) ∙ is))
  | inr apart ↦ all node d inside k e (omega arith) is
]

-- all that is true is true up to the greatest level
pub up_to-all : (n : ℕ) (entries : List Entry) (lit : Lit) → All (λ e. e.level ≤ n) entries → is_known (known_of entries) lit ≡ true → is_known (up_to n entries) lit ≡ true
up_to-all n entries lit low found =
    let at = place_of_known (known_of entries) lit found in
    let d : Entry = record { lit = lit; reason = None; level = 0 } in
    let inside : at.0 < length entries = omega (arith, at.1, length-map entries (λ (x : Entry). x.lit)) in
    let is : (get_or entries at.0 d).lit ≡ lit = sym (get_or-map (λ (x : Entry). x.lit) entries at.0 d lit inside) ∙ at.2 lit in
    subst (λ l. is_known (up_to n entries) l ≡ true) is (up_to-at n entries at.0 d inside (low at.0 d inside))

-- ---- a guarded clause is at rest, under what is true up to a level of which all is read
pub at_rest : (entries : List Entry) (read level : ℕ) (lits : List Lit) (one two : Lit) → ((k : ℕ) (d : Entry) → k < length entries → (get_or entries k d).level ≤ level → k < read) → Contains lits one → Contains lits two → one ≢ two → IsGuarded entries read one two → IsGuarded entries read two one → IsAtRest (up_to level entries) lits
unfolding IsAtRest
at_rest entries read level lits one two all_read stands stands' differ guard guard' =
    let known : List Lit = up_to level entries in
    let not_false : (a b : Lit) → IsGuarded entries read a b → is_known known b ≡ false → is_known known (negated a) ≡ false = λ a b guarded open_b.
    elim (cases_Bool (is_known known (negated a))) [
      | inl found ↦
          let at = up_to-from level entries (negated a) found in
          let d : Entry = record { lit = a; reason = None; level = 0 } in
          let low : (get_or entries at.0 d).level ≤ level = (at.2 d).1 in
          let true_b : is_known known b ≡ true = up_to-more (get_or entries at.0 d).level level entries b low (guarded at.0 d (all_read at.0 d at.1 low) (at.2 d).0) in
          absurd (true_is_not_false (sym true_b ∙ open_b))
      | inr fine ↦ fine
    ] in
    elim (cases_Bool (is_known known one)) [
      | inl true_one ↦ inl (stands.0, one, stands.1, stands.2, true_one)
      | inr not_one ↦ elim (cases_Bool (is_known known two)) [
        | inl true_two ↦ inl (stands'.0, two, stands'.1, stands'.2, true_two)
        | inr not_two ↦ inr (record {
          one = one;
          other = two;
          one_stands = stands;
          other_stands = stands';
          different = differ;
          one_open = (not_one, not_false one two guard not_two);
          other_open = (not_two, not_false two one guard' not_one);
        })
      ]
    ]

-- a literal that isn't false guards whatever stands beside it
pub IsGuarded-open : (entries : List Entry) (read : ℕ) (watch partner : Lit) → read ≤ length entries → is_known (known_of entries) (negated watch) ≡ false → IsGuarded entries read watch partner
IsGuarded-open entries read watch partner within not_false k d below is =
    absurd (true_is_not_false (sym (ap (is_known (known_of entries)) (sym is) ∙ known-at_entry entries k d (omega arith)) ∙ not_false))
