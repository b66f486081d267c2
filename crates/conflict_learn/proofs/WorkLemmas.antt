-- The steps of learning keep its state.
use Rattle.std.proofs.Common.{◌≡◌, ◌≢◌, ℕ, ◌+◌, ◌-◌, ◌<◌, ◌≤◌, Bool, true, false, cond, ◌&&◌, ◌⊎◌, inl, inr, List, [], ◌∷◌, ◌++◌, length, take, get_or, set, max, refl, ap, sym, subst, ◌∙◌, arith}
use Rattle.std.specs.Prelude.{All, Any, Contains, reverse, nat_eq, Some, None}
use Rattle.std.proofs.lemmas.Bool.{cases_eq, cases_lt, cases_Bool, eq-eqb}
use Rattle.std.proofs.lemmas.List.{get_or_default, get_or-set_same, get_or-set_other, length-set, get_or_append_left, length-map, get_or-map, reverse-append, length-append, get_or-append-add}
use Rattle.std.proofs.lemmas.List.Elements.{All-push, All-nil, All-append}
use Rattle.std.proofs.lemmas.List.Quantifiers.{all_pairs_push, Any-push}
use mir.Val.{bool_byte}
use Rattle.sat_core.specs.declared.literal.Lit.{Lit}
use Rattle.sat_core.specs.declared.literal.ClauseId.{ClauseId}
use Rattle.sat_core.specs.Clauses.{negated, IsOver, IsClause}
use Rattle.sat_core.specs.Hints.{NumberedClause, clause_of, is_same, is_known}
use Rattle.sat_core.proofs.LiteralLaws.{negated-negated, is_same-true, is_same-refl}
use Rattle.search_trail.specs.declared.entry.Entry.{Entry}
use Rattle.search_trail.specs.Trails.{TrailParts, IsTrail, known_of, up_to}
use Rattle.search_trail.specs.Reasons.{IsReason, ReasonFits, AreReasons}
use Rattle.sat_core.proofs.OpenLaws.{place_of_known}
use Rattle.conflict_learn.specs.Learning.{IsLearnedFrom, IsConflict}
use Rattle.conflict_learn.specs.Working.{IsMarked, LeadsOn, IsCutFrom, AreMarkedBelow, is_pending, pending, IsWorking, StandsBelow, MarksOf, IsKeptBack, IsResolved}
use Rattle.conflict_learn.proofs.HintOrder.{leads_resolve, leads_keep, leads_pass, leads_start, leads_finish, front_has}
use Rattle.search_trail.proofs.LevelLaws.{up_to-at, up_to-more}
use Rattle.conflict_learn.proofs.PendingLemmas.{index_of, DistinctIndex, apart-eqb, pending-yes, pending-no, pending-positive, pending-find, pending-mark_here, pending-mark_other}

true_is_not_false : true ≡ false → ⊥
true_is_not_false same = cc

pub some_same : {X : Type 0} {x y : X} → Some x ≡ Some y → x ≡ y
some_same same = cc

pub some_not_none : {X : Type 0} {x : X} → Some x ≡ None → ⊥
some_not_none same = cc

-- ---- marks
pub distinct_index : (t : TrailParts) → IsTrail t → DistinctIndex t.entries
distinct_index t laws i j d low high same =
    let one = laws.in_range i d (omega arith) in
    let two = laws.in_range j d high in
    laws.no_variable_twice i j d low high (omega (arith, one, two, same))

pub MarksOf-none : (t : TrailParts) (marks : List Bool) → MarksOf t marks marks [] 0
MarksOf-none t marks = record { long = refl; kept = λ n m. m; done = All-nil (λ (lit : Lit). get_or marks (lit.var.0 - 1) false ≡ true); counted = λ place all. omega arith }

pub MarksOf-append : (t : TrailParts) (a b c : List Bool) (xs ys : List Lit) (f g : ℕ) → MarksOf t a b xs f → MarksOf t b c ys g → MarksOf t a c (xs ++ ys) (f + g)
MarksOf-append t a b c xs ys f g one two = record {
  long = two.long ∙ one.long;
  kept = λ n m. two.kept n (one.kept n m);
  done = All-append (λ (lit : Lit). get_or c (lit.var.0 - 1) false ≡ true) xs ys (λ k d within. two.kept ((get_or xs k d).var.0 - 1) (one.done k d within)) two.done;
  counted = λ place all.
      let left = one.counted place (λ k d within. subst (λ (lit : Lit). (get_or a (lit.var.0 - 1) false ≡ true) ⊎ StandsBelow t.entries place lit) (get_or_append_left xs ys d k within) (all k d (omega (arith, length-append xs ys, within)))) in
      let right = two.counted place (λ k d within.
      let at : get_or (xs ++ ys) (length xs + k) d ≡ get_or ys k d = get_or-append-add xs ys k d in
      elim (subst (λ (lit : Lit). (get_or a (lit.var.0 - 1) false ≡ true) ⊎ StandsBelow t.entries place lit) at (all (length xs + k) d (omega (arith, length-append xs ys, within)))) [
        | inl old ↦ inl (one.kept ((get_or ys k d).var.0 - 1) old)
        | inr below ↦ inr below
      ]) in
      omega (arith, left, right);
}

-- a variable that was marked before
pub MarksOf-old : (t : TrailParts) (marks : List Bool) (lit : Lit) → get_or marks (lit.var.0 - 1) false ≡ true → MarksOf t marks marks (lit ∷ []) 0
MarksOf-old t marks lit old = record {
  long = refl;
  kept = λ n m. m;
  done = All-push (λ (l : Lit). get_or marks (l.var.0 - 1) false ≡ true) [] lit (All-nil (λ (l : Lit). get_or marks (l.var.0 - 1) false ≡ true)) old;
  counted = λ place all. omega arith;
}

-- a variable of the present level, or of another
pub MarksOf-new : (t : TrailParts) (marks : List Bool) (lit : Lit) (level found : ℕ) → IsTrail t → length marks ≡ t.vars → IsOver t.vars lit → get_or marks (lit.var.0 - 1) false ≡ false → All (λ e. e.lit.var.0 ≡ lit.var.0 → e.level ≡ level) t.entries → found ≡ cond (nat_eq level t.present) 1 0 → MarksOf t marks (set marks (lit.var.0 - 1) true) (lit ∷ []) found
MarksOf-new t marks lit level found laws long over unmarked at is =
    let n : ℕ = lit.var.0 - 1 in
    let inside : n < length marks = omega (arith, long, over) in
    record {
      long = length-set marks n true;
      kept = λ m old. elim (cases_eq m n) [
        | inl here ↦ ap (λ i. get_or (set marks n true) i false) here ∙ get_or-set_same marks n true false inside
        | inr apart ↦ get_or-set_other marks n m true false apart ∙ old
      ];
      done = All-push (λ (l : Lit). get_or (set marks n true) (l.var.0 - 1) false ≡ true) [] lit (All-nil (λ (l : Lit). get_or (set marks n true) (l.var.0 - 1) false ≡ true)) (get_or-set_same marks n true false inside);
      counted = λ place all. elim (all 0 lit (omega arith)) [
        | inl old ↦ absurd (true_is_not_false (sym old ∙ unmarked))
        | inr below ↦
            let d : Entry = record { lit = lit; reason = None; level = 0 } in
            let number : (get_or t.entries below.0 d).lit.var.0 ≡ lit.var.0 = below.3 d in
            let level_is : (get_or t.entries below.0 d).level ≡ level = at below.0 d below.2 number in
            elim (cases_eq level t.present) [
              | inl here ↦
                  let one : found ≡ 1 = is ∙ ap (λ b. cond b 1 0) (eq-eqb level t.present here) in
                  pending-mark_here t.entries marks n t.present place below.0 d inside (distinct_index t laws) below.1 below.2 (ap (λ v. v - 1) number) (level_is ∙ here) unmarked
                  ∙ ap (λ k. pending t.entries marks t.present place + k) (sym one)
              | inr elsewhere ↦
                  let none : found ≡ 0 = is ∙ ap (λ b. cond b 1 0) (apart-eqb level t.present elsewhere) in
                  let same = pending-mark_other t.entries marks n t.present place (λ k f within index.
                  let range = laws.in_range k f within in
                  λ now. elsewhere (sym (at k f within (omega (arith, range, over, index))) ∙ now)) in
                  omega (arith, same, none)
            ]
      ];
    }

-- ---- steps
from_lower : (entries : List Entry) (place : ℕ) (cut : List Lit) → IsCutFrom entries (place + 1) cut → IsCutFrom entries place cut
from_lower entries place cut from k d within = let at = from k d within in (at.0, omega (arith, at.1), at.2, at.3)

marked_now : (entries : List Entry) (marks : List Bool) (place : ℕ) (d : Entry) → place < length entries → get_or marks (index_of (get_or entries place d)) false ≡ true → IsMarked entries marks place
marked_now entries marks place d within is e = ap (λ (x : Entry). get_or marks (index_of x) false) (get_or_default entries place e d within) ∙ is

unpending : (marks : List Bool) (level : ℕ) (e : Entry) → get_or marks (index_of e) false ≡ false → is_pending marks level e ≡ false
unpending marks level e unmarked = ap (λ b. b && nat_eq e.level level) unmarked

and-false : (b : Bool) → (b && false) ≡ false
and-false true = refl
and-false false = refl

elsewhere_pending : (marks : List Bool) (level : ℕ) (e : Entry) → e.level ≢ level → is_pending marks level e ≡ false
elsewhere_pending marks level e apart = ap (λ b. get_or marks (index_of e) false && b) (apart-eqb e.level level apart) ∙ and-false (get_or marks (index_of e) false)

pub here_pending : (marks : List Bool) (level : ℕ) (e : Entry) → get_or marks (index_of e) false ≡ true → e.level ≡ level → is_pending marks level e ≡ true
here_pending marks level e marked at = ap (λ b. b && nat_eq e.level level) marked ∙ eq-eqb e.level level at

pub work_pass : (live : List NumberedClause) (t : TrailParts) (place : ℕ) (marks : List Bool) (open_count level : ℕ) (cut : List Lit) (hints : List ClauseId) (d : Entry) → place < length t.entries → get_or marks (index_of (get_or t.entries place d)) false ≡ false → IsWorking live t (place + 1) marks open_count level cut hints → IsWorking live t place marks open_count level cut hints
work_pass live t place marks open_count level cut hints d within unmarked work = record {
  long = work.long;
  leads = leads_pass live t.entries place marks cut (reverse hints) d within unmarked work.leads;
  from = from_lower t.entries place cut work.from;
  clause = work.clause;
  counted = work.counted ∙ pending-no t.entries marks t.present place d within (unpending marks t.present (get_or t.entries place d) unmarked);
  phase = work.phase;
}

-- nothing of the present level is marked below an entry of a lower level
nothing_below : (t : TrailParts) (marks : List Bool) (place : ℕ) (d : Entry) → IsTrail t → place < length t.entries → (get_or t.entries place d).level < t.present → pending t.entries marks t.present place ≡ 0
nothing_below t marks place d laws within low = elim (cases_eq (pending t.entries marks t.present place) 0) [
  | inl none ↦ none
  | inr some ↦
      let at = pending-find t.entries marks t.present place (omega arith) in
      absurd (omega (arith, laws.levels_rise at.0 place d at.1 within, (at.3 d).1, low))
]

pub cut_clause : (t : TrailParts) (place : ℕ) (cut : List Lit) (d : Entry) → IsTrail t → place < length t.entries → IsCutFrom t.entries (place + 1) cut → IsClause t.vars cut → IsClause t.vars (cut ++ negated (get_or t.entries place d).lit ∷ [])
cut_clause t place cut d laws within from clause =
    let lit : Lit = negated (get_or t.entries place d).lit in
    record {
      in_range = All-push (IsOver t.vars) cut lit clause.in_range (laws.in_range place d within);
      no_variable_twice = all_pairs_push (λ one later. one.var.0 ≢ later.var.0) cut lit clause.no_variable_twice (λ k e inside same.
          let at = from k e inside in
          laws.no_variable_twice place at.0 d (omega (arith, at.1)) at.2 (sym same ∙ ap (λ l. l.var.0) (sym (at.3 d))));
    }

cut_from : (entries : List Entry) (place : ℕ) (cut : List Lit) (d : Entry) → place < length entries → IsCutFrom entries (place + 1) cut → IsCutFrom entries place (cut ++ negated (get_or entries place d).lit ∷ [])
cut_from entries place cut d within from =
    let lit : Lit = (get_or entries place d).lit in
    let P : Lit → Type 0 = λ l. (k : ℕ) × (place ≤ k) × (k < length entries) × ((e : Entry) → (get_or entries k e).lit ≡ negated l) in
    All-push P cut (negated lit) (from_lower entries place cut from) (place, omega arith, within, λ e. ap (λ (x : Entry). x.lit) (get_or_default entries place e d within) ∙ sym (negated-negated lit))

-- a marked literal of the present level is kept
pub work_keep_present : (live : List NumberedClause) (t : TrailParts) (place : ℕ) (marks : List Bool) (open_count level : ℕ) (cut : List Lit) (hints : List ClauseId) (d : Entry) → IsTrail t → place < length t.entries → get_or marks (index_of (get_or t.entries place d)) false ≡ true → (get_or t.entries place d).level ≡ t.present → IsKeptBack t.present open_count (get_or t.entries place d) → IsWorking live t (place + 1) marks open_count level cut hints → (0 < open_count) × IsWorking live t place marks (open_count - 1) level (cut ++ negated (get_or t.entries place d).lit ∷ []) hints
work_keep_present live t place marks open_count level cut hints d laws within marked at keeps work =
    let e : Entry = get_or t.entries place d in
    let more : pending t.entries marks t.present (place + 1) ≡ pending t.entries marks t.present place + 1 = pending-yes t.entries marks t.present place d within (here_pending marks t.present e marked at) in
    let counted : open_count ≡ pending t.entries marks t.present place + 1 = work.counted ∙ more in
    let kept_new : IsWorking live t place marks (open_count - 1) level (cut ++ negated e.lit ∷ []) hints = record {
      long = work.long;
      leads = leads_keep live t.entries place marks cut (reverse hints) d within work.leads;
      from = cut_from t.entries place cut d within work.from;
      clause = cut_clause t place cut d laws within work.from work.clause;
      counted = omega arith;
      phase = elim work.phase [
        | inr behind ↦ absurd (omega (arith, behind.no_more))
        | inl before ↦
            let above : 0 < t.present = elim (cases_eq t.present 0) [
              | inr some ↦ omega arith
              | inl none ↦ absurd (elim keeps [
                | inl decision ↦ omega (arith, laws.decided_above_zero place d within decision)
                | inr high ↦ omega (arith, (high at).0)
              ])
            ] in
            let last : pending t.entries marks t.present place ≡ 0 = elim (cases_eq (pending t.entries marks t.present place) 0) [
              | inl none ↦ none
              | inr some ↦
                  let other = pending-find t.entries marks t.present place (omega arith) in
                  absurd (elim keeps [
                    | inl decision ↦ omega (arith, laws.decisions_begin other.0 place d other.1 within decision, (other.3 d).1)
                    | inr few ↦ omega (arith, (few at).1)
                  ])
            ] in
            inr (record {
              above_zero = above;
              no_more = omega arith;
              head = record {
                lit = negated e.lit;
                rest = [];
                is = ap (λ c. c ++ negated e.lit ∷ []) before.none;
                place = place;
                within = within;
                false_here = λ f. (ap (λ (x : Entry). x.lit) (get_or_default t.entries place f d within) ∙ sym (negated-negated e.lit), ap (λ (x : Entry). x.level) (get_or_default t.entries place f d within) ∙ at);
                lower = omega (arith, before.zero_level);
                others = All-nil (λ other. is_known (up_to level t.entries) (negated other) ≡ true);
                greatest = inl before.zero_level;
              };
            })
      ];
    } in (omega arith, kept_new)

any_left : {X : Type 0} (P : X → Type 0) (xs ys : List X) → Any P xs → Any P (xs ++ ys)
any_left P xs ys any = (any.0, any.1, omega (arith, any.2, length-append xs ys), get_or_append_left xs ys any.1 any.0 any.2 ∙ any.3, any.4)

-- a marked literal of a lower level is kept
pub work_keep_low : (live : List NumberedClause) (t : TrailParts) (place : ℕ) (marks : List Bool) (open_count level : ℕ) (cut : List Lit) (hints : List ClauseId) (d : Entry) → IsTrail t → place < length t.entries → (get_or t.entries place d).level < t.present → IsWorking live t (place + 1) marks open_count level cut hints → IsWorking live t place marks open_count (max level (get_or t.entries place d).level) (cut ++ negated (get_or t.entries place d).lit ∷ []) hints
work_keep_low live t place marks open_count level cut hints d laws within low work =
    let e : Entry = get_or t.entries place d in
    let same : pending t.entries marks t.present (place + 1) ≡ pending t.entries marks t.present place = pending-no t.entries marks t.present place d within (elsewhere_pending marks t.present e (λ is. omega (arith, low, is))) in
    let none : pending t.entries marks t.present place ≡ 0 = nothing_below t marks place d laws within low in
    record {
      long = work.long;
      leads = leads_keep live t.entries place marks cut (reverse hints) d within work.leads;
      from = cut_from t.entries place cut d within work.from;
      clause = cut_clause t place cut d laws within work.from work.clause;
      counted = work.counted ∙ same;
      phase = elim work.phase [
        | inl before ↦ absurd (omega (arith, before.more (omega (arith, low)), work.counted, same, none))
        | inr behind ↦
            let head = behind.head in
            let true_new : (n : ℕ) → e.level ≤ n → is_known (up_to n t.entries) (negated (negated e.lit)) ≡ true = λ n le. ap (is_known (up_to n t.entries)) (negated-negated e.lit) ∙ up_to-at n t.entries place d within le in
            inr (record {
              above_zero = behind.above_zero;
              no_more = behind.no_more;
              head = record {
                lit = head.lit;
                rest = head.rest ++ negated e.lit ∷ [];
                is = ap (λ c. c ++ negated e.lit ∷ []) head.is;
                place = head.place;
                within = head.within;
                false_here = head.false_here;
                lower = omega (arith, head.lower, low);
                others = All-push (λ other. is_known (up_to (max level e.level) t.entries) (negated other) ≡ true) head.rest (negated e.lit)
                    (λ k f inside. up_to-more level (max level e.level) t.entries (negated (get_or head.rest k f)) (omega arith) (head.others k f inside))
                    (true_new (max level e.level) (omega arith));
                greatest = elim (cases_lt level (e.level + 1)) [
                  | inl under ↦
                      let is_level : e.level ≡ max level e.level = omega arith in
                      inr (Any-push (λ other. Any (λ x. (x.lit ≡ negated other) × (x.level ≡ max level e.level)) t.entries) head.rest (negated e.lit)
                      (place, e, within, get_or_default t.entries place e d within, (sym (negated-negated e.lit), is_level)))
                  | inr over ↦
                      let is_level : max level e.level ≡ level = omega arith in
                      elim head.greatest [
                        | inl zero_level ↦ absurd (omega arith)
                        | inr some ↦ inr (any_left (λ other. Any (λ x. (x.lit ≡ negated other) × (x.level ≡ max level e.level)) t.entries) head.rest (negated e.lit ∷ [])
                            (subst (λ n. Any (λ other. Any (λ x. (x.lit ≡ negated other) × (x.level ≡ n)) t.entries) head.rest) (sym is_level) some))
                      ]
                ];
              };
            })
      ];
    }

-- what marking the literals of a reason gives
reason_marked : (t : TrailParts) (place : ℕ) (marks marks' : List Bool) (lits : List Lit) (found : ℕ) (d : Entry) → place < length t.entries → MarksOf t marks marks' lits found → All (λ other. other ≢ (get_or t.entries place d).lit → is_known (known_of (take place t.entries)) (negated other) ≡ true) lits → AreMarkedBelow t.entries place marks' (get_or t.entries place d).lit lits
reason_marked t place marks marks' lits found d within marked others k e inside apart =
    let at = front_has t.entries place (negated (get_or lits k e)) (others k e inside apart) in
    (at.0, at.1, λ f. ap (λ l. get_or marks' (l.var.0 - 1) false) (at.3 f) ∙ marked.done k e inside, at.3)

pub lit_cases : (one other : Lit) → (one ≡ other) ⊎ (one ≢ other)
lit_cases one other = elim (cases_Bool (is_same one other)) [
  | inl same ↦ inl (is_same-true one other same)
  | inr apart ↦ inr (λ same. true_is_not_false (sym (ap (λ l. is_same one l) (sym same) ∙ is_same-refl one) ∙ apart))
]

-- a marked literal is resolved with its reason
pub work_resolve : (live : List NumberedClause) (t : TrailParts) (place : ℕ) (marks marks' : List Bool) (open_count level : ℕ) (cut : List Lit) (hints : List ClauseId) (d : Entry) (id : ClauseId) (lits : List Lit) (found less : ℕ) → IsTrail t → All (λ c. IsClause t.vars c.lits) live → AreReasons live t.entries → place < length t.entries → get_or marks (index_of (get_or t.entries place d)) false ≡ true → IsResolved t.present open_count id (get_or t.entries place d) → clause_of live id ≡ Some lits → IsClause t.vars lits → MarksOf t marks marks' lits found → less ≡ cond (nat_eq (get_or t.entries place d).level t.present) 1 0 → IsWorking live t (place + 1) marks open_count level cut hints → (less ≤ open_count) × IsWorking live t place marks' (open_count - less + found) level cut (hints ++ id ∷ [])
work_resolve live t place marks marks' open_count level cut hints d id lits found less laws over reasons within marked resolved stands clause marks_of less_is work =
    let e : Entry = get_or t.entries place d in
    let fits : IsReason live (known_of (take place t.entries)) e.lit id = subst (ReasonFits live (known_of (take place t.entries)) e.lit) resolved.0 (reasons place d within) in
    let same_lits : fits.lits ≡ lits = some_same (sym fits.stands ∙ stands) in
    let others : All (λ other. other ≢ e.lit → is_known (known_of (take place t.entries)) (negated other) ≡ true) lits = subst (All (λ other. other ≢ e.lit → is_known (known_of (take place t.entries)) (negated other) ≡ true)) same_lits fits.others_false in
    let holds : Contains lits e.lit = subst (λ ls. Contains ls e.lit) same_lits fits.holds in
    let back : reverse (hints ++ id ∷ []) ≡ id ∷ reverse hints = reverse-append hints (id ∷ []) in
    let grown : pending t.entries marks' t.present place ≡ pending t.entries marks t.present place + found = marks_of.counted place (λ k f inside. elim (lit_cases (get_or lits k f) e.lit) [
      | inl is ↦ inl (ap (λ l. get_or marks (l.var.0 - 1) false) is ∙ marked)
      | inr apart ↦ let at = front_has t.entries place (negated (get_or lits k f)) (others k f inside apart) in inr (at.0, at.1, at.2, λ g. ap (λ l. l.var.0) (at.3 g))
    ]) in
    let counted : open_count ≡ pending t.entries marks t.present place + less = elim (cases_eq e.level t.present) [
      | inl at ↦ let one : less ≡ 1 = less_is ∙ ap (λ b. cond b 1 0) (eq-eqb e.level t.present at) in
          omega (arith, work.counted, pending-yes t.entries marks t.present place d within (here_pending marks t.present e marked at), one)
      | inr apart ↦ let none : less ≡ 0 = less_is ∙ ap (λ b. cond b 1 0) (apart-eqb e.level t.present apart) in
          omega (arith, work.counted, pending-no t.entries marks t.present place d within (elsewhere_pending marks t.present e apart), none)
    ] in
    let new : IsWorking live t place marks' (open_count - less + found) level cut (hints ++ id ∷ []) = record {
      long = marks_of.long ∙ work.long;
      leads = subst (LeadsOn live t.entries place marks' cut) (sym back) (leads_resolve t.vars live t.entries place marks marks' cut (reverse hints) d id lits laws.no_variable_twice within work.from
          (λ k below m f. marks_of.kept (index_of (get_or t.entries k f)) (m f)) stands holds clause.no_variable_twice
          (reason_marked t place marks marks' lits found d within marks_of others) work.leads);
      from = from_lower t.entries place cut work.from;
      clause = work.clause;
      counted = omega arith;
      phase = elim work.phase [
        | inl before ↦ inl (record {
          none = before.none;
          zero_level = before.zero_level;
          more = λ above. elim (cases_eq e.level t.present) [
            | inl at ↦ let one : less ≡ 1 = less_is ∙ ap (λ b. cond b 1 0) (eq-eqb e.level t.present at) in omega (arith, resolved.1 above at)
            | inr apart ↦ let none : less ≡ 0 = less_is ∙ ap (λ b. cond b 1 0) (apart-eqb e.level t.present apart) in omega (arith, before.more above)
          ];
        })
        | inr behind ↦
            let apart : e.level ≢ t.present = λ at. omega (arith, work.counted, behind.no_more, pending-yes t.entries marks t.present place d within (here_pending marks t.present e marked at)) in
            let low : e.level < t.present = omega (arith, laws.up_to_now place d within) in
            let none : pending t.entries marks' t.present place ≡ 0 = nothing_below t marks' place d laws within low in
            inr (record {
              above_zero = behind.above_zero;
              no_more = omega (arith, behind.no_more);
              head = behind.head;
            })
      ];
    } in (omega arith, new)

-- the start, when the literals of the conflict are marked
pub work_start : (live : List NumberedClause) (t : TrailParts) (marks marks' : List Bool) (id : ClauseId) (lits : List Lit) (found : ℕ) → IsTrail t → length marks ≡ t.vars → ((n : ℕ) → get_or marks n false ≡ false) → IsConflict live t id → clause_of live id ≡ Some lits → MarksOf t marks marks' lits found → IsWorking live t (length t.entries) marks' found 0 [] (id ∷ [])
work_start live t marks marks' id lits found laws long unmarked conflict stands marks_of =
    let same_lits : conflict.lits ≡ lits = some_same (sym conflict.stands ∙ stands) in
    let all_false : All (λ lit. is_known (known_of t.entries) (negated lit) ≡ true) lits = subst (All (λ lit. is_known (known_of t.entries) (negated lit) ≡ true)) same_lits conflict.all_false in
    let at : (k : ℕ) (f : Lit) → k < length lits → (j : ℕ) × (j < length t.entries) × ((d : Entry) → (get_or t.entries j d).lit ≡ negated (get_or lits k f)) = λ k f inside.
    let place = place_of_known (known_of t.entries) (negated (get_or lits k f)) (all_false k f inside) in
    let within : place.0 < length t.entries = omega (arith, place.1, length-map t.entries (λ (x : Entry). x.lit)) in
    (place.0, within, λ d. sym (get_or-map (λ (x : Entry). x.lit) t.entries place.0 d (get_or lits k f) within) ∙ place.2 (get_or lits k f)) in
    let grown : pending t.entries marks' t.present (length t.entries) ≡ pending t.entries marks t.present (length t.entries) + found = marks_of.counted (length t.entries) (λ k f inside. let j = at k f inside in inr (j.0, j.1, j.1, λ d. ap (λ l. l.var.0) (j.2 d))) in
    let none : pending t.entries marks t.present (length t.entries) ≡ 0 = elim (cases_eq (pending t.entries marks t.present (length t.entries)) 0) [
      | inl fine ↦ fine
      | inr some ↦ let one = pending-find t.entries marks t.present (length t.entries) (omega arith) in
          let d : Entry = record { lit = record { var = record { 0 = 0 }; positive = true }; reason = None; level = 0 } in
          absurd (true_is_not_false (sym (one.3 d).0 ∙ unmarked (index_of (get_or t.entries one.0 d))))
    ] in
    record {
      long = marks_of.long ∙ long;
      leads = leads_start live t.entries marks' id lits stands (λ k f inside. let j = at k f inside in (j.0, j.1, λ d. ap (λ l. get_or marks' (l.var.0 - 1) false) (j.2 d) ∙ marks_of.done k f inside, j.2));
      from = All-nil (λ lit. (k : ℕ) × (length t.entries ≤ k) × (k < length t.entries) × ((d : Entry) → (get_or t.entries k d).lit ≡ negated lit));
      clause = record { in_range = All-nil (IsOver t.vars); no_variable_twice = λ i j d low high. absurd (omega arith) };
      counted = omega arith;
      phase = inl (record {
        none = refl;
        zero_level = refl;
        more = λ above.
            let some = conflict.at_present above in
            let entry = some.4 in
            let inside : some.0 < length lits = omega (arith, some.2, ap length same_lits) in
            let is_lit : get_or lits some.0 some.1 ≡ some.1 = ap (λ ls. get_or ls some.0 some.1) (sym same_lits) ∙ some.3 in
            let marked : get_or marks' (index_of (get_or t.entries entry.0 entry.1)) false ≡ true =
            ap (λ (x : Entry). get_or marks' (index_of x) false) entry.3 ∙ (ap (λ l. get_or marks' (l.var.0 - 1) false) (entry.4.0 ∙ ap negated (sym is_lit)) ∙ marks_of.done some.0 some.1 inside) in
            omega (
              arith,
              pending-positive t.entries marks' t.present (length t.entries) entry.0 entry.1 entry.2 entry.2
                  (here_pending marks' t.present (get_or t.entries entry.0 entry.1) marked (ap (λ (x : Entry). x.level) entry.3 ∙ entry.4.1)),
            );
      });
    }

-- the end
pub work_end : (live : List NumberedClause) (t : TrailParts) (marks : List Bool) (open_count level : ℕ) (cut : List Lit) (hints : List ClauseId) → IsWorking live t 0 marks open_count level cut hints → IsLearnedFrom live t cut (reverse hints) level
work_end live t marks open_count level cut hints work = record {
  clause = work.clause;
  accepted = leads_finish live t.entries marks cut (reverse hints) work.leads;
  at_zero = λ zero_level. elim work.phase [
    | inl before ↦ before.none
    | inr behind ↦ absurd (omega (arith, behind.above_zero))
  ];
  stays_at_zero = λ zero_level. elim work.phase [
    | inl before ↦ before.zero_level
    | inr behind ↦ absurd (omega (arith, behind.above_zero))
  ];
  asserting = λ above. elim work.phase [
    | inl before ↦ absurd (omega (arith, before.more above, work.counted))
    | inr behind ↦ behind.head
  ];
}

pub bool_byte_is : (b : Bool) → bool_byte b ≡ cond b 1 0
bool_byte_is true = refl
bool_byte_is false = refl
