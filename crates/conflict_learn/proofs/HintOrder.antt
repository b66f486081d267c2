-- The hints of a learned clause, in the order of the trail with the conflict last, lead to the conflict.
use Rattle.std.proofs.Common.{◌≡◌, ◌≢◌, ℕ, zero, suc, ◌+◌, ◌-◌, ◌<◌, Bool, true, false, cond, not, ◌||◌, ◌⊎◌, inl, inr, List, [], ◌∷◌, ◌++◌, length, map, take, get_or, refl, ap, sym, subst, ◌∙◌, arith}
use Rattle.std.specs.Prelude.{All, AllPairs, Contains, Option, Some, None, filter, min}
use Rattle.std.proofs.lemmas.Bool.{cases_eq, cases_lt, or_cases}
use Rattle.std.proofs.lemmas.List.{length_push, get_or_append_left, get_or-map, length-map, take_more, length-take, get_or_default, map_push, get_or-take}
use Rattle.std.proofs.lemmas.List.Elements.{All-push, All-head, All-tail}
use Rattle.std.proofs.lemmas.List.Folds.{list_any-append}
use Rattle.std.proofs.Math.Bool.{or-true}
use Rattle.sat_core.specs.declared.literal.Lit.{Lit}
use Rattle.sat_core.specs.declared.literal.ClauseId.{ClauseId}
use Rattle.sat_core.specs.declared.step_fault.StepFault.{StepFault}
use Rattle.sat_core.specs.Clauses.{negated, HasNoVariableTwice}
use Rattle.sat_core.specs.Hints.{NumberedClause, clause_of, is_same, is_known, not_false, unit, outcome_by, outcome_of, fault_after, hints_fault}
use Rattle.sat_core.proofs.LiteralLaws.{is_same-true, is_same-refl, is_known-push, negated-negated}
use Rattle.search_trail.specs.declared.entry.Entry.{Entry}
use Rattle.search_trail.specs.Trails.{known_of}
use Rattle.sat_core.proofs.OpenLaws.{is_known-at, place_of_known, unknown_variable}
use Rattle.conflict_learn.specs.Working.{IsMarked, Supports, LeadsOn, IsCutFrom, AreMarkedBelow}

abbrev Distinct : List Entry → Type 0
Distinct entries = AllPairs (λ one later. one.lit.var.0 ≢ later.lit.var.0) entries

-- what is known stays known
pub known_left : (known more : List Lit) (lit : Lit) → is_known known lit ≡ true → is_known (known ++ more) lit ≡ true
known_left known more lit found = list_any-append (is_same lit) known more ∙ ap (λ b. b || is_known more lit) found

pub known_new : (known : List Lit) (lit : Lit) → is_known (known ++ lit ∷ []) lit ≡ true
known_new known lit = is_known-push known lit lit ∙ (ap (λ b. is_known known lit || b) (is_same-refl lit) ∙ or-true (is_known known lit))

pub known_push_cases : (known : List Lit) (new lit : Lit) → is_known (known ++ new ∷ []) lit ≡ true → (is_known known lit ≡ true) ⊎ (lit ≡ new)
known_push_cases known new lit found = elim (or_cases (is_known known lit) (is_same lit new) (sym (is_known-push known new lit) ∙ found)) [
  | inl before ↦ inl before
  | inr same ↦ inr (is_same-true lit new same)
]

-- the front with one entry more
pub front_more : (entries : List Entry) (k : ℕ) (d : Entry) → k < length entries → known_of (take (k + 1) entries) ≡ known_of (take k entries) ++ (get_or entries k d).lit ∷ []
front_more entries k d within = ap known_of (take_more entries k d within) ∙ map_push (λ (e : Entry). e.lit) (take k entries) (get_or entries k d)

pub front_has : (entries : List Entry) (k : ℕ) (lit : Lit) → is_known (known_of (take k entries)) lit ≡ true → (j : ℕ) × (j < k) × (j < length entries) × ((d : Entry) → (get_or entries j d).lit ≡ lit)
front_has entries k lit found =
    let at = place_of_known (known_of (take k entries)) lit found in
    let long : length (take k entries) ≡ min k (length entries) = length-take k entries in
    let inside : at.0 < length (take k entries) = omega (arith, at.1, length-map (take k entries) (λ (e : Entry). e.lit)) in
    (at.0, omega arith, omega arith, λ d. ap (λ (e : Entry). e.lit) (sym (get_or-take k entries at.0 d (omega arith))) ∙ (sym (get_or-map (λ (e : Entry). e.lit) (take k entries) at.0 d lit inside) ∙ at.2 lit))

-- two entries of one variable stand at one place
pub one_place : (entries : List Entry) (j k : ℕ) (d : Entry) → Distinct entries → j < length entries → k < length entries → (get_or entries j d).lit.var.0 ≡ (get_or entries k d).lit.var.0 → j ≡ k
one_place entries j k d distinct one other same = elim (cases_eq j k) [
  | inl here ↦ here
  | inr apart ↦ elim (cases_lt j k) [
    | inl below ↦ absurd (distinct j k d below other same)
    | inr above ↦ absurd (distinct k j d (omega arith) one (sym same))
  ]
]

-- the only literal that passes
pub filter_none : (test : Lit → Bool) (lits : List Lit) → All (λ l. test l ≡ false) lits → filter test lits ≡ []
filter_none test [] all = refl
filter_none test (l ∷ lits) all = rw (All-head (λ l. test l ≡ false) l lits all) (filter_none test lits (All-tail (λ l. test l ≡ false) l lits all))

contains_head_or_tail : (first : Lit) (lits : List Lit) (lit : Lit) → Contains (first ∷ lits) lit → (first ≡ lit) ⊎ Contains lits lit
contains_head_or_tail first lits lit (zero, within, is) = inl is
contains_head_or_tail first lits lit (suc k, within, is) = inr (k, omega arith, is)

contains_test : (lits : List Lit) (lit other : Lit) → Contains lits lit → other ≡ lit → Contains lits other
contains_test lits lit other stands same = subst (Contains lits) (sym same) stands

pub filter_one : (test : Lit → Bool) (lits : List Lit) (lit : Lit) → Contains lits lit → HasNoVariableTwice lits → test lit ≡ true → All (λ other. other ≢ lit → test other ≡ false) lits → filter test lits ≡ lit ∷ []
filter_one test [] lit stands distinct passes fail = absurd (omega (arith, stands.1))
filter_one test (first ∷ lits) lit stands distinct passes fail =
    let tail_distinct : HasNoVariableTwice lits = λ i j d low high. distinct (suc i) (suc j) d (omega arith) (omega arith) in
    let tail_fail : All (λ other. other ≢ lit → test other ≡ false) lits = All-tail (λ other. other ≢ lit → test other ≡ false) first lits fail in
    elim (contains_head_or_tail first lits lit stands) [
      | inl here ↦
          let others : All (λ l. test l ≡ false) lits = λ k d within. tail_fail k d within (λ same. distinct 0 (suc k) d (omega arith) (omega arith) (ap (λ l. l.var.0) (here ∙ sym same))) in
          let head : test first ≡ true = ap test here ∙ passes in
          rw head (rw (filter_none test lits others) (ap (λ x. x ∷ []) here))
      | inr there ↦
          let apart : first ≢ lit = λ same. distinct 0 (suc there.0) lit (omega arith) (omega (arith, there.1)) (ap (λ l. l.var.0) (same ∙ sym there.2)) in
          rw (All-head (λ other. other ≢ lit → test other ≡ false) first lits fail apart) (filter_one test lits lit there tail_distinct passes tail_fail)
    ]

true_is_not_false : true ≡ false → ⊥
true_is_not_false same = cc

not_true : (b : Bool) → b ≡ true → not b ≡ false
not_true b is = ap not is

not_false_is : (b : Bool) → b ≡ false → not b ≡ true
not_false_is b is = ap not is

-- no known literal is of the variable at the place
pub none_of : (entries : List Entry) (place : ℕ) (marks : List Bool) (cut known : List Lit) (d : Entry) → Distinct entries → place < length entries → IsCutFrom entries (place + 1) cut → Supports entries place marks cut known → All (λ l. l.var.0 ≢ (get_or entries place d).lit.var.0) known
none_of entries place marks cut known d distinct within from supports k e inside same = elim (supports.allowed k e inside) [
  | inl below ↦
      let at = front_has entries place (get_or known k e) below in
      let is : at.0 ≡ place = one_place entries at.0 place d distinct at.2 within (ap (λ l. l.var.0) (at.3 d) ∙ same) in
      omega (arith, at.1, is)
  | inr kept ↦
      let at = place_of_known cut (negated (get_or known k e)) kept in
      let entry = from at.0 e at.1 in
      let is : entry.0 ≡ place = one_place entries entry.0 place d distinct entry.2 within (ap (λ l. l.var.0) (entry.3 d ∙ ap negated (at.2 e)) ∙ same) in
      omega (arith, entry.1, is)
]

-- a clause that is unit under the known literals
pub unit_outcome : (live : List NumberedClause) (known : List Lit) (id : ClauseId) (hints : List ClauseId) (lits : List Lit) (lit : Lit) → clause_of live id ≡ Some lits → not_false known lits ≡ lit ∷ [] → is_known known lit ≡ false → hints_fault live known (id ∷ hints) ≡ hints_fault live (known ++ lit ∷ []) hints
unit_outcome live known id hints lits lit stands one unknown =
    let others : Lit → Option StepFault = λ l. hints_fault live (known ++ l ∷ []) hints in
    let told : outcome_of known (clause_of live id) ≡ unit lit = ap (outcome_of known) stands ∙ (ap (outcome_by known) one ∙ ap (λ b. cond b (Rattle.sat_core.specs.Hints.fault Rattle.sat_core.specs.declared.step_fault.StepFault.TheVariants.HintNotUnit) (unit lit)) unknown) in
    ap (λ o. fault_after o hints others) told

pub conflict_outcome : (live : List NumberedClause) (known : List Lit) (id : ClauseId) (lits : List Lit) → clause_of live id ≡ Some lits → not_false known lits ≡ [] → hints_fault live known (id ∷ []) ≡ None
conflict_outcome live known id lits stands none =
    let others : Lit → Option StepFault = λ l. hints_fault live (known ++ l ∷ []) [] in
    ap (λ o. fault_after o [] others) (ap (outcome_of known) stands ∙ ap (outcome_by known) none)

-- the literals that support a step support the hints before it: the literal of the place is known besides
supports_more : (entries : List Entry) (place : ℕ) (marks marks' : List Bool) (cut known : List Lit) (d : Entry) → place < length entries → ((k : ℕ) → k < place → IsMarked entries marks k → IsMarked entries marks' k) → Supports entries place marks' cut known → Supports entries (place + 1) marks cut (known ++ (get_or entries place d).lit ∷ [])
supports_more entries place marks marks' cut known d within keeps supports =
    let lit : Lit = (get_or entries place d).lit in
    let front : known_of (take (place + 1) entries) ≡ known_of (take place entries) ++ lit ∷ [] = front_more entries place d within in
    record {
      allowed = All-push (λ l. (is_known (known_of (take (place + 1) entries)) l ≡ true) ⊎ (is_known cut (negated l) ≡ true)) known lit
          (λ k e inside. elim (supports.allowed k e inside) [
            | inl below ↦ inl (ap (λ f. is_known f (get_or known k e)) front ∙ known_left (known_of (take place entries)) (lit ∷ []) (get_or known k e) below)
            | inr kept ↦ inr kept
          ])
          (inl (ap (λ f. is_known f lit) front ∙ known_new (known_of (take place entries)) lit));
      cut_false = λ k e inside. known_left known (lit ∷ []) (negated (get_or cut k e)) (supports.cut_false k e inside);
      marked_true = λ k e below marked. elim (cases_eq k place) [
        | inl here ↦ ap (λ l. is_known (known ++ lit ∷ []) l) (ap (λ n. (get_or entries n e).lit) here ∙ ap (λ (x : Entry). x.lit) (get_or_default entries place e d within)) ∙ known_new known lit
        | inr apart ↦ known_left known (lit ∷ []) (get_or entries k e).lit (supports.marked_true k e (omega arith) (keeps k (omega arith) marked))
      ];
    }

-- A marked literal is resolved: its reason's hint goes to the front, and the other literals of the reason are marked.
pub leads_resolve : (vars : ℕ) (live : List NumberedClause) (entries : List Entry) (place : ℕ) (marks marks' : List Bool) (cut : List Lit) (hints : List ClauseId) (d : Entry) (id : ClauseId) (lits : List Lit) → Distinct entries → place < length entries → IsCutFrom entries (place + 1) cut → ((k : ℕ) → k < place → IsMarked entries marks k → IsMarked entries marks' k) → clause_of live id ≡ Some lits → Contains lits (get_or entries place d).lit → HasNoVariableTwice lits → AreMarkedBelow entries place marks' (get_or entries place d).lit lits → LeadsOn live entries (place + 1) marks cut hints → LeadsOn live entries place marks' cut (id ∷ hints)
leads_resolve vars live entries place marks marks' cut hints d id lits distinct within from keeps stands holds once below leads known supports =
    let lit : Lit = (get_or entries place d).lit in
    let apart : All (λ l. l.var.0 ≢ lit.var.0) known = none_of entries place marks' cut known d distinct within from supports in
    let one : not_false known lits ≡ lit ∷ [] = filter_one (λ l. not (is_known known (negated l))) lits lit holds once
    (not_false_is (is_known known (negated lit)) (unknown_variable known (negated lit) apart))
    (λ k e inside other. let at = below k e inside other in
    not_true (is_known known (negated (get_or lits k e))) (ap (is_known known) (sym (at.3 d)) ∙ supports.marked_true at.0 d at.1 at.2)) in
    unit_outcome live known id hints lits lit stands one (unknown_variable known lit apart)
    ∙ leads (known ++ lit ∷ []) (supports_more entries place marks marks' cut known d within keeps supports)

-- a marked literal is kept: its negation is one of the cut
pub leads_keep : (live : List NumberedClause) (entries : List Entry) (place : ℕ) (marks : List Bool) (cut : List Lit) (hints : List ClauseId) (d : Entry) → place < length entries → LeadsOn live entries (place + 1) marks cut hints → LeadsOn live entries place marks (cut ++ negated (get_or entries place d).lit ∷ []) hints
leads_keep live entries place marks cut hints d within leads known supports =
    let lit : Lit = (get_or entries place d).lit in
    let more : List Lit = cut ++ negated lit ∷ [] in
    let front : known_of (take (place + 1) entries) ≡ known_of (take place entries) ++ lit ∷ [] = front_more entries place d within in
    let in_front : is_known (known_of (take (place + 1) entries)) lit ≡ true = ap (λ f. is_known f lit) front ∙ known_new (known_of (take place entries)) lit in
    let long : length more ≡ length cut + 1 = length_push cut (negated lit) in
    leads known (record {
      allowed = λ k e inside. elim (supports.allowed k e inside) [
        | inl below ↦ inl (ap (λ f. is_known f (get_or known k e)) front ∙ known_left (known_of (take place entries)) (lit ∷ []) (get_or known k e) below)
        | inr kept ↦ elim (known_push_cases cut (negated lit) (negated (get_or known k e)) kept) [
          | inl before ↦ inr before
          | inr new ↦ inl (ap (is_known (known_of (take (place + 1) entries))) (sym (negated-negated (get_or known k e)) ∙ (ap negated new ∙ negated-negated lit)) ∙ in_front)
        ]
      ];
      cut_false = λ k e inside. subst (λ l. is_known known (negated l) ≡ true) (get_or_append_left cut (negated lit ∷ []) e k inside) (supports.cut_false k e (omega arith));
      marked_true = λ k e below marked. elim (cases_eq k place) [
        | inl here ↦
            let last : is_known known (negated (get_or more (length cut) lit)) ≡ true = supports.cut_false (length cut) lit (omega arith) in
            ap (is_known known) (ap (λ n. (get_or entries n e).lit) here ∙ (ap (λ (x : Entry). x.lit) (get_or_default entries place e d within) ∙ (sym (negated-negated lit) ∙ ap negated (sym (Rattle.std.proofs.lemmas.List.get_or_push cut (negated lit) lit (length cut) refl))))) ∙ last
        | inr apart ↦ supports.marked_true k e (omega arith) marked
      ];
    })

-- a place that isn't marked is passed
pub leads_pass : (live : List NumberedClause) (entries : List Entry) (place : ℕ) (marks : List Bool) (cut : List Lit) (hints : List ClauseId) (d : Entry) → place < length entries → get_or marks ((get_or entries place d).lit.var.0 - 1) false ≡ false → LeadsOn live entries (place + 1) marks cut hints → LeadsOn live entries place marks cut hints
leads_pass live entries place marks cut hints d within unmarked leads known supports =
    let lit : Lit = (get_or entries place d).lit in
    let front : known_of (take (place + 1) entries) ≡ known_of (take place entries) ++ lit ∷ [] = front_more entries place d within in
    leads known (record {
      allowed = λ k e inside. elim (supports.allowed k e inside) [
        | inl below ↦ inl (ap (λ f. is_known f (get_or known k e)) front ∙ known_left (known_of (take place entries)) (lit ∷ []) (get_or known k e) below)
        | inr kept ↦ inr kept
      ];
      cut_false = supports.cut_false;
      marked_true = λ k e below marked. elim (cases_eq k place) [
        | inl here ↦ absurd (true_is_not_false (sym (marked d) ∙ (ap (λ n. get_or marks ((get_or entries n d).lit.var.0 - 1) false) here ∙ unmarked)))
        | inr apart ↦ supports.marked_true k e (omega arith) marked
      ];
    })

-- at first: all literals of the conflict stand at marked places
pub leads_start : (live : List NumberedClause) (entries : List Entry) (marks : List Bool) (id : ClauseId) (lits : List Lit) → clause_of live id ≡ Some lits → All (λ other. (k : ℕ) × (k < length entries) × IsMarked entries marks k × ((d : Entry) → (get_or entries k d).lit ≡ negated other)) lits → LeadsOn live entries (length entries) marks [] (id ∷ [])
leads_start live entries marks id lits stands below known supports =
    conflict_outcome live known id lits stands (filter_none (λ l. not (is_known known (negated l))) lits
    (λ k e inside. let at = below k e inside in
    let d : Entry = record { lit = e; reason = None; level = 0 } in
    not_true (is_known known (negated (get_or lits k e))) (ap (is_known known) (sym (at.3 d)) ∙ supports.marked_true at.0 d at.1 at.2)))

-- at the end: the hints are those of the cut
pub leads_finish : (live : List NumberedClause) (entries : List Entry) (marks : List Bool) (cut : List Lit) (hints : List ClauseId) → LeadsOn live entries 0 marks cut hints → hints_fault live (map negated cut) hints ≡ None
leads_finish live entries marks cut hints leads = leads (map negated cut) (record {
  allowed = λ k e inside.
      let inside' : k < length cut = omega (arith, length-map cut negated) in
      let is : get_or (map negated cut) k e ≡ negated (get_or cut k e) = get_or-map negated cut k e e inside' in
      inr (ap (λ l. is_known cut (negated l)) is ∙ (ap (is_known cut) (negated-negated (get_or cut k e)) ∙ is_known-at cut k e inside'));
  cut_false = λ k e inside.
      let is : get_or (map negated cut) k e ≡ negated (get_or cut k e) = get_or-map negated cut k e e inside in
      ap (is_known (map negated cut)) (sym is) ∙ is_known-at (map negated cut) k e (omega (arith, length-map cut negated));
  marked_true = λ k e below marked. absurd (omega arith);
})
