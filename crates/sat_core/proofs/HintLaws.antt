-- Laws of what hints tell: by the known literals as a set, by a clause's literals as a set, and under other numbers.
use Rattle.std.proofs.Common.{◌≡◌, ◌≢◌, ℕ, Bool, true, false, cond, not, ◌&&◌, ◌||◌, ◌⊎◌, inl, inr, List, [], ◌∷◌, ◌++◌, map, refl, sym, ap, subst, ◌∙◌, arith}
use Rattle.std.specs.Prelude.{All, Option, Some, None, filter, IsSome, ⊤}
use Rattle.std.proofs.lemmas.List.Kept.{AllPairs-filter}
use Rattle.std.proofs.lemmas.List.Elements.{All-nil, All-cons, All-head, All-tail}
use Rattle.std.proofs.Math.Bool.{or-false}
use Rattle.sat_core.specs.declared.literal.Lit.{Lit}
use Rattle.sat_core.specs.declared.literal.ClauseId.{ClauseId}
use Rattle.sat_core.specs.declared.step_fault.StepFault.{StepFault}
use Rattle.sat_core.specs.declared.step_fault.StepFault.TheVariants.{IdOrder, UnknownVariable, Twofold, UnknownClause, HintNotUnit, NoConflict, HintsAfterConflict, Memory}
use Rattle.sat_core.specs.Clauses.{negated, HasNoVariableTwice}
use Rattle.sat_core.specs.Hints.{NumberedClause, clause_of, is_same, is_known, not_false, HintOutcome, conflict, unit, fault, outcome_by, outcome_of, fault_after, hints_fault}
use Rattle.sat_core.proofs.LiteralLaws.{is_same-true, is_same-refl, is_known-push}
use Rattle.sat_core.proofs.LiveLaws.{Carries, renamed}

-- both lists have the same literals
abbrev pub SameLits : List Lit → List Lit → Type 0
SameLits one other = (lit : Lit) → is_known one lit ≡ is_known other lit

pub SameLits-push : (one other : List Lit) (added : Lit) → SameLits one other → SameLits (one ++ added ∷ []) (other ++ added ∷ [])
SameLits-push one other added same = λ lit. is_known-push one added lit ∙ (ap (λ b. b || is_same lit added) (same lit) ∙ sym (is_known-push other added lit))

not_false-known : (known known' lits : List Lit) → SameLits known known' → not_false known lits ≡ not_false known' lits
not_false-known known known' [] same = refl
not_false-known known known' (lit ∷ lits) same =
    ap (λ b. cond (not b) (lit ∷ not_false known lits) (not_false known lits)) (same (negated lit))
    ∙ ap (λ (ls : List Lit). cond (not (is_known known' (negated lit))) (lit ∷ ls) ls) (not_false-known known known' lits same)

outcome_by-known : (known known' rest : List Lit) → SameLits known known' → outcome_by known rest ≡ outcome_by known' rest
outcome_by-known known known' [] same = refl
outcome_by-known known known' (lit ∷ []) same = ap (λ b. cond b (fault HintNotUnit) (unit lit)) (same lit)
outcome_by-known known known' (lit ∷ other ∷ rest) same = refl

outcome_of-known : (known known' : List Lit) (found : Option (List Lit)) → SameLits known known' → outcome_of known found ≡ outcome_of known' found
outcome_of-known known known' None same = refl
outcome_of-known known known' (Some lits) same = ap (outcome_by known) (not_false-known known known' lits same) ∙ outcome_by-known known known' (not_false known' lits) same

-- the same outcome, and the same faults behind each unit
fault_after-same : (o o' : HintOutcome) (hints : List ClauseId) (others others' : Lit → Option StepFault) → o ≡ o' → ((lit : Lit) → others lit ≡ others' lit) → fault_after o hints others ≡ fault_after o' hints others'
fault_after-same o o' hints others others' same later = ap (λ (w : HintOutcome). fault_after w hints others) same ∙ behind o' hints
  where
    behind : (w : HintOutcome) (hs : List ClauseId) → fault_after w hs others ≡ fault_after w hs others'
    behind conflict [] = refl
    behind conflict (hint ∷ hs) = refl
    behind (unit lit) hs = later lit
    behind (fault why) hs = refl

-- what hints tell depends on the known literals as a set alone
pub hints_fault-known : (live : List NumberedClause) (known known' : List Lit) (hints : List ClauseId) → SameLits known known' → hints_fault live known hints ≡ hints_fault live known' hints
hints_fault-known live known known' [] same = refl
hints_fault-known live known known' (hint ∷ hints) same =
    fault_after-same (outcome_of known (clause_of live hint)) (outcome_of known' (clause_of live hint)) hints (λ lit. hints_fault live (known ++ lit ∷ []) hints) (λ lit. hints_fault live (known' ++ lit ∷ []) hints)
    (outcome_of-known known known' (clause_of live hint) same)
    (λ lit. hints_fault-known live (known ++ lit ∷ []) (known' ++ lit ∷ []) hints (SameLits-push known known' lit same))

-- a clause's outcome depends on its literals as a set, where no variable stands twice: on their order never
and_false : (b : Bool) → (b && false) ≡ false
and_false true = refl
and_false false = refl

filter_here : (test : Lit → Bool) (first : Lit) (rest : List Lit) (lits : List Lit) (lit : Lit) → (is_known rest lit ≡ (is_known lits lit && test lit)) → is_same lit first ≡ true → is_known (cond (test first) (first ∷ rest) rest) lit ≡ test lit
filter_here test first rest lits lit later same =
    let is : lit ≡ first = is_same-true lit first same in
    elim (test first) as (λ b. test first ≡ b → is_known (cond b (first ∷ rest) rest) lit ≡ test lit) [
      | true ↦ λ passes. ap (λ b. b || is_known rest lit) same ∙ sym (ap test is ∙ passes)
      | false ↦ λ fails. later ∙ (ap (λ b. is_known lits lit && b) (ap test is ∙ fails) ∙ (and_false (is_known lits lit) ∙ sym (ap test is ∙ fails)))
    ] refl

filter_there : (test : Lit → Bool) (first : Lit) (rest : List Lit) (known_is : Bool) (lit : Lit) → is_known rest lit ≡ known_is → is_same lit first ≡ false → is_known (cond (test first) (first ∷ rest) rest) lit ≡ known_is
filter_there test first rest known_is lit later differs = elim (test first) as (λ b. is_known (cond b (first ∷ rest) rest) lit ≡ known_is) [
  | true ↦ ap (λ b. b || is_known rest lit) differs ∙ later
  | false ↦ later
]

-- a literal stands among those that pass a test where it stands in the list and passes it
pub is_known-filter : (test : Lit → Bool) (lits : List Lit) (lit : Lit) → is_known (filter test lits) lit ≡ (is_known lits lit && test lit)
is_known-filter test [] lit = refl
is_known-filter test (first ∷ lits) lit =
    elim (is_same lit first) as (λ b. is_same lit first ≡ b → is_known (filter test (first ∷ lits)) lit ≡ ((b || is_known lits lit) && test lit)) [
      | true ↦ λ same. filter_here test first (filter test lits) lits lit (is_known-filter test lits lit) same
      | false ↦ λ differs. filter_there test first (filter test lits) (is_known lits lit && test lit) lit (is_known-filter test lits lit) differs
    ] refl

pub SameLits-filter : (test : Lit → Bool) (one other : List Lit) → SameLits one other → SameLits (filter test one) (filter test other)
SameLits-filter test one other same = λ lit. is_known-filter test one lit ∙ (ap (λ b. b && test lit) (same lit) ∙ sym (is_known-filter test other lit))

-- a literal that stands first stands in the list
first_known : (first : Lit) (rest : List Lit) → is_known (first ∷ rest) first ≡ true
first_known first rest = ap (λ b. b || is_known rest first) (is_same-refl first)

only_known : (only lit : Lit) → is_known (only ∷ []) lit ≡ true → lit ≡ only
only_known only lit known = is_same-true lit only (sym (or-false (is_same lit only)) ∙ known)

second_known : (first second : Lit) (rest : List Lit) → is_known (first ∷ second ∷ rest) second ≡ true
second_known first second rest = elim (is_same second first) as (λ b. (b || is_known (second ∷ rest) second) ≡ true) [ true ↦ refl | false ↦ first_known second rest ]

-- a list of one literal has not the same literals as one of two variables
not_two : (only first second : Lit) (rest : List Lit) → SameLits (only ∷ []) (first ∷ second ∷ rest) → HasNoVariableTwice (first ∷ second ∷ rest) → ⊥
not_two only first second rest same none =
    let one : first ≡ only = only_known only first (same first ∙ first_known first (second ∷ rest)) in
    let other : second ≡ only = only_known only second (same second ∙ second_known first second rest) in
    none 0 1 only (omega arith) (omega arith) (ap (λ (l : Lit). l.var.0) (one ∙ sym other))

false_is_not_true : false ≡ true → ⊥
false_is_not_true same = cc

pub outcome_by-set : (known one other : List Lit) → SameLits one other → HasNoVariableTwice one → HasNoVariableTwice other → outcome_by known one ≡ outcome_by known other
outcome_by-set known [] [] same none none' = refl
outcome_by-set known [] (l ∷ ls) same none none' = absurd (false_is_not_true (same l ∙ first_known l ls))
outcome_by-set known (k ∷ ks) [] same none none' = absurd (false_is_not_true (sym (same k) ∙ first_known k ks))
outcome_by-set known (k ∷ []) (l ∷ []) same none none' = ap (λ (lit : Lit). cond (is_known known lit) (fault HintNotUnit) (unit lit)) (only_known l k (sym (same k) ∙ first_known k []))
outcome_by-set known (k ∷ []) (l ∷ m ∷ ls) same none none' = absurd (not_two k l m ls same none')
outcome_by-set known (k ∷ l ∷ ks) (m ∷ []) same none none' = absurd (not_two m k l ks (λ lit. sym (same lit)) none)
outcome_by-set known (k ∷ l ∷ ks) (m ∷ n ∷ ms) same none none' = refl

-- the same clause, whatever the order of its literals; or none on both sides
abbrev pub SameClause : Option (List Lit) → Option (List Lit) → Type 0
SameClause None None = ⊤
SameClause None (Some other) = ⊥
SameClause (Some one) None = ⊥
SameClause (Some one) (Some other) = HasNoVariableTwice one × HasNoVariableTwice other × SameLits one other

outcome_of-set : (known : List Lit) (one other : Option (List Lit)) → SameClause one other → outcome_of known one ≡ outcome_of known other
outcome_of-set known None None same = refl
outcome_of-set known None (Some other) same = absurd same
outcome_of-set known (Some one) None same = absurd same
outcome_of-set known (Some one) (Some other) same =
    let test : Lit → Bool = λ lit. not (is_known known (negated lit)) in
    outcome_by-set known (not_false known one) (not_false known other) (SameLits-filter test one other same.2)
    (AllPairs-filter (λ first later. first.var.0 ≢ later.var.0) test one same.0)
    (AllPairs-filter (λ first later. first.var.0 ≢ later.var.0) test other same.1)

-- what hints tell is the same where the literals of live clauses are permuted
pub hints_fault-permuted : (live live' : List NumberedClause) (known : List Lit) (hints : List ClauseId) → ((id : ClauseId) → SameClause (clause_of live id) (clause_of live' id)) → hints_fault live known hints ≡ hints_fault live' known hints
hints_fault-permuted live live' known [] same = refl
hints_fault-permuted live live' known (hint ∷ hints) same =
    fault_after-same (outcome_of known (clause_of live hint)) (outcome_of known (clause_of live' hint)) hints (λ lit. hints_fault live (known ++ lit ∷ []) hints) (λ lit. hints_fault live' (known ++ lit ∷ []) hints)
    (outcome_of-set known (clause_of live hint) (clause_of live' hint) (same hint))
    (λ lit. hints_fault-permuted live live' (known ++ lit ∷ []) hints same)

-- each hint is the number of a live clause
abbrev pub AreLive : List NumberedClause → List ClauseId → Type 0
AreLive live hints = All (λ id. IsSome (clause_of live id)) hints

-- no fault at a hint: it was the last one, or the others have none where its unit is known
fine_after : (o : HintOutcome) (hints : List ClauseId) (others : Lit → Option StepFault) → fault_after o hints others ≡ None → (hints ≡ []) ⊎ ((lit : Lit) × (others lit ≡ None))
fine_after conflict [] others fine = inl refl
fine_after conflict (hint ∷ hints) others fine = absurd (cc)
fine_after (unit lit) hints others fine = inr (lit, fine)
fine_after (fault why) hints others fine = absurd (cc)

some_found : (found : Option (List Lit)) (known : List Lit) (hints : List ClauseId) (others : Lit → Option StepFault) → fault_after (outcome_of known found) hints others ≡ None → IsSome found
some_found None known hints others fine = absurd (cc)
some_found (Some lits) known hints others fine = refl

-- hints without a fault are all live
pub hints_live : (live : List NumberedClause) (known : List Lit) (hints : List ClauseId) → hints_fault live known hints ≡ None → AreLive live hints
hints_live live known [] fine = absurd (cc)
hints_live live known (hint ∷ hints) fine =
    All-cons (λ id. IsSome (clause_of live id)) hint hints (some_found (clause_of live hint) known hints (λ lit. hints_fault live (known ++ lit ∷ []) hints) fine)
    (elim (fine_after (outcome_of known (clause_of live hint)) hints (λ lit. hints_fault live (known ++ lit ∷ []) hints) fine) [
      | inl last ↦ subst (AreLive live) (sym last) (All-nil (λ id. IsSome (clause_of live id)))
      | inr later ↦ hints_live live (known ++ later.0 ∷ []) hints later.1
    ])

fault_after-renamed : (f : ℕ → ℕ) (o : HintOutcome) (hints : List ClauseId) (others others' : Lit → Option StepFault) → ((lit : Lit) → others' lit ≡ others lit) → fault_after o (map (renamed f) hints) others' ≡ fault_after o hints others
fault_after-renamed f conflict [] others others' later = refl
fault_after-renamed f conflict (hint ∷ hints) others others' later = refl
fault_after-renamed f (unit lit) hints others others' later = later lit
fault_after-renamed f (fault why) hints others others' later = refl

-- live hints tell the same under other numbers, whatever clauses are live beside those that are carried over
pub hints_fault-renamed : (f : ℕ → ℕ) (old new : List NumberedClause) (known : List Lit) (hints : List ClauseId) → Carries f old new → AreLive old hints → hints_fault new known (map (renamed f) hints) ≡ hints_fault old known hints
hints_fault-renamed f old new known [] carries all = refl
hints_fault-renamed f old new known (hint ∷ hints) carries all =
    let others : Lit → Option StepFault = λ lit. hints_fault old (known ++ lit ∷ []) hints in
    let others' : Lit → Option StepFault = λ lit. hints_fault new (known ++ lit ∷ []) (map (renamed f) hints) in
    let later : (lit : Lit) → others' lit ≡ others lit = λ lit. hints_fault-renamed f old new (known ++ lit ∷ []) hints carries (All-tail (λ id. IsSome (clause_of old id)) hint hints all) in
    elim (clause_of old hint) as (λ found. clause_of old hint ≡ found → IsSome found → fault_after (outcome_of known (clause_of new (renamed f hint))) (map (renamed f) hints) others' ≡ fault_after (outcome_of known found) hints others) [
      | None ↦ λ is never. absurd (false_is_not_true never)
      | Some lits ↦ λ is _. ap (λ (found : Option (List Lit)). fault_after (outcome_of known found) (map (renamed f) hints) others') (carries hint lits is) ∙ fault_after-renamed f (outcome_of known (Some lits)) hints others others' later
    ] refl (All-head (λ id. IsSome (clause_of old id)) hint hints all)

-- so hints that lead to a conflict do so there
pub hints_carried : (f : ℕ → ℕ) (old new : List NumberedClause) (known : List Lit) (hints : List ClauseId) → Carries f old new → hints_fault old known hints ≡ None → hints_fault new known (map (renamed f) hints) ≡ None
hints_carried f old new known hints carries fine = hints_fault-renamed f old new known hints carries (hints_live old known hints fine) ∙ fine

-- a fault that hints can't have
abbrev pub is_early : StepFault → Bool
is_early IdOrder = true
is_early UnknownVariable = true
is_early Twofold = true
is_early Memory = true
is_early other = false

late_of : (why other : StepFault) → is_early why ≡ false → Some why ≡ Some other → is_early other ≡ false
late_of why other late same = let is : why ≡ other = cc in subst (λ (fault : StepFault). is_early fault ≡ false) is late

late_by : (known rest : List Lit) (hints : List ClauseId) (others : Lit → Option StepFault) (why : StepFault) → ((lit : Lit) → others lit ≡ Some why → is_early why ≡ false) → fault_after (outcome_by known rest) hints others ≡ Some why → is_early why ≡ false
late_by known [] [] others why later is = absurd (cc)
late_by known [] (hint ∷ hints) others why later is = late_of HintsAfterConflict why refl is
late_by known (lit ∷ []) hints others why later is = elim (is_known known lit) as (λ b. fault_after (cond b (fault HintNotUnit) (unit lit)) hints others ≡ Some why → is_early why ≡ false) [
  | true ↦ λ is. late_of HintNotUnit why refl is
  | false ↦ λ is. later lit is
] is
late_by known (lit ∷ other ∷ rest) hints others why later is = late_of HintNotUnit why refl is

late_at : (known : List Lit) (found : Option (List Lit)) (hints : List ClauseId) (others : Lit → Option StepFault) (why : StepFault) → ((lit : Lit) → others lit ≡ Some why → is_early why ≡ false) → fault_after (outcome_of known found) hints others ≡ Some why → is_early why ≡ false
late_at known None hints others why later is = late_of UnknownClause why refl is
late_at known (Some lits) hints others why later is = late_by known (not_false known lits) hints others why later is

pub hints_fault-late : (live : List NumberedClause) (known : List Lit) (hints : List ClauseId) (why : StepFault) → hints_fault live known hints ≡ Some why → is_early why ≡ false
hints_fault-late live known [] why is = late_of NoConflict why refl is
hints_fault-late live known (hint ∷ hints) why is = late_at known (clause_of live hint) hints (λ lit. hints_fault live (known ++ lit ∷ []) hints) why (λ lit. hints_fault-late live (known ++ lit ∷ []) hints why) is
