-- How many marked entries of the present level are left below a place.
use Rattle.std.proofs.Common.{◌≡◌, ◌≢◌, ℕ, zero, suc, ◌+◌, ◌-◌, ◌<◌, Bool, true, false, cond, ◌&&◌, inl, inr, List, [], ◌∷◌, length, take, get_or, set, refl, ap, sym, ◌∙◌, arith}
use Rattle.std.specs.Prelude.{All, AllPairs, count_by, nat_eq}
use Rattle.std.proofs.lemmas.Bool.{cases_eq, cases_Bool, eq-eqb, eqb-true, and_parts}
use Rattle.std.proofs.lemmas.List.{get_or-take, length-take, get_or-set_same, get_or-set_other}
use Rattle.std.proofs.lemmas.List.Sums.{count_by_more_yes, count_by_more_no, sum_by-cons}
use Rattle.search_trail.specs.declared.entry.Entry.{Entry}
use Rattle.conflict_learn.specs.Working.{is_pending, pending}

abbrev weight : Bool → ℕ
weight b = cond b 1 0

abbrev pub index_of : Entry → ℕ
index_of e = e.lit.var.0 - 1

-- one place more
pub pending-yes : (entries : List Entry) (marks : List Bool) (level place : ℕ) (d : Entry) → place < length entries → is_pending marks level (get_or entries place d) ≡ true → pending entries marks level (place + 1) ≡ pending entries marks level place + 1
pending-yes entries marks level place d within hit = count_by_more_yes (is_pending marks level) entries place d within hit

pub pending-no : (entries : List Entry) (marks : List Bool) (level place : ℕ) (d : Entry) → place < length entries → is_pending marks level (get_or entries place d) ≡ false → pending entries marks level (place + 1) ≡ pending entries marks level place
pending-no entries marks level place d within miss = count_by_more_no (is_pending marks level) entries place d within miss

count-positive : (p : Entry → Bool) (entries : List Entry) (k : ℕ) (d : Entry) → k < length entries → p (get_or entries k d) ≡ true → 0 < count_by p entries
count-positive p [] k d within hit = absurd (omega arith)
count-positive p (e ∷ entries) zero d within hit = let whole = sum_by-cons (λ x. cond (p x) 1 0) e entries in let one : weight (p e) ≡ 1 = ap (λ b. cond b 1 0) hit in omega (arith, whole, one)
count-positive p (e ∷ entries) (suc k) d within hit = let whole = sum_by-cons (λ x. cond (p x) 1 0) e entries in let rest : 0 < count_by p entries = count-positive p entries k d (omega arith) hit in omega (arith, whole, rest)

count-find : (p : Entry → Bool) (entries : List Entry) → 0 < count_by p entries → (k : ℕ) × (k < length entries) × ((d : Entry) → p (get_or entries k d) ≡ true)
count-find p [] some = absurd (omega arith)
count-find p (e ∷ entries) some = elim (cases_Bool (p e)) [
  | inl hit ↦ (zero, omega arith, λ d. hit)
  | inr miss ↦
      let whole = sum_by-cons (λ x. cond (p x) 1 0) e entries in
      let none : weight (p e) ≡ 0 = ap (λ b. cond b 1 0) miss in
      let rest = count-find p entries (omega (arith, whole, none, some)) in
      (suc rest.0, omega (arith, rest.1), rest.2)
]

-- a marked entry of the level below the place is counted
pub pending-positive : (entries : List Entry) (marks : List Bool) (level place k : ℕ) (d : Entry) → k < place → k < length entries → is_pending marks level (get_or entries k d) ≡ true → 0 < pending entries marks level place
pending-positive entries marks level place k d below within hit =
    count-positive (is_pending marks level) (take place entries) k d (omega (arith, length-take place entries)) (ap (is_pending marks level) (get_or-take place entries k d below) ∙ hit)

-- and if some are counted, there is one
pub pending-find : (entries : List Entry) (marks : List Bool) (level place : ℕ) → 0 < pending entries marks level place → (k : ℕ) × (k < place) × (k < length entries) × ((d : Entry) → (get_or marks (index_of (get_or entries k d)) false ≡ true) × ((get_or entries k d).level ≡ level))
pending-find entries marks level place some =
    let at = count-find (is_pending marks level) (take place entries) some in
    let below : at.0 < place = omega (arith, at.1, length-take place entries) in (
      at.0,
      below,
      omega (arith, at.1, length-take place entries),
      λ d.
          let parts = and_parts (get_or marks (index_of (get_or entries at.0 d)) false) (nat_eq (get_or entries at.0 d).level level) (ap (is_pending marks level) (sym (get_or-take place entries at.0 d below)) ∙ at.2 d) in
          (parts.0, eqb-true (get_or entries at.0 d).level level parts.1),
    )

-- ---- one mark more
pub apart-eqb : (a b : ℕ) → a ≢ b → nat_eq a b ≡ false
apart-eqb a b apart = elim (cases_Bool (nat_eq a b)) [ inl same ↦ absurd (apart (eqb-true a b same)) | inr fine ↦ fine ]

and-false : (b : Bool) → (b && false) ≡ false
and-false true = refl
and-false false = refl

-- no two entries have one index
abbrev pub DistinctIndex : List Entry → Type 0
DistinctIndex entries = AllPairs (λ one later. index_of one ≢ index_of later) entries

count-mark_other : (marks : List Bool) (n level : ℕ) (entries : List Entry) → All (λ e. index_of e ≡ n → e.level ≢ level) entries → count_by (is_pending (set marks n true) level) entries ≡ count_by (is_pending marks level) entries
count-mark_other marks n level [] apart = refl
count-mark_other marks n level (e ∷ entries) apart =
    let whole = sum_by-cons (λ x. cond (is_pending marks level x) 1 0) e entries in
    let whole' = sum_by-cons (λ x. cond (is_pending (set marks n true) level x) 1 0) e entries in
    let rest : count_by (is_pending (set marks n true) level) entries ≡ count_by (is_pending marks level) entries = count-mark_other marks n level entries (λ k d within. apart (suc k) d (omega arith)) in
    let same : is_pending (set marks n true) level e ≡ is_pending marks level e = elim (cases_eq (index_of e) n) [
      | inl here ↦
          let other : nat_eq e.level level ≡ false = apart-eqb e.level level (apart 0 e (omega arith) here) in
          ap (λ b. get_or (set marks n true) (index_of e) false && b) other ∙ (and-false (get_or (set marks n true) (index_of e) false) ∙ sym (ap (λ b. get_or marks (index_of e) false && b) other ∙ and-false (get_or marks (index_of e) false)))
      | inr elsewhere ↦ ap (λ b. b && nat_eq e.level level) (get_or-set_other marks n (index_of e) true false elsewhere)
    ] in
    let one : weight (is_pending (set marks n true) level e) ≡ weight (is_pending marks level e) = ap (λ b. cond b 1 0) same in
    omega (arith, whole, whole', rest, one)

count-mark_here : (marks : List Bool) (n level : ℕ) (entries : List Entry) (k : ℕ) (d : Entry) → n < length marks → DistinctIndex entries → k < length entries → index_of (get_or entries k d) ≡ n → (get_or entries k d).level ≡ level → get_or marks n false ≡ false → count_by (is_pending (set marks n true) level) entries ≡ count_by (is_pending marks level) entries + 1
count-mark_here marks n level [] k d inside distinct within here at unmarked = absurd (omega arith)
count-mark_here marks n level (e ∷ entries) zero d inside distinct within here at unmarked =
    let whole = sum_by-cons (λ x. cond (is_pending marks level x) 1 0) e entries in
    let whole' = sum_by-cons (λ x. cond (is_pending (set marks n true) level x) 1 0) e entries in
    let rest : count_by (is_pending (set marks n true) level) entries ≡ count_by (is_pending marks level) entries = count-mark_other marks n level entries (λ j f below same. absurd (distinct 0 (suc j) f (omega arith) (omega arith) (here ∙ sym same))) in
    let now : is_pending (set marks n true) level e ≡ true = ap (λ i. get_or (set marks n true) i false && nat_eq e.level level) here ∙ (ap (λ b. b && nat_eq e.level level) (get_or-set_same marks n true false inside) ∙ eq-eqb e.level level at) in
    let then : is_pending marks level e ≡ false = ap (λ i. get_or marks i false && nat_eq e.level level) here ∙ ap (λ b. b && nat_eq e.level level) unmarked in
    let one : weight (is_pending (set marks n true) level e) ≡ 1 = ap (λ b. cond b 1 0) now in
    let none : weight (is_pending marks level e) ≡ 0 = ap (λ b. cond b 1 0) then in
    omega (arith, whole, whole', rest, one, none)
count-mark_here marks n level (e ∷ entries) (suc k) d inside distinct within here at unmarked =
    let whole = sum_by-cons (λ x. cond (is_pending marks level x) 1 0) e entries in
    let whole' = sum_by-cons (λ x. cond (is_pending (set marks n true) level x) 1 0) e entries in
    let rest : count_by (is_pending (set marks n true) level) entries ≡ count_by (is_pending marks level) entries + 1 = count-mark_here marks n level entries k d inside (λ i j f low high. distinct (suc i) (suc j) f (omega arith) (omega arith)) (omega arith) here at unmarked in
    let elsewhere : index_of e ≢ n = λ same. distinct 0 (suc k) d (omega arith) within (same ∙ sym here) in
    let same : weight (is_pending (set marks n true) level e) ≡ weight (is_pending marks level e) = ap (λ b. cond (b && nat_eq e.level level) 1 0) (get_or-set_other marks n (index_of e) true false elsewhere) in
    omega (arith, whole, whole', rest, same)

take-distinct : (entries : List Entry) (n : ℕ) → DistinctIndex entries → DistinctIndex (take n entries)
take-distinct entries n distinct i j d low high =
    let long = length-take n entries in
    rw (get_or-take n entries i d (omega (arith, long)), get_or-take n entries j d (omega (arith, long))) (distinct i j d low (omega (arith, long)))

-- the mark of an entry of the level below the place
pub pending-mark_here : (entries : List Entry) (marks : List Bool) (n level place k : ℕ) (d : Entry) → n < length marks → DistinctIndex entries → k < place → k < length entries → index_of (get_or entries k d) ≡ n → (get_or entries k d).level ≡ level → get_or marks n false ≡ false → pending entries (set marks n true) level place ≡ pending entries marks level place + 1
pending-mark_here entries marks n level place k d inside distinct below within here at unmarked =
    let same : get_or (take place entries) k d ≡ get_or entries k d = get_or-take place entries k d below in
    count-mark_here marks n level (take place entries) k d inside (take-distinct entries place distinct) (omega (arith, length-take place entries)) (ap index_of same ∙ here) (ap (λ (e : Entry). e.level) same ∙ at) unmarked

-- the mark of an entry of another level
pub pending-mark_other : (entries : List Entry) (marks : List Bool) (n level place : ℕ) → All (λ e. index_of e ≡ n → e.level ≢ level) entries → pending entries (set marks n true) level place ≡ pending entries marks level place
pending-mark_other entries marks n level place apart = count-mark_other marks n level (take place entries) (λ k d within. rw (get_or-take place entries k d (omega (arith, within, length-take place entries))) (apart k d (omega (arith, within, length-take place entries))))
