-- From which place to which one marks stand, and what is marked beyond.
use Rattle.std.proofs.Common.{◌≡◌, ◌<◌, ◌≤◌, ◌+◌, ◌-◌, inl, inr, ℕ, zero, suc, map, Bool, true, false, List, [], ◌∷◌, ◌++◌, length, get_or, refl, sym, ap, ◌∙◌, arith}
use Rattle.std.specs.Prelude.{All, slice_set}
use Rattle.std.specs.List.{filter, range_with_len}
use Rattle.std.proofs.lemmas.Bool.{cases_Bool, cases_eq, cases_lt, false≢true}
use Rattle.std.proofs.lemmas.List.{get_or-set_other, length_push}
use Rattle.cell_net.specs.declared.ids.CandidateId.{CandidateId}
use Rattle.gap_clauses.specs.Searched.{is_marked_candidate}
use Rattle.gap_clauses.specs.Spans.{IsSpanOf, IsWidened}
use Rattle.gap_clauses.specs.Views.{candidate_of}
use Rattle.gap_clauses.specs.declared.marks.Span.{Span}
use Rattle.gap_clauses.proofs.GapLaws.{past_end}
use Rattle.gap_clauses.proofs.MarkLemmas.{marked_less, marked_more}

-- the marked ones of so many candidates
abbrev pub marked_of : List Bool → ℕ → List CandidateId
marked_of marks n = filter (is_marked_candidate marks) (map candidate_of (range_with_len 0 n))

pub span_none : (most : ℕ) (marks : List Bool) (span : Span) → span.low ≡ most → span.end ≡ 0 → All (λ m. m ≡ false) marks → IsSpanOf most marks span
span_none most marks span low end none = record {
  low = omega arith;
  end = omega arith;
  each = λ k marked. absurd (false≢true (sym (elim (cases_lt k (length marks)) [
    | inl within ↦ none k false within
    | inr past ↦ past_end marks k false past
  ]) ∙ marked));
}

pub span_more : (most at : ℕ) (marks new : List Bool) (span other : Span) → IsSpanOf most marks span → IsWidened span at other → at < most → new ≡ slice_set marks at true → IsSpanOf most new other
span_more most at marks new span other old wide low is = record {
  low = omega (arith, old.low, wide.low);
  end = wide.no_more most old.end low;
  each = λ k marked. elim (cases_eq k at) [
    | inl same ↦ (omega (arith, wide.low_too), omega (arith, wide.end_too))
    | inr differs ↦
        let kept : get_or new k false ≡ get_or marks k false = ap (λ ms. get_or ms k false) is ∙ get_or-set_other marks at k true false differs in
        let both = old.each k (sym kept ∙ marked) in
        (omega (arith, both.0, wide.low), omega (arith, both.1, wide.end))
  ];
}

-- nothing is marked outside
pub unmarked : (most k : ℕ) (marks : List Bool) (span : Span) → IsSpanOf most marks span → (span.low ≤ k → k < span.end → ⊥) → get_or marks k false ≡ false
unmarked most k marks span are outside = elim (cases_Bool (get_or marks k false)) [
  | inl marked ↦ let both = are.each k marked in absurd (outside both.0 both.1)
  | inr none ↦ none
]

unmarked_more : (marks : List Bool) (n more : ℕ) → ((k : ℕ) → n ≤ k → get_or marks k false ≡ false) → marked_of marks (n + more) ≡ marked_of marks n
unmarked_more marks n zero none = let e : n + 0 ≡ n = omega arith in ap (marked_of marks) e
unmarked_more marks n (suc more) none =
    let e : n + suc more ≡ n + more + 1 = omega arith in
    let one : marked_of marks (n + more) ≡ marked_of marks (n + more + 1) = marked_less marks [] (marked_of marks (n + more)) (marked_of marks (n + more)) (n + more) refl (none (n + more) (omega arith)) refl in
    ap (marked_of marks) e ∙ (sym one ∙ unmarked_more marks n more none)

none_below : (marks : List Bool) (n : ℕ) → ((k : ℕ) → k < n → get_or marks k false ≡ false) → marked_of marks n ≡ []
none_below marks zero none = refl
none_below marks (suc n) none =
    let e : suc n ≡ n + 1 = omega arith in
    let one : marked_of marks n ≡ marked_of marks (n + 1) = marked_less marks [] (marked_of marks n) (marked_of marks n) n refl (none n (omega arith)) refl in
    ap (marked_of marks) e ∙ (sym one ∙ none_below marks n (λ k low. none k (omega arith)))

pub none_before : (most : ℕ) (marks : List Bool) (span : Span) → IsSpanOf most marks span → marked_of marks span.low ≡ []
none_before most marks span are = none_below marks span.low (λ k low. unmarked most k marks span are (λ above below. omega arith))

pub none_behind : (most n : ℕ) (marks : List Bool) (span : Span) → IsSpanOf most marks span → span.end ≤ n → n ≤ most → marked_of marks most ≡ marked_of marks n
none_behind most n marks span are past within =
    let e : most ≡ n + (most - n) = omega arith in
    ap (marked_of marks) e ∙ unmarked_more marks n (most - n) (λ k low. unmarked most k marks span are (λ above below. omega arith))

-- how many are marked, of one more
pub count_more : (marks : List Bool) (n : ℕ) → get_or marks n false ≡ true → length (marked_of marks (n + 1)) ≡ length (marked_of marks n) + 1
count_more marks n marked =
    let one : marked_of marks n ++ candidate_of n ∷ [] ≡ marked_of marks (n + 1) = marked_more marks [] (marked_of marks n) (marked_of marks n ++ candidate_of n ∷ []) n (candidate_of n) refl marked refl refl in
    ap length (sym one) ∙ length_push (marked_of marks n) (candidate_of n)

pub count_less : (marks : List Bool) (n : ℕ) → get_or marks n false ≡ false → length (marked_of marks (n + 1)) ≡ length (marked_of marks n)
count_less marks n none = ap length (sym (marked_less marks [] (marked_of marks n) (marked_of marks n) n refl none refl))
