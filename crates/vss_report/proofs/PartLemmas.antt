-- Laws of the parts of lines: names, and what stands behind words.
use Rattle.std.proofs.Common.{◌≡◌, ◌≢◌, ◌<◌, ◌≤◌, ◌+◌, ◌⊎◌, inl, inr, ℕ, true, false, List, [], ◌∷◌, ◌++◌, length, take, drop, get_or, refl, sym, subst, ap, ◌∙◌, arith, append_assoc}
use Rattle.std.specs.Prelude.{IsTrue}
use Rattle.std.proofs.lemmas.Bool.{cases_eq, cases_lt}
use Rattle.std.proofs.lemmas.List.{take-append-drop, drop_more, length-take-le, get_or-take, take_all, get_or_append_left, get_or_at}
use Rattle.std.proofs.lemmas.List.Elements.{All-nil, All-push}
use Rattle.vss_names.specs.Names.{IsName, is_name_byte}
use Rattle.vss_text.specs.Reading.{EndsWithin, NeverBegins, Misses, MissesText, IsReadOnce, Both, both_spelled}
use Rattle.vss_text.specs.declared.miss.Miss.{Miss}
use Rattle.vss_text.proofs.ReadingLaws.{misses_first, misses_second, misses_named, word_read_once}
use Rattle.vss_text.proofs.LineLaws.{word_same}
use Rattle.vss_report.specs.Readings.{named, with_word}
use Rattle.vss_report.proofs.LineTexts.{name_lacks, same_item}

abbrev pub Always : Unit {0} → Type 0
Always _ = Unit {0}

abbrev pub word : List ℕ → Unit {0} → List ℕ
word bytes _ = bytes

-- behind words that are missed, all is missed
pub word_missed : {X : Type 0} (P : X → Type 0) (spelled : X → List ℕ) (words text : List ℕ) (miss : Miss) (x : X) → P x → MissesText words text miss → Misses P (with_word words spelled) text miss
word_missed P spelled words text miss x fits missed =
    misses_named (Both Always P) (both_spelled (word words) spelled) P (with_word words spelled) text miss
    (λ p both. (p.1, both.1, refl)) (λ z more rest fit same. ((tt, z), (tt, fit), refl))
    (misses_first Always (word words) P spelled text miss x fits missed)

-- behind words that are there, what is missed is missed with them
pub rest_missed : {X : Type 0} (P : X → Type 0) (spelled : X → List ℕ) (words text rest : List ℕ) (miss : Miss) → text ≡ words ++ rest → Misses P spelled rest miss → Misses P (with_word words spelled) text miss
rest_missed P spelled words text rest miss is missed =
    misses_named (Both Always P) (both_spelled (word words) spelled) P (with_word words spelled) text miss
    (λ p both. (p.1, both.1, refl)) (λ z more rest fit same. ((tt, z), (tt, fit), refl))
    (misses_second Always (word words) P spelled text rest miss tt (word_read_once words) tt is missed)

pub name_read_once : (end : ℕ) → is_name_byte end ≡ false → IsReadOnce IsName (named end)
unfolding IsReadOnce
name_read_once end plain = λ one other rest rest' fits fits' same.
    word_same end one other rest rest' (name_lacks end one plain fits) (name_lacks end other plain fits')
    (sym (append_assoc one (end ∷ []) rest) ∙ (same ∙ append_assoc other (end ∷ []) rest'))

pub letter : IsName (88 ∷ [])
letter = record { not_empty = omega arith; at_most_32 = omega arith; plain = All-push (λ b. IsTrue (is_name_byte b)) [] 88 (All-nil (λ b. IsTrue (is_name_byte b))) refl }

-- so many bytes at the front may stand in a name
pub record IsNameFront (text : List ℕ) (count : ℕ) : Type 0 where
  pub at_most_32 : count ≤ 32
  pub plain : (k : ℕ) → k < count → is_name_byte (get_or text k 0) ≡ true

pub IsNameFront-none : (text : List ℕ) → IsNameFront text 0
IsNameFront-none text = record { at_most_32 = omega arith; plain = λ k under. absurd (omega arith) }

pub IsNameFront-more : (text : List ℕ) (count : ℕ) → IsNameFront text count → count ≢ 32 → is_name_byte (get_or text count 0) ≡ true → IsNameFront text (count + 1)
IsNameFront-more text count front few fits = record {
  at_most_32 = omega (arith, front.at_most_32);
  plain = λ k under. elim (cases_eq k count) [
    | inl here ↦ subst (λ n. is_name_byte (get_or text n 0) ≡ true) (sym here) fits
    | inr earlier ↦ front.plain k (omega arith)
  ];
}

pub IsNameFront-name : (text : List ℕ) (count : ℕ) → IsNameFront text count → 0 < count → count ≤ length text → IsName (take count text)
IsNameFront-name text count front some within =
    let long : length (take count text) ≡ count = length-take-le count text within in
    record {
      not_empty = omega arith;
      at_most_32 = omega (arith, front.at_most_32);
      plain = λ k d under.
          let below : k < count = omega arith in
          let here : get_or (take count text) k d ≡ get_or text k 0 = get_or-take count text k d below ∙ same_item text k d (omega arith) in
          subst (λ b. is_name_byte b ≡ true) (sym here) (front.plain k below);
    }

pub IsNameFront-found : (text : List ℕ) (end count : ℕ) → count < length text → get_or text count 0 ≡ end → text ≡ take count text ++ end ∷ drop (count + 1) text
IsNameFront-found text end count within is =
    let rest : drop count text ≡ end ∷ drop (count + 1) text = drop_more text count 0 within ∙ ap (λ byte. byte ∷ drop (count + 1) text) is in
    sym (ap (λ back. take count text ++ back) (sym rest) ∙ take-append-drop count text)

pub IsNameFront-stops : (text : List ℕ) (end count : ℕ) → is_name_byte end ≡ false → IsNameFront text count → count < length text → (get_or text count 0 ≡ end → count ≡ 0)
    → (get_or text count 0 ≢ end → (count ≡ 32) ⊎ (is_name_byte (get_or text count 0) ≡ false)) → NeverBegins IsName (named end) text
unfolding NeverBegins
IsNameFront-stops text end count plain front within first stops = λ name more rest fits same. never name more rest fits (same ∙ append_assoc name (end ∷ []) rest)
  where
    never : (name more rest : List ℕ) → IsName name → text ++ more ≡ name ++ end ∷ rest → ⊥
    never name more rest fits same =
        let at : (k : ℕ) → k < length text → get_or (text ++ more) k 0 ≡ get_or text k 0 = λ k under. get_or_append_left text more 0 k under in
        let in_name : (k : ℕ) → k < length name → is_name_byte (get_or (text ++ more) k 0) ≡ true = λ k under.
        let here : get_or (text ++ more) k 0 ≡ get_or name k 0 = ap (λ b. get_or b k 0) same ∙ get_or_append_left name (end ∷ rest) 0 k under in
        subst (λ b. is_name_byte b ≡ true) (sym here) (fits.plain k 0 under) in
        let behind : get_or (text ++ more) (length name) 0 ≡ end = ap (λ b. get_or b (length name) 0) same ∙ get_or_at name end rest 0 (length name) refl in
        elim (cases_lt count (length name)) [
          | inl before ↦
              let fine : is_name_byte (get_or text count 0) ≡ true = subst (λ b. is_name_byte b ≡ true) (at count within) (in_name count before) in
              let no_end : get_or text count 0 ≢ end = λ is. let never : true ≡ false = sym fine ∙ (ap is_name_byte is ∙ plain) in cc in
              elim (stops no_end) [
                | inl long ↦ omega (arith, fits.at_most_32)
                | inr bad ↦ let never : true ≡ false = sym fine ∙ bad in cc
              ]
          | inr past ↦ elim (cases_eq count (length name)) [
            | inl here ↦
                let is_end : get_or text count 0 ≡ end = sym (at count within) ∙ (ap (λ k. get_or (text ++ more) k 0) here ∙ behind) in
                omega (arith, first is_end, fits.not_empty)
            | inr beyond ↦
                let fine : is_name_byte (get_or text (length name) 0) ≡ true = front.plain (length name) (omega arith) in
                let never : true ≡ false = sym fine ∙ (ap is_name_byte (sym (at (length name) (omega arith)) ∙ behind) ∙ plain) in cc
          ]
        ]

pub IsNameFront-ends : (text : List ℕ) (end count : ℕ) → IsNameFront text count → count ≡ length text → EndsWithin IsName (named end) text
IsNameFront-ends [] end count front all = record { item = 88 ∷ []; more = 88 ∷ end ∷ []; fits = letter; goes_on = refl; too_early = omega arith }
IsNameFront-ends (b ∷ text) end count front all = record {
  item = b ∷ text;
  more = end ∷ [];
  fits = subst IsName (take_all count (b ∷ text) (omega arith)) (IsNameFront-name (b ∷ text) count front (omega arith) (omega arith));
  goes_on = refl;
  too_early = omega arith;
}
