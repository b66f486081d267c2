-- Laws of the text of a step: where it is missed, and that it has one reading.
use Rattle.std.proofs.Common.{◌≡◌, ◌≢◌, ℕ, List, [], ◌∷◌, ◌++◌, length, drop, refl, ap, sym, subst, ◌∙◌, arith, append_assoc, append-nil, length-append}
use Rattle.std.specs.Prelude.{All, slice_index, decimal}
use Rattle.std.proofs.lemmas.List.Elements.{All-nil}
use Rattle.sat_core.specs.declared.literal.Lit.{Lit}
use Rattle.sat_core.specs.declared.literal.ClauseId.{ClauseId}
use Rattle.vss_text.specs.Numbers.{ended}
use Rattle.vss_text.specs.Reading.{EndsWithin, NeverBegins, Misses, MissesText, IsReadOnce, Both, both_spelled}
use Rattle.vss_text.specs.declared.miss.Miss.{Miss}
use Rattle.vss_text.specs.declared.miss.Miss.TheVariants.{Short, Wrong}
use Rattle.vss_text.proofs.ReadingLaws.{misses_first, misses_second, word_read_once, both_read_once}
use Rattle.vss_text.proofs.NumberLaws.{number_read_once}
use Rattle.derivation_log.specs.Text.{number_text, literal_text, list_text, step_text, IsLogNumber, IsInRange}
use Rattle.derivation_log.specs.Tested.{IsList, IsTextOf, BeginsWithStep, IsFrontOfStep}
use Rattle.derivation_log.specs.WordLaws.{id_no_zero, id_one_reading, literal_no_zero, literal_one_reading}
use Rattle.derivation_log.specs.declared.list.ListText.{ListText}
use Rattle.derivation_log.specs.declared.step.Step.{Step}
use Rattle.derivation_log.specs.declared.step.Step.TheVariants.{Add, Drop}
use Rattle.derivation_log.specs.declared.tested.StepText.{StepText}
use Rattle.derivation_log.specs.declared.tested.StepText.TheVariants as tested
use Rattle.derivation_log.proofs.ListLemmas.{list_read_once}

abbrev pub LitsFit : List Lit → Type 0
LitsFit lits = All (λ lit. IsLogNumber lit.var.0) lits

abbrev pub IdsFit : List ClauseId → Type 0
IdsFit ids = All (λ id. IsLogNumber id.0) ids

abbrev pub lits_text : List Lit → List ℕ
lits_text lits = list_text literal_text lits

abbrev pub ids_text : List ClauseId → List ℕ
ids_text ids = list_text number_text ids

abbrev Always : Unit {0} → Type 0
Always _ = Unit {0}

abbrev word : List ℕ → Unit {0} → List ℕ
word bytes _ = bytes

pub lits_once : IsReadOnce LitsFit lits_text
lits_once = list_read_once literal_text (λ lit. IsLogNumber lit.var.0) literal_no_zero literal_one_reading

pub ids_once : IsReadOnce IdsFit ids_text
ids_once = list_read_once number_text (λ id. IsLogNumber id.0) id_no_zero id_one_reading

numbers_once : IsReadOnce IsLogNumber (ended 32)
unfolding IsReadOnce
numbers_once = λ one other rest rest' fits fits' same. number_read_once 32 (omega arith) one other rest rest' (omega arith) (omega arith) same

-- the parts of an added clause, each behind the one before
abbrev BehindLits : Type 0
BehindLits = Unit {0} × List ClauseId

abbrev BehindNumber : Type 0
BehindNumber = List Lit × BehindLits

abbrev BehindLetter : Type 0
BehindLetter = ℕ × BehindNumber

abbrev Parts : Type 0
Parts = Unit {0} × BehindLetter

abbrev behind_lits_fit : BehindLits → Type 0
behind_lits_fit = Both Always IdsFit

abbrev behind_number_fit : BehindNumber → Type 0
behind_number_fit = Both LitsFit behind_lits_fit

abbrev behind_letter_fit : BehindLetter → Type 0
behind_letter_fit = Both IsLogNumber behind_number_fit

abbrev parts_fit : Parts → Type 0
parts_fit = Both Always behind_letter_fit

abbrev behind_lits : BehindLits → List ℕ
behind_lits = both_spelled (word (32 ∷ [])) ids_text

abbrev behind_number : BehindNumber → List ℕ
behind_number = both_spelled lits_text behind_lits

abbrev behind_letter : BehindLetter → List ℕ
behind_letter = both_spelled (ended 32) behind_number

abbrev parts_text : Parts → List ℕ
parts_text = both_spelled (word (97 ∷ 32 ∷ [])) behind_letter

id_of : ℕ → ClauseId
id_of n = record { 0 = n }

added : Parts → Step
unfolding id_of
added p = Add (id_of p.1.0) p.1.1.0 p.1.1.1.1

added_text : (p : Parts) → step_text (added p) ≡ parts_text p
unfolding added id_of
added_text p = ap (λ back. 97 ∷ 32 ∷ back) (sym (append_assoc (decimal p.1.0) (32 ∷ []) (behind_number p.1.1)))

added_fits : (p : Parts) → parts_fit p → IsInRange (added p)
unfolding added id_of
added_fits p fits = (fits.1.0, fits.1.1.0, fits.1.1.1.1)

least : BehindLetter
least = (1, ([], (tt, [])))

least_fits : behind_letter_fit least
unfolding least
least_fits = ((omega arith, omega arith), (All-nil (λ (lit : Lit). IsLogNumber lit.var.0), (tt, All-nil (λ (id : ClauseId). IsLogNumber id.0))))

-- where the letter of a drop doesn't stand first, a missed clause is a missed step
add_misses : (text : List ℕ) (miss : Miss) → slice_index text 0 ≢ 100 → Misses parts_fit parts_text text miss → Misses IsInRange step_text text miss
unfolding NeverBegins added id_of
add_misses text Short first missed = record {
  item = added missed.item;
  more = missed.more;
  fits = added_fits missed.item missed.fits;
  goes_on = missed.goes_on ∙ sym (added_text missed.item);
  too_early = missed.too_early;
}
add_misses [] Wrong first missed = absurd (missed (tt, least) (parts_text (tt, least)) [] (tt, least_fits) (sym (append-nil (parts_text (tt, least)))))
add_misses (b ∷ text) Wrong first missed = λ step more rest range same. by_step step more rest range same
  where
    by_step : (step : Step) (more rest : List ℕ) → IsInRange step → (b ∷ text) ++ more ≡ step_text step ++ rest → ⊥
    by_step (Add id lits hints) more rest range same =
        let parts : Parts = (tt, (id.0, (lits, (tt, hints)))) in
        missed parts more rest (tt, (range.0, (range.1, (tt, range.2)))) (same ∙ ap (λ front. front ++ rest) (added_text parts))
    by_step (Drop ids) more rest range same = first (ap (λ bytes. slice_index bytes 0) same)

pub no_letter : (text : List ℕ) (miss : Miss) → slice_index text 0 ≢ 100 → MissesText (97 ∷ 32 ∷ []) text miss → Misses IsInRange step_text text miss
no_letter text miss first missed =
    add_misses text miss first (misses_first Always (word (97 ∷ 32 ∷ [])) behind_letter_fit behind_letter text miss least least_fits missed)

behind : (text rest : List ℕ) (miss : Miss) → slice_index text 0 ≢ 100 → text ≡ 97 ∷ 32 ∷ rest → Misses behind_letter_fit behind_letter rest miss → Misses IsInRange step_text text miss
behind text rest miss first is missed =
    add_misses text miss first (misses_second Always (word (97 ∷ 32 ∷ [])) behind_letter_fit behind_letter text rest miss tt (word_read_once (97 ∷ 32 ∷ [])) tt is missed)

pub no_number : (text rest : List ℕ) (miss : Miss) → slice_index text 0 ≢ 100 → text ≡ 97 ∷ 32 ∷ rest → Misses IsLogNumber (ended 32) rest miss → Misses IsInRange step_text text miss
unfolding least
no_number text rest miss first is missed =
    behind text rest miss first is (misses_first IsLogNumber (ended 32) behind_number_fit behind_number rest miss least.1 least_fits.1 missed)

behind_id : (text rest left : List ℕ) (n : ℕ) (miss : Miss) → slice_index text 0 ≢ 100 → text ≡ 97 ∷ 32 ∷ rest → IsLogNumber n → rest ≡ decimal n ++ 32 ∷ left → Misses behind_number_fit behind_number left miss → Misses IsInRange step_text text miss
behind_id text rest left n miss first is range found missed =
    behind text rest miss first is
    (misses_second IsLogNumber (ended 32) behind_number_fit behind_number rest left miss n numbers_once range (found ∙ sym (append_assoc (decimal n) (32 ∷ []) left)) missed)

pub no_lits : (text rest left : List ℕ) (n : ℕ) (miss : Miss) → slice_index text 0 ≢ 100 → text ≡ 97 ∷ 32 ∷ rest → IsLogNumber n → rest ≡ decimal n ++ 32 ∷ left → Misses LitsFit lits_text left miss → Misses IsInRange step_text text miss
unfolding least
no_lits text rest left n miss first is range found missed =
    behind_id text rest left n miss first is range found (misses_first LitsFit lits_text behind_lits_fit behind_lits left miss least.1.1 least_fits.1.1 missed)

-- a list that was tested, at the front of a text
pub list_at : {X : Type 0} (spelled : X → List ℕ) (P : X → Type 0) (text behind : List ℕ) (list : ListText) → (is : IsList spelled P list) → text ≡ list.text.now ++ behind → text ≡ list_text spelled is.words ++ behind
list_at spelled P text behind list is found = found ∙ ap (λ front. front ++ behind) is.is_of.text_is

behind_words : (text rest left later : List ℕ) (n : ℕ) (list : ListText) (miss : Miss) → slice_index text 0 ≢ 100 → text ≡ 97 ∷ 32 ∷ rest → IsLogNumber n → rest ≡ decimal n ++ 32 ∷ left
    → IsList literal_text (λ lit. IsLogNumber lit.var.0) list → left ≡ list.text.now ++ later → Misses behind_lits_fit behind_lits later miss → Misses IsInRange step_text text miss
behind_words text rest left later n list miss first is range found lits split missed =
    behind_id text rest left n miss first is range found
    (misses_second LitsFit lits_text behind_lits_fit behind_lits left later miss lits.words lits_once lits.in_range (list_at literal_text (λ lit. IsLogNumber lit.var.0) left later list lits split) missed)

pub no_blank : (text rest left later : List ℕ) (n : ℕ) (list : ListText) (miss : Miss) → slice_index text 0 ≢ 100 → text ≡ 97 ∷ 32 ∷ rest → IsLogNumber n → rest ≡ decimal n ++ 32 ∷ left
    → IsList literal_text (λ lit. IsLogNumber lit.var.0) list → left ≡ list.text.now ++ later → MissesText (32 ∷ []) later miss → Misses IsInRange step_text text miss
unfolding least
no_blank text rest left later n list miss first is range found lits split missed =
    behind_words text rest left later n list miss first is range found lits split (misses_first Always (word (32 ∷ [])) IdsFit ids_text later miss least.1.1.1 least_fits.1.1.1 missed)

pub no_hints : (text rest left later last : List ℕ) (n : ℕ) (list : ListText) (miss : Miss) → slice_index text 0 ≢ 100 → text ≡ 97 ∷ 32 ∷ rest → IsLogNumber n → rest ≡ decimal n ++ 32 ∷ left
    → IsList literal_text (λ lit. IsLogNumber lit.var.0) list → left ≡ list.text.now ++ later → later ≡ 32 ∷ last → Misses IdsFit ids_text last miss → Misses IsInRange step_text text miss
no_hints text rest left later last n list miss first is range found lits split blank missed =
    behind_words text rest left later n list miss first is range found lits split
    (misses_second Always (word (32 ∷ [])) IdsFit ids_text later last miss tt (word_read_once (32 ∷ [])) tt blank missed)

pub found_add : (text rest left later last end : List ℕ) (id : ClauseId) (lits hints : ListText) → text ≡ 97 ∷ 32 ∷ rest → IsLogNumber id.0 → rest ≡ decimal id.0 ++ 32 ∷ left
    → IsList literal_text (λ lit. IsLogNumber lit.var.0) lits → left ≡ lits.text.now ++ later → later ≡ 32 ∷ last → IsList number_text (λ id. IsLogNumber id.0) hints → last ≡ hints.text.now ++ end
    → BeginsWithStep text (tested.Add id lits hints) end
found_add text rest left later last end id lits hints is range found lits_are split blank hints_are split' =
    let lits_at : left ≡ lits_text lits_are.words ++ later = list_at literal_text (λ lit. IsLogNumber lit.var.0) left later lits lits_are split in
    let hints_at : last ≡ ids_text hints_are.words ++ end = list_at number_text (λ id. IsLogNumber id.0) last end hints hints_are split' in
    let tail : left ≡ (lits_text lits_are.words ++ (32 ∷ ids_text hints_are.words)) ++ end =
    lits_at ∙ (ap (λ back. lits_text lits_are.words ++ back) (blank ∙ ap (λ back. 32 ∷ back) hints_at) ∙ sym (append_assoc (lits_text lits_are.words) (32 ∷ ids_text hints_are.words) end)) in
    record {
      step = Add id lits_are.words hints_are.words;
      in_range = (range, lits_are.in_range, hints_are.in_range);
      is_of = (refl, lits_are.is_of, hints_are.is_of);
      begins = is ∙ ap (λ back. 97 ∷ 32 ∷ back) (found ∙ (ap (λ back. decimal id.0 ++ 32 ∷ back) tail ∙ sym (append_assoc (decimal id.0) (32 ∷ (lits_text lits_are.words ++ (32 ∷ ids_text hints_are.words))) end)));
    }

-- where the letter of a drop stands first, a missed drop is a missed step
drop_misses : (text : List ℕ) (miss : Miss) → slice_index text 0 ≡ 100 → Misses (Both Always IdsFit) (both_spelled (word (100 ∷ 32 ∷ [])) ids_text) text miss → Misses IsInRange step_text text miss
unfolding NeverBegins
drop_misses text Short first missed = record { item = Drop missed.item.1; more = missed.more; fits = missed.fits.1; goes_on = missed.goes_on; too_early = missed.too_early }
drop_misses [] Wrong first missed = absurd (omega arith)
drop_misses (b ∷ text) Wrong first missed = λ step more rest range same. by_step step more rest range same
  where
    by_step : (step : Step) (more rest : List ℕ) → IsInRange step → (b ∷ text) ++ more ≡ step_text step ++ rest → ⊥
    by_step (Add id lits hints) more rest range same = omega (arith, first, ap (λ bytes. slice_index bytes 0) same)
    by_step (Drop ids) more rest range same = missed (tt, ids) more rest (tt, range) same

pub no_drop : (text : List ℕ) (miss : Miss) → slice_index text 0 ≡ 100 → MissesText (100 ∷ 32 ∷ []) text miss → Misses IsInRange step_text text miss
no_drop text miss first missed =
    drop_misses text miss first (misses_first Always (word (100 ∷ 32 ∷ [])) IdsFit ids_text text miss [] (All-nil (λ (id : ClauseId). IsLogNumber id.0)) missed)

pub no_ids : (text rest : List ℕ) (miss : Miss) → slice_index text 0 ≡ 100 → text ≡ 100 ∷ 32 ∷ rest → Misses IdsFit ids_text rest miss → Misses IsInRange step_text text miss
no_ids text rest miss first is missed =
    drop_misses text miss first (misses_second Always (word (100 ∷ 32 ∷ [])) IdsFit ids_text text rest miss tt (word_read_once (100 ∷ 32 ∷ [])) tt is missed)

pub found_drop : (text rest end : List ℕ) (ids : ListText) → text ≡ 100 ∷ 32 ∷ rest → IsList number_text (λ id. IsLogNumber id.0) ids → rest ≡ ids.text.now ++ end → BeginsWithStep text (tested.Drop ids) end
found_drop text rest end ids is are split = record {
  step = Drop are.words;
  in_range = are.in_range;
  is_of = are.is_of;
  begins = is ∙ ap (λ back. 100 ∷ 32 ∷ back) (list_at number_text (λ id. IsLogNumber id.0) rest end ids are split);
}

parts_once : IsReadOnce parts_fit parts_text
parts_once =
    both_read_once Always (word (97 ∷ 32 ∷ [])) behind_letter_fit behind_letter (word_read_once (97 ∷ 32 ∷ []))
    (both_read_once IsLogNumber (ended 32) behind_number_fit behind_number numbers_once
    (both_read_once LitsFit lits_text behind_lits_fit behind_lits lits_once
    (both_read_once Always (word (32 ∷ [])) IdsFit ids_text (word_read_once (32 ∷ [])) ids_once)))

-- no text begins with two steps
pub step_read_once : IsReadOnce IsInRange step_text
unfolding IsReadOnce added id_of
step_read_once = λ one other rest rest' range range' same. by_step one other rest rest' range range' same
  where
    by_step : (one other : Step) (rest rest' : List ℕ) → IsInRange one → IsInRange other → step_text one ++ rest ≡ step_text other ++ rest' → (one ≡ other) × (rest ≡ rest')
    by_step (Add id lits hints) (Add id' lits' hints') rest rest' range range' same =
        let p : Parts = (tt, (id.0, (lits, (tt, hints)))) in
        let p' : Parts = (tt, (id'.0, (lits', (tt, hints')))) in
        let once = parts_once p p' rest rest' (tt, (range.0, (range.1, (tt, range.2)))) (tt, (range'.0, (range'.1, (tt, range'.2))))
        (ap (λ front. front ++ rest) (sym (added_text p)) ∙ (same ∙ ap (λ front. front ++ rest') (added_text p'))) in
        (ap added once.0, once.1)
    by_step (Add id lits hints) (Drop ids) rest rest' range range' same = absurd (omega (arith, ap (λ bytes. slice_index bytes 0) same))
    by_step (Drop ids) (Add id lits hints) rest rest' range range' same = absurd (omega (arith, ap (λ bytes. slice_index bytes 0) same))
    by_step (Drop ids) (Drop ids') rest rest' range range' same =
        let once = ids_once ids ids' rest rest' range range' (ap (drop 2) same) in
        (ap Drop once.0, once.1)

once_of : {X : Type 0} (P : X → Type 0) (s : X → List ℕ) (one other : X) (text : List ℕ) → IsReadOnce P s → P one → P other → text ≡ s one → text ≡ s other → other ≡ one
unfolding IsReadOnce
once_of P s one other text once fits fits' is is' = sym (once one other [] [] fits fits' (ap (λ bytes. bytes ++ []) (sym is ∙ is'))).0

-- a tested text is the one of one step
pub text_once : (text : StepText) (one other : Step) → IsInRange one → IsInRange other → IsTextOf text one → IsTextOf text other → other ≡ one
text_once (tested.Add number lits hints) (Add id ls hs) (Add id' ls' hs') range range' is is' =
    let numbers : id' ≡ id = sym is'.0 ∙ is.0 in
    let same_lits : ls' ≡ ls = once_of LitsFit lits_text ls ls' lits.text.now lits_once range.1 range'.1 is.1.text_is is'.1.text_is in
    let same_hints : hs' ≡ hs = once_of IdsFit ids_text hs hs' hints.text.now ids_once range.2 range'.2 is.2.text_is is'.2.text_is in
    cc
text_once (tested.Add number lits hints) (Add id ls hs) (Drop ids) range range' is is' = absurd is'
text_once (tested.Add number lits hints) (Drop ids) other range range' is is' = absurd is
text_once (tested.Drop ids) (Add id ls hs) other range range' is is' = absurd is
text_once (tested.Drop ids) (Drop one) (Add id ls hs) range range' is is' = absurd is'
text_once (tested.Drop ids) (Drop one) (Drop other) range range' is is' = ap Drop (once_of IdsFit ids_text one other ids.text.now ids_once range range' is.text_is is'.text_is)

-- a step whose text is the one of a tested text at the front of the bytes
pub is_begun : (bytes rest : List ℕ) (text : StepText) (step other : Step) → BeginsWithStep bytes text rest → IsInRange other → bytes ≡ step_text other → (rest ≡ []) × IsTextOf text other
unfolding IsReadOnce
is_begun bytes rest text step other begins range is =
    let once = step_read_once begins.step other rest [] begins.in_range range (sym begins.begins ∙ (is ∙ sym (append-nil (step_text other)))) in
    (once.1, subst (IsTextOf text) once.0 begins.is_of)

pub front_whole : (bytes rest : List ℕ) (text : StepText) → BeginsWithStep bytes text rest → length rest ≡ 0 → IsFrontOfStep bytes
front_whole bytes [] text begins none = record { step = begins.step; more = []; in_range = begins.in_range; goes_on = append-nil bytes ∙ (begins.begins ∙ append-nil (step_text begins.step)) }
front_whole bytes (b ∷ rest) text begins none = absurd (omega arith)

pub no_front : (bytes rest : List ℕ) (text : StepText) → BeginsWithStep bytes text rest → IsFrontOfStep bytes → length rest ≡ 0
unfolding IsReadOnce
no_front bytes rest text begins front =
    let once = step_read_once begins.step front.step (rest ++ front.more) [] begins.in_range front.in_range
    (sym (append_assoc (step_text begins.step) rest front.more) ∙ (ap (λ b. b ++ front.more) (sym begins.begins) ∙ (front.goes_on ∙ sym (append-nil (step_text front.step))))) in
    omega (arith, ap length once.1, length-append rest front.more)

pub front_short : (bytes : List ℕ) → EndsWithin IsInRange step_text bytes → IsFrontOfStep bytes
front_short bytes within = record { step = within.item; more = within.more; in_range = within.fits; goes_on = within.goes_on }

pub front_wrong : (bytes : List ℕ) → NeverBegins IsInRange step_text bytes → IsFrontOfStep bytes → ⊥
unfolding NeverBegins
front_wrong bytes never front = never front.step front.more [] front.in_range (front.goes_on ∙ sym (append-nil (step_text front.step)))

-- bytes that miss a step are no step's text
pub missed_line : (bytes : List ℕ) (miss : Miss) → Misses IsInRange step_text bytes miss → (step : Step) → IsInRange step → bytes ≢ step_text step
unfolding NeverBegins IsReadOnce
missed_line bytes Short missed step range is =
    let once = step_read_once step missed.item missed.more [] range missed.fits (ap (λ b. b ++ missed.more) (sym is) ∙ (missed.goes_on ∙ sym (append-nil (step_text missed.item)))) in
    omega (arith, missed.too_early, ap length once.1)
missed_line bytes Wrong missed step range is = missed step [] [] range (append-nil bytes ∙ (is ∙ sym (append-nil (step_text step))))

-- the number of a tested clause is in range
pub id_in_range : (id : ClauseId) (lits hints : ListText) (step : Step) → IsInRange step → IsTextOf (tested.Add id lits hints) step → IsLogNumber id.0
id_in_range id lits hints (Add number ls hs) range is = subst (λ (n : ClauseId). IsLogNumber n.0) (sym is.0) range.0
id_in_range id lits hints (Drop ids) range is = absurd is
