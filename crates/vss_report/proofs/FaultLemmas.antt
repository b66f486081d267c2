-- Where a text goes wrong, told at the lines that were read of it.
use Rattle.std.proofs.Common.{◌≡◌, ◌≢◌, ◌<◌, ◌+◌, ◌-◌, inl, inr, ℕ, Bool, true, false, List, [], ◌∷◌, ◌++◌, All, length, zero, suc, get_or, take, map, refl, sym, subst, ap, ◌∙◌, arith, append_assoc, append-nil, length-append}
use Rattle.std.proofs.lemmas.Grind.{flat_map-append}
use Rattle.std.proofs.Math.Seq.{take-append_seam, take-append-add}
use Rattle.std.proofs.lemmas.List.Elements.{All-nil, All-append, All-head, All-tail}
use Rattle.vss_io.specs.Line.{flat}
use Rattle.std.specs.Prelude.{nat_eq, if◌then◌else◌, slice_get, Some}
use Rattle.std.proofs.lemmas.Bool.{eqb-true}
use Rattle.std.proofs.lemmas.List.{take_all, get_or_append_left, get_or_at}
use Rattle.vss_text.specs.Lines.{lines_of, with_first, IsOneLine}
use Rattle.vss_text.specs.Reading.{EndsWithin, NeverBegins}
use Rattle.vss_text.proofs.LineLaws.{lines-line, lines-one, FirstLine, none, whole, last, first_line, word_same}
use Rattle.vss_report.specs.Lines.{ReportLine, line_kind, line_text, full_text, text_of_lines, IsSpelled}
use Rattle.vss_report.specs.Places.{kinds_at, place_after, IsAmong, MayStand, LinesLead, EndsReport, CanEnd}
use Rattle.vss_report.specs.Faults.{text_up_to, IsFirstWrong}
use Rattle.vss_report.specs.declared.place.Place.{Place}
use Rattle.vss_report.specs.declared.place.Place.TheVariants.{Finished}
use Rattle.vss_report.proofs.LineTexts.{line_plain}
use Rattle.vss_report.proofs.LineReadings.{goes_on}
use Rattle.vss_report.proofs.PlaceLemmas.{leads_on, leads_then, ending}

-- these lines are read of the text, and this is left
pub record IsRead (from : Place) (text : List ℕ) (done : List ReportLine) (at : Place) (left : List ℕ) : Type 0 where
  pub leads : LinesLead from done at
  pub spelled : All IsSpelled done
  pub so_far : text ≡ text_of_lines done ++ left

pub IsRead-none : (from : Place) (text : List ℕ) → IsRead from text [] from text
IsRead-none from text = record { leads = refl; spelled = All-nil IsSpelled; so_far = refl }

-- the lines of a text that begins with lines
pub lines-text : (done : List ReportLine) (left : List ℕ) → All IsSpelled done → lines_of (text_of_lines done ++ left) ≡ map full_text done ++ lines_of left
lines-text [] left fits = refl
lines-text (l ∷ done) left fits =
    ap lines_of (append_assoc (full_text l) (text_of_lines done) left ∙ append_assoc (line_text l) (10 ∷ []) (text_of_lines done ++ left))
    ∙ (lines-line (line_text l) (text_of_lines done ++ left) (line_plain l (All-head IsSpelled l done fits))
    ∙ ap (λ ls. full_text l ∷ ls) (lines-text done left (All-tail IsSpelled l done fits)))

flat-map : (done : List ReportLine) → flat (map full_text done) ≡ text_of_lines done
flat-map [] = refl
flat-map (l ∷ done) = ap (λ t. full_text l ++ t) (flat-map done)

length_map : (done : List ReportLine) → length (map full_text done) ≡ length done
length_map [] = refl
length_map (l ∷ done) = omega (arith, length_map done)

-- the text up to the lines that were read
pub up_to_done : (from at : Place) (text left : List ℕ) (done : List ReportLine) → IsRead from text done at left → text_up_to (length done) text ≡ text_of_lines done
up_to_done from at text left done read =
    ap (λ t. flat (take (length done) (lines_of t))) read.so_far
    ∙ (ap (λ ls. flat (take (length done) ls)) (lines-text done left read.spelled)
    ∙ (ap (λ n. flat (take n (map full_text done ++ lines_of left))) (sym (length_map done))
    ∙ (ap flat (take-append_seam (map full_text done) (lines_of left)) ∙ flat-map done)))

count_done : (from at : Place) (text left : List ℕ) (done : List ReportLine) → IsRead from text done at left → length (lines_of text) ≡ length done + length (lines_of left)
count_done from at text left done read =
    ap (λ t. length (lines_of t)) read.so_far
    ∙ (ap length (lines-text done left read.spelled)
    ∙ omega (arith, length-append (map full_text done) (lines_of left), length_map done))

-- the text up to the next line too
up_to_next : (from at : Place) (text left next : List ℕ) (later : List (List ℕ)) (done : List ReportLine) → IsRead from text done at left → lines_of left ≡ next ∷ later
    → text_up_to (length done + 1) text ≡ text_of_lines done ++ next
up_to_next from at text left next later done read is =
    ap (λ t. flat (take (length done + 1) (lines_of t))) read.so_far
    ∙ (ap (λ ls. flat (take (length done + 1) ls)) (lines-text done left read.spelled)
    ∙ (ap (λ n. flat (take (n + 1) (map full_text done ++ lines_of left))) (sym (length_map done))
    ∙ (ap flat (take-append-add (map full_text done) (lines_of left) 1)
    ∙ (ap (λ ls. flat (map full_text done ++ take 1 ls)) is
    ∙ (flat_map-append (λ t. t) (map full_text done) (next ∷ []) ∙ ap (λ t. t ++ (next ++ [])) (flat-map done) ∙ ap (λ t. text_of_lines done ++ t) (append-nil next))))))

-- what was read, with lines that end a report behind it
pub done_can_end : (from at : Place) (done : List ReportLine) → LinesLead from done at → All IsSpelled done → CanEnd from (text_of_lines done)
done_can_end from at done leads fits =
    let end = ending at in
    record {
      more = text_of_lines end.lines;
      ends = record {
        lines = done ++ end.lines;
        leads = leads_then from at Finished done end.lines leads end.leads;
        spelled = All-append IsSpelled done end.lines fits end.spelled;
        text = sym (flat_map-append full_text done end.lines);
      };
    }

-- a report that begins with what was read goes on from there
pub behind_done : (from at : Place) (done : List ReportLine) (bytes : List ℕ) → LinesLead from done at → All IsSpelled done → EndsReport from (text_of_lines done ++ bytes) → EndsReport at bytes
behind_done from at done bytes leads fits ends =
    let more = goes_on done ends.lines bytes fits ends.spelled ends.text in
    record {
      lines = more.later;
      leads = leads_on from at Finished done more.later leads (subst (λ ls. LinesLead from ls Finished) more.is_more ends.leads);
      spelled = more.spelled;
      text = more.is_left;
    }

-- the next line can't stand there, whatever follows it
pub wrong_next : (from at : Place) (text left next : List ℕ) (later : List (List ℕ)) (done : List ReportLine) → IsRead from text done at left → lines_of left ≡ next ∷ later
    → ¬ CanEnd at next → IsFirstWrong from text (length done + 1)
wrong_next from at text left next later done read is never = record {
  some = omega arith;
  before =
      let same : length done + 1 - 1 ≡ length done = omega arith in
      subst (λ n. CanEnd from (text_up_to n text)) (sym same) (subst (CanEnd from) (sym (up_to_done from at text left done read)) (done_can_end from at done read.leads read.spelled));
  wrong = inl (
    omega (arith, count_done from at text left done read, ap length is),
    λ can. fails (subst (CanEnd from) (up_to_next from at text left next later done read is) can),
  );
}
  where
    fails : CanEnd from (text_of_lines done ++ next) → ⊥
    fails can = never (record { more = can.more; ends = behind_done from at done (next ++ can.more) read.leads read.spelled (subst (EndsReport from) (append_assoc (text_of_lines done) next can.more) can.ends) })

flat-with_first : (byte : ℕ) (lines : List (List ℕ)) → flat (with_first byte lines) ≡ byte ∷ flat lines
flat-with_first byte [] = refl
flat-with_first byte (l ∷ lines) = refl

-- the lines of a text are all of it
flat-lines : (text : List ℕ) → flat (lines_of text) ≡ text
flat-lines [] = refl
flat-lines (byte ∷ bytes) = by_byte (nat_eq byte 10) refl (flat-lines bytes)
  where
    by_byte : (t : Bool) → nat_eq byte 10 ≡ t → flat (lines_of bytes) ≡ bytes → flat (if t then (10 ∷ []) ∷ lines_of bytes else with_first byte (lines_of bytes)) ≡ byte ∷ bytes
    by_byte true same more = ap (λ t. 10 ∷ t) more ∙ ap (λ b. b ∷ bytes) (sym (eqb-true byte 10 same))
    by_byte false same more = flat-with_first byte (lines_of bytes) ∙ ap (λ t. byte ∷ t) more

-- all lines of a text are the text
pub whole_text : (text : List ℕ) → text_up_to (length (lines_of text)) text ≡ text
whole_text text = ap flat (take_all (length (lines_of text)) (lines_of text) (omega arith)) ∙ flat-lines text

-- the text ends where it could go on
pub too_early : (from at : Place) (text left : List ℕ) (done : List ReportLine) → IsRead from text done at left → CanEnd at left → ¬ EndsReport at left
    → IsFirstWrong from text (length done + length (lines_of left) + 1)
too_early from at text left done read can never = record {
  some = omega arith;
  before =
      let same : length done + length (lines_of left) + 1 - 1 ≡ length (lines_of text) = omega (arith, count_done from at text left done read) in
      let all : text_up_to (length (lines_of text)) text ≡ text = whole_text text in
      subst (λ n. CanEnd from (text_up_to n text)) (sym same) (subst (CanEnd from) (sym all) can_all);
  wrong = inr (omega (arith, count_done from at text left done read), λ ends. never (behind_done from at done left read.leads read.spelled (subst (EndsReport from) read.so_far ends)));
}
  where
    can_all : CanEnd from text
    can_all = record {
      more = can.more;
      ends = record {
        lines = done ++ can.ends.lines;
        leads = leads_then from at Finished done can.ends.lines read.leads can.ends.leads;
        spelled = All-append IsSpelled done can.ends.lines read.spelled can.ends.spelled;
        text =
            ap (λ t. t ++ can.more) read.so_far
            ∙ (append_assoc (text_of_lines done) left can.more
            ∙ (ap (λ t. text_of_lines done ++ t) can.ends.text ∙ sym (flat_map-append full_text done can.ends.lines)));
      };
    }

-- no line may stand there, so what stands there can't
pub never_next : (at : Place) (left next : List ℕ) (later : List (List ℕ)) → FirstLine left → lines_of left ≡ next ∷ later → NeverBegins (MayStand at) full_text left → ¬ CanEnd at next
unfolding NeverBegins
never_next at left next later (none is) lines never can = let fails : [] ≡ next ∷ later = ap lines_of (sym is) ∙ lines in absurd cc
never_next at left next later (whole body rest plain is) lines never can =
    let same : (body ++ 10 ∷ []) ∷ lines_of rest ≡ next ∷ later = sym (lines-line body rest plain) ∙ (ap lines_of (sym is) ∙ lines) in
    let is_next : next ≡ body ++ 10 ∷ [] = cc in
    by_lines can.ends.lines can.ends.leads can.ends.spelled (ap (λ t. t ++ can.more) (sym is_next) ∙ can.ends.text)
  where
    by_lines : (ls : List ReportLine) → LinesLead at ls Finished → All IsSpelled ls → (body ++ 10 ∷ []) ++ can.more ≡ text_of_lines ls → ⊥
    by_lines [] leads fits same = omega (arith, ap length same, length-append (body ++ 10 ∷ []) can.more, length-append body (10 ∷ []))
    by_lines (l ∷ ls) leads fits same =
        let bodies = word_same 10 body (line_text l) can.more (text_of_lines ls) plain (line_plain l (All-head IsSpelled l ls fits))
        (sym (append_assoc body (10 ∷ []) can.more) ∙ (same ∙ (append_assoc (line_text l) (10 ∷ []) (text_of_lines ls)))) in
        never l [] rest (record { spelled = All-head IsSpelled l ls fits; among = leads.0 })
        (append-nil left ∙ (is ∙ (ap (λ b. b ++ 10 ∷ rest) bodies.0 ∙ sym (append_assoc (line_text l) (10 ∷ []) rest))))
never_next at left next later (last byte bytes is plain) lines never can =
    let same : left ∷ [] ≡ next ∷ later = sym (ap lines_of is ∙ (lines-one byte bytes (subst IsOneLine is plain) ∙ ap (λ t. t ∷ []) (sym is))) ∙ lines in
    let is_next : next ≡ left = cc in
    by_lines can.ends.lines can.ends.leads can.ends.spelled (ap (λ t. t ++ can.more) (sym is_next) ∙ can.ends.text)
  where
    by_lines : (ls : List ReportLine) → LinesLead at ls Finished → All IsSpelled ls → left ++ can.more ≡ text_of_lines ls → ⊥
    by_lines [] leads fits same = omega (arith, ap length same, length-append left can.more, ap length is)
    by_lines (l ∷ ls) leads fits same = never l can.more (text_of_lines ls) (record { spelled = All-head IsSpelled l ls fits; among = leads.0 }) same

first_of : (left : List ℕ) → 0 < length left → FirstLine left → (next : List ℕ) × (later : List (List ℕ)) × (lines_of left ≡ next ∷ later)
first_of left some (none is) = absurd (omega (arith, ap length is))
first_of left some (whole body rest plain is) = (body ++ 10 ∷ [], lines_of rest, ap lines_of is ∙ lines-line body rest plain)
first_of left some (last byte bytes is plain) = (byte ∷ bytes, [], ap lines_of is ∙ lines-one byte bytes (subst IsOneLine is plain))

-- something is left, and none of the lines that may stand there
pub wrong_line : (from at : Place) (text left : List ℕ) (done : List ReportLine) → IsRead from text done at left → 0 < length left → NeverBegins (MayStand at) full_text left → IsFirstWrong from text (length done + 1)
wrong_line from at text left done read some never =
    let next = first_of left some (first_line left) in
    wrong_next from at text left next.0 next.1 done read next.2 (never_next at left next.0 next.1 (first_line left) next.2 never)

-- where a line is due, nothing is a front of it
pub never_empty : (at : Place) → at ≢ Finished → NeverBegins (MayStand at) full_text [] → ⊥
unfolding NeverBegins
never_empty at due never = by_lines (ending at).lines (ending at).leads (ending at).spelled
  where
    by_lines : (ls : List ReportLine) → LinesLead at ls Finished → All IsSpelled ls → ⊥
    by_lines [] leads fits = due leads
    by_lines (l ∷ ls) leads fits = never l (full_text l) [] (record { spelled = All-head IsSpelled l ls fits; among = leads.0 }) (sym (append-nil (full_text l)))

front_of_line : (left more body : List ℕ) → left ++ more ≡ body ++ 10 ∷ [] → 0 < length more → (rest : List ℕ) × (body ≡ left ++ rest)
front_of_line [] more body same some = (body, refl)
front_of_line (b ∷ left) more [] same some = absurd (omega (arith, ap length same, length-append left more))
front_of_line (b ∷ left) more (c ∷ body) same some =
    let first : b ≡ c = cc in
    let inner : left ++ more ≡ body ++ 10 ∷ [] = cc in
    let rest = front_of_line left more body inner some in
    (rest.0, let e : body ≡ left ++ rest.0 = rest.1 in cc)

plain_front : (left rest body : List ℕ) → body ≡ left ++ rest → IsOneLine body → IsOneLine left
plain_front left rest body is plain = λ k d within same.
    plain k d (omega (arith, ap length is, length-append left rest)) (ap (λ b. get_or b k d) is ∙ (get_or_append_left left rest d k within ∙ same))

cons_all : (x : ReportLine) (xs : List ReportLine) → IsSpelled x → All IsSpelled xs → All IsSpelled (x ∷ xs)
cons_all x xs fits others zero d within = fits
cons_all x xs fits others (suc k) d within = others k d (omega arith)

-- a text that ends within a line has no line feed
pub short_plain : (at : Place) (left : List ℕ) → EndsWithin (MayStand at) full_text left → IsOneLine left
short_plain at left within =
    let rest = front_of_line left within.more (line_text within.item) within.goes_on within.too_early in
    plain_front left rest.0 (line_text within.item) rest.1 (line_plain within.item within.fits.spelled)

pub lines_few : (text : List ℕ) → IsOneLine text → 0 < length text → length (lines_of text) ≡ 1
lines_few [] plain some = absurd (omega arith)
lines_few (b ∷ text) plain some = ap length (lines-one b text plain)

-- the text ends within a line that may stand there
pub short_line : (from at : Place) (text left : List ℕ) (done : List ReportLine) → IsRead from text done at left → EndsWithin (MayStand at) full_text left
    → IsFirstWrong from text (length done + length (lines_of left) + 1) × IsOneLine left
short_line from at text left done read within = (too_early from at text left done read can never, plain)
  where
    l : ReportLine
    l = within.item

    plain : IsOneLine left
    plain = short_plain at left within

    can : CanEnd at left
    can =
        let end = ending (place_after at within.item) in
        record {
          more = within.more ++ text_of_lines end.lines;
          ends = record {
            lines = within.item ∷ end.lines;
            leads = (within.fits.among, end.leads);
            spelled = cons_all within.item end.lines within.fits.spelled end.spelled;
            text = sym (append_assoc left within.more (text_of_lines end.lines)) ∙ ap (λ t. t ++ text_of_lines end.lines) within.goes_on;
          };
        }

    no_kind : {A : Type 0} → A → IsAmong (kinds_at Finished) (line_kind within.item) → ⊥
    no_kind _ among = let never : slice_get (kinds_at Finished) among.place ≡ Some (line_kind within.item) = among.is_there in cc

    by_lines : (ls : List ReportLine) → LinesLead at ls Finished → left ≡ text_of_lines ls → ⊥
    by_lines [] leads same = no_kind within.fits.among (subst (λ p. IsAmong (kinds_at p) (line_kind within.item)) leads within.fits.among)
    by_lines (x ∷ xs) leads same = plain (length (line_text x)) 0
        (omega (arith, ap length same, length-append (line_text x ++ 10 ∷ []) (text_of_lines xs), length-append (line_text x) (10 ∷ [])))
        (ap (λ b. get_or b (length (line_text x)) 0) (same ∙ append_assoc (line_text x) (10 ∷ []) (text_of_lines xs)) ∙ get_or_at (line_text x) 10 (text_of_lines xs) 0 (length (line_text x)) refl)

    never : ¬ EndsReport at left
    never ends = by_lines ends.lines ends.leads ends.text
