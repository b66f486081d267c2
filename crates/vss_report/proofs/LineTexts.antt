-- The text of a line tells its kind, and has no line feed within.
use Rattle.std.proofs.Common.{◌≡◌, ◌≢◌, ◌<◌, ◌^◌, ℕ, zero, suc, Bool, true, false, cond, List, [], ◌∷◌, ◌++◌, All, length, codes, decimal, refl, sym, ap, subst, ◌∙◌, arith}
use Rattle.std.specs.Prelude.{◌==◌, slice_index, if◌then◌else◌, get_or}
use Rattle.std.specs.List.{flat_map}
use Rattle.std.proofs.lemmas.List.Elements.{All-nil, All-append, All-head, All-tail}
use Rattle.std.proofs.lemmas.Str.Parse.{digit_at}
use Rattle.std.proofs.lemmas.Fmt.{decimal_is_IsNumeral}
use Rattle.cell_net.specs.declared.cells.End.{End}
use Rattle.cell_net.specs.declared.cells.End.TheVariants.{Low, High}
use Rattle.derivation_log.specs.Text.{step_text, list_text, literal_text, number_text, IsInRange, IsLogNumber}
use Rattle.derivation_log.specs.declared.step.Step.{Step}
use Rattle.derivation_log.specs.declared.step.Step.TheVariants.{Add, Drop}
use Rattle.derivation_log.specs.declared.step.Bound.{Bound}
use Rattle.derivation_log.specs.declared.step.Bound.TheVariants.{Given, AtMost}
use Rattle.sat_core.specs.declared.literal.Lit.{Lit}
use Rattle.sat_core.specs.declared.literal.ClauseId.{ClauseId}
use Rattle.vss_names.specs.Names.{IsName, is_name_byte}
use Rattle.vss_text.specs.Lines.{Lacks, IsOneLine}
use Rattle.vss_text.proofs.LineLaws.{one_line_by}
use Rattle.vss_report.specs.Lines.{ReportLine, PlaceName, CellName, cut, joint, header, verdict_done, verdict_impossible, verdict_spent, conflicts, best_none, count, border, run, sweep, smaller_none, refutes, step, end_line, line_kind, sign, spaced, place_text, bound_text, line_text, full_text, IsSpelledPlace, IsSpelledCell, IsSpelledBound, IsSpelled}
use Rattle.vss_report.specs.declared.kind.Kind.{Kind}
use Rattle.vss_report.specs.declared.kind.Kind.TheVariants as kind

-- the kind that the first bytes of a line tell
abbrev told_kind : List ℕ → Kind
told_kind bytes =
    if slice_index bytes 0 == 118 then (if slice_index bytes 1 == 115 then kind.Header else if slice_index bytes 8 == 100 then kind.Done else if slice_index bytes 8 == 105 then kind.Impossible else kind.Spent)
    else if slice_index bytes 0 == 99 then kind.Conflicts
    else if slice_index bytes 0 == 98 then (if slice_index bytes 1 == 101 then kind.BestNone else kind.Border)
    else if slice_index bytes 0 == 114 then (if slice_index bytes 1 == 117 then kind.Run else kind.Refutes)
    else if slice_index bytes 0 == 115 then (if slice_index bytes 1 == 119 then kind.Sweep else kind.SmallerNone)
    else if slice_index bytes 0 == 100 then (if slice_index bytes 1 == 101 then kind.Count else kind.Step)
    else if slice_index bytes 0 == 97 then kind.Step
    else kind.End

tells : (l : ReportLine) (rest : List ℕ) → told_kind (full_text l ++ rest) ≡ line_kind l
tells header rest = refl
tells verdict_done rest = refl
tells verdict_impossible rest = refl
tells verdict_spent rest = refl
tells (conflicts n) rest = refl
tells best_none rest = refl
tells (count n) rest = refl
tells (border place) rest = refl
tells (run train start) rest = refl
tells (sweep cells) rest = refl
tells smaller_none rest = refl
tells (refutes bound) rest = refl
tells (step (Add id lits hints)) rest = refl
tells (step (Drop ids)) rest = refl
tells end_line rest = refl

-- two lines at the front of one text are of one kind
pub same_kind : (one other : ReportLine) (rest rest' : List ℕ) → full_text one ++ rest ≡ full_text other ++ rest' → line_kind one ≡ line_kind other
same_kind one other rest rest' same = sym (tells one rest) ∙ ap told_kind same ∙ tells other rest'

pub same_item : (xs : List ℕ) (k d : ℕ) → k < length xs → get_or xs k d ≡ get_or xs k 0
same_item [] k d within = absurd (omega arith)
same_item (x ∷ xs) zero d within = refl
same_item (x ∷ xs) (suc k) d within = same_item xs k d (omega arith)

pub digits_lack : (end n : ℕ) → end < 48 → n < 2 ^ 64 → Lacks end (decimal n)
digits_lack end n low small = λ k d within is. omega (arith, (digit_at (decimal n) k (decimal_is_IsNumeral n small).0.1 within).0, same_item (decimal n) k d within, is)

-- a name has no such byte
pub name_lacks : (end : ℕ) (name : List ℕ) → is_name_byte end ≡ false → IsName name → Lacks end name
name_lacks end name none is_name = λ k d lt same.
    let plain : is_name_byte end ≡ true = subst (λ b. is_name_byte b ≡ true) same (is_name.plain k d lt) in
    cc

numbers_plain : (n : ℕ) → n < 2 ^ 64 → IsOneLine (decimal n)
numbers_plain n small = digits_lack 10 n (omega arith) small

plain_append : (one other : List ℕ) → IsOneLine one → IsOneLine other → IsOneLine (one ++ other)
plain_append one other plain plain' = All-append (λ b. b ≢ 10) one other plain plain'

plain_all : {X : Type 0} (P : X → Type 0) (text : X → List ℕ) (xs : List X) → ((x : X) → P x → IsOneLine (text x)) → All P xs → IsOneLine (flat_map text xs)
plain_all P text [] each fits = All-nil (λ b. b ≢ 10)
plain_all P text (x ∷ xs) each fits = plain_append (text x) (flat_map text xs) (each x (All-head P x xs fits)) (plain_all P text xs each (All-tail P x xs fits))

list_plain : {X : Type 0} (P : X → Type 0) (spelled : X → List ℕ) (xs : List X) → ((x : X) → P x → IsOneLine (spelled x)) → All P xs → IsOneLine (list_text spelled xs)
list_plain P spelled xs each fits =
    plain_append (flat_map (λ x. spelled x ++ 32 ∷ []) xs) (48 ∷ []) (plain_all P (λ x. spelled x ++ 32 ∷ []) xs (λ x fit. plain_append (spelled x) (32 ∷ []) (each x fit) (one_line_by (32 ∷ []) refl)) fits) (one_line_by (48 ∷ []) refl)

sign_plain : (b : Bool) → IsOneLine (cond b [] (codes "-"))
sign_plain true = All-nil (λ b. b ≢ 10)
sign_plain false = one_line_by (codes "-") refl

lit_plain : (lit : Lit) → IsLogNumber lit.var.0 → IsOneLine (literal_text lit)
lit_plain lit range = plain_append (cond lit.positive [] (codes "-")) (decimal lit.var.0) (sign_plain lit.positive) (numbers_plain lit.var.0 (omega arith))

id_plain : (id : ClauseId) → IsLogNumber id.0 → IsOneLine (number_text id)
id_plain id range = numbers_plain id.0 (omega arith)

step_plain : (s : Step) → IsInRange s → IsOneLine (step_text s)
step_plain (Add id lits hints) range =
    plain_append (codes "a ") _ (one_line_by (codes "a ") refl)
    (plain_append (number_text id) _ (id_plain id range.0)
    (plain_append (codes " ") _ (one_line_by (codes " ") refl)
    (plain_append (list_text literal_text lits) _ (list_plain (λ lit. IsLogNumber lit.var.0) literal_text lits lit_plain range.1)
    (plain_append (codes " ") _ (one_line_by (codes " ") refl)
    (list_plain (λ id. IsLogNumber id.0) number_text hints id_plain range.2)))))
step_plain (Drop ids) range = plain_append (codes "d ") (list_text number_text ids) (one_line_by (codes "d ") refl) (list_plain (λ id. IsLogNumber id.0) number_text ids id_plain range)

place_plain : (place : PlaceName) → IsSpelledPlace place → IsOneLine (place_text place)
place_plain (cut track at_m) fits =
    plain_append (codes "cut ") _ (one_line_by (codes "cut ") refl) (plain_append track _ (name_lacks 10 track refl fits.0) (plain_append (codes " ") (decimal at_m) (one_line_by (codes " ") refl) (numbers_plain at_m (omega arith))))
place_plain (joint name) fits = plain_append (codes "joint ") name (one_line_by (codes "joint ") refl) (name_lacks 10 name refl fits)

end_plain : (end : End) → IsOneLine (sign end)
end_plain Low = one_line_by (codes "-") refl
end_plain High = one_line_by (codes "+") refl

cell_plain : (cell : CellName) → IsSpelledCell cell → IsOneLine (spaced cell)
cell_plain cell fits =
    plain_append (codes " ") _ (one_line_by (codes " ") refl)
    (plain_append cell.track _ (name_lacks 10 cell.track refl fits.track)
    (plain_append (codes ":") _ (one_line_by (codes ":") refl)
    (plain_append (decimal cell.index) (sign cell.end) (numbers_plain cell.index (omega (arith, fits.index))) (end_plain cell.end))))

bound_plain : (bound : Bound) → IsSpelledBound bound → IsOneLine (bound_text bound)
bound_plain Given fits = one_line_by (codes "given") refl
bound_plain (AtMost k) fits = numbers_plain k (omega arith)

-- a line has no line feed within
pub line_plain : (l : ReportLine) → IsSpelled l → IsOneLine (line_text l)
line_plain header fits = one_line_by (line_text header) refl
line_plain verdict_done fits = one_line_by (line_text verdict_done) refl
line_plain verdict_impossible fits = one_line_by (line_text verdict_impossible) refl
line_plain verdict_spent fits = one_line_by (line_text verdict_spent) refl
line_plain (conflicts n) fits = plain_append (codes "conflicts ") (decimal n) (one_line_by (codes "conflicts ") refl) (numbers_plain n (omega arith))
line_plain best_none fits = one_line_by (line_text best_none) refl
line_plain (count n) fits = plain_append (codes "design ") (decimal n) (one_line_by (codes "design ") refl) (numbers_plain n (omega arith))
line_plain (border place) fits = plain_append (codes "border ") (place_text place) (one_line_by (codes "border ") refl) (place_plain place fits)
line_plain (run train start) fits =
    plain_append (codes "run ") _ (one_line_by (codes "run ") refl) (plain_append train _ (name_lacks 10 train refl fits.0) (plain_append (codes " ") (decimal start) (one_line_by (codes " ") refl) (numbers_plain start (omega (arith, fits.1)))))
line_plain (sweep cells) fits = plain_append (codes "sweep") (flat_map spaced cells) (one_line_by (codes "sweep") refl) (plain_all IsSpelledCell spaced cells cell_plain fits.1)
line_plain smaller_none fits = one_line_by (line_text smaller_none) refl
line_plain (refutes bound) fits = plain_append (codes "refutes ") (bound_text bound) (one_line_by (codes "refutes ") refl) (bound_plain bound fits)
line_plain (step s) fits = step_plain s fits
line_plain end_line fits = one_line_by (line_text end_line) refl
