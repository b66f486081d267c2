-- What bytes state: one thing at most, or nothing for one reason.
use Rattle.std.proofs.Common.{◌≡◌, ◌<◌, ℕ, List, [], ◌∷◌, length, Ok, Err, Some, sym, ap, ◌∙◌, arith}
use Rattle.std.proofs.lemmas.Option.{same_Some}
use Rattle.serde_json.proofs.OnLiterals.{serde_json_on_literals}
use Rattle.serde_json.specs.Read.{read}
use Rattle.vss_json.specs.Documents.{States, MissesShape}
use Rattle.vss_json.specs.Readings.{Reading}
use Rattle.vss_json.specs.Values.{Json, IsJson}
use Rattle.vss_json.specs.declared.fault.ShapeFault.{ShapeFault}

-- no bytes are no JSON
nothing_read : (d : Json) → ¬ (read [] ≡ Some d)
unfolding serde_json_on_literals
nothing_read d e = absurd (grind arith)

pub no_json : (bytes : List ℕ) (d : Json) → length bytes ≡ 0 → ¬ IsJson bytes d
no_json [] d none json = nothing_read d json.reads
no_json (b ∷ bytes) d none json = absurd (omega arith)

some_bytes : (bytes : List ℕ) (d : Json) → read bytes ≡ Some d → 0 < length bytes
some_bytes [] d e = absurd (nothing_read d e)
some_bytes (b ∷ bytes) d e = omega arith

-- a document's bytes are not none
pub some_stated : {M X : Type 0} (reading : Json → Reading X M) (bytes : List ℕ) (x : X) → States reading bytes x → 0 < length bytes
some_stated reading bytes x states = some_bytes bytes states.value states.is_json.reads

-- bytes are the text of one value
pub one_json : (bytes : List ℕ) (d e : Json) → IsJson bytes d → IsJson bytes e → d ≡ e
one_json bytes d e first second = same_Some d e (sym first.reads ∙ second.reads)

-- a value is read in one way
same_reading : {M X : Type 0} (reading : Json → Reading X M) (bytes : List ℕ) (d e : Json) → IsJson bytes d → IsJson bytes e → reading d ≡ reading e
same_reading reading bytes d e first second = ap reading (one_json bytes d e first second)

same_ok : {M X : Type 0} (r : Reading X M) (x y : X) → r ≡ Ok x → r ≡ Ok y → x ≡ y
same_ok r x y first second = grind arith

same_err : {M X : Type 0} (r : Reading X M) (f g : ShapeFault M) → r ≡ Err f → r ≡ Err g → f ≡ g
same_err r f g first second = grind arith

never_both : {M X : Type 0} (r : Reading X M) (x : X) (f : ShapeFault M) → r ≡ Ok x → ¬ (r ≡ Err f)
never_both r x f first second = absurd (grind arith)

-- bytes state one thing
pub one_stated : {M X : Type 0} (reading : Json → Reading X M) (bytes : List ℕ) (x y : X) → States reading bytes x → States reading bytes y → x ≡ y
one_stated reading bytes x y first second =
    same_ok (reading second.value) x y (sym (same_reading reading bytes first.value second.value first.is_json second.is_json) ∙ first.reads) second.reads

-- bytes have one first fault of shape
pub one_missed : {M X : Type 0} (reading : Json → Reading X M) (bytes : List ℕ) (f g : ShapeFault M) → MissesShape reading bytes f → MissesShape reading bytes g → f ≡ g
one_missed reading bytes f g first second =
    same_err (reading second.value) f g (sym (same_reading reading bytes first.value second.value first.is_json second.is_json) ∙ first.misses) second.misses

-- bytes that state something have no fault of shape
pub stated_not_missed : {M X : Type 0} (reading : Json → Reading X M) (bytes : List ℕ) (x : X) (f : ShapeFault M) → States reading bytes x → ¬ MissesShape reading bytes f
stated_not_missed reading bytes x f first second =
    never_both (reading second.value) x f (sym (same_reading reading bytes first.value second.value first.is_json second.is_json) ∙ first.reads) second.misses
