-- Documents: what the bytes of one state, and what a reading of them answers.
use Rattle.std.specs.Prelude.{◌≡◌, ◌<◌, ℕ, List, length, Result, Ok, Err}
use Rattle.vss_json.specs.Values.{Json, IsJson}
use Rattle.vss_json.specs.Readings.{Reading}
use Rattle.vss_json.specs.declared.fault.DocumentFault.{DocumentFault}
use Rattle.vss_json.specs.declared.fault.DocumentFault.TheVariants.{NotJson, Shape, Memory}
use Rattle.vss_json.specs.declared.fault.ShapeFault.{ShapeFault}

-- the bytes are the text of a value that is read as this
pub record States {M X : Type 0} (reading : Json → Reading X M) (bytes : List ℕ) (x : X) : Type 0 where
  pub value : Json
  pub is_json : IsJson bytes value
  pub reads : reading value ≡ Ok x

-- the bytes are the text of a value with that first fault of shape
pub record MissesShape {M X : Type 0} (reading : Json → Reading X M) (bytes : List ℕ) (fault : ShapeFault M) : Type 0 where
  pub value : Json
  pub is_json : IsJson bytes value
  pub misses : reading value ≡ Err fault

-- the bytes are the text of no value
abbrev pub IsNoJson : List ℕ → Type 0
IsNoJson bytes = (value : Json) → ¬ IsJson bytes value

-- Ok gives what the bytes state; a fault tells why they state nothing. Want of memory may come at any
-- bytes but none
abbrev pub IsDocument : {M X : Type 0} → (Json → Reading X M) → List ℕ → Result X (DocumentFault M) → Type 0
IsDocument reading bytes (Ok x) = States reading bytes x
IsDocument reading bytes (Err NotJson) = IsNoJson bytes
IsDocument reading bytes (Err (Shape fault)) = MissesShape reading bytes fault
IsDocument reading bytes (Err Memory) = 0 < length bytes
