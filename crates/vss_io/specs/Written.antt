-- What is written to a sink, where it tells that, and what a call that prints leaves.
use Rattle.std.specs.Prelude.{◌≡◌, ◌≤◌, ℕ, List, ◌++◌, take, Option, Result, OnOk, OnErr}
use Rattle.std.specs.Option.{option_map}
use Rattle.vss_io.specs.Faults.{Rose}
use Rattle.vss_io.specs.Shown.{Output}

-- what is written, followed by these bytes; a sink that does not tell goes on not to tell
abbrev pub followed_by : Option (List ℕ) → List ℕ → Option (List ℕ)
followed_by written bytes = option_map (λ before. before ++ bytes) written

-- of these bytes the first ones were put, perhaps all or none, and nothing else
pub record PutsFront (before now : Option (List ℕ)) (bytes : List ℕ) : Type 0 where
  pub count : ℕ
  pub grew : now ≡ followed_by before (take count bytes)

-- of these bytes all were put but the last ones, which are kept
pub record PutsAllBut (before now : Option (List ℕ)) (kept bytes : List ℕ) : Type 0 where
  pub put : List ℕ
  pub grew : now ≡ followed_by before put
  pub rest : put ++ kept ≡ bytes

-- a call printed these bytes, or, where it fails, a front of them; a failure shows in the count of faults
pub record Prints {T E : Type 0} (before now : Output) (bytes : List ℕ) (result : Result T E) : Type 0 where
  pub front : PutsFront before.written now.written bytes
  pub whole : OnOk result (now.written ≡ followed_by before.written bytes)
  pub never_falls : before.faults ≤ now.faults
  pub cause : OnErr result (Rose before.faults now.faults)

-- the same of a call that keeps the last of the bytes
pub record PrintsAllBut {T E : Type 0} (before now : Output) (kept bytes : List ℕ) (result : Result T E) : Type 0 where
  pub front : PutsFront before.written now.written bytes
  pub added : OnOk result (PutsAllBut before.written now.written kept bytes)
  pub never_falls : before.faults ≤ now.faults
  pub cause : OnErr result (Rose before.faults now.faults)

-- of a text all is printed but what is left
pub record HasPrinted (before now : Output) (left text : List ℕ) : Type 0 where
  pub all_but : PutsAllBut before.written now.written left text
  pub never_falls : before.faults ≤ now.faults
