-- The files that a task reads: how much of each is read, and what reading one ends with.
use Rattle.std.specs.Prelude.{◌≡◌, ◌≤◌, ℕ, List, length, Some, Result, Ok, Err, IsTrue}
use Rattle.vss_io.specs.Faults.{Rose}
use Rattle.vss_io.specs.Reading.{IsLongerThan}
use Rattle.vss_io.specs.Shown.{Files}
use Rattle.vss_stages.specs.Stages.{Then}
use Rattle.vss_stages.specs.declared.input.Input.{Input}
use Rattle.vss_stages.specs.declared.input.Input.TheVariants.{Network, Timetable, Report}
use Rattle.vss_stages.specs.declared.stop.Stop.{Stop}
use Rattle.vss_stages.specs.declared.stop.Stop.TheVariants.{ReadFault, TooLong}

-- the most bytes of a file that are read
abbrev pub limit : Input → ℕ
limit Network = 16777216
limit Timetable = 16777216
limit Report = 1073741824

-- with what the shelf shows before and after, the file of that name is read: no more than its limit, and these are
-- its bytes, where the shelf tells its files; or it could not be read, and its count of faults rose; or it is too long
abbrev pub IsRead : {R : Type 0} → Files → Files → Input → List ℕ → Result (List ℕ) (Stop R) → Type 0
IsRead before after input name (Ok bytes) = (length bytes ≤ limit input) × (IsTrue before.tells → before.file name ≡ Some bytes)
IsRead before after input name (Err (ReadFault file)) = (file ≡ input) × Rose (before.faults name) (after.faults name)
IsRead before after input name (Err (TooLong file)) = (file ≡ input) × (IsTrue before.tells → IsLongerThan (limit input) (before.file name))
IsRead before after input name (Err why) = ⊥

-- from the one moment to the other the shelf shows the same files, and no count of faults falls
pub record Since (before after : Files) : Type 0 where
  pub same_tells : after.tells ≡ before.tells
  pub same_files : (name : List ℕ) → after.file name ≡ before.file name
  pub never_falls : (name : List ℕ) → before.faults name ≤ after.faults name

-- two shelves tell the same files
pub record TellsSame (one other : Files) : Type 0 where
  pub tells : IsTrue one.tells
  pub also : IsTrue other.tells
  pub same_files : (name : List ℕ) → other.file name ≡ one.file name

-- a stage over what the shelf shows, then a file, then what its bytes are read as
abbrev pub ThenFile : {R X Y : Type 0} → (Files → Files → Result X (Stop R) → Type 0) → Files → Files → Input → List ℕ → (X → List ℕ → Result Y (Stop R) → Type 0) → Result Y (Stop R) → Type 0
ThenFile stage before after input name next = Then (stage before after) (λ x. Then (IsRead before after input name) (next x))
