-- Marks of the classes that trains touch at a step, which only this crate's code and proofs see.
use Rattle.std.specs.Prelude.{◌≡◌, ◌≢◌, ◌<◌, ◌⊎◌, ℕ, List, Option, Some, Contains, slice_get}
use Rattle.vss_lists.specs.Breaks.{HoldsOfEach}
use Rattle.cell_net.specs.declared.cells.DirCell.{DirCell}
use Rattle.cell_net.specs.declared.plans.Sweep.{Sweep}
use Rattle.layout_rules.specs.Classes.{class_of}
use Rattle.plan_checker.specs.ClashSearch.{Touches}
use Rattle.plan_checker.specs.declared.marks.Mark.{Mark}
use Rattle.plan_checker.specs.declared.traffic.Traffic.{Traffic}

-- the last mark at the class is that of the train at the step
abbrev pub IsMarkedBy : List (Option Mark) → ℕ → ℕ → ℕ → Type 0
IsMarkedBy marks step train class = slice_get marks class ≡ Some (Some (record { step = step; train = train }))

-- if the mark was made at the step, the train made it
abbrev pub IsFreeFor : Option Mark → ℕ → ℕ → Type 0
IsFreeFor mark step train = (other : ℕ) → mark ≡ Some (record { step = step; train = other }) → other ≡ train

-- each class that was marked at the step is still marked by the same train
pub record KeepsMarks (step : ℕ) (old new : List (Option Mark)) : Type 0 where
  pub kept : (train class : ℕ) → IsMarkedBy old step train class → IsMarkedBy new step train class

-- the class of the cell is marked by the train at the step
abbrev pub IsClassMarked : List ℕ → List (Option Mark) → ℕ → ℕ → ℕ → DirCell → Type 0
IsClassMarked classes marks step train place d = IsMarkedBy marks step train (class_of classes d.cell)

-- the classes of what the train touches at the step are marked by it
pub record IsTrainMarked (t : Traffic) (marks : List (Option Mark)) (step train : ℕ) : Type 0 where
  pub each : (w : Sweep) → Touches t train step w → HoldsOfEach (IsClassMarked t.classes.now marks step train) w.cells

-- each mark was made before the step
pub record AreEarlier (step : ℕ) (marks : List (Option Mark)) : Type 0 where
  pub each : (class : ℕ) (m : Mark) → slice_get marks class ≡ Some (Some m) → m.step < step

-- one of the cells is of the class
unfoldable pub HasClass : List ℕ → List DirCell → ℕ → Type 0
HasClass classes cells class = (d : DirCell) × Contains cells d × (class_of classes d.cell ≡ class)

-- what is marked at the step was marked before, or is a class of the cells, marked by the train
pub record MarksOnly (step train : ℕ) (classes : List ℕ) (cells : List DirCell) (old new : List (Option Mark)) : Type 0 where
  pub only : (other class : ℕ) → IsMarkedBy new step other class → IsMarkedBy old step other class ⊎ ((other ≡ train) × HasClass classes cells class)

-- another train has marked the class at the step
unfoldable pub IsTaken : List (Option Mark) → ℕ → ℕ → ℕ → Type 0
IsTaken marks step train class = (other : ℕ) × (other ≢ train) × IsMarkedBy marks step other class

-- another train has marked the class of one of the cells at the step
unfoldable pub IsOneTaken : List ℕ → List (Option Mark) → ℕ → ℕ → List DirCell → Type 0
IsOneTaken classes marks step train cells = (d : DirCell) × Contains cells d × IsTaken marks step train (class_of classes d.cell)

-- the train touches a cell of the class at the step
unfoldable pub TouchesClass : Traffic → ℕ → ℕ → ℕ → Type 0
TouchesClass t step train class = (w : Sweep) × Touches t train step w × HasClass t.classes.now w.cells class

-- what is marked at the step is marked by a train before this one that touches the class
pub record AreOfTrains (t : Traffic) (marks : List (Option Mark)) (step count : ℕ) : Type 0 where
  pub each : (train class : ℕ) → IsMarkedBy marks step train class → (train < count) × TouchesClass t step train class
