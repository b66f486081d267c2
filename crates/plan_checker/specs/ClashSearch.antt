-- What the levels of the search for the first clash say, which only this crate's code and proofs see.
use Rattle.std.specs.Prelude.{◌≡◌, ◌<◌, ℕ, List, length, All, Some, slice_get}
use Rattle.vss_lists.specs.Breaks.{HoldsBelow, HoldsOfEach}
use Rattle.cell_net.specs.Space.{IsCell}
use Rattle.cell_net.specs.Borders.{Linked}
use Rattle.cell_net.specs.declared.ids.CellId.{CellId}
use Rattle.cell_net.specs.declared.cells.DirCell.{DirCell}
use Rattle.cell_net.specs.declared.plans.Sweep.{Sweep}
use Rattle.layout_rules.specs.Classes.{AreClasses}
use Rattle.plan_checker.specs.Clashes.{HasSweep, AreApartAt, ComesBefore, AreFirstLinked}
use Rattle.plan_checker.specs.declared.clash.Clash.{Clash}
use Rattle.plan_checker.specs.declared.traffic.Traffic.{Traffic}

-- the cells are cells of the instance
abbrev pub AreCellsOfTraffic : Traffic → List DirCell → Type 0
AreCellsOfTraffic t cells = All (λ d. IsCell t.inst.now d.cell) cells

-- the train of this number touches the sweep at the step
abbrev pub Touches : Traffic → ℕ → ℕ → Sweep → Type 0
Touches t train step w = HasSweep t.runs.now train step w

-- the classes are those of the layout, and there is a run for each train, over cells and at steps of
-- the instance
pub record IsGoodTraffic (t : Traffic) : Type 0 where
  pub alike : AreClasses t.inst.now t.layout.now t.classes.now
  pub for_each_train : length t.runs.now ≡ length t.inst.now.trains
  pub on_cells : (train step : ℕ) (w : Sweep) → Touches t train step w → AreCellsOfTraffic t w.cells
  pub in_time : (train step : ℕ) (w : Sweep) → Touches t train step w → step < t.inst.now.steps

-- the two cells are linked under the layout
abbrev pub AreLinked : Traffic → CellId → CellId → Type 0
AreLinked t e f = Linked t.inst.now t.layout.now e f

-- the cell at the place isn't linked with e
abbrev pub IsSeparated : Traffic → CellId → ℕ → DirCell → Type 0
IsSeparated t e place d = ¬ AreLinked t e d.cell

-- none of the other cells is linked with the cell at the place
abbrev pub IsSeparatedFromAll : Traffic → List DirCell → ℕ → DirCell → Type 0
IsSeparatedFromAll t other place c = HoldsOfEach (IsSeparated t c.cell) other

-- the first of the cells that is linked with e is f
pub record IsFirstLinkedTo (t : Traffic) (e : CellId) (cells : List DirCell) (f : CellId) : Type 0 where
  pub place : ℕ
  pub found : DirCell
  pub is_there : slice_get cells place ≡ Some found
  pub cell_is : found.cell ≡ f
  pub linked : AreLinked t e f
  pub before : HoldsBelow (IsSeparated t e) cells place

-- the trains of these numbers are apart at the step
abbrev pub AreTrainsApart : Traffic → ℕ → ℕ → ℕ → Type 0
AreTrainsApart t step a b = AreApartAt t.inst.now t.layout.now t.runs.now step a b

-- the two trains have sweeps at the step, and e and f are the first of their cells that are linked
pub record IsClash (t : Traffic) (step a b : ℕ) (e f : CellId) : Type 0 where
  pub one : Sweep
  pub other : Sweep
  pub has_one : Touches t a step one
  pub has_other : Touches t b step other
  pub first_linked : AreFirstLinked t.inst.now t.layout.now one.cells other.cells e f

-- the train is apart from each later one at the step
pub record IsApartFromLater (t : Traffic) (step a : ℕ) : Type 0 where
  pub apart : (y : ℕ) → a < y → AreTrainsApart t step a y

-- the clash is of train a at the step, with the first later train that it isn't apart from
pub record IsFirstClashOf (t : Traffic) (step a : ℕ) (k : Clash) : Type 0 where
  pub first : k.a.0 ≡ a
  pub at_step : k.step ≡ step
  pub in_order : a < k.b.0
  pub apart_before : (y : ℕ) → a < y → y < k.b.0 → AreTrainsApart t step a y
  pub clash : IsClash t step a k.b.0 k.e k.f

-- all trains are apart at the step
pub record AreAllApart (t : Traffic) (step : ℕ) : Type 0 where
  pub apart : (x y : ℕ) → x < y → AreTrainsApart t step x y

-- the clash is that of the first pair of trains that aren't apart at the step
pub record IsFirstClashAt (t : Traffic) (step : ℕ) (k : Clash) : Type 0 where
  pub at_step : k.step ≡ step
  pub pairs_before : (x y : ℕ) → x < y → ComesBefore x y k.a.0 k.b.0 → AreTrainsApart t step x y
  pub in_order : k.a.0 < k.b.0
  pub clash : IsClash t step k.a.0 k.b.0 k.e k.f
