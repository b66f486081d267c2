-- The law of jobs.
use Rattle.std.specs.Prelude.{ℕ, List}
use Rattle.vss_io.specs.Shown.{Files}
use Rattle.vss_stages.specs.Stages.{EndAlike}
use Rattle.vss_stages.specs.Inputs.{TellsSame}
use Rattle.vss_jobs.specs.Jobs.{IsJob}

-- where two shelves tell the same files, the words make one job of them
abbrev pub JobsAreOne : Type 0
JobsAreOne = (words : List (List ℕ)) (one after other later : Files) → TellsSame one other → EndAlike (IsJob words one after) (IsJob words other later)
