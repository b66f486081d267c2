-- How walks from one cell are kept: each as one step behind the walk that it lengthens.
use Rattle.std.specs.Prelude.{◌<◌, ◌≤◌, ℕ, List, [], ◌∷◌, ◌++◌, length, slice_index_or}
use Rattle.gap_clauses.specs.Walks.{Step}
use Rattle.gap_clauses.specs.declared.tree.Branch.{Branch}

-- the step of a branch
abbrev pub step_of : Branch → Step
step_of b = record { node = b.node; cell = b.cell }

-- the walk of a branch, behind one of these walks
abbrev pub lengthened : List (List Step) → Branch → List Step
lengthened walks b = slice_index_or walks b.before [] ++ step_of b ∷ []

-- the walks of branches, behind these walks
abbrev pub grown_from : List (List Step) → List Branch → List (List Step)
grown_from walks [] = walks
grown_from walks (b ∷ branches) = grown_from (walks ++ lengthened walks b ∷ []) branches

-- the walks of the branches, where the first walk has no step
unfoldable pub walks_of_tree : List Branch → List (List Step)
walks_of_tree branches = grown_from ([] ∷ []) branches

-- each branch lengthens a walk before it
pub record AreBranches (branches : List Branch) : Type 0 where
  pub before : (k : ℕ) (d : Branch) → k < length branches → (slice_index_or branches k d).before ≤ k
