-- From which place to which one marks stand, which only this crate's code and proofs see.
use Rattle.std.specs.Prelude.{◌≡◌, ◌<◌, ◌≤◌, ℕ, Bool, true, false, List, slice_index_or}
use Rattle.gap_clauses.specs.declared.marks.Span.{Span}

-- marks stand within the span alone, which is within so many places
pub record IsSpanOf (most : ℕ) (marks : List Bool) (span : Span) : Type 0 where
  pub low : span.low ≤ most
  pub end : span.end ≤ most
  pub each : (k : ℕ) → slice_index_or marks k false ≡ true → (span.low ≤ k) × (k < span.end)

-- the other span has all of this one, the place, and nothing beyond the higher of both
pub record IsWidened (span : Span) (at : ℕ) (other : Span) : Type 0 where
  pub low : other.low ≤ span.low
  pub low_too : other.low ≤ at
  pub end : span.end ≤ other.end
  pub end_too : at < other.end
  pub no_more : (most : ℕ) → span.end ≤ most → at < most → other.end ≤ most
