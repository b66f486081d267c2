-- Directed cells, told by their numbers, and lists that begin or end with one.
use Rattle.std.proofs.Common.{◌≡◌, ◌+◌, ◌-◌, ◌*◌, ℕ, true, List, length, ap, refl, arith}
use Rattle.std.specs.Prelude.{Contains, ◌↔◌, Option, Some, None, slice_get}
use Rattle.std.proofs.lemmas.Bool.{eqb-true, eq-eqb, false≢true}
use Rattle.std.proofs.lemmas.Option.{get_or_from_slice_get, none-some, same_Some, slice_get_within}
use Rattle.cell_net.specs.declared.cells.End.{End}
use Rattle.cell_net.specs.declared.cells.End.TheVariants.{Low, High}
use Rattle.cell_net.specs.declared.cells.DirCell.{DirCell}
use Rattle.sweep_table.specs.Order.{directed_number, end_digit}
use Rattle.sweep_table.specs.Parts.{begins_with, ends_with, is_directed}

same_end : (e f : End) (c d : ℕ) → 2 * c + end_digit e ≡ 2 * d + end_digit f → (c ≡ d) × (e ≡ f)
same_end Low Low c d h = (omega arith, refl)
same_end Low High c d h = absurd (omega arith)
same_end High Low c d h = absurd (omega arith)
same_end High High c d h = (omega arith, refl)

-- a number names one directed cell
pub same_directed : (d e : DirCell) → directed_number d ≡ directed_number e → d ≡ e
same_directed d e h =
    let both = same_end d.end e.end d.cell.0 e.cell.0 h in
    λ i. record { cell = record { 0 = both.0 i }; end = both.1 i }

-- that the first or the last is a directed cell
is_directed_says : (d : DirCell) (o : Option DirCell) → (is_directed d o ≡ true) ↔ (o ≡ Some d)
is_directed_says d None = (λ h. absurd (false≢true h), λ h. absurd (none-some d h))
is_directed_says d (Some c) = (λ h. ap Some (same_directed c d (eqb-true _ _ h)), λ h. eq-eqb _ _ (ap directed_number (same_Some c d h)))

pub begins_says : (d : DirCell) (cells : List DirCell) → (begins_with d cells ≡ true) ↔ (slice_get cells 0 ≡ Some d)
unfolding begins_with
begins_says d cells = is_directed_says d (slice_get cells 0)

pub ends_says : (d : DirCell) (cells : List DirCell) → (ends_with d cells ≡ true) ↔ (slice_get cells (length cells - 1) ≡ Some d)
unfolding ends_with
ends_says d cells = is_directed_says d (slice_get cells (length cells - 1))

-- a list has what it ends with
pub has_end : (d : DirCell) (cells : List DirCell) → ends_with d cells ≡ true → Contains cells d
has_end d cells h =
    let last = (ends_says d cells).0 h in
    (length cells - 1, slice_get_within cells (length cells - 1) d last, get_or_from_slice_get cells (length cells - 1) d d last)
