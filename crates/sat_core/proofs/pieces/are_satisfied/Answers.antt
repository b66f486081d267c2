-- Why `are_satisfied` does what its contract says.
use Rattle.std.proofs.Common.{◌<◌, [], length, arith, subst, below_more, refl, sym}
use Rattle.std.specs.Prelude.{slice_index_or}
use Rattle.sat_core.specs.Clauses.{IsClause, Satisfies}
use Rattle.vss_rows.specs.Pieces.{pieces}
use Rattle.vss_rows.proofs.PieceLaws.{length-pieces}
use Rattle.sat_core.proofs.pieces.are_satisfied.Goals as goal

pub is_satisfied-requires : goal.is_satisfied-requires
is_satisfied-requires c =
    let within : c.loop-place.place < length (pieces c.args.row.now 0 c.args.ends.now) = omega (arith, length-pieces c.args.row.now 0 c.args.ends.now) in
    (subst (IsClause (length c.args.values.now)) (c.piece.ensures.item []) (c.requires.clauses c.loop-place.place [] within)).in_range

pub returns-then-not-is_satisfied : goal.returns-then-not-is_satisfied
returns-then-not-is_satisfied c =
    let within : c.loop-place.place < length (pieces c.args.row.now 0 c.args.ends.now) = omega (arith, length-pieces c.args.row.now 0 c.args.ends.now) in
    (λ never. absurd (cc), λ all. c.if-not-is_satisfied.ensures.1 (subst (Satisfies c.args.values.now) (c.piece.ensures.item []) (all c.loop-place.place [] within)))

pub loop-place-preserved : goal.loop-place-preserved
loop-place-preserved c =
    λ k d. below_more (λ j. Satisfies c.args.values.now (slice_index_or (pieces c.args.row.now 0 c.args.ends.now) j d)) c.loop-place.place (λ j below. c.loop-place.invariant j d below) (subst (Satisfies c.args.values.now) (sym (c.piece.ensures.item d)) (c.if-not-is_satisfied.ensures.0 refl)) k

pub returns : goal.returns
returns c =
    (λ always k d within. c.loop-place.invariant k d (omega (arith, length-pieces c.args.row.now 0 c.args.ends.now)), λ all. refl)
