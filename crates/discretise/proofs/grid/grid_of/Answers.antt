-- Why `grid_of` does what its contract says.
use Rattle.std.proofs.Common.{◌≡◌, ◌≤◌, ℕ, List, length, sum_by, refl, sym, ap, subst, ◌∙◌, arith}
use Rattle.cell_net.specs.declared.ids.NodeId.{NodeId}
use Rattle.rail_net.specs.Refusals.{IsNet}
use Rattle.rail_net.specs.declared.parts.TrackPart.{TrackPart}
use Rattle.rail_net.specs.declared.parts.NetParts.{NetParts}
use Rattle.rail_net.specs.declared.refusal.ListKind.TheVariants.{Document}
use Rattle.timetable.specs.declared.parts.Timetable.{Timetable}
use Rattle.discretise.specs.Grids.{IsGridOf}
use Rattle.discretise.specs.Refusals.{HasFewCandidates, HasFewCells, size_rules}
use Rattle.discretise.specs.Rounding.{length_in_cells}
use Rattle.discretise.specs.declared.refusal.CutFault.TheVariants.{TooManyCells, TooManyCandidates, TooManyTrains, TooManySteps}
use Rattle.discretise.specs.declared.tracks.GridTrack.{GridTrack}
use Rattle.discretise.specs.declared.ends.TrackEnd.{TrackEnd}
use Rattle.discretise.proofs.InstanceLemmas.{few_candidates}
use Rattle.discretise.proofs.RuleLemmas.{told_place}
use Rattle.discretise.proofs.grid.grid_of.Goals as goal

-- the candidates are the ones that are counted
counted : (p : NetParts) (t : Timetable) (gs : List GridTrack) (ends : List (List TrackEnd)) (joints : List ℕ) (candidates : List NodeId) → IsNet p → IsGridOf p t gs ends joints candidates → HasFewCandidates p t → length candidates ≤ 512
counted p t gs ends joints candidates net grid few = subst (λ ns. length ns ≤ 512) (sym grid.are_candidates) (few_candidates p t gs joints net grid.tracks grid.are_joints few)

-- and where they are few, that is kept
kept_so : (p : NetParts) (t : Timetable) (gs : List GridTrack) (ends : List (List TrackEnd)) (joints : List ℕ) (candidates : List NodeId) → IsGridOf p t gs ends joints candidates → length candidates ≤ 512 → HasFewCandidates p t
kept_so p t gs ends joints candidates grid few = record { tracks = gs; joints = joints; are_tracks = grid.tracks; are_joints = grid.are_joints; few = subst (λ ns. length ns ≤ 512) grid.are_candidates few }

pub returns-then-not-has_few_cells-clause-refusal : goal.returns-then-not-has_few_cells-clause-refusal
returns-then-not-has_few_cells-clause-refusal c =
    let p = c.args.net.now in
    let t = c.args.timetable.now in
    let tracks : c.as_slice.result.now ≡ p.tracks = c.as_slice.ensures ∙ ap (λ (q : NetParts). q.tracks) c.parts.ensures.parts in
    told_place (size_rules p t) 0 TooManyCells Document 0 c.named.result c.named.ensures
    (refl, λ few. let told = c.if-not-has_few_cells.ensures.1 (subst (λ (ts : List TrackPart). sum_by (λ x. length_in_cells t x.length_m) ts ≤ 1000) (sym tracks) few) in absurd cc)

pub returns-then-count-clause-refusal : goal.returns-then-count-clause-refusal
returns-then-count-clause-refusal c =
    let p = c.args.net.now in
    let t = c.args.timetable.now in
    let tracks : c.as_slice.result.now ≡ p.tracks = c.as_slice.ensures ∙ ap (λ (q : NetParts). q.tracks) c.parts.ensures.parts in
    let cells : HasFewCells p t = subst (λ (ts : List TrackPart). sum_by (λ x. length_in_cells t x.length_m) ts ≤ 1000) tracks (c.if-not-has_few_cells.ensures.0 refl) in
    let seen : length c.as_slice-seen.result.now ≡ length c.in-Ok.grid.candidates.items = ap length c.as_slice-seen.ensures.value in
    told_place (size_rules p t) 1 TooManyCandidates Document 0 c.named-then-count.result c.named-then-count.ensures
    (cells, (refl, λ few. let short = counted p t c.in-Ok.grid.tracks.items c.in-Ok.grid.ends.items c.in-Ok.grid.joints.items c.in-Ok.grid.candidates.items c.parts.ensures.rules c.in-Ok.ensures few in omega (arith, c.if-count.true)))

pub returns-then-trains-clause-refusal : goal.returns-then-trains-clause-refusal
returns-then-trains-clause-refusal c =
    let p = c.args.net.now in
    let t = c.args.timetable.now in
    let tracks : c.as_slice.result.now ≡ p.tracks = c.as_slice.ensures ∙ ap (λ (q : NetParts). q.tracks) c.parts.ensures.parts in
    let cells : HasFewCells p t = subst (λ (ts : List TrackPart). sum_by (λ x. length_in_cells t x.length_m) ts ≤ 1000) tracks (c.if-not-has_few_cells.ensures.0 refl) in
    let seen : length c.as_slice-seen.result.now ≡ length c.in-Ok.grid.candidates.items = ap length c.as_slice-seen.ensures.value in
    let few : length c.in-Ok.grid.candidates.items ≤ 512 = omega (arith, c.if-count.false) in
    told_place (size_rules p t) 2 TooManyTrains Document 0 c.named-then-trains.result c.named-then-trains.ensures
    (cells, (kept_so p t c.in-Ok.grid.tracks.items c.in-Ok.grid.ends.items c.in-Ok.grid.joints.items c.in-Ok.grid.candidates.items c.in-Ok.ensures few, (refl, λ trains. omega (arith, trains, c.if-trains.true, c.len-trains.ensures))))

pub returns-then-steps-from-clause-refusal : goal.returns-then-steps-from-clause-refusal
returns-then-steps-from-clause-refusal c =
    let p = c.args.net.now in
    let t = c.args.timetable.now in
    let tracks : c.as_slice.result.now ≡ p.tracks = c.as_slice.ensures ∙ ap (λ (q : NetParts). q.tracks) c.parts.ensures.parts in
    let cells : HasFewCells p t = subst (λ (ts : List TrackPart). sum_by (λ x. length_in_cells t x.length_m) ts ≤ 1000) tracks (c.if-not-has_few_cells.ensures.0 refl) in
    let seen : length c.as_slice-seen.result.now ≡ length c.in-Ok.grid.candidates.items = ap length c.as_slice-seen.ensures.value in
    let few : length c.in-Ok.grid.candidates.items ≤ 512 = omega (arith, c.if-count.false) in
    told_place (size_rules p t) 3 TooManySteps Document 0 c.named-then-steps-from.result c.named-then-steps-from.ensures
    (cells, (kept_so p t c.in-Ok.grid.tracks.items c.in-Ok.grid.ends.items c.in-Ok.grid.joints.items c.in-Ok.grid.candidates.items c.in-Ok.ensures few, (omega (arith, c.if-trains.false, c.len-trains.ensures), (refl, λ steps. omega (arith, steps, c.if-steps-from.true, c.step_count-steps.ensures, c.from.ensures)))))
