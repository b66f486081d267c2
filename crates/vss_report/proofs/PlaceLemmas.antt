-- From each place of a report lines lead to its end.
use Rattle.std.proofs.Common.{ℕ, zero, suc, Bool, true, false, List, [], ◌∷◌, ◌++◌, All, refl, sym, subst, arith}
use Rattle.std.proofs.lemmas.List.Elements.{All-nil, All-push}
use Rattle.derivation_log.specs.declared.step.Bound.TheVariants.{Given}
use Rattle.cell_net.specs.declared.cells.End.TheVariants.{Low}
use Rattle.std.specs.Prelude.{IsTrue}
use Rattle.vss_names.specs.Names.{IsName, is_name_byte}
use Rattle.vss_report.specs.Lines.{ReportLine, joint, header, verdict_impossible, conflicts, best_none, count, border, sweep, refutes, end_line, line_kind, IsSpelledCell, IsSpelled}
use Rattle.vss_report.specs.Places.{kinds_at, behind_runs, place_after, IsAmong, LinesLead}
use Rattle.vss_report.specs.declared.kind.Kind.{Kind}
use Rattle.vss_report.specs.declared.kind.Kind.TheVariants as kind
use Rattle.vss_report.specs.declared.place.Place.{Place}
use Rattle.vss_report.specs.declared.place.Place.TheVariants.{Start, Verdict, Conflicts, Best, Design, Borders, FirstSweep, Sweeps, Bound, Log, End, Finished}

-- lines lead to one place alone
pub leads_on : (from mid to : Place) (done later : List ReportLine) → LinesLead from done mid → LinesLead from (done ++ later) to → LinesLead mid later to
leads_on from mid to [] later first all = subst (λ p. LinesLead p later to) first all
leads_on from mid to (l ∷ done) later first all = leads_on (place_after from l) mid to done later first.1 all.1

pub leads_then : (from mid to : Place) (done later : List ReportLine) → LinesLead from done mid → LinesLead mid later to → LinesLead from (done ++ later) to
leads_then from mid to [] later first second = subst (λ p. LinesLead p later to) (sym first) second
leads_then from mid to (l ∷ done) later first second = (first.0, leads_then (place_after from l) mid to done later first.1 second)

pub leads_one : (from mid : Place) (done : List ReportLine) (l : ReportLine) → LinesLead from done mid → IsAmong (kinds_at mid) (line_kind l) → LinesLead from (done ++ l ∷ []) (place_after mid l)
leads_one from mid done l first may = leads_then from mid (place_after mid l) done (l ∷ []) first (may, refl)

-- lines by which a report ends
pub record Ending (from : Place) : Type 0 where
  pub lines : List ReportLine
  pub leads : LinesLead from lines Finished
  pub spelled : All IsSpelled lines

among_first : (k : Kind) (ks : List Kind) → IsAmong (k ∷ ks) k
among_first k ks = record { place = 0; is_there = refl }

one_more : (from : Place) (l : ReportLine) → IsAmong (kinds_at from) (line_kind l) → IsSpelled l → Ending (place_after from l) → Ending from
one_more from l may fits more = record { lines = l ∷ more.lines; leads = (may, more.leads); spelled = cons_spelled l more.lines fits more.spelled }
  where
    cons_spelled : (l : ReportLine) (lines : List ReportLine) → IsSpelled l → All IsSpelled lines → All IsSpelled (l ∷ lines)
    cons_spelled l lines fits others zero d within = fits
    cons_spelled l lines fits others (suc k) d within = others k d (omega arith)

at_finish : Ending Finished
at_finish = record { lines = []; leads = refl; spelled = All-nil IsSpelled }

at_end : Ending End
at_end = one_more End end_line (among_first kind.End []) tt at_finish

in_log : Ending Log
in_log = one_more Log end_line (record { place = 1; is_there = refl }) tt at_finish

at_bound : Ending Bound
at_bound = one_more Bound (refutes Given) (among_first kind.Refutes []) tt in_log

behind : (done : Bool) → IsAmong (behind_runs done) kind.End
behind true = record { place = 2; is_there = refl }
behind false = record { place = 0; is_there = refl }

later : (k k' : Kind) (ks : List Kind) → IsAmong ks k → IsAmong (k' ∷ ks) k
later k k' ks among = record { place = suc among.place; is_there = among.is_there }

letter : IsName (88 ∷ [])
letter = record { not_empty = omega arith; at_most_32 = omega arith; plain = one_item }
  where
    one_item : All (λ b. IsTrue (is_name_byte b)) (88 ∷ [])
    one_item = All-push (λ b. IsTrue (is_name_byte b)) [] 88 (All-nil (λ b. IsTrue (is_name_byte b))) refl

in_borders : (left : ℕ) (done : Bool) → Ending (Borders left done)
in_borders zero done = one_more (Borders zero done) end_line (later kind.End kind.Run (behind_runs done) (behind done)) tt at_finish
in_borders (suc left) done = one_more (Borders (suc left) done) (border (joint (88 ∷ []))) (among_first kind.Border []) letter (in_borders left done)

in_sweeps : (done : Bool) → Ending (Sweeps done)
in_sweeps done = one_more (Sweeps done) end_line (later kind.End kind.Sweep (kind.Run ∷ behind_runs done) (later kind.End kind.Run (behind_runs done) (behind done))) tt at_finish

at_verdict : Ending Verdict
at_verdict = one_more Verdict verdict_impossible (record { place = 1; is_there = refl }) tt at_bound

at_best : Ending Best
at_best = one_more Best best_none (among_first kind.BestNone (kind.Count ∷ [])) tt at_end

-- at each place a report can end
pub ending : (from : Place) → Ending from
ending Start = one_more Start header (among_first kind.Header []) tt at_verdict
ending Verdict = at_verdict
ending Conflicts = one_more Conflicts (conflicts 0) (among_first kind.Conflicts []) (omega arith) at_best
ending Best = at_best
ending Design = one_more Design (count 0) (among_first kind.Count []) (omega arith) (in_borders 0 true)
ending (Borders left done) = in_borders left done
ending (FirstSweep done) = one_more (FirstSweep done) (sweep (record { track = 88 ∷ []; index = 0; end = Low } ∷ [])) (among_first kind.Sweep []) (omega arith, one_cell) (in_sweeps done)
  where
    one_cell : All IsSpelledCell (record { track = 88 ∷ []; index = 0; end = Low } ∷ [])
    one_cell = All-push IsSpelledCell [] (record { track = 88 ∷ []; index = 0; end = Low }) (All-nil IsSpelledCell) (record { track = letter; index = omega arith })
ending (Sweeps done) = in_sweeps done
ending Bound = at_bound
ending Log = in_log
ending End = at_end
ending Finished = at_finish
