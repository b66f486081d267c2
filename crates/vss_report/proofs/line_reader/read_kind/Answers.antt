-- Why `read_kind` does what its contract says.
use Rattle.std.proofs.Common.{◌≡◌, ◌++◌, List, ℕ, refl, sym, subst}
use Rattle.std.specs.Prelude.{Result, Ok, Err, IfOk, IfErr}
use Rattle.std.specs.Borrow.{Bor}
use Rattle.vss_text.specs.Reading.{Misses, MissesText}
use Rattle.vss_text.specs.declared.miss.Miss.{Miss}
use Rattle.vss_report.specs.Lines.{ReportLine, header, verdict_done, verdict_impossible, verdict_spent, best_none, smaller_none, end_line, full_text}
use Rattle.vss_report.specs.Readings.{IsOfKind, IsFound, SaysLine}
use Rattle.vss_report.specs.declared.kind.Kind.{Kind}
use Rattle.vss_report.specs.declared.kind.Kind.TheVariants as kind
use Rattle.vss_report.specs.declared.read_line.ReadLine.{ReadLine}
use Rattle.vss_report.specs.declared.read_line.ReadLine.TheVariants as read
use Rattle.vss_report.proofs.KindLemmas.{header_missed, done_missed, impossible_missed, spent_missed, best_none_missed, smaller_none_missed, end_missed}
use Rattle.vss_report.proofs.line_reader.read_kind.Goals as goal

fixed_found : (k asked : Kind) (l : ReportLine) (line : ReadLine) (text : List ℕ) (result : Result (ReadLine × Bor (List ℕ)) Miss) → asked ≡ k → IsOfKind k l → SaysLine line l
    → IfOk result (λ found. found.0 ≡ line) → IfOk result (λ found. text ≡ full_text l ++ found.1.now) → IfOk result (λ found. IsFound (IsOfKind asked) text found.0 found.1.now)
fixed_found k asked l line text (Ok found) is fits says same front = record { line = l; fits = subst (λ a. IsOfKind a l) (sym is) fits; says = subst (λ r. SaysLine r l) (sym same) says; is_front = front }
fixed_found k asked l line text (Err miss) is fits says same front = tt

fixed_missed : (k asked : Kind) (words text : List ℕ) (result : Result (ReadLine × Bor (List ℕ)) Miss) → asked ≡ k → ((miss : Miss) → MissesText words text miss → Misses (IsOfKind k) full_text text miss)
    → IfErr result (MissesText words text) → IfErr result (Misses (IsOfKind asked) full_text text)
fixed_missed k asked words text (Ok found) is law missed = tt
fixed_missed k asked words text (Err miss) is law missed = subst (λ a. Misses (IsOfKind a) full_text text miss) (sym is) (law miss missed)

pub returns-in-Header-clause-found : goal.returns-in-Header-clause-found
returns-in-Header-clause-found c = fixed_found kind.Header c.args.kind header read.Header c.args.text.now c.fixed.result c.in-Header.is (record { spelled = tt; kind_is = refl }) refl c.fixed.ensures.same c.fixed.ensures.found

pub returns-in-Header-clause-missed : goal.returns-in-Header-clause-missed
returns-in-Header-clause-missed c = fixed_missed kind.Header c.args.kind (full_text header) c.args.text.now c.fixed.result c.in-Header.is (header_missed c.args.text.now) c.fixed.ensures.missed

pub returns-in-Done-clause-found : goal.returns-in-Done-clause-found
returns-in-Done-clause-found c = fixed_found kind.Done c.args.kind verdict_done read.Done c.args.text.now c.fixed-in-Done.result c.in-Done.is (record { spelled = tt; kind_is = refl }) refl c.fixed-in-Done.ensures.same c.fixed-in-Done.ensures.found

pub returns-in-Done-clause-missed : goal.returns-in-Done-clause-missed
returns-in-Done-clause-missed c = fixed_missed kind.Done c.args.kind (full_text verdict_done) c.args.text.now c.fixed-in-Done.result c.in-Done.is (done_missed c.args.text.now) c.fixed-in-Done.ensures.missed

pub returns-in-Impossible-clause-found : goal.returns-in-Impossible-clause-found
returns-in-Impossible-clause-found c = fixed_found kind.Impossible c.args.kind verdict_impossible read.Impossible c.args.text.now c.fixed-in-Impossible.result c.in-Impossible.is (record { spelled = tt; kind_is = refl }) refl c.fixed-in-Impossible.ensures.same c.fixed-in-Impossible.ensures.found

pub returns-in-Impossible-clause-missed : goal.returns-in-Impossible-clause-missed
returns-in-Impossible-clause-missed c = fixed_missed kind.Impossible c.args.kind (full_text verdict_impossible) c.args.text.now c.fixed-in-Impossible.result c.in-Impossible.is (impossible_missed c.args.text.now) c.fixed-in-Impossible.ensures.missed

pub returns-in-Spent-clause-found : goal.returns-in-Spent-clause-found
returns-in-Spent-clause-found c = fixed_found kind.Spent c.args.kind verdict_spent read.Spent c.args.text.now c.fixed-in-Spent.result c.in-Spent.is (record { spelled = tt; kind_is = refl }) refl c.fixed-in-Spent.ensures.same c.fixed-in-Spent.ensures.found

pub returns-in-Spent-clause-missed : goal.returns-in-Spent-clause-missed
returns-in-Spent-clause-missed c = fixed_missed kind.Spent c.args.kind (full_text verdict_spent) c.args.text.now c.fixed-in-Spent.result c.in-Spent.is (spent_missed c.args.text.now) c.fixed-in-Spent.ensures.missed

pub returns-in-BestNone-clause-found : goal.returns-in-BestNone-clause-found
returns-in-BestNone-clause-found c = fixed_found kind.BestNone c.args.kind best_none read.BestNone c.args.text.now c.fixed-in-BestNone.result c.in-BestNone.is (record { spelled = tt; kind_is = refl }) refl c.fixed-in-BestNone.ensures.same c.fixed-in-BestNone.ensures.found

pub returns-in-BestNone-clause-missed : goal.returns-in-BestNone-clause-missed
returns-in-BestNone-clause-missed c = fixed_missed kind.BestNone c.args.kind (full_text best_none) c.args.text.now c.fixed-in-BestNone.result c.in-BestNone.is (best_none_missed c.args.text.now) c.fixed-in-BestNone.ensures.missed

pub returns-in-SmallerNone-clause-found : goal.returns-in-SmallerNone-clause-found
returns-in-SmallerNone-clause-found c = fixed_found kind.SmallerNone c.args.kind smaller_none read.SmallerNone c.args.text.now c.fixed-in-SmallerNone.result c.in-SmallerNone.is (record { spelled = tt; kind_is = refl }) refl c.fixed-in-SmallerNone.ensures.same c.fixed-in-SmallerNone.ensures.found

pub returns-in-SmallerNone-clause-missed : goal.returns-in-SmallerNone-clause-missed
returns-in-SmallerNone-clause-missed c = fixed_missed kind.SmallerNone c.args.kind (full_text smaller_none) c.args.text.now c.fixed-in-SmallerNone.result c.in-SmallerNone.is (smaller_none_missed c.args.text.now) c.fixed-in-SmallerNone.ensures.missed

pub returns-in-End-clause-found : goal.returns-in-End-clause-found
returns-in-End-clause-found c = fixed_found kind.End c.args.kind end_line read.End c.args.text.now c.fixed-in-End.result c.in-End.is (record { spelled = tt; kind_is = refl }) refl c.fixed-in-End.ensures.same c.fixed-in-End.ensures.found

pub returns-in-End-clause-missed : goal.returns-in-End-clause-missed
returns-in-End-clause-missed c = fixed_missed kind.End c.args.kind (full_text end_line) c.args.text.now c.fixed-in-End.result c.in-End.is (end_missed c.args.text.now) c.fixed-in-End.ensures.missed
