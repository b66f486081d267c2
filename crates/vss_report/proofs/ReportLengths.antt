-- A report has no more lines than bytes.
use Rattle.std.proofs.Common.{◌≤◌, ℕ, List, [], ◌∷◌, length, ap, arith, length-append}
use Rattle.vss_report.specs.Lines.{ReportLine, header, verdict_done, verdict_impossible, verdict_spent, conflicts, best_none, count, border, run, sweep, smaller_none, refutes, step, end_line, full_text, text_of_lines}
use Rattle.vss_report.specs.Refutations.{steps_of_lines, StatesRefutation}
use Rattle.vss_report.proofs.RefutationLemmas.{some_text}
use Rattle.derivation_log.specs.declared.step.Refutation.{Refutation}

few_lines : (lines : List ReportLine) → length lines ≤ length (text_of_lines lines)
few_lines [] = omega arith
few_lines (l ∷ lines) = omega (arith, few_lines lines, some_text l, length-append (full_text l) (text_of_lines lines))

few_steps : (lines : List ReportLine) → length (steps_of_lines lines) ≤ length lines
few_steps [] = omega arith
few_steps (header ∷ lines) = omega (arith, few_steps lines)
few_steps (verdict_done ∷ lines) = omega (arith, few_steps lines)
few_steps (verdict_impossible ∷ lines) = omega (arith, few_steps lines)
few_steps (verdict_spent ∷ lines) = omega (arith, few_steps lines)
few_steps (conflicts n ∷ lines) = omega (arith, few_steps lines)
few_steps (best_none ∷ lines) = omega (arith, few_steps lines)
few_steps (count n ∷ lines) = omega (arith, few_steps lines)
few_steps (border place ∷ lines) = omega (arith, few_steps lines)
few_steps (run train start ∷ lines) = omega (arith, few_steps lines)
few_steps (sweep cells ∷ lines) = omega (arith, few_steps lines)
few_steps (smaller_none ∷ lines) = omega (arith, few_steps lines)
few_steps (refutes bound ∷ lines) = omega (arith, few_steps lines)
few_steps (step s ∷ lines) = omega (arith, few_steps lines)
few_steps (end_line ∷ lines) = omega (arith, few_steps lines)

pub short_log : (bytes : List ℕ) (r : Refutation) (n : ℕ) → StatesRefutation bytes r n → length r.log.steps ≤ length bytes
short_log bytes r n states = omega (arith, ap length states.steps, few_steps states.report.lines, few_lines states.report.lines, ap length states.report.text)
