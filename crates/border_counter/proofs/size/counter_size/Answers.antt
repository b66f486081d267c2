-- Why `counter_size` does what its contract says.
use Rattle.std.proofs.Common.{◌≡◌, ℕ, ◌-◌, ◌^◌, refl, ap, ◌∙◌, arith}
use Rattle.border_counter.specs.Sizes.{counter_clause_count, counter_lit_count}
use Rattle.border_counter.proofs.SizeLemmas.{clause_count, lit_count, clauses_at, lits_at, square_le}
use Rattle.border_counter.proofs.size.counter_size.Goals as goal

none_at : (n : ℕ) → n ≡ 0 → counter_clause_count n ≡ 0
unfolding counter_clause_count
none_at n none = ap counter_clause_count none

no_lits_at : (n : ℕ) → n ≡ 0 → counter_lit_count n ≡ 0
unfolding counter_lit_count
no_lits_at n none = ap counter_lit_count none

pub returns-then-inputs-eq0 : goal.returns-then-inputs-eq0
returns-then-inputs-eq0 c = record {
  clauses = λ lits first. clause_count lits first c.args.inputs ∙ none_at c.args.inputs c.if-inputs-eq0.true;
  lits = λ lits first. lit_count lits first c.args.inputs ∙ no_lits_at c.args.inputs c.if-inputs-eq0.true;
}

pub overflow_mul-result-4 : goal.overflow_mul-result-4
overflow_mul-result-4 c = let most = square_le (c.from-count.result - 1) (2 ^ 30) (omega arith) in omega (arith, most)

pub overflow_add-result-2 : goal.overflow_add-result-2
overflow_add-result-2 c = let most = square_le (c.from-count.result - 1) (2 ^ 30) (omega arith) in omega (arith, most)

pub overflow_add-result-3 : goal.overflow_add-result-3
overflow_add-result-3 c = let most = square_le (c.from-count.result - 1) (2 ^ 30) (omega arith) in omega (arith, most)

pub overflow_add-result-4 : goal.overflow_add-result-4
overflow_add-result-4 c = let most = square_le (c.from-count.result - 1) (2 ^ 30) (omega arith) in omega (arith, most)

pub returns : goal.returns
returns c = record {
  clauses = λ lits first. clause_count lits first c.args.inputs ∙ clauses_at c.args.inputs c.from-count.result _ c.from-count.ensures refl;
  lits = λ lits first. lit_count lits first c.args.inputs ∙ lits_at c.args.inputs c.from-count.result _ c.if-inputs-eq0.false c.from-count.ensures refl;
}
