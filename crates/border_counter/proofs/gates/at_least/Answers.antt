-- Why `at_least` does what its contract says.
use Rattle.std.proofs.Common.{◌≡◌, ◌≤◌, ℕ, ◌+◌, ◌-◌, ◌*◌, ◌/◌, ap, true, arith}
use Rattle.sat_core.specs.declared.literal.Lit.{Lit}
use Rattle.border_counter.specs.Counter.{at_least_var}
use Rattle.border_counter.proofs.SumLemmas.{half_product}
use Rattle.border_counter.proofs.gates.at_least.Goals as goal

computed : (first row place a b c d : ℕ) → 1 ≤ row → a ≡ row - 1 → b ≡ row → c ≡ first → d ≡ place - 1 → c + a * b / 2 + d ≡ at_least_var first row place
computed first row place a b c d some a_is b_is c_is d_is = rw (a_is, b_is, c_is, d_is) (ap (λ half. first + half + (place - 1)) (half_product row some))

pub overflow_cast-result : goal.overflow_cast-result
overflow_cast-result c =
    let number = computed c.args.first_var c.args.row c.args.place _ _ _ _ (omega arith) c.from.ensures c.from-2.ensures c.from-3.ensures c.from-4.ensures in
    let below = c.requires.within in
    omega (arith, number, below)

pub returns : goal.returns
returns c = ap (λ n. let lit : Lit = record { var = record { 0 = n }; positive = true } in lit) (computed c.args.first_var c.args.row c.args.place _ _ _ _ (omega arith) c.from.ensures c.from-2.ensures c.from-3.ensures c.from-4.ensures)
