-- The two nodes of a clause.
use Rattle.std.proofs.Common.{◌≡◌, ◌≢◌, ℕ, ◌+◌, ◌-◌, ◌*◌, ◌/◌, ◌%◌, ◌<◌, inl, inr, refl, ap, sym, ◌∙◌, arith}
use Rattle.std.proofs.lemmas.Bool.{cases_eq, eq-eqb}
use Rattle.watch_store.specs.Watching.{other_of}
use Rattle.watch_store.proofs.ChainLemmas.{apart-eqb}

pub other-within : (node count : ℕ) → node < 2 * count → other_of node < 2 * count
other-within node count within = elim (cases_eq (node % 2) 0) [
  | inl even ↦ rw (eq-eqb (node % 2) 0 even) (omega arith)
  | inr odd ↦ rw (apart-eqb (node % 2) 0 odd) (omega arith)
]

pub other-other : (node : ℕ) → other_of (other_of node) ≡ node
other-other node = elim (cases_eq (node % 2) 0) [
  | inl even ↦ rw (eq-eqb (node % 2) 0 even) (rw (apart-eqb ((node + 1) % 2) 0 (omega arith)) (omega arith))
  | inr odd ↦ rw (apart-eqb (node % 2) 0 odd) (rw (eq-eqb ((node - 1) % 2) 0 (omega arith)) (omega arith))
]

pub other-slot : (node : ℕ) → other_of node / 2 ≡ node / 2
other-slot node = elim (cases_eq (node % 2) 0) [
  | inl even ↦ rw (eq-eqb (node % 2) 0 even) (omega arith)
  | inr odd ↦ rw (apart-eqb (node % 2) 0 odd) (omega arith)
]

pub other-apart : (node : ℕ) → other_of node ≢ node
other-apart node = elim (cases_eq (node % 2) 0) [
  | inl even ↦ rw (eq-eqb (node % 2) 0 even) (λ same. omega arith)
  | inr odd ↦ rw (apart-eqb (node % 2) 0 odd) (λ same. omega arith)
]

pub other-even : (place : ℕ) → other_of (2 * place) ≡ 2 * place + 1
other-even place = rw (eq-eqb (2 * place % 2) 0 (omega arith)) refl

pub other-odd : (place : ℕ) → other_of (2 * place + 1) ≡ 2 * place
other-odd place = ap other_of (sym (other-even place)) ∙ other-other (2 * place)
