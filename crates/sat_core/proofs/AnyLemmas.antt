-- Where `Any` holds: at the first item or behind it, and among those that pass a test.
use Rattle.std.proofs.Common.{◌≡◌, zero, suc, Bool, true, false, cond, ◌⊎◌, inl, inr, List, [], ◌∷◌, refl, sym, subst, arith}
use Rattle.std.specs.Prelude.{Any, filter}

pub Any-none : {X : Type 0} (P : X → Type 0) → Any P [] → ⊥
Any-none P any = omega (arith, any.2)

pub Any-here : {X : Type 0} (P : X → Type 0) (x : X) (xs : List X) → P x → Any P (x ∷ xs)
Any-here P x xs holds = (0, x, omega arith, refl, holds)

pub Any-there : {X : Type 0} (P : X → Type 0) (x : X) (xs : List X) → Any P xs → Any P (x ∷ xs)
Any-there P x xs any = (suc any.0, any.1, omega (arith, any.2), any.3, any.4)

pub Any-cases : {X : Type 0} (P : X → Type 0) (x : X) (xs : List X) → Any P (x ∷ xs) → P x ⊎ Any P xs
Any-cases P x xs (zero, y, within, is, holds) = inl (subst P (sym is) holds)
Any-cases P x xs (suc k, y, within, is, holds) = inr (k, y, omega arith, is, holds)

pub Any-filter : {X : Type 0} (P : X → Type 0) (test : X → Bool) → ((x : X) → P x → test x ≡ true) → (xs : List X) → Any P xs → Any P (filter test xs)
Any-filter P test keeps [] any = any
Any-filter P test keeps (x ∷ xs) any = elim (Any-cases P x xs any) [
  | inl holds ↦ rw (keeps x holds) (Any-here P x (filter test xs) holds)
  | inr later ↦
      let rest : Any P (filter test xs) = Any-filter P test keeps xs later in
      elim (test x) as (λ b. Any P (cond b (x ∷ filter test xs) (filter test xs))) [ true ↦ Any-there P x (filter test xs) rest | false ↦ rest ]
]
