-- The pieces of a line make its text.
use Rattle.std.proofs.Common.{◌≡◌, ℕ, List, [], ◌∷◌, ◌++◌, Result, ap, subst, ◌∙◌, append_assoc, codes}
use Rattle.std.proofs.lemmas.List.{append-nil}
use Rattle.vss_io.specs.Shown.{Output}
use Rattle.vss_io.specs.Written.{Prints}
use Rattle.vss_io.specs.Line.{flat, line}

-- what was printed as one text was printed as another that is the same
pub prints_same : {T E : Type 0} (before now : Output) (t u : List ℕ) (r : Result T E) → t ≡ u → Prints before now t r → Prints before now u r
prints_same before now t u r e h = subst (λ (x : List ℕ). Prints before now x r) e h

-- the pieces of one text among others
flat_inner : (x y z e rest : List ℕ) → flat (x ∷ y ∷ z ∷ []) ≡ e → x ++ (y ++ (z ++ rest)) ≡ e ++ rest
flat_inner x y z e rest made =
    subst (λ (t : List ℕ). x ++ (y ++ (z ++ rest)) ≡ t ++ rest) made (simp (append_assoc, append-nil))

-- the line of two trains that aren't apart, from the pieces of the two cells' names
pub apart_line : (a b step x y z u v w e f : List ℕ) → flat (x ∷ y ∷ z ∷ []) ≡ e → flat (u ∷ v ∷ w ∷ []) ≡ f
    → line (flat (codes "breach apart " ∷ a ∷ codes " " ∷ b ∷ codes " " ∷ step ∷ codes " " ∷ x ∷ y ∷ z ∷ codes " " ∷ u ∷ v ∷ w ∷ []))
    ≡ line (flat (codes "breach apart " ∷ a ∷ codes " " ∷ b ∷ codes " " ∷ step ∷ codes " " ∷ e ∷ codes " " ∷ f ∷ []))
apart_line a b step x y z u v w e f made also =
    let cells : x ++ (y ++ (z ++ 32 ∷ (u ++ (v ++ (w ++ []))))) ≡ e ++ 32 ∷ (f ++ []) =
    flat_inner x y z e (32 ∷ (u ++ (v ++ (w ++ [])))) made ∙ ap (λ (rest : List ℕ). e ++ 32 ∷ rest) (flat_inner u v w f [] also) in
    ap (λ (rest : List ℕ). line (codes "breach apart " ++ (a ++ 32 ∷ (b ++ 32 ∷ (step ++ 32 ∷ rest))))) cells
