-- The clause of a walk, and the walks between two cells.
use Rattle.std.proofs.Common.{◌≡◌, ℕ, ◌+◌, ◌<◌, ◌≤◌, List, [], ◌∷◌, ◌++◌, length, get_or, take, map, sym, ap, ◌∙◌, subst, arith}
use Rattle.std.specs.Prelude.{All, Contains, slice_index}
use Rattle.std.proofs.lemmas.Grind.{get_or_default_zero}
use Rattle.std.proofs.lemmas.List.{length-map, map-append, take_more}
use Rattle.sat_core.specs.declared.literal.Lit.{Lit}
use Rattle.cell_net.specs.declared.ids.CandidateId.{CandidateId}
use Rattle.clause_list.specs.Numbers.{Network, above, is_not}
use Rattle.clause_list.specs.Orders.{AreWalksOver}
use Rattle.clause_encoder.specs.Writing.{literal_count}
use Rattle.clause_encoder.specs.PairFitting.{IsAbove}
use Rattle.clause_encoder.specs.WalkFitting.{AreFew, border_lit, on_walk, on_walk_alone}
use Rattle.clause_encoder.proofs.NetworkLemmas.{above_members}
use Rattle.clause_encoder.proofs.WritingLemmas.{takes_one}

-- one border more in the clause of a walk
pub border_more : (number : ℕ) (walk : List CandidateId) (i : ℕ) (d : CandidateId) (old new : List Lit) (lit : Lit) → old ≡ on_walk number (take i walk) → new ≡ old ++ lit ∷ [] → lit ≡ border_lit (get_or walk i d) → i < length walk → new ≡ on_walk number (take (i + 1) walk)
unfolding on_walk
border_more number walk i d old new lit before this is within =
    let all : map border_lit (take (i + 1) walk) ≡ map border_lit (take i walk) ++ border_lit (get_or walk i d) ∷ [] = ap (map border_lit) (take_more walk i d within) ∙ map-append border_lit (take i walk) (get_or walk i d ∷ []) in
    this ∙ (ap (λ lits. lits ++ lit ∷ []) before ∙ (ap (λ l. is_not number ∷ (map border_lit (take i walk) ++ l ∷ [])) is ∙ ap (λ lits. is_not number ∷ lits) (sym all)))

-- how many literals the clause of a walk has
pub walk_literals : (number : ℕ) (walk : List CandidateId) → literal_count (on_walk_alone number walk) ≡ length walk + 1
unfolding on_walk
walk_literals number walk = takes_one (on_walk number walk) ∙ omega (arith, length-map walk border_lit)

-- the candidates on the walks between a cell and one above it
pub few_on_walks : (net : Network) (walks : ℕ → ℕ → List (List CandidateId)) (e f place : ℕ) → AreWalksOver net walks → net.candidates ≤ 512 → e < length net.sections → place < length (above net e) → slice_index (above net e) place ≡ f → All AreFew (walks e f)
few_on_walks net walks e f place over few within inside same k d on i c there =
    let here : Contains (above net e) f = (place, inside, get_or_default_zero (above net e) place f inside ∙ same) in
    let less : (get_or (get_or (walks e f) k d) i c).0 < net.candidates = over.over e f within here k d on i c there in
    omega arith

-- the cell of a place above another
pub is_above_at : (net : Network) (e f place : ℕ) → place < length (above net e) → slice_index (above net e) place ≡ f → IsAbove net e f
is_above_at net e f place inside same = subst (IsAbove net e) same (above_members net e place 0 inside)
