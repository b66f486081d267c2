-- The candidates on an instance's walks are candidates of its network, and rise.
use Rattle.std.proofs.Common.{◌≡◌, ℕ, zero, suc, ◌<◌, true, List, [], ◌∷◌, length, get_or, refl, sym, ◌∙◌, arith}
use Rattle.std.specs.List.{AllZip}
use Rattle.gap_clauses.specs.Walks.{Step}
use Rattle.std.specs.Prelude.{Contains, slice_index}
use Rattle.std.proofs.lemmas.List.{length-map, get_or-map}
use Rattle.std.proofs.lemmas.List.Elements.{Contains-get_or}
use Rattle.std.proofs.lemmas.Option.{slice_get-get_or, slice_get_within}
use Rattle.cell_net.specs.declared.ids.CandidateId.{CandidateId}
use Rattle.cell_net.specs.declared.cells.CellSpec.{CellSpec}
use Rattle.cell_net.specs.declared.parts.InstanceParts.{InstanceParts}
use Rattle.gap_clauses.specs.Gaps.{AreOfOneSection, AreCandidatesOf, AreGaps}
use Rattle.clause_list.specs.Numbers.{is_same_section, above}
use Rattle.clause_list.specs.Coding.{network_of, walks_in}
use Rattle.clause_list.specs.Orders.{AreOver, AreWalksOver}
use Rattle.clause_list.proofs.ListLaws.{same_number}
use Rattle.clause_list.proofs.BorderLaws.{above_member}

section_at : (p : InstanceParts) (e : ℕ) (d : CellSpec) → e < length p.cells → slice_index (network_of p).sections e ≡ (get_or p.cells e d).section.0
section_at p e d within = get_or-map (λ c. c.section.0) p.cells e d 0 within

-- two cells whose sections are one number are of one section
pub of_one_section : (p : InstanceParts) (e f : ℕ) → e < length p.cells → f < length p.cells → is_same_section (network_of p) e f ≡ true → AreOfOneSection p (record { 0 = e }) (record { 0 = f })
of_one_section p e f within within_too same =
    let d : CellSpec = record { low = record { 0 = 0 }; high = record { 0 = 0 }; section = record { 0 = 0 }; limit = 0 } in
    let alike : slice_index (network_of p).sections e ≡ slice_index (network_of p).sections f = same_number (slice_index (network_of p).sections e) (slice_index (network_of p).sections f) same in
    record {
      section = (get_or p.cells e d).section.0;
      one = record { cell = get_or p.cells e d; is = slice_get-get_or p.cells e d within; of_section = refl };
      other = record { cell = get_or p.cells f d; is = slice_get-get_or p.cells f d within_too; of_section = sym (section_at p f d within_too) ∙ (sym alike ∙ section_at p e d within) };
    }

candidates_over : (p : InstanceParts) (walk : List Step) (candidates : List CandidateId) → AreCandidatesOf p walk candidates → AreOver (network_of p) candidates
candidates_over p walk candidates are k d within =
    let c : CandidateId = get_or candidates k d in
    let (i, s, inside, is, at) = (are.which c).0 (Contains-get_or candidates k d within) in
    slice_get_within p.candidates c.0 s.node at

-- of two lists that go together, what goes with an item of the other
zip_other : {A B : Type 0} (R : A → B → Type 0) (xs : List A) (ys : List B) (k : ℕ) (d : B) → AllZip R xs ys → k < length ys → (x : A) × R x (get_or ys k d)
zip_other R [] [] k d all within = absurd (omega arith)
zip_other R [] (y ∷ ys) k d all within = absurd all
zip_other R (x ∷ xs) [] k d all within = absurd all
zip_other R (x ∷ xs) (y ∷ ys) zero d all within = (x, all.0)
zip_other R (x ∷ xs) (y ∷ ys) (suc k) d all within = zip_other R xs ys k d all.1 (omega arith)

on_walk : (p : InstanceParts) (gaps : List (List (List (List CandidateId)))) → AreGaps p gaps → (e f : ℕ) → e < length (network_of p).sections → Contains (above (network_of p) e) f → (k : ℕ) (d : List CandidateId) → k < length (walks_in gaps e f) → (walk : List Step) × AreCandidatesOf p walk (get_or (walks_in gaps e f) k d)
on_walk p gaps are e f within above_it k d inside =
    let (less, few, same) = above_member (network_of p) e f above_it in
    let count : length (network_of p).sections ≡ length p.cells = length-map p.cells (λ c. c.section.0) in
    let between = are.between (record { 0 = e }) (record { 0 = f }) (of_one_section p e f (omega arith) (omega arith) same) in
    zip_other (AreCandidatesOf p) between.walks (walks_in gaps e f) k d between.are_theirs inside

-- the candidates on the walks between two cells of a section
pub walks_are_over : (p : InstanceParts) (gaps : List (List (List (List CandidateId)))) → AreGaps p gaps → AreWalksOver (network_of p) (walks_in gaps)
walks_are_over p gaps are = record {
  over = λ e f within above_it k d inside.
      let (walk, theirs) = on_walk p gaps are e f within above_it k d inside in
      candidates_over p walk (get_or (walks_in gaps e f) k d) theirs;
  rise = λ e f within above_it k d inside.
      let (walk, theirs) = on_walk p gaps are e f within above_it k d inside in
      theirs.rising;
}
