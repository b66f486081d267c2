-- A task has one list of clauses over its tables.
use Rattle.std.proofs.Common.{◌≡◌, ℕ, suc, ◌<◌, List, [], ◌∷◌, length, refl, ap, subst, arith}
use Rattle.std.specs.Prelude.{Contains}
use Rattle.std.specs.List.{AllZip, flat_map}
use Rattle.std.proofs.lemmas.List.{length-map}
use Rattle.sat_core.specs.declared.literal.Lit.{Lit}
use Rattle.cell_net.specs.declared.ids.CandidateId.{CandidateId}
use Rattle.cell_net.specs.declared.ids.CellId.{CellId}
use Rattle.cell_net.specs.declared.parts.InstanceParts.{InstanceParts}
use Rattle.gap_clauses.specs.Gaps.{AreCandidatesOf, AreGaps, AreGapsBetween, AreOfOneSection}
use Rattle.gap_clauses.specs.Walks.{Step}
use Rattle.gap_clauses.specs.Laws.{AreListedOnce}
use Rattle.sweep_table.specs.Tables.{Table}
use Rattle.clause_list.specs.BorderClauses.{border_on_walk, borders_between, borders_from, gap_clauses, given_clauses, kept_clauses}
use Rattle.clause_list.specs.Coding.{given_task, network_of, trains_of, walks_in}
use Rattle.clause_list.specs.Numbers.{above}
use Rattle.clause_list.specs.Ranges.{below, one_each}
use Rattle.clause_list.specs.WholeList.{plan_families, base_families, whole}
use Rattle.clause_list.proofs.BorderLaws.{above_member}
use Rattle.clause_list.proofs.ListLaws.{in_range_is}
use Rattle.clause_list.proofs.WalkLaws.{of_one_section}
use Rattle.clause_encoder.specs.Plans.{GapLists}
use Rattle.clause_encoder.specs.declared.task.Task.TheVariants.{Given, Free}
use Rattle.formula_laws.specs.Laws.{ClausesAreOne}
use Rattle.formula_laws.proofs.SameLists.{same_lists}

not_back : (b c : CandidateId) → b.0 < c.0 → ¬ (c.0 < b.0)
not_back b c forth back = omega arith

-- the candidates of one walk
one_walk : (p : InstanceParts) (walk : List Step) (one other : List CandidateId) → AreCandidatesOf p walk one → AreCandidatesOf p walk other → one ≡ other
one_walk p walk one other are also = same_lists (λ b c. b.0 < c.0) not_back one other are.rising also.rising (λ c. (λ has. (also.which c).1 ((are.which c).0 has), λ has. (are.which c).1 ((also.which c).0 has)))

-- the candidates of walks, walk by walk
one_by_one : (p : InstanceParts) (walks : List (List Step)) (one other : List (List CandidateId)) → AllZip (AreCandidatesOf p) walks one → AllZip (AreCandidatesOf p) walks other → one ≡ other
one_by_one p [] [] [] are also = refl
one_by_one p [] [] (y ∷ other) are also = absurd also
one_by_one p [] (x ∷ one) other are also = absurd are
one_by_one p (w ∷ walks) [] other are also = absurd are
one_by_one p (w ∷ walks) (x ∷ one) [] are also = absurd also
one_by_one p (w ∷ walks) (x ∷ one) (y ∷ other) are also =
    let head : x ≡ y = one_walk p w x y are.0 also.0 in
    let tail : one ≡ other = one_by_one p walks one other are.1 also.1 in
    cc

-- the walks of a pair are one list
abbrev pub WalksAreOne : InstanceParts → Type 0
WalksAreOne p = (e f : CellId) → AreListedOnce p e f

one_between : (p : InstanceParts) (e f : CellId) (one other : List (List CandidateId)) → WalksAreOne p → AreGapsBetween p e f one → AreGapsBetween p e f other → one ≡ other
one_between p e f one other listed are also =
    let walks : are.walks ≡ also.walks = listed e f are.walks also.walks are.are_walks also.are_walks in
    one_by_one p also.walks one other (subst (λ ws. AllZip (AreCandidatesOf p) ws one) walks are.are_theirs) also.are_theirs

-- the walks from a cell to one above it in its section
same_above : (p : InstanceParts) (one other : GapLists) → WalksAreOne p → AreGaps p one → AreGaps p other → (e f : ℕ) → e < length (network_of p).sections → Contains (above (network_of p) e) f → walks_in one e f ≡ walks_in other e f
same_above p one other listed are also e f within there =
    let (less, few, same) = above_member (network_of p) e f there in
    let count : length (network_of p).sections ≡ length p.cells = length-map p.cells (λ c. c.section.0) in
    let section : AreOfOneSection p (record { 0 = e }) (record { 0 = f }) = of_one_section p e f (omega arith) (omega arith) same in
    one_between p (record { 0 = e }) (record { 0 = f }) (walks_in one e f) (walks_in other e f) listed (are.between (record { 0 = e }) (record { 0 = f }) section) (also.between (record { 0 = e }) (record { 0 = f }) section)

-- functions that give the same for each item of a list
same_flat : {A : Type 0} (f g : ℕ → List A) (xs : List ℕ) → ((x : ℕ) → Contains xs x → f x ≡ g x) → flat_map f xs ≡ flat_map g xs
same_flat f g [] at = refl
same_flat f g (x ∷ xs) at =
    let head : f x ≡ g x = at x (0, omega arith, refl) in
    let tail : flat_map f xs ≡ flat_map g xs = same_flat f g xs (λ y there. at y (suc there.0, omega (arith, there.1), there.2)) in
    cc

same_gaps : (p : InstanceParts) (one other : GapLists) → WalksAreOne p → AreGaps p one → AreGaps p other → gap_clauses (walks_in one) (network_of p) ≡ gap_clauses (walks_in other) (network_of p)
unfolding gap_clauses borders_from borders_between
same_gaps p one other listed are also =
    same_flat (borders_from (walks_in one) (network_of p)) (borders_from (walks_in other) (network_of p)) (below (length (network_of p).sections)) (λ e there.
    same_flat (borders_between (walks_in one) (network_of p) e) (borders_between (walks_in other) (network_of p) e) (above (network_of p) e) (λ f up.
    ap (one_each (border_on_walk (network_of p) e f)) (same_above p one other listed are also e f (in_range_is 0 (length (network_of p).sections) e there).1 up)))

same_plan : (p : InstanceParts) (one other : GapLists) (tables : List Table) → WalksAreOne p → AreGaps p one → AreGaps p other
    → plan_families (walks_in one) (network_of p) tables (trains_of p tables) ≡ plan_families (walks_in other) (network_of p) tables (trains_of p tables)
same_plan p one other tables listed are also = let gaps : gap_clauses (walks_in one) (network_of p) ≡ gap_clauses (walks_in other) (network_of p) = same_gaps p one other listed are also in cc

same_base : (p : InstanceParts) (one other : GapLists) (tables : List Table) → WalksAreOne p → AreGaps p one → AreGaps p other
    → base_families (walks_in one) (network_of p) tables (trains_of p tables) ≡ base_families (walks_in other) (network_of p) tables (trains_of p tables)
same_base p one other tables listed are also = ap (λ (fs : List (List (List Lit))). kept_clauses (network_of p) ∷ fs) (same_plan p one other tables listed are also)

pub clauses_are_one : (p : InstanceParts) → WalksAreOne p → ClausesAreOne p
clauses_are_one p listed one other are also tables (Given layout) bound =
    let same : given_task p one tables layout ≡ given_task p other tables layout = ap (λ (fs : List (List (List Lit))). whole (given_clauses (network_of p) layout ∷ fs)) (same_plan p one other tables listed are also) in
    (same, same)
clauses_are_one p listed one other are also tables Free bound =
    let base : base_families (walks_in one) (network_of p) tables (trains_of p tables) ≡ base_families (walks_in other) (network_of p) tables (trains_of p tables) = same_base p one other tables listed are also in
    (cc, cc)
