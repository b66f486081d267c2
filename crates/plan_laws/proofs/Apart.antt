-- What two trains touch at a step is separated by the borders that stand.
use Rattle.std.proofs.Common.{◌≡◌, ◌≢◌, ℕ, zero, suc, ◌+◌, ◌<◌, ◌≤◌, Bool, true, List, [], ◌∷◌, length, get_or, map, refl, sym, ap, ◌∙◌, subst, ⊎_elim, arith, Some}
use Rattle.std.specs.Prelude.{Contains, ◌&&◌, nat_eq, nat_lt, not, min, max, slice_get}
use Rattle.std.specs.List.{AllZip}
use Rattle.std.proofs.lemmas.Bool.{false≢true, eq-eqb, lt-ltb, cases_lt}
use Rattle.std.proofs.lemmas.Bool.Decides.{eqb_tells}
use Rattle.std.proofs.lemmas.List.{get_or-map, length-map, get_or_past}
use Rattle.std.proofs.lemmas.List.Elements.{All-contains, Contains-get_or}
use Rattle.std.proofs.lemmas.Option.{same_Some, slice_get_within, slice_get-get_or, get_or_from_slice_get}
use Rattle.sat_core.specs.Clauses.{Satisfies, SatisfiesAll}
use Rattle.node_groups.proofs.ReachLaws.{Reaches-keeps}
use Rattle.cell_net.specs.Borders.{IsInSection, Linked, Meet}
use Rattle.cell_net.specs.Space.{IsCell}
use Rattle.cell_net.specs.declared.cells.CellSpec.{CellSpec}
use Rattle.cell_net.specs.declared.cells.DirCell.{DirCell}
use Rattle.cell_net.specs.declared.ids.CandidateId.{CandidateId}
use Rattle.cell_net.specs.declared.ids.CellId.{CellId}
use Rattle.cell_net.specs.declared.ids.SectionId.{SectionId}
use Rattle.cell_net.specs.declared.parts.InstanceParts.{InstanceParts}
use Rattle.cell_net.proofs.LinkLaws.{Linked-sym}
use Rattle.gap_clauses.specs.Gaps.{AreCandidatesOf, AreGaps, AreOfOneSection, walks_of}
use Rattle.gap_clauses.specs.Laws.{CandidatesSeparate}
use Rattle.sweep_table.specs.Tables.{Table, IsTable, cells_of}
use Rattle.clause_list.specs.Ranges.{below}
use Rattle.clause_list.specs.Coding.{network_of, walks_in}
use Rattle.clause_list.specs.Numbers.{CodedTrain, Network, is, is_not, cone, sweep, touch, section_of, is_same_section, above, gap, border}
use Rattle.clause_list.specs.RunClauses.{where_, touching, touches_of, touches_at, touch_clauses}
use Rattle.clause_list.specs.PairClauses.{apart, apart_from, apart_at, apart_clauses}
use Rattle.clause_list.specs.BorderClauses.{border_on_walk, borders_between, borders_from, gap_clauses}
use Rattle.clause_list.specs.Values.{value}
use Rattle.clause_list.proofs.ListLaws.{filter_keeps, in_range}
use Rattle.clause_list.proofs.ReadingLaws.{sat_head, sat_each, sat_range, sat_any, sat_where, sat_implies, sat_rest, true_value}
use Rattle.plan_laws.specs.Telling.{told_layout}
use Rattle.plan_laws.proofs.Following.{IsThere}
use Rattle.plan_laws.proofs.LayoutLaws.{layout_has}

-- an item that is there touches its cells
pub touch_says : (values : List Bool) (table : Table) (a : CodedTrain) (t w : ℕ) (d : DirCell) → SatisfiesAll values (touch_clauses table a) → a.start ≤ t → t ≤ a.by → IsThere values a t w → Contains (cells_of table w) d → value values (touch a t d.cell.0) ≡ true
unfolding touch_clauses touches_at touches_of touching
touch_says values table a t w d all h k there touched =
    sat_implies values (sweep a t w) (touch a t d.cell.0) (sat_head values (touching a t w d) [] (sat_each values (λ f. touching a t w f ∷ []) (cells_of table w) d (sat_each values (touches_of table a t) (cone a t) w (sat_range values (touches_at table a) a.start (a.by + 1) t all h (omega arith)) there.in_cone) touched)) there.is_true

-- cells of one section that two trains touch at a step are two, with a gap between them
apart_says : (values : List Bool) (net : Network) (a b : CodedTrain) (t e f : ℕ) → SatisfiesAll values (apart_clauses net a b) → a.start ≤ t → t ≤ a.by → b.start ≤ t → t ≤ b.by → e < length net.sections → Contains (section_of net e) f → value values (touch a t e) ≡ true → value values (touch b t f) ≡ true → (e ≢ f) × (value values (gap net (min e f) (max e f)) ≡ true)
unfolding apart_clauses apart_at apart_from apart
apart_says values net a b t e f all h k m n inside same one other =
    let clause : Satisfies values (apart net a b t e f) = sat_head values (apart net a b t e f) [] (sat_each values (λ g. apart net a b t e g ∷ []) (section_of net e) f (sat_range values (apart_from net a b t) 0 (length net.sections) e (sat_range values (apart_at net a b) (max a.start b.start) (min a.by b.by + 1) t all (omega arith) (omega arith)) (omega arith) inside) same) in
    let rest = sat_rest values (touch b t f) (where_ (not (nat_eq e f)) (is (gap net (min e f) (max e f)))) (sat_rest values (touch a t e) (is_not (touch b t f) ∷ where_ (not (nat_eq e f)) (is (gap net (min e f) (max e f)))) clause one) other in
    let (differ, holds) = sat_where values (not (nat_eq e f)) (is (gap net (min e f) (max e f))) rest in
    (λ is_same. ⊎_elim (λ y. false≢true (sym (ap not y.0) ∙ differ)) (λ y. y.1 is_same) (eqb_tells e f), true_value values (gap net (min e f) (max e f)) holds)

-- a gap has a border on each walk
gap_says : (values : List Bool) (walks : ℕ → ℕ → List (List CandidateId)) (net : Network) (e f : ℕ) (walk : List CandidateId) → SatisfiesAll values (gap_clauses walks net) → e < length net.sections → Contains (above net e) f → Contains (walks e f) walk → value values (gap net e f) ≡ true → (c : CandidateId) × Contains walk c × (value values (border c.0) ≡ true)
unfolding gap_clauses borders_from borders_between border_on_walk
gap_says values walks net e f walk all inside higher on holds =
    let clause : Satisfies values (border_on_walk net e f walk) = sat_head values (border_on_walk net e f walk) [] (sat_each values (λ u. border_on_walk net e f u ∷ []) (walks e f) walk (sat_each values (borders_between walks net e) (above net e) f (sat_range values (borders_from walks net) 0 (length net.sections) e all (omega arith) inside) higher) on) in
    sat_any values (λ (c : CandidateId). border c.0) walk (sat_rest values (gap net e f) (map (λ (c : CandidateId). is (border c.0)) walk) clause holds)

-- the section of a cell, by its number
section_is : (p : InstanceParts) (e : CellId) (cell : CellSpec) → slice_get p.cells e.0 ≡ Some cell → get_or (network_of p).sections e.0 0 ≡ cell.section.0
section_is p e cell is = get_or-map (λ (c : CellSpec). c.section.0) p.cells e.0 cell 0 (slice_get_within p.cells e.0 cell is) ∙ ap (λ (c : CellSpec). c.section.0) (get_or_from_slice_get p.cells e.0 cell cell is)

same_section : (p : InstanceParts) (e f : CellId) (section : ℕ) → IsInSection p section e → IsInSection p section f → is_same_section (network_of p) e.0 f.0 ≡ true
same_section p e f section in_e in_f = eq-eqb _ _ (section_is p e in_e.cell in_e.is ∙ in_e.of_section ∙ sym (section_is p f in_f.cell in_f.is ∙ in_f.of_section))

cells_are : (p : InstanceParts) (e : CellId) (cell : CellSpec) → slice_get p.cells e.0 ≡ Some cell → e.0 < length (network_of p).sections
cells_are p e cell is = subst (λ n. e.0 < n) (sym (length-map p.cells (λ (c : CellSpec). c.section.0))) (slice_get_within p.cells e.0 cell is)

-- two lists that agree item by item are as long, and agree at each place
pub zip_size : {A B : Type 0} (R : A → B → Type 0) (xs : List A) (ys : List B) → AllZip R xs ys → length xs ≡ length ys
zip_size R [] [] zip = refl
zip_size R [] (y ∷ ys) zip = absurd zip
zip_size R (x ∷ xs) [] zip = absurd zip
zip_size R (x ∷ xs) (y ∷ ys) zip = ap suc (zip_size R xs ys zip.1)

pub zip_at : {A B : Type 0} (R : A → B → Type 0) (xs : List A) (ys : List B) (k : ℕ) (d : A) (e : B) → AllZip R xs ys → k < length xs → R (get_or xs k d) (get_or ys k e)
zip_at R [] ys k d e zip within = absurd (omega arith)
zip_at R (x ∷ xs) [] k d e zip within = absurd zip
zip_at R (x ∷ xs) (y ∷ ys) zero d e zip within = zip.0
zip_at R (x ∷ xs) (y ∷ ys) (suc k) d e zip within = zip_at R xs ys k d e zip.1 (omega arith)

-- the candidates of a walk between two cells of a section are candidates
walk_candidates : (p : InstanceParts) (gaps : List (List (List (List CandidateId)))) (e f : CellId) (k : ℕ) (d : List CandidateId) (c : CandidateId) → AreGaps p gaps → AreOfOneSection p e f → k < length (walks_of gaps e f) → Contains (get_or (walks_of gaps e f) k d) c → c.0 < length p.candidates
walk_candidates p gaps e f k d c are both within there =
    let here = are.between e f both in
    let size : length here.walks ≡ length (walks_of gaps e f) = zip_size (AreCandidatesOf p) here.walks (walks_of gaps e f) here.are_theirs in
    let of_walk : AreCandidatesOf p (get_or here.walks k []) (get_or (walks_of gaps e f) k d) = zip_at (AreCandidatesOf p) here.walks (walks_of gaps e f) k [] d here.are_theirs (omega arith) in
    let (j, s, inside, at, is) = (of_walk.which c).0 there in
    slice_get_within p.candidates c.0 s.node is

-- a gap separates its cells
gap_separates : (values : List Bool) (p : InstanceParts) (gaps : List (List (List (List CandidateId)))) (e f : CellId) (section : ℕ) → CandidatesSeparate p (told_layout values (length p.candidates)) gaps → AreGaps p gaps → SatisfiesAll values (gap_clauses (walks_in gaps) (network_of p)) → IsInSection p section e → IsInSection p section f → e.0 < f.0 → value values (gap (network_of p) e.0 f.0) ≡ true → ¬ Linked p (told_layout values (length p.candidates)) e f
gap_separates values p gaps e f section law are all in_e in_f less holds =
    let both : AreOfOneSection p e f = record { section = section; one = in_e; other = in_f } in
    let here : e.0 < length (network_of p).sections = cells_are p e in_e.cell in_e.is in
    let there : f.0 < length (network_of p).sections = cells_are p f in_f.cell in_f.is in
    let test : (nat_lt e.0 f.0 && is_same_section (network_of p) e.0 f.0) ≡ true = rw (lt-ltb e.0 f.0 less, same_section p e f section in_e in_f) refl in
    let higher : Contains (above (network_of p) e.0) f.0 = filter_keeps (λ g. nat_lt e.0 g && is_same_section (network_of p) e.0 g) (below (length (network_of p).sections)) f.0 test (in_range 0 (length (network_of p).sections) f.0 (omega arith) there) in
    (law e f both).1 (λ k d within.
    let walk : List CandidateId = get_or (walks_of gaps e f) k d in
    let (c, (j, inside, same), stands) = gap_says values (walks_in gaps) (network_of p) e.0 f.0 walk all here higher (Contains-get_or (walks_of gaps e f) k d within) holds in
    (j, c, inside, same, (layout_has values (length p.candidates) c).1 (walk_candidates p gaps e f k d c are both within (j, inside, same), stands)))

-- what is linked with a cell is of its section
linked_section : (p : InstanceParts) (borders : List CandidateId) (section : ℕ) (e f : CellId) → IsInSection p section e → Linked p borders e f → IsInSection p section f
linked_section p borders section e f in_e linked = Reaches-keeps (Meet p borders) (IsInSection p section) step e f linked in_e
  where
    step : (x y : CellId) → Meet p borders x y → IsInSection p section x → IsInSection p section y
    step x y m in_x = record {
      cell = m.other;
      is = m.is_other;
      of_section =
          let same : in_x.cell ≡ m.one = same_Some in_x.cell m.one (sym in_x.is ∙ m.is_one) in
          ap (λ (s : SectionId). s.0) (sym m.one_section) ∙ ap (λ (c : CellSpec). c.section.0) (sym same) ∙ in_x.of_section;
    }

-- cells that two trains touch at a step are separated
pub touched_separated : (values : List Bool) (p : InstanceParts) (gaps : List (List (List (List CandidateId)))) (a b : CodedTrain) (t : ℕ) (e f : CellId) → CandidatesSeparate p (told_layout values (length p.candidates)) gaps → AreGaps p gaps → SatisfiesAll values (gap_clauses (walks_in gaps) (network_of p)) → SatisfiesAll values (apart_clauses (network_of p) a b) → a.start ≤ t → t ≤ a.by → b.start ≤ t → t ≤ b.by → IsCell p e → IsCell p f → value values (touch a t e.0) ≡ true → value values (touch b t f.0) ≡ true → ¬ Linked p (told_layout values (length p.candidates)) e f
touched_separated values p gaps a b t e f law are gap_all apart_all h k m n cell_e cell_f one other linked =
    let borders : List CandidateId = told_layout values (length p.candidates) in
    let d : CellSpec = get_or p.cells e.0 (record { low = record { 0 = 0 }; high = record { 0 = 0 }; section = record { 0 = 0 }; limit = 0 }) in
    let section : ℕ = d.section.0 in
    let in_e : IsInSection p section e = record { cell = d; is = slice_get-get_or p.cells e.0 _ cell_e; of_section = refl } in
    let in_f : IsInSection p section f = linked_section p borders section e f in_e linked in
    let same : Contains (section_of (network_of p) e.0) f.0 = filter_keeps (is_same_section (network_of p) e.0) (below (length (network_of p).sections)) f.0 (same_section p e f section in_e in_f) (in_range 0 (length (network_of p).sections) f.0 (omega arith) (cells_are p f in_f.cell in_f.is)) in
    let (differ, open_gap) = apart_says values (network_of p) a b t e.0 f.0 apart_all h k m n (cells_are p e in_e.cell in_e.is) same one other in
    ⊎_elim
    (λ less. let low : min e.0 f.0 ≡ e.0 = omega arith in let high : max e.0 f.0 ≡ f.0 = omega arith in
    gap_separates values p gaps e f section law are gap_all in_e in_f less (subst (λ u. value values (gap (network_of p) u f.0) ≡ true) low (subst (λ u. value values (gap (network_of p) (min e.0 f.0) u) ≡ true) high open_gap)) linked)
    (λ more. let less : f.0 < e.0 = omega (arith, differ) in let low : min e.0 f.0 ≡ f.0 = omega arith in let high : max e.0 f.0 ≡ e.0 = omega arith in
    gap_separates values p gaps f e section law are gap_all in_f in_e less (subst (λ u. value values (gap (network_of p) u e.0) ≡ true) low (subst (λ u. value values (gap (network_of p) (min e.0 f.0) u) ≡ true) high open_gap)) (Linked-sym p borders e f linked))
    (cases_lt e.0 f.0)

-- the cells of an item are cells of the instance
pub cells_of_item : (p : InstanceParts) (table : Table) (w : ℕ) (d : DirCell) → IsTable p table → Contains (cells_of table w) d → IsCell p d.cell
cells_of_item p table w d keeps_rules there = ⊎_elim
    (λ inside. All-contains (λ (c : DirCell). IsCell p c.cell) (cells_of table w) d (keeps_rules.cells w [] inside) there)
    (λ past. let none : cells_of table w ≡ [] = get_or_past table.cells w [] past in
    let (k, within, same) = subst (λ xs. Contains xs d) none there in absurd (omega arith))
    (cases_lt w (length table.cells))
