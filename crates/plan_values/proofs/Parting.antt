-- The runs of two trains that are apart touch no two cells without a border on each walk between them.
use Rattle.std.proofs.Common.{◌≡◌, ℕ, zero, suc, ◌-◌, ◌<◌, ◌≤◌, true, List, [], ◌∷◌, length, get_or, map, refl, sym, ap, ◌∙◌, subst, ⊎_elim, arith, Some}
use Rattle.std.specs.Prelude.{All, Contains, nat_eq, nat_le, nat_lt, max, min, slice_get, slice_index}
use Rattle.std.specs.List.{list_any}
use Rattle.std.proofs.lemmas.Bool.{cases_lt, leb-true, ltb-true}
use Rattle.std.proofs.lemmas.List.{get_or-map, length-map}
use Rattle.std.proofs.lemmas.List.Elements.{All-contains}
use Rattle.std.proofs.lemmas.List.Folds.{list_any-from_Any}
use Rattle.std.proofs.lemmas.Option.{slice_get-get_or}
use Rattle.cell_net.specs.Borders.{Linked}
use Rattle.cell_net.specs.Plans.{AreApart}
use Rattle.cell_net.specs.Runs.{IsSweepAt}
use Rattle.cell_net.specs.declared.cells.DirCell.{DirCell}
use Rattle.cell_net.specs.declared.ids.CandidateId.{CandidateId}
use Rattle.cell_net.specs.declared.ids.CellId.{CellId}
use Rattle.cell_net.specs.declared.parts.InstanceParts.{InstanceParts}
use Rattle.cell_net.specs.declared.plans.Sweep.{Sweep}
use Rattle.cell_net.specs.declared.plans.TrainRun.{TrainRun}
use Rattle.cell_net.proofs.LinkLaws.{Linked-refl, Linked-sym}
use Rattle.gap_clauses.specs.Gaps.{walks_of}
use Rattle.gap_clauses.specs.Laws.{CandidatesSeparate, HasBorder}
use Rattle.sweep_table.specs.declared.ids.SweepId.{SweepId}
use Rattle.sweep_table.specs.Tables.{Table, cells_of}
use Rattle.clause_list.specs.Coding.{network_of, walks_in}
use Rattle.clause_list.specs.Numbers.{is_same_section}
use Rattle.clause_list.proofs.ListLaws.{both_true, is_there}
use Rattle.clause_list.proofs.WalkLaws.{of_one_section}
use Rattle.clause_list.proofs.BorderLaws.{same_section_back}
use Rattle.plan_laws.specs.Chains.{sweep_of}
use Rattle.plan_values.specs.Values.{has_step, touched, touches, stands, is_cut}
use Rattle.plan_values.proofs.Choosing.{numbers_of, number_at, length-numbers, all_pass}
use Rattle.plan_values.proofs.Bordering.{KeepApart, border_stands}

abbrev cell_of : ℕ → CellId
cell_of e = record { 0 = e }

no_id : SweepId
no_id = record { 0 = 0 }

touched_by : (cells : List DirCell) (e : ℕ) → Contains (map (λ d. d.cell.0) cells) e → (d : DirCell) × Contains cells d × (d.cell.0 ≡ e)
touched_by [] e (k, within, same) = absurd (omega arith)
touched_by (d ∷ cells) e (zero, within, same) = (d, (0, omega arith, refl), same)
touched_by (d ∷ cells) e (suc k, within, same) = let (c, (i, inside, at), is) = touched_by cells e (k, omega arith, same) in (c, (suc i, omega arith, at), is)

-- what a run touches at a step
record Touching (r : TrainRun) (t e : ℕ) : Type 0 where
  sweep : Sweep
  is_there : IsSweepAt r t sweep
  directed : DirCell
  inside : Contains sweep.cells directed
  is : directed.cell.0 ≡ e

touching_of : (table : Table) (r : TrainRun) (ids : List SweepId) (t e : ℕ) → r.sweeps ≡ map (sweep_of table) ids → touches table r.start (numbers_of ids) t e ≡ true → Touching r t e
touching_of table r ids t e sweeps holds =
    let (step, found) = both_true (has_step r.start (numbers_of ids) t) (list_any (nat_eq e) (touched table (slice_index (numbers_of ids) (t - r.start)))) holds in
    let (begun, there) = both_true (nat_le r.start t) (nat_lt (t - r.start) (length (numbers_of ids))) step in
    let start : r.start ≤ t = leb-true r.start t begun in
    let within : t - r.start < length (numbers_of ids) = ltb-true (t - r.start) (length (numbers_of ids)) there in
    let few : t - r.start < length ids = omega (arith, length-numbers ids) in
    let v : SweepId = get_or ids (t - r.start) no_id in
    let number : get_or (numbers_of ids) (t - r.start) 0 ≡ v.0 = number_at ids (t - r.start) no_id few in
    let (d, inside, is) = touched_by (cells_of table v.0) e (is_there (touched table v.0) e (subst (λ n. list_any (nat_eq e) (touched table n) ≡ true) number found)) in
    let size : length (map (sweep_of table) ids) ≡ length ids = length-map ids (sweep_of table) in
    let at : slice_get (map (sweep_of table) ids) (t - r.start) ≡ Some (sweep_of table v) = slice_get-get_or (map (sweep_of table) ids) (t - r.start) (sweep_of table v) (omega arith) ∙ ap Some (get_or-map (sweep_of table) ids (t - r.start) no_id (sweep_of table v) few) in
    record {
      sweep = sweep_of table v;
      is_there = record { begun = start; is_there = ap (λ xs. slice_get xs (t - r.start)) sweeps ∙ at };
      directed = d;
      inside = inside;
      is = is;
    }

-- so two cells that both touch at a step are not linked
not_linked : (p : InstanceParts) (borders : List CandidateId) (r s : TrainRun) (t e f : ℕ) → AreApart p borders r s → Touching r t e → Touching s t f → ¬ Linked p borders (cell_of e) (cell_of f)
not_linked p borders r s t e f apart one other linked =
    apart t one.sweep other.sweep one.is_there other.is_there one.directed other.directed one.inside other.inside
    (subst (λ n. Linked p borders (cell_of n) other.directed.cell) (sym one.is) (subst (λ n. Linked p borders (cell_of e) (cell_of n)) (sym other.is) linked))

-- two cells of a section that are not linked have a border on each walk between them
cut_between : (p : InstanceParts) (borders : List CandidateId) (gaps : List (List (List (List CandidateId)))) (e f : ℕ) → CandidatesSeparate p borders gaps → e < length p.cells → f < length p.cells → is_same_section (network_of p) e f ≡ true → ¬ Linked p borders (cell_of e) (cell_of f) → is_cut (walks_in gaps) borders e f ≡ true
cut_between p borders gaps e f law within within_too same apart =
    let all : All (HasBorder borders) (walks_of gaps (cell_of e) (cell_of f)) = (law (cell_of e) (cell_of f) (of_one_section p e f within within_too same)).0 apart in
    all_pass (λ (walk : List CandidateId). list_any (λ c. stands borders c.0) walk) (walks_in gaps e f) (λ walk on.
    let (k, c, few, is, standing) = All-contains (HasBorder borders) (walks_in gaps e f) walk all on in
    list_any-from_Any (λ c. stands borders c.0) walk (k, c, few, is, border_stands borders c standing))

pub keep_apart : (p : InstanceParts) (borders : List CandidateId) (gaps : List (List (List (List CandidateId)))) (one_table other_table : Table) (r s : TrainRun) (one other : List SweepId) → CandidatesSeparate p borders gaps → AreApart p borders r s → r.sweeps ≡ map (sweep_of one_table) one → s.sweeps ≡ map (sweep_of other_table) other → KeepApart (walks_in gaps) (network_of p) borders (touches one_table r.start (numbers_of one)) (touches other_table s.start (numbers_of other))
keep_apart p borders gaps one_table other_table r s one other law apart sweeps sweeps_too = record {
  differ = λ t e touched touched_too. not_linked p borders r s t e e apart (touching_of one_table r one t e sweeps touched) (touching_of other_table s other t e sweeps_too touched_too) (Linked-refl p borders (cell_of e));
  cut = λ t e f within within_too same differ touched touched_too.
      let size : length (network_of p).sections ≡ length p.cells = length-map p.cells (λ c. c.section.0) in
      let free : ¬ Linked p borders (cell_of e) (cell_of f) = not_linked p borders r s t e f apart (touching_of one_table r one t e sweeps touched) (touching_of other_table s other t f sweeps_too touched_too) in
      ⊎_elim
      (λ less.
      let low : min e f ≡ e = omega arith in
      let high : max e f ≡ f = omega arith in
      rw (low, high) (cut_between p borders gaps e f law (omega arith) (omega arith) same free))
      (λ more.
      let low : min e f ≡ f = omega arith in
      let high : max e f ≡ e = omega arith in
      rw (low, high) (cut_between p borders gaps f e law (omega arith) (omega arith) (same_section_back (network_of p) e f same) (λ linked. free (Linked-sym p borders (cell_of f) (cell_of e) linked))))
      (cases_lt e f);
}
