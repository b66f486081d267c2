-- Where the values of each kind and of each train stand among those of a task.
use Rattle.std.proofs.Common.{◌≡◌, ℕ, zero, suc, ◌+◌, ◌<◌, Bool, List, [], ◌∷◌, length, map, ◌∙◌, arith, length-append}
use Rattle.std.proofs.lemmas.List.{length-map}
use Rattle.cell_net.specs.declared.ids.CandidateId.{CandidateId}
use Rattle.cell_net.specs.declared.parts.InstanceParts.{InstanceParts}
use Rattle.cell_net.specs.declared.trains.TrainSpec.{TrainSpec}
use Rattle.sweep_table.specs.Tables.{Table}
use Rattle.clause_list.specs.Ranges.{below}
use Rattle.clause_list.specs.Numbers.{CodedTrain, Network, above, gaps_below, behind_train}
use Rattle.clause_list.specs.Coding.{coded, coded_from, behind_all}
use Rattle.clause_list.specs.WholeList.{table_at, train_at}
use Rattle.clause_list.specs.Orders.{IsNumbered}
use Rattle.clause_list.proofs.ListLaws.{length-below}
use Rattle.clause_list.proofs.RowLaws.{length-rows}
use Rattle.plan_values.specs.Values.{ChainItems, chain_at, border_values, is_cut, gap_values, stands, train_values, values_of_trains}
use Rattle.plan_values.proofs.PartLaws.{IsPart, front_part, back_part, part_at}
use Rattle.plan_values.proofs.TrainMeaning.{length-train_values}
use Rattle.plan_values.proofs.Bordering.{sums_all_of}

pub length-border_values : (net : Network) (borders : List CandidateId) → length (border_values net borders) ≡ net.candidates
length-border_values net borders = length-map (below net.candidates) (stands borders) ∙ length-below net.candidates

pub length-gap_values : (walks : ℕ → ℕ → List (List CandidateId)) (net : Network) (borders : List CandidateId) → length (gap_values walks net borders) ≡ gaps_below net (length net.sections)
length-gap_values walks net borders = length-rows (is_cut walks borders) 0 (map (above net) (below (length net.sections))) ∙ sums_all_of (above net) (below (length net.sections))

-- the values of the train of a place
pub train_part : (p : InstanceParts) (values : List Bool) (first vars : ℕ) (tables : List Table) (specs : List TrainSpec) (chains : List ChainItems) (i : ℕ) → length tables ≡ length specs → length chains ≡ length specs → ((k : ℕ) → k < length specs → IsNumbered vars (train_at (coded_from p first tables specs) k)) → IsPart values first (values_of_trains tables (coded_from p first tables specs) chains) → i < length specs → IsPart values (train_at (coded_from p first tables specs) i).first (train_values (table_at tables i) (train_at (coded_from p first tables specs) i) (chain_at chains i).from (chain_at chains i).items)
train_part p values first vars [] [] chains i same alike numbered part within = absurd (omega arith)
train_part p values first vars [] (spec ∷ specs) chains i same alike numbered part within = absurd (omega arith)
train_part p values first vars (table ∷ tables) [] chains i same alike numbered part within = absurd (omega arith)
train_part p values first vars (table ∷ tables) (spec ∷ specs) [] i same alike numbered part within = absurd (omega arith)
train_part p values first vars (table ∷ tables) (spec ∷ specs) (c ∷ chains) zero same alike numbered part within =
    front_part values first (train_values table (coded p first table spec) c.from c.items) (values_of_trains tables (coded_from p (behind_train (coded p first table spec)) tables specs) chains) part
train_part p values first vars (table ∷ tables) (spec ∷ specs) (c ∷ chains) (suc i) same alike numbered part within =
    let a : CodedTrain = coded p first table spec in
    let these : List Bool = train_values table a c.from c.items in
    let others : List Bool = values_of_trains tables (coded_from p (behind_train a) tables specs) chains in
    let size : first + length these ≡ behind_train a = length-train_values table a c.from c.items vars (numbered 0 (omega arith)) in
    train_part p values (behind_train a) vars tables specs chains i (omega arith) (omega arith) (λ k inside. numbered (suc k) (omega arith)) (part_at values (first + length these) (behind_train a) others size (back_part values first these others part)) (omega arith)

-- all values of trains
pub length-values_of_trains : (p : InstanceParts) (first vars : ℕ) (tables : List Table) (specs : List TrainSpec) (chains : List ChainItems) → length tables ≡ length specs → length chains ≡ length specs → ((k : ℕ) → k < length specs → IsNumbered vars (train_at (coded_from p first tables specs) k)) → first + length (values_of_trains tables (coded_from p first tables specs) chains) ≡ behind_all first (coded_from p first tables specs)
length-values_of_trains p first vars [] [] chains same alike numbered = omega arith
length-values_of_trains p first vars [] (spec ∷ specs) chains same alike numbered = absurd (omega arith)
length-values_of_trains p first vars (table ∷ tables) [] chains same alike numbered = absurd (omega arith)
length-values_of_trains p first vars (table ∷ tables) (spec ∷ specs) [] same alike numbered = absurd (omega arith)
length-values_of_trains p first vars (table ∷ tables) (spec ∷ specs) (c ∷ chains) same alike numbered =
    let a : CodedTrain = coded p first table spec in
    let these : List Bool = train_values table a c.from c.items in
    let others : List Bool = values_of_trains tables (coded_from p (behind_train a) tables specs) chains in
    let size : first + length these ≡ behind_train a = length-train_values table a c.from c.items vars (numbered 0 (omega arith)) in
    let rest : behind_train a + length others ≡ behind_all (behind_train a) (coded_from p (behind_train a) tables specs) = length-values_of_trains p (behind_train a) vars tables specs chains (omega arith) (omega arith) (λ k inside. numbered (suc k) (omega arith)) in
    omega (arith, length-append these others)
