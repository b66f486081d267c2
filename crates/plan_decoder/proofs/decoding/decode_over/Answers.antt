-- What the laws say of what `decode_over` gives.
use Rattle.std.proofs.Common.{◌∙◌}
use Rattle.clause_encoder.specs.TableLists.{tables_of}
use Rattle.plan_laws.specs.Laws.{TellsChains}
use Rattle.plan_decoder.proofs.PlanLemmas.{borders_are, chains_of, few_borders, inside_of, numbers_for_each, size_of, tells}
use Rattle.plan_decoder.proofs.decoding.decode_over.Goals as goal

pub plan_of-requires-clause-numbers_for_each : goal.plan_of-requires-clause-numbers_for_each
plan_of-requires-clause-numbers_for_each g c =
    let tables = tables_of g.M.Moves.table c.args.inst.now c.args.tables.now in
    let values = c.args.valuation.now.values in
    let told : TellsChains values c.args.inst.now tables = tells values c.args.inst.now tables (λ gaps. c.valuations_tell_chains.ensures.free values c.args.inst.now gaps tables) (λ gaps layout. c.valuations_tell_chains.ensures.given values c.args.inst.now gaps tables layout) c.parts-parts.ensures.rules (record { for_each = size_of g.M.Moves.table c.args.inst.now c.args.tables.now ∙ c.requires.for_each; each = c.know_tables.ensures.rules }) c.requires.satisfied in
    numbers_for_each values c.args.inst.now tables c.args.map.now.trains told c.requires.map.trains

pub plan_of-requires-clause-inside : goal.plan_of-requires-clause-inside
plan_of-requires-clause-inside g c =
    let tables = tables_of g.M.Moves.table c.args.inst.now c.args.tables.now in
    let values = c.args.valuation.now.values in
    let told : TellsChains values c.args.inst.now tables = tells values c.args.inst.now tables (λ gaps. c.valuations_tell_chains.ensures.free values c.args.inst.now gaps tables) (λ gaps layout. c.valuations_tell_chains.ensures.given values c.args.inst.now gaps tables layout) c.parts-parts.ensures.rules (record { for_each = size_of g.M.Moves.table c.args.inst.now c.args.tables.now ∙ c.requires.for_each; each = c.know_tables.ensures.rules }) c.requires.satisfied in
    inside_of values c.as_slice-values.result.now c.args.inst.now tables c.args.map.now.trains told c.as_slice-values.ensures c.requires.map.trains

pub returns-clause-chains : goal.returns-clause-chains
returns-clause-chains g c =
    let tables = tables_of g.M.Moves.table c.args.inst.now c.args.tables.now in
    let values = c.args.valuation.now.values in
    let told : TellsChains values c.args.inst.now tables = tells values c.args.inst.now tables (λ gaps. c.valuations_tell_chains.ensures.free values c.args.inst.now gaps tables) (λ gaps layout. c.valuations_tell_chains.ensures.given values c.args.inst.now gaps tables layout) c.parts-parts.ensures.rules (record { for_each = size_of g.M.Moves.table c.args.inst.now c.args.tables.now ∙ c.requires.for_each; each = c.know_tables.ensures.rules }) c.requires.satisfied in
    chains_of values c.as_slice-values.result.now c.args.inst.now tables c.args.map.now.trains c.in_ok-layout.layout c.in_ok-plan.plan told c.as_slice-values.ensures c.requires.map.trains c.in_ok-layout.ensures c.in_ok-plan.ensures

pub returns-clause-borders : goal.returns-clause-borders
returns-clause-borders g c b = borders_are c.args.valuation.now.values c.as_slice-values.result.now _ c.in_ok-layout.layout b c.as_slice-values.ensures c.in_ok-layout.ensures

pub returns-clause-count : goal.returns-clause-count
returns-clause-count g c most sat =
    let tables = tables_of g.M.Moves.table c.args.inst.now c.args.tables.now in
    few_borders c.args.valuation.now.values c.as_slice-values.result.now c.args.inst.now tables most c.in_ok-layout.layout (c.counts_bound_layouts.ensures c.args.valuation.now.values c.args.inst.now tables most) c.as_slice-values.ensures c.in_ok-layout.ensures sat
