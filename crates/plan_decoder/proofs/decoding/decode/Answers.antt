-- Why what `decode` gives is lawful.
use Rattle.std.proofs.Common.{◌≡◌, ◌∙◌, sym, ap, subst, length}
use Rattle.std.specs.Prelude.{All, IfOk}
use Rattle.std.proofs.lemmas.Result.{IfOk-weaker}
use Rattle.cell_net.specs.Plans.{IsLawful}
use Rattle.sweep_table.specs.Parts.{table_of}
use Rattle.sweep_table.specs.Tables.{IsTable}
use Rattle.clause_encoder.specs.Maps.{IsMapOf}
use Rattle.clause_encoder.specs.TableLists.{tables_of}
use Rattle.plan_laws.specs.Chains.{AreChains}
use Rattle.plan_laws.specs.Telling.{told_plan}
use Rattle.plan_decoder.specs.Decoding.{kept_tables, sweep_table_on, SatisfiesCount, SatisfiesGiven, SatisfiesTask}
use Rattle.plan_decoder.proofs.KeptLemmas.{made_for_kept}
use Rattle.plan_decoder.proofs.decoding.decode.Goals as goal

pub decode_over-requires-clause-made_for : goal.decode_over-requires-clause-made_for
decode_over-requires-clause-made_for c = subst (All (λ s. IsTable c.args.inst.now (table_of c.args.inst.now s))) (sym c.tables.ensures) (made_for_kept c.args.inst.now c.args.map.now.tables c.requires.kept.rules)

pub decode_over-requires-clause-for_each : goal.decode_over-requires-clause-for_each
decode_over-requires-clause-for_each c = ap length c.tables.ensures ∙ c.requires.kept.for_each

pub decode_over-requires-clause-map : goal.decode_over-requires-clause-map
decode_over-requires-clause-map c = subst (λ ts. IsMapOf c.args.inst.now (tables_of sweep_table_on c.args.inst.now ts) c.args.map.now) (sym c.tables.ensures) c.requires.kept.map

pub decode_over-requires-clause-satisfied : goal.decode_over-requires-clause-satisfied
decode_over-requires-clause-satisfied c = subst (λ ts. SatisfiesTask c.args.inst.now (tables_of sweep_table_on c.args.inst.now ts) c.args.valuation.now.values) (sym c.tables.ensures) c.requires.satisfied

pub returns-clause-lawful : goal.returns-clause-lawful
returns-clause-lawful c = IfOk-weaker c.decode_over.result (λ found. AreChains c.args.inst.now found.0 (tables_of sweep_table_on c.args.inst.now c.tables.result.now) found.1) (λ found. IsLawful c.args.inst.now found.0 found.1)
    (λ found chains. c.chains_are_lawful.ensures c.args.inst.now found.0 (kept_tables c.args.inst.now c.args.map.now) found.1 c.requires.kept.rules c.requires.kept.each
    (subst (λ ts. AreChains c.args.inst.now found.0 (tables_of sweep_table_on c.args.inst.now ts) found.1) c.tables.ensures chains))
    c.decode_over.ensures.chains

pub returns-clause-plan : goal.returns-clause-plan
returns-clause-plan c = subst (λ ts. IfOk c.decode_over.result (λ found. found.1 ≡ told_plan c.args.valuation.now.values (tables_of sweep_table_on c.args.inst.now ts) c.args.map.now.trains)) c.tables.ensures c.decode_over.ensures.plan

pub returns-clause-given : goal.returns-clause-given
returns-clause-given c layout sat = c.decode_over.ensures.given layout (subst (λ ts. SatisfiesGiven c.args.inst.now (tables_of sweep_table_on c.args.inst.now ts) layout c.args.valuation.now.values) (sym c.tables.ensures) sat)

pub returns-clause-count : goal.returns-clause-count
returns-clause-count c most sat = c.decode_over.ensures.count most (subst (λ ts. SatisfiesCount c.args.inst.now (tables_of sweep_table_on c.args.inst.now ts) most c.args.valuation.now.values) (sym c.tables.ensures) sat)
