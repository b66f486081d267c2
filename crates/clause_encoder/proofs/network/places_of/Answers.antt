-- Why `places_of` does what its contract says.
use Rattle.std.proofs.Common.{◌∙◌, [], length, sym, ap, arith}
use Rattle.std.specs.Prelude.{nat_eq}
use Rattle.std.specs.List.{position_or_len}
use Rattle.clause_list.specs.Numbers.{section_of}
use Rattle.clause_list.specs.Orders.{place_in_section}
use Rattle.clause_list.proofs.SectionLaws.{few_in_section}
use Rattle.clause_encoder.specs.NetworkStore.{sections_alone}
use Rattle.clause_encoder.proofs.MarkLemmas.{rows_none}
use Rattle.clause_encoder.proofs.NetworkLemmas.{grown, stored_at}
use Rattle.clause_encoder.proofs.network.places_of.Goals as goal

pub loop-cell-init : goal.loop-cell-init
loop-cell-init c = c.new-places.ensures.items ∙ sym (rows_none _)

pub row-requires : goal.row-requires
row-requires c = (stored_at (section_of (sections_alone c.args.sections.now)) (length c.args.sections.now) c.loop-cell.cell c.args.rows.now [] c.requires.rows c.loop-cell-test.true).0

pub place_of-requires : goal.place_of-requires
place_of-requires c =
    let is = sym (c.row.ensures.item []) ∙ (stored_at (section_of (sections_alone c.args.sections.now)) (length c.args.sections.now) c.loop-cell.cell c.args.rows.now [] c.requires.rows c.loop-cell-test.true).1 in
    omega (arith, ap length is, few_in_section (sections_alone c.args.sections.now) c.loop-cell.cell, c.requires.few)

pub loop-cell-preserved : goal.loop-cell-preserved
loop-cell-preserved c =
    let is = sym (c.row.ensures.item []) ∙ (stored_at (section_of (sections_alone c.args.sections.now)) (length c.args.sections.now) c.loop-cell.cell c.args.rows.now [] c.requires.rows c.loop-cell-test.true).1 in
    grown (place_in_section (sections_alone c.args.sections.now)) c.loop-cell.cell _ _ c.place_of.result c.loop-cell.invariant c.in_ok-push.ensures.items (c.place_of.ensures ∙ ap (position_or_len (nat_eq c.loop-cell.cell)) is)
