-- Why `NetworkNumbers::section_of` does what its contract says.
use Rattle.std.proofs.Common.{◌∙◌, [], sym}
use Rattle.clause_encoder.proofs.NetworkLemmas.{row_at, section_members}
use Rattle.clause_encoder.proofs.network.NetworkNumbers.section_of.Goals as goal

pub row-requires : goal.row-requires
row-requires c = (row_at _ _ _ _ _ _ c.args.cell [] c.self.view_is c.self.invariant c.requires).0

pub returns-clause-value : goal.returns-clause-value
returns-clause-value c = sym (c.row.ensures.item []) ∙ (row_at _ _ _ _ _ _ c.args.cell [] c.self.view_is c.self.invariant c.requires).1

pub returns-clause-cells : goal.returns-clause-cells
returns-clause-cells c = section_members c.args.self.now c.args.cell
