-- Why `test_rules` does what its contract says.
use Rattle.std.proofs.Common.{◌++◌}
use Rattle.rail_net.specs.Refusals.{name_rules, reference_rules, node_rules, section_rules, number_rules}
use Rattle.rail_net.proofs.OrderLemmas.{later, sooner, both_kept}
use Rattle.rail_net.proofs.build.test_rules.Goals as goal

pub returns-in-Err-clause-refusal : goal.returns-in-Err-clause-refusal
returns-in-Err-clause-refusal c =
    let p = c.args.parts.now in
    sooner (name_rules p) (reference_rules p ++ (node_rules p ++ (section_rules p ++ (number_rules p)))) c.in-Err.refusal c.in-Err.ensures.refusal

pub returns-in-Err-test_references-clause-refusal : goal.returns-in-Err-test_references-clause-refusal
returns-in-Err-test_references-clause-refusal c =
    let p = c.args.parts.now in
    later (name_rules p) (reference_rules p ++ (node_rules p ++ (section_rules p ++ (number_rules p)))) c.in-Err-test_references.refusal c.in-Ok.ensures.kept (sooner (reference_rules p) (node_rules p ++ (section_rules p ++ (number_rules p))) c.in-Err-test_references.refusal c.in-Err-test_references.ensures.refusal)

pub returns-in-Err-test_nodes-clause-refusal : goal.returns-in-Err-test_nodes-clause-refusal
returns-in-Err-test_nodes-clause-refusal c =
    let p = c.args.parts.now in
    later (name_rules p) (reference_rules p ++ (node_rules p ++ (section_rules p ++ (number_rules p)))) c.in-Err-test_nodes.refusal c.in-Ok.ensures.kept (later (reference_rules p) (node_rules p ++ (section_rules p ++ (number_rules p))) c.in-Err-test_nodes.refusal c.in-Ok-test_references.ensures.kept (sooner (node_rules p) (section_rules p ++ (number_rules p)) c.in-Err-test_nodes.refusal c.in-Err-test_nodes.ensures.refusal))

pub returns-in-Err-test_sections-clause-refusal : goal.returns-in-Err-test_sections-clause-refusal
returns-in-Err-test_sections-clause-refusal c =
    let p = c.args.parts.now in
    later (name_rules p) (reference_rules p ++ (node_rules p ++ (section_rules p ++ (number_rules p)))) c.in-Err-test_sections.refusal c.in-Ok.ensures.kept (later (reference_rules p) (node_rules p ++ (section_rules p ++ (number_rules p))) c.in-Err-test_sections.refusal c.in-Ok-test_references.ensures.kept (later (node_rules p) (section_rules p ++ (number_rules p)) c.in-Err-test_sections.refusal c.in-Ok-test_nodes.ensures.kept (sooner (section_rules p) (number_rules p) c.in-Err-test_sections.refusal c.in-Err-test_sections.ensures.refusal)))

pub returns-in-Err-test_numbers-clause-refusal : goal.returns-in-Err-test_numbers-clause-refusal
returns-in-Err-test_numbers-clause-refusal c =
    let p = c.args.parts.now in
    later (name_rules p) (reference_rules p ++ (node_rules p ++ (section_rules p ++ (number_rules p)))) c.in-Err-test_numbers.refusal c.in-Ok.ensures.kept (later (reference_rules p) (node_rules p ++ (section_rules p ++ (number_rules p))) c.in-Err-test_numbers.refusal c.in-Ok-test_references.ensures.kept (later (node_rules p) (section_rules p ++ (number_rules p)) c.in-Err-test_numbers.refusal c.in-Ok-test_nodes.ensures.kept (later (section_rules p) (number_rules p) c.in-Err-test_numbers.refusal c.in-Ok-test_sections.ensures.kept c.in-Err-test_numbers.ensures.refusal)))

pub returns-clause-kept : goal.returns-clause-kept
returns-clause-kept c =
    let p = c.args.parts.now in
    both_kept (name_rules p) (reference_rules p ++ (node_rules p ++ (section_rules p ++ (number_rules p)))) c.in-Ok.ensures.kept (both_kept (reference_rules p) (node_rules p ++ (section_rules p ++ (number_rules p))) c.in-Ok-test_references.ensures.kept (both_kept (node_rules p) (section_rules p ++ (number_rules p)) c.in-Ok-test_nodes.ensures.kept (both_kept (section_rules p) (number_rules p) c.in-Ok-test_sections.ensures.kept c.in-Ok-test_numbers.ensures.kept)))
