-- Why `kept` does what its contract says.
use Rattle.std.proofs.Common.{◌∙◌, ap, refl, subst, sym}
use Rattle.cell_net.specs.declared.parts.InstanceParts.{InstanceParts}
use Rattle.gap_clauses.specs.Searched.{AreCandidateNodes}
use Rattle.gap_clauses.proofs.GapLaws.{gaps_are, none_crowded}
use Rattle.gap_clauses.proofs.MarkLemmas.{candidate_nodes}
use Rattle.gap_clauses.proofs.build.kept.Goals as goal

pub build-requires : goal.build-requires
build-requires c =
    let same = c.as_slice.ensures ∙ ap (λ (p : InstanceParts). p.candidates) c.parts.ensures.parts in
    subst AreCandidateNodes (sym same) (candidate_nodes c.args.inst.now c.parts.ensures.rules)

pub returns-in-Ok-clause-gaps : goal.returns-in-Ok-clause-gaps
returns-in-Ok-clause-gaps c =
    let same = c.in-Ok.ensures ∙ (c.as_slice.ensures ∙ ap (λ (p : InstanceParts). p.candidates) c.parts.ensures.parts) in
    gaps_are c.args.inst.now c.in-Ok.candidates c.args.fans.items _ same c.requires refl

pub returns-in-Ok-clause-few : goal.returns-in-Ok-clause-few
returns-in-Ok-clause-few c = none_crowded c.args.inst.now c.args.fans.items c.requires
