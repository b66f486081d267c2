-- Why `write_kept` does what its contract says.
use Rattle.std.proofs.Common.{◌<◌, ◌+◌, List, ◌∷◌, [], length, get_or, ap, subst, ◌∙◌}
use Rattle.sat_core.specs.declared.literal.Lit.{Lit}
use Rattle.cell_net.specs.declared.ids.CandidateId.{CandidateId}
use Rattle.clause_list.specs.Numbers.{is}
use Rattle.clause_list.specs.BorderClauses.{kept, kept_alone, kept_clauses}
use Rattle.clause_encoder.proofs.WritingLemmas.{each_more, each_full, each_fits}
use Rattle.clause_encoder.proofs.borders.write_kept.Goals as goal

pub take-requires : goal.take-requires
unfolding kept_clauses kept
take-requires c = each_fits kept_alone c.args.net.now.kept c.loop-place.place _ _ _ _ c.requires.clauses c.loop-place.invariant.vars (subst (λ (xs : List CandidateId). c.loop-place.place < length xs) c.kept-kept.ensures c.loop-place-test.true) (ap (λ (l : Lit). (l ∷ []) ∷ []) (c.is.ensures ∙ ap (λ (xs : List CandidateId). is ((get_or xs c.loop-place.place _).0 + 1)) c.kept-kept.ensures))

pub returns-in-Err-clause-err : goal.returns-in-Err-clause-err
unfolding kept_clauses kept
returns-in-Err-clause-err c = each_full kept_alone c.args.net.now.kept c.loop-place.place _ _ _ _ _ c.loop-place.invariant c.in-Err.ensures.err (subst (λ (xs : List CandidateId). c.loop-place.place < length xs) c.kept-kept.ensures c.loop-place-test.true) (ap (λ (l : Lit). (l ∷ []) ∷ []) (c.is.ensures ∙ ap (λ (xs : List CandidateId). is ((get_or xs c.loop-place.place _).0 + 1)) c.kept-kept.ensures))

pub loop-place-preserved : goal.loop-place-preserved
unfolding kept
loop-place-preserved c = each_more kept_alone c.args.net.now.kept c.loop-place.place _ _ _ _ _ c.loop-place.invariant c.in-Ok.ensures.ok (subst (λ (xs : List CandidateId). c.loop-place.place < length xs) c.kept-kept.ensures c.loop-place-test.true) (ap (λ (l : Lit). (l ∷ []) ∷ []) (c.is.ensures ∙ ap (λ (xs : List CandidateId). is ((get_or xs c.loop-place.place _).0 + 1)) c.kept-kept.ensures))
