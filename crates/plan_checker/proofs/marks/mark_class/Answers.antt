-- Why `mark_class` does what its contract says.
use Rattle.plan_checker.proofs.MarkLemmas.{earlier_more, keeps_where_free, marked_there, only_one_more, taken_where_not_free}
use Rattle.plan_checker.proofs.marks.mark_class.Goals as goal

pub returns-clause-kept : goal.returns-clause-kept
returns-clause-kept c = keeps_where_free _ _ _ _ _ c.requires.within (c.is_free_for.ensures.0 c.if-not-is_free_for.false)

pub returns-clause-only : goal.returns-clause-only
returns-clause-only c = λ other place is. only_one_more _ _ _ _ other place c.requires.within is

pub returns-clause-earlier : goal.returns-clause-earlier
returns-clause-earlier c = earlier_more _ _ _ _ c.requires.within c.requires.earlier

pub returns-clause-marked : goal.returns-clause-marked
returns-clause-marked c _ = marked_there _ _ _ _ c.requires.within

pub returns-then-not-is_free_for-clause-taken : goal.returns-then-not-is_free_for-clause-taken
returns-then-not-is_free_for-clause-taken c =
    taken_where_not_free _ _ _ _ _ c.requires.within (λ free. absurd (let told = c.is_free_for.ensures.1 free in let tested = c.if-not-is_free_for.true in cc))
