-- Why `Gaps::walk_count` does what its contract says.
use Rattle.std.proofs.Common.{◌∙◌, ap, arith, get_or, length, sym}
use Rattle.gap_clauses.proofs.GapLaws.{count_tells}
use Rattle.gap_clauses.proofs.gaps.Gaps.walk_count.Goals as goal

pub returns-in-Some : goal.returns-in-Some
returns-in-Some c = count_tells c.self.inside.candidates c.self.inside.fans.items c.args.self.now c.args.e c.args.f c.in-Some.fan.now c.count_to.result (omega (arith, c.in-Some.ensures.lookup.3.0, ap length c.deref.ensures.value))
    (ap (λ fans. get_or fans c.args.e.0 c.in-Some.fan.now) (sym c.deref.ensures.value) ∙ sym c.in-Some.ensures.lookup.1) c.self.view_is c.count_to.ensures.there c.count_to.ensures.elsewhere
