-- Where nothing is open and nothing follows, the valuation of the trail satisfies the formula and the units.
use Rattle.std.proofs.Common.{◌≡◌, zero, suc, Bool, false, List, [], ◌∷◌, length, map, take, get_or, ap, sym, subst, ◌∙◌, arith}
use Rattle.std.specs.Prelude.{All}
use Rattle.std.proofs.lemmas.List.Elements.{All-nil, All-head, All-tail, All-cons, All-take}
use Rattle.sat_core.specs.declared.literal.Lit.{Lit}
use Rattle.sat_core.specs.Clauses.{IsTrueIn, Satisfies, SatisfiesAll}
use Rattle.sat_core.specs.Hints.{NumberedClause}
use Rattle.sat_core.specs.Fresh.{IsClosed}
use Rattle.sat_core.specs.Search.{units_of}
use Rattle.search_trail.specs.Trails.{known_of}
use Rattle.search_trail.proofs.TrailLaws.{one_sign}
use Rattle.solver_face.specs.Solving.{IsSolution}
use Rattle.activity_order.specs.Choices.{NoneIsOpen}
use Rattle.trail_values.specs.Full.{AreTruths}
use Rattle.trail_values.proofs.FullLaws.{satisfied, full_of_none}
use Rattle.watch_solver.specs.declared.state.State.{State}
use Rattle.watch_solver.specs.Running.{watch_solving, first_clauses, IsRunning}

unit_true : (values : List Bool) (lit : Lit) → Satisfies values (lit ∷ []) → IsTrueIn values lit
unfolding Satisfies
unit_true values lit (zero, one, within, is, holds) = subst (IsTrueIn values) (sym is) holds
unit_true values lit (suc k, one, within, is, holds) = absurd (omega arith)

all_lits : (values : List Bool) (clauses : List NumberedClause) → All (λ c. Satisfies values c.lits) clauses → SatisfiesAll values (map (λ (c : NumberedClause). c.lits) clauses)
all_lits values [] all = All-nil (Satisfies values)
all_lits values (clause ∷ clauses) all =
    All-cons (Satisfies values) clause.lits (map (λ (c : NumberedClause). c.lits) clauses) (All-head (λ (c : NumberedClause). Satisfies values c.lits) clause clauses all)
    (all_lits values clauses (All-tail (λ (c : NumberedClause). Satisfies values c.lits) clause clauses all))

pub solution : (s n : State) (values : List Bool) → IsRunning s → NoneIsOpen s.trail → IsClosed (known_of s.trail.entries) s.store.live → length values ≡ s.trail.vars → AreTruths s.trail.vars (known_of s.trail.entries) values
    → n.store ≡ s.store → n.given ≡ s.given → n.history ≡ s.history → IsSolution (watch_solving n false) values
solution s n values running none closed long truths store given history =
    let live_all : All (λ (c : NumberedClause). Satisfies values c.lits) s.store.live = λ k d within.
    satisfied s.trail.vars (known_of s.trail.entries) values (get_or s.store.live k d).lits (one_sign s.trail running.fits.laws) (full_of_none s.trail.vars (known_of s.trail.entries) none) truths long (running.fits.over k d within) (closed.at_rest k d within) in
    record {
      for_each = long ∙ (sym running.fits.same_vars ∙ sym (ap (λ x. x.vars) store));
      formula =
          subst (λ g. SatisfiesAll values (first_clauses g n.store.live)) (sym given)
          (subst (λ x. SatisfiesAll values (first_clauses s.given x.live)) (sym store)
          (all_lits values (take s.given s.store.live) (All-take (λ (c : NumberedClause). Satisfies values c.lits) s.given s.store.live live_all)));
      units =
          subst (λ es. All (IsTrueIn values) (units_of es)) (sym history)
          (λ k d within.
          let any = running.live.units k d within in
          let lit : Lit = get_or (units_of s.history) k d in
          let holds : Satisfies values (get_or s.store.live any.0 any.1).lits = live_all any.0 any.1 any.2 in
          unit_true values lit (subst (Satisfies values) (ap (λ (c : NumberedClause). c.lits) any.3 ∙ any.4) holds));
    }
