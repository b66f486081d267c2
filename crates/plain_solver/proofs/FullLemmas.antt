-- A full trail on which nothing follows from any clause: its valuation satisfies them.
use Rattle.std.proofs.Common.{◌≡◌, ◌≢◌, ℕ, zero, suc, ◌+◌, ◌<◌, Bool, true, false, List, [], ◌∷◌, ◌++◌, length, get_or, refl, sym, subst, ◌∙◌, arith}
use Rattle.std.specs.Prelude.{All, None, nat_eq}
use Rattle.std.proofs.lemmas.Bool.{eqb-true}
use Rattle.std.proofs.lemmas.List.Elements.{All-nil, All-head, All-tail, All-cons}
use Rattle.sat_core.specs.declared.literal.Lit.{Lit}
use Rattle.sat_core.specs.declared.valuation.Valuation.{Valuation}
use Rattle.sat_core.specs.Clauses.{IsOver, IsTrueIn, Satisfies, SatisfiesAll}
use Rattle.sat_core.specs.Derivation.{adds, drops}
use Rattle.sat_core.specs.Fresh.{IsOpen, IsAtRest}
use Rattle.sat_core.specs.Search.{Event, gives, derives, units_of}
use Rattle.search_trail.specs.Trails.{TrailParts, IsTrail, known_of, decided}
use Rattle.sat_core.proofs.OpenLaws.{true_is_not_false}
use Rattle.search_trail.proofs.TrailLaws.{one_sign, IsTrail-push, now_low}
use Rattle.solver_face.specs.Solving.{IsAnswer}
use Rattle.solver_face.specs.declared.answer.Answer.TheVariants as answer
use Rattle.plain_solver.specs.declared.state.State.{State}
use Rattle.trail_values.specs.Full.{IsFull, AreTruths}
use Rattle.trail_values.proofs.FullLaws.{satisfied}
use Rattle.plain_solver.specs.States.{added_by, clauses_given, events_of, solving_of, IsState}
use Rattle.plain_solver.proofs.PlainLemmas.{IsPlain-decide}
use Rattle.plain_solver.proofs.StepLemmas.{state_trail}

unit_true : (values : List Bool) (lit : Lit) → Satisfies values (lit ∷ []) → IsTrueIn values lit
unfolding Satisfies
unit_true values lit (zero, one, within, is, holds) = subst (IsTrueIn values) (sym is) holds
unit_true values lit (suc k, one, within, is, holds) = absurd (omega arith)

units_true : (values : List Bool) (events : List Event) → SatisfiesAll values (added_by events) → All (IsTrueIn values) (units_of events)
units_true values [] all = All-nil (IsTrueIn values)
units_true values (gives lit ∷ events) all = All-cons (IsTrueIn values) lit (units_of events) (unit_true values lit (All-head (Satisfies values) (lit ∷ []) (added_by events) all)) (units_true values events (All-tail (Satisfies values) (lit ∷ []) (added_by events) all))
units_true values (derives (adds id lits hints) ∷ events) all = units_true values events (All-tail (Satisfies values) lits (added_by events) all)
units_true values (derives (drops ids) ∷ events) all = units_true values events all

front_all : (values : List Bool) (one other : List (List Lit)) → SatisfiesAll values (one ++ other) → SatisfiesAll values one
front_all values [] other all = All-nil (Satisfies values)
front_all values (clause ∷ one) other all = All-cons (Satisfies values) clause one (All-head (Satisfies values) clause (one ++ other) all) (front_all values one other (All-tail (Satisfies values) clause (one ++ other) all))

back_all : (values : List Bool) (one other : List (List Lit)) → SatisfiesAll values (one ++ other) → SatisfiesAll values other
back_all values [] other all = all
back_all values (clause ∷ one) other all = back_all values one other (All-tail (Satisfies values) clause (one ++ other) all)

-- ---- what settling leaves
pub settle_decide : (s : State) (t : TrailParts) (lit : Lit) → IsState s → All (IsAtRest (known_of s.trail.entries)) s.clauses.clauses → IsOver s.trail.vars lit → IsOpen (known_of s.trail.entries) lit → t ≡ decided s.trail lit → IsState (record s { trail = t })
settle_decide s t lit state rest over is_open is =
    let laws : IsTrail (decided s.trail lit) = IsTrail-push s.trail (record { lit = lit; reason = None; level = s.trail.present + 1 }) state.plain.laws over is_open (omega arith) (omega arith) (λ none. omega arith) (omega (arith, now_low s.trail state.plain.laws)) in
    subst (λ (u : TrailParts). IsState (record s { trail = u })) (sym is) (state_trail s (decided s.trail lit) state (IsPlain-decide s.clauses.clauses s.trail lit laws rest state.plain) refl)

pub settle_found : (s : State) (v : Valuation) → IsState s → length v.values ≡ s.trail.vars → IsState (record s { valuation = v; found = true })
settle_found s v state long = record {
  plain = state.plain;
  vars = state.vars;
  space = state.space;
  values = long ∙ state.vars;
  few = state.few;
  given = state.given;
  all = state.all;
  woven = state.woven;
  no_drop = state.no_drop;
  sound = record { events = state.sound.events };
  at = record { same_vars = state.at.same_vars; same_formula = state.at.same_formula; live = state.at.live; last = state.at.last };
  refuted = state.refuted;
}

pub settle_sat : (s : State) (v : Valuation) (left : ℕ) → IsState s → All (IsAtRest (known_of s.trail.entries)) s.clauses.clauses → IsFull s.trail.vars (known_of s.trail.entries) → length v.values ≡ s.trail.vars → AreTruths s.trail.vars (known_of s.trail.entries) v.values → 0 < left → IsAnswer (solving_of (record s { valuation = v; found = true }) false) left answer.Sat
settle_sat s v left state rest full long truths some =
    let all : SatisfiesAll v.values s.clauses.clauses = λ k d within. satisfied s.trail.vars (known_of s.trail.entries) v.values (get_or s.clauses.clauses k d) (one_sign s.trail state.plain.laws) full truths long (state.plain.clauses_over k d within) (rest k d within) in
    let both : SatisfiesAll v.values (clauses_given s ++ added_by (events_of s)) = subst (SatisfiesAll v.values) state.all all in (
      record {
        for_each = long ∙ state.vars;
        formula = front_all v.values (clauses_given s) (added_by (events_of s)) both;
        units = units_true v.values (events_of s) (back_all v.values (clauses_given s) (added_by (events_of s)) both);
      },
      some,
    )

pub empty_tells : (lits : List Lit) → nat_eq (length lits) 0 ≡ true → lits ≡ []
empty_tells [] is = refl
empty_tells (lit ∷ lits) is = absurd (omega (arith, eqb-true (length (lit ∷ lits)) 0 is))

pub some_tells : (lits : List Lit) → nat_eq (length lits) 0 ≡ false → lits ≢ []
some_tells [] is same = true_is_not_false is
some_tells (lit ∷ lits) is same = absurd (cc)
