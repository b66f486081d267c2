-- Laws of searches: the log, the units and the state of events that follow others.
use Rattle.std.proofs.Common.{◌≡◌, ◌+◌, List, [], ◌∷◌, ◌++◌, map, refl, ap, ◌∙◌, arith}
use Rattle.std.proofs.lemmas.List.{append-nil}
use Rattle.sat_core.specs.declared.literal.Lit.{Lit}
use Rattle.sat_core.specs.Derivation.{DerivedStep, adds, drops}
use Rattle.sat_core.specs.Search.{Event, gives, derives, Search, after_event, after_events, AreNext, log_of, units_of, adds_in}

pub log_of-append : (one other : List Event) → log_of (one ++ other) ≡ log_of one ++ log_of other
log_of-append [] other = refl
log_of-append (gives lit ∷ one) other = log_of-append one other
log_of-append (derives step ∷ one) other = ap (λ l. step ∷ l) (log_of-append one other)

pub log_of-derives : (steps : List DerivedStep) → log_of (map derives steps) ≡ steps
log_of-derives [] = refl
log_of-derives (step ∷ steps) = ap (λ l. step ∷ l) (log_of-derives steps)

pub log_of-gives : (units : List Lit) → log_of (map gives units) ≡ []
log_of-gives [] = refl
log_of-gives (lit ∷ units) = log_of-gives units

pub units_of-append : (one other : List Event) → units_of (one ++ other) ≡ units_of one ++ units_of other
units_of-append [] other = refl
units_of-append (gives lit ∷ one) other = ap (λ l. lit ∷ l) (units_of-append one other)
units_of-append (derives step ∷ one) other = units_of-append one other

pub units_of-derives : (steps : List DerivedStep) → units_of (map derives steps) ≡ []
units_of-derives [] = refl
units_of-derives (step ∷ steps) = units_of-derives steps

pub adds_in-append : (one other : List DerivedStep) → adds_in (one ++ other) ≡ adds_in one + adds_in other
adds_in-append [] other = omega arith
adds_in-append (adds id lits hints ∷ one) other = let same : adds_in (one ++ other) ≡ adds_in one + adds_in other = adds_in-append one other in omega arith
adds_in-append (drops ids ∷ one) other = adds_in-append one other

-- what was derived since stands behind the log
pub log_searched : (events : List Event) (steps : List DerivedStep) → log_of (events ++ map derives steps) ≡ log_of events ++ steps
log_searched events steps = log_of-append events (map derives steps) ∙ ap (λ l. log_of events ++ l) (log_of-derives steps)

pub adds_searched : (events : List Event) (steps : List DerivedStep) → adds_in (log_of (events ++ map derives steps)) ≡ adds_in (log_of events) + adds_in steps
adds_searched events steps = ap adds_in (log_searched events steps) ∙ adds_in-append (log_of events) steps

pub units_searched : (events : List Event) (steps : List DerivedStep) → units_of (events ++ map derives steps) ≡ units_of events
units_searched events steps = units_of-append events (map derives steps) ∙ (ap (λ l. units_of events ++ l) (units_of-derives steps) ∙ append-nil (units_of events))

-- a unit that was given since stands behind the units
pub units_given : (events : List Event) (lit : Lit) → units_of (events ++ gives lit ∷ []) ≡ units_of events ++ lit ∷ []
units_given events lit = units_of-append events (gives lit ∷ [])

pub log_given : (events : List Event) (lit : Lit) → log_of (events ++ gives lit ∷ []) ≡ log_of events
log_given events lit = log_of-append events (gives lit ∷ []) ∙ append-nil (log_of events)

pub adds_given : (events : List Event) (lit : Lit) → adds_in (log_of (events ++ gives lit ∷ [])) ≡ adds_in (log_of events)
adds_given events lit = ap adds_in (log_given events lit)

-- a search of events that follow others goes on from what those leave
pub after_events-append : (s : Search) (one other : List Event) → after_events s (one ++ other) ≡ after_events (after_events s one) other
after_events-append s [] other = refl
after_events-append s (event ∷ one) other = after_events-append (after_event s event) one other

pub AreNext-append : (s : Search) (one other : List Event) → AreNext s one → AreNext (after_events s one) other → AreNext s (one ++ other)
AreNext-append s [] other before behind = behind
AreNext-append s (event ∷ one) other before behind = (before.0, AreNext-append (after_event s event) one other before.1 behind)

pub AreNext-front : (s : Search) (one other : List Event) → AreNext s (one ++ other) → AreNext s one
AreNext-front s [] other both = tt
AreNext-front s (event ∷ one) other both = (both.0, AreNext-front (after_event s event) one other both.1)

pub AreNext-behind : (s : Search) (one other : List Event) → AreNext s (one ++ other) → AreNext (after_events s one) other
AreNext-behind s [] other both = both
AreNext-behind s (event ∷ one) other both = AreNext-behind (after_event s event) one other both.1
