-- A trail without entries: which clause may be added, and that no clause is a reason.
use Rattle.std.proofs.Common.{◌≡◌, ◌≢◌, ℕ, ◌<◌, ◌≤◌, true, false, List, [], ◌∷◌, length, get_or, refl, ap, arith}
use Rattle.std.specs.Prelude.{All, Some}
use Rattle.std.proofs.lemmas.List.Elements.{Contains-get_or}
use Rattle.sat_core.specs.declared.literal.Lit.{Lit}
use Rattle.sat_core.specs.declared.literal.ClauseId.{ClauseId}
use Rattle.sat_core.specs.Clauses.{IsClause}
use Rattle.sat_core.specs.Hints.{is_known}
use Rattle.search_trail.specs.declared.entry.Entry.{Entry}
use Rattle.search_trail.specs.Trails.{TrailParts, known_of}
use Rattle.watch_store.specs.Fits.{HasTwoNotFalse}

unknown : (entries : List Entry) (lit : Lit) → length entries ≡ 0 → is_known (known_of entries) lit ≡ false
unknown [] lit none = refl
unknown (e ∷ entries) lit none = absurd (omega (arith, none))

-- the first two literals of a clause aren't false
pub watchable : (t : TrailParts) (vars : ℕ) (lits : List Lit) → length t.entries ≡ 0 → IsClause vars lits → 2 ≤ length lits → HasTwoNotFalse (known_of t.entries) lits
watchable t vars lits none clause many =
    let d : Lit = record { var = record { 0 = 0 }; positive = true } in
    record {
      one = get_or lits 0 d;
      other = get_or lits 1 d;
      one_stands = Contains-get_or lits 0 d (omega (arith, many));
      other_stands = Contains-get_or lits 1 d (omega (arith, many));
      different = λ same. clause.no_variable_twice 0 1 d (omega arith) (omega (arith, many)) (ap (λ (l : Lit). l.var.0) same);
      one_not_false = unknown t.entries _ none;
      other_not_false = unknown t.entries _ none;
    }

pub no_reason : (t : TrailParts) (id : ClauseId) → length t.entries ≡ 0 → All (λ e. e.reason ≢ Some id) t.entries
no_reason t id none k d within = absurd (omega (arith, none, within))
