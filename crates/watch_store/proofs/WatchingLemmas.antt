-- Which literals the nodes watch: of live clauses, when a watch moves, when a clause comes and when one ends.
use Rattle.std.proofs.Common.{◌≡◌, ◌≢◌, ℕ, ◌*◌, ◌/◌, ◌<◌, ◌≤◌, inl, inr, List, length, get_or, set, ap, sym, subst, ◌∙◌, arith}
use Rattle.std.specs.Prelude.{Contains}
use Rattle.std.proofs.lemmas.Bool.{cases_eq}
use Rattle.std.proofs.lemmas.List.{length-set, get_or-set_same, get_or-set_other, get_or_default}
use Rattle.sat_core.specs.declared.literal.Lit.{Lit}
use Rattle.sat_core.specs.Clauses.{IsOver}
use Rattle.watch_store.specs.Places.{PlacedClauses, ArePlaced, IsPlacedAt, IsLiveAt, clause_at}
use Rattle.watch_store.specs.Watching.{other_of, IsWatching}
use Rattle.watch_store.specs.Fits.{IsWatched}
use Rattle.watch_store.proofs.PairLemmas.{other-within, other-other, other-slot, other-apart}
use Rattle.watch_store.proofs.PlaceLemmas.{placed_live}

-- a live clause of two or more literals watches two of them
pub IsWatched-live : (table : PlacedClauses) (watches : List Lit) (number place : ℕ) → ArePlaced table → IsWatching table watches → IsPlacedAt table number place → 2 ≤ length (clause_at table place) → IsWatched watches (clause_at table place)
IsWatched-live table watches number place laws watching found many =
    let node : ℕ = 2 * place in
    let inside : place < length table.clauses = laws.within number place found in
    let live : IsLiveAt table place = placed_live table number place laws found in
    let slot : node / 2 ≡ place = omega arith in
    let within : node < length watches = omega (arith, inside, watching.two_each) in
    let within' : other_of node < length watches = omega (arith, other-within node (length table.clauses) (omega (arith, inside)), watching.two_each) in
    let low : (d : Lit) → (get_or watches node d).var.0 ≤ table.vars = λ d. watching.watched place d inside live many in
    record {
      node = node;
      within = within;
      other_within = within';
      one_stands = λ d. subst (λ p. Contains (clause_at table p) (get_or watches node d)) slot (watching.stand node d within (low d));
      other_stands = λ d. subst (λ p. Contains (clause_at table p) (get_or watches (other_of node) d)) (other-slot node ∙ slot) (watching.stand (other_of node) d within' (watching.both node d within (low d)));
      differ = λ d. watching.differ node d within;
    }

-- ---- a watch moves
moved_at : (watches : List Lit) (node m : ℕ) (new d : Lit) → node < length watches → m ≡ node → get_or (set watches node new) m d ≡ new
moved_at watches node m new d within here = ap (λ n. get_or (set watches node new) n d) here ∙ get_or-set_same watches node new d within

pub IsWatching-move : (table : PlacedClauses) (watches : List Lit) (node : ℕ) (new d : Lit) → node < length watches → (get_or watches node d).var.0 ≤ table.vars → IsOver table.vars new → Contains (clause_at table (node / 2)) new → new ≢ get_or watches (other_of node) d → IsWatching table watches → IsWatching table (set watches node new)
IsWatching-move table watches node new d inside was_low over stands apart watching =
    let long : length (set watches node new) ≡ length watches = length-set watches node new in
    let count : ℕ = length table.clauses in
    let within' : other_of node < length watches = omega (arith, other-within node count (omega (arith, inside, watching.two_each)), watching.two_each) in
    let low : (e : Lit) → (get_or watches node e).var.0 ≤ table.vars = λ e. subst (λ (l : Lit). l.var.0 ≤ table.vars) (get_or_default watches node d e inside) was_low in
    let partner : (e : Lit) → new ≢ get_or watches (other_of node) e = λ e same. apart (same ∙ get_or_default watches (other_of node) e d within') in
    record {
      two_each = long ∙ watching.two_each;
      named = λ m e within. elim (cases_eq m node) [
        | inl here ↦ subst (λ (l : Lit). 1 ≤ l.var.0) (sym (moved_at watches node m new e inside here)) over.0
        | inr elsewhere ↦ subst (λ (l : Lit). 1 ≤ l.var.0) (sym (get_or-set_other watches node m new e elsewhere)) (watching.named m e (omega (arith, within, long)))
      ];
      live = λ m e within is_low. elim (cases_eq m node) [
        | inl here ↦ subst (λ n. IsLiveAt table (n / 2)) (sym here) (watching.live node e inside (low e))
        | inr elsewhere ↦ watching.live m e (omega (arith, within, long)) (subst (λ (l : Lit). l.var.0 ≤ table.vars) (get_or-set_other watches node m new e elsewhere) is_low)
      ];
      stand = λ m e within is_low. elim (cases_eq m node) [
        | inl here ↦ subst (λ l. Contains (clause_at table (m / 2)) l) (sym (moved_at watches node m new e inside here)) (subst (λ n. Contains (clause_at table (n / 2)) new) (sym here) stands)
        | inr elsewhere ↦ subst (λ l. Contains (clause_at table (m / 2)) l) (sym (get_or-set_other watches node m new e elsewhere)) (watching.stand m e (omega (arith, within, long)) (subst (λ (l : Lit). l.var.0 ≤ table.vars) (get_or-set_other watches node m new e elsewhere) is_low))
      ];
      both = λ m e within is_low. elim (cases_eq (other_of m) node) [
        | inl there ↦ subst (λ (l : Lit). l.var.0 ≤ table.vars) (sym (moved_at watches node (other_of m) new e inside there)) over.1
        | inr apart_there ↦ subst (λ (l : Lit). l.var.0 ≤ table.vars) (sym (get_or-set_other watches node (other_of m) new e apart_there)) (elim (cases_eq m node) [
          | inl here ↦ subst (λ n. (get_or watches (other_of n) e).var.0 ≤ table.vars) (sym here) (watching.both node e inside (low e))
          | inr elsewhere ↦ watching.both m e (omega (arith, within, long)) (subst (λ (l : Lit). l.var.0 ≤ table.vars) (get_or-set_other watches node m new e elsewhere) is_low)
        ])
      ];
      differ = λ m e within same. elim (cases_eq m node) [
        | inl here ↦ partner e (sym (moved_at watches node m new e inside here) ∙ (same ∙ (ap (λ n. get_or (set watches node new) (other_of n) e) here ∙ get_or-set_other watches node (other_of node) new e (other-apart node))))
        | inr elsewhere ↦ elim (cases_eq (other_of m) node) [
          | inl there ↦
              let own : get_or (set watches node new) m e ≡ get_or watches m e = get_or-set_other watches node m new e elsewhere in
              let theirs : get_or (set watches node new) (other_of m) e ≡ new = moved_at watches node (other_of m) new e inside there in
              let m_is : m ≡ other_of node = sym (other-other m) ∙ ap other_of there in
              partner e (sym theirs ∙ (sym same ∙ (own ∙ ap (λ n. get_or watches n e) m_is)))
          | inr apart_there ↦ watching.differ m e (omega (arith, within, long)) (sym (get_or-set_other watches node m new e elsewhere) ∙ (same ∙ get_or-set_other watches node (other_of m) new e apart_there))
        ]
      ];
      watched = λ place e within live many. elim (cases_eq (2 * place) node) [
        | inl here ↦ subst (λ (l : Lit). l.var.0 ≤ table.vars) (sym (moved_at watches node (2 * place) new e inside here)) over.1
        | inr elsewhere ↦ subst (λ (l : Lit). l.var.0 ≤ table.vars) (sym (get_or-set_other watches node (2 * place) new e elsewhere)) (watching.watched place e within live many)
      ];
    }
