-- How a trail is kept through its calls: an entry more, the front up to a level, the place of a variable.
use Rattle.std.proofs.Common.{◌≡◌, ◌≢◌, ℕ, ◌+◌, ◌-◌, ◌*◌, ◌<◌, ◌≤◌, Bool, true, false, inl, inr, List, [], ◌∷◌, ◌++◌, length, take, drop, get_or, set, min, refl, ap, sym, subst, ◌∙◌, arith}
use Rattle.std.specs.Prelude.{All, AllPairs, Any, None}
use Rattle.std.proofs.lemmas.Bool.{cases_eq}
use Rattle.std.proofs.lemmas.List.{length_push, get_or_push, get_or_append_left, get_or-map, length-map, get_or_default, map_push, get_or-take, length-take-le, take_more, get_or-set_same, get_or-set_other, length-set, take_at}
use Rattle.sat_core.specs.Clauses.{IsOver}
use Rattle.sat_core.specs.Fresh.{IsOpen}
use Rattle.search_trail.specs.declared.entry.Entry.{Entry}
use Rattle.search_trail.specs.Trails.{TrailParts, known_of}
use Rattle.search_trail.specs.Kept.{IsKept}
use Rattle.sat_core.specs.Marks.{mark_place, AreMarked}
use Rattle.sat_core.proofs.MarkLaws.{AreMarked-push, AreMarked-pop, mark_within}
use Rattle.sat_core.proofs.OpenLaws.{unknown_variable, open_apart}
use Rattle.search_trail.proofs.TrailLaws.{IsTrail-push, IsTrail-cut, now_low}

-- the last entry of the front is undone
pub undo_more : (vars : ℕ) (marks : List Bool) (entries : List Entry) (size : ℕ) (d : Entry) → AllPairs (λ one later. one.lit.var.0 ≢ later.lit.var.0) entries → 0 < size → size ≤ length entries → AreMarked vars marks (known_of (take size entries)) → AreMarked vars (set marks (mark_place (get_or entries (size - 1) d).lit) false) (known_of (take (size - 1) entries))
undo_more vars marks entries size d distinct some within before =
    let last : Entry = get_or entries (size - 1) d in
    let one_less : size - 1 + 1 ≡ size = omega arith in
    let whole : take size entries ≡ take (size - 1) entries ++ last ∷ [] = ap (λ n. take n entries) (sym one_less) ∙ take_more entries (size - 1) d (omega arith) in
    let known : known_of (take size entries) ≡ known_of (take (size - 1) entries) ++ last.lit ∷ [] = ap known_of whole ∙ map_push (λ (x : Entry). x.lit) (take (size - 1) entries) last in
    AreMarked-pop vars marks (known_of (take (size - 1) entries)) last.lit (subst (AreMarked vars marks) known before)
    (unknown_variable (known_of (take (size - 1) entries)) last.lit (λ k e inside same.
    let front : length (take (size - 1) entries) ≡ size - 1 = length-take-le (size - 1) entries (omega arith) in
    let inside' : k < length (take (size - 1) entries) = omega (arith, length-map (take (size - 1) entries) (λ (x : Entry). x.lit), inside) in
    distinct k (size - 1) d (omega arith) (omega arith)
    (ap (λ x. x.lit.var.0) (sym (get_or-take (size - 1) entries k d (omega arith))) ∙ (ap (λ l. l.var.0) (sym (get_or-map (λ (x : Entry). x.lit) (take (size - 1) entries) k d e inside')) ∙ same))))

pub IsKept-push : (t : TrailParts) (marks : List Bool) (places : List ℕ) (room : ℕ) (e : Entry) → IsKept t marks places room → IsOver t.vars e.lit → IsOpen (known_of t.entries) e.lit → (t.present ≤ e.level) → (e.level ≤ t.present + 1) → (e.reason ≡ None → t.present < e.level) → (n : ℕ) → n ≡ length t.entries → IsKept (record t { entries = t.entries ++ e ∷ []; present = e.level }) (set marks (mark_place e.lit) true) (set places (e.lit.var.0 - 1) n) room
IsKept-push t marks places room e kept over is_open low high decided n behind =
    let apart : All (λ l. l.var.0 ≢ e.lit.var.0) (known_of t.entries) = open_apart (known_of t.entries) e.lit is_open in
    let more : length (t.entries ++ e ∷ []) ≡ length t.entries + 1 = length_push t.entries e in
    record {
      laws = IsTrail-push t e kept.laws over is_open low high decided (omega (arith, now_low t kept.laws));
      marks_stand = subst (AreMarked t.vars (set marks (mark_place e.lit) true)) (sym (map_push (λ (x : Entry). x.lit) t.entries e)) (AreMarked-push t.vars marks (known_of t.entries) e.lit kept.marks_stand over);
      all_placed = length-set places (e.lit.var.0 - 1) n ∙ kept.all_placed;
      placed = λ k d within. elim (cases_eq k (length t.entries)) [
        | inl here ↦ let is : get_or (t.entries ++ e ∷ []) k d ≡ e = get_or_push t.entries e d k (sym here) in
            rw is (get_or-set_same places (e.lit.var.0 - 1) n 0 (omega (arith, kept.all_placed, over)) ∙ (behind ∙ sym here))
        | inr before ↦ let within' : k < length t.entries = omega arith in
            rw (get_or_append_left t.entries (e ∷ []) d k within')
            (get_or-set_other places (e.lit.var.0 - 1) ((get_or t.entries k d).lit.var.0 - 1) n 0
            (λ same. let one = kept.laws.in_range k d within' in
            apart k d.lit (omega (arith, length-map t.entries (λ (x : Entry). x.lit), within')) (ap (λ l. l.var.0) (get_or-map (λ (x : Entry). x.lit) t.entries k d d.lit within') ∙ omega (arith, one, over, same)))
            ∙ kept.placed k d within')
      ];
      enough = kept.enough;
    }

pub IsKept-cut : (t : TrailParts) (marks marks' : List Bool) (places : List ℕ) (room : ℕ) (size level : ℕ) → IsKept t marks places room → size ≤ length t.entries → AreMarked t.vars marks' (known_of (take size t.entries)) → All (λ e. e.level ≤ level) (take size t.entries) → ((k : ℕ) (d : Entry) → size ≤ k → k < length t.entries → level < (get_or t.entries k d).level) → level ≤ t.present → IsKept (record t { entries = take size t.entries; read = min t.read size; present = level }) marks' places room
IsKept-cut t marks marks' places room size level kept within marked low gone upto =
    let long : length (take size t.entries) ≡ size = length-take-le size t.entries within in
    record {
      laws = IsTrail-cut t size level kept.laws within low gone upto;
      marks_stand = marked;
      all_placed = kept.all_placed;
      placed = λ k d inside. rw (get_or-take size t.entries k d (omega arith)) (kept.placed k d (omega arith));
      enough = kept.enough;
    }

pub mark_within_at : (vars : ℕ) (entries : List Entry) (k : ℕ) → All (λ e. IsOver vars e.lit) entries → k < length entries → (d : Entry) → (n : ℕ) → n ≡ mark_place (get_or entries k d).lit → n < 2 * vars
mark_within_at vars entries k all within d n is = subst (λ m. m < 2 * vars) (sym is) (mark_within vars (get_or entries k d).lit (all k d within))

pub IsKept-cut_slice : (t : TrailParts) (marks new : List Bool) (n : ℕ) (places : List ℕ) (room : ℕ) (size level : ℕ) → IsKept t marks places room → n ≡ length marks → size ≤ length t.entries → AreMarked t.vars new (known_of (take size t.entries)) → All (λ e. e.level ≤ level) (take size t.entries) → ((k : ℕ) (d : Entry) → size ≤ k → k < length t.entries → level < (get_or t.entries k d).level) → level ≤ t.present → IsKept (record t { entries = take size t.entries; read = min t.read size; present = level }) (take n (new ++ drop (length new) marks)) places room
IsKept-cut_slice t marks new n places room size level kept all within marked low gone upto =
    let whole : take n (new ++ drop (length new) marks) ≡ new = take_at new (drop (length new) marks) n (omega (arith, marked.all_places, kept.marks_stand.all_places)) in
    rw whole (IsKept-cut t marks new places room size level kept within marked low gone upto)

-- the place that is kept for a variable
pub placed_at : (t : TrailParts) (marks : List Bool) (places : List ℕ) (room v : ℕ) → IsKept t marks places room → Any (λ e. e.lit.var.0 ≡ v) t.entries → (get_or places (v - 1) 0 < length t.entries) × ((d : Entry) → (get_or t.entries (get_or places (v - 1) 0) d).lit.var.0 ≡ v)
placed_at t marks places room v kept (k, e, within, is, here) =
    let at : get_or places ((get_or t.entries k e).lit.var.0 - 1) 0 ≡ k = kept.placed k e within in
    let number : (get_or t.entries k e).lit.var.0 ≡ v = ap (λ x. x.lit.var.0) is ∙ here in
    let place : get_or places (v - 1) 0 ≡ k = ap (λ n. get_or places (n - 1) 0) (sym number) ∙ at in
    (omega arith, λ d. ap (λ n. (get_or t.entries n d).lit.var.0) place ∙ (ap (λ x. x.lit.var.0) (get_or_default t.entries k d e within) ∙ number))

pub level_at : (entries : List Entry) (k j : ℕ) (d e : Entry) (P : ℕ → Type 0) → k ≡ j → j < length entries → P (get_or entries j e).level → P (get_or entries k d).level
level_at entries k j d e P same within holds = subst P (ap (λ x. x.level) (get_or_default entries j e d within) ∙ ap (λ n. (get_or entries n d).level) (sym same)) holds

-- what a read of the places and then of the entries gives
pub read_at : (t : TrailParts) (marks : List Bool) (places : List ℕ) (room v place : ℕ) (e : Entry) → IsKept t marks places room → (1 ≤ v) × (v ≤ t.vars) → Any (λ x. x.lit.var.0 ≡ v) t.entries → place ≡ get_or places (v - 1) place → e ≡ get_or t.entries place e → Any (λ x. x ≡ e) t.entries × (e.lit.var.0 ≡ v)
read_at t marks places room v place e kept over any is_place is_entry =
    let at = placed_at t marks places room v kept any in
    let place_is : place ≡ get_or places (v - 1) 0 = is_place ∙ get_or_default places (v - 1) place 0 (omega (arith, kept.all_placed, over)) in
    let within : place < length t.entries = omega (arith, at.0, place_is) in
    ((place, e, within, sym is_entry, refl), ap (λ x. x.lit.var.0) is_entry ∙ (ap (λ n. (get_or t.entries n e).lit.var.0) place_is ∙ at.1 e))
