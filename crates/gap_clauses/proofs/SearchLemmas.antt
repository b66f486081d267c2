-- The steps of the search: what a piece adds, and what it leaves for the next.
use Rattle.std.proofs.Common.{◌≡◌, ◌≢◌, ◌<◌, ◌≤◌, ◌+◌, ◌-◌, inl, inr, ℕ, zero, suc, List, [], ◌∷◌, ◌++◌, length, take, drop, get_or, refl, sym, ap, ◌∙◌, subst, arith, length-append, append_assoc, take-append-drop}
use Rattle.std.specs.Prelude.{All, Option, Some, None, slice_get, slice_range}
use Rattle.std.specs.List.{filter, flat_map}
use Rattle.std.proofs.lemmas.Bool.{eqb-true}
use Rattle.std.proofs.lemmas.List.{append-nil, take_more, take_all, take-take, take-append-le, length-take-le, length-drop, get_or_default, get_or-take, get_or-drop, get_or_append_left, drop-take, length-map, length_push, nil_from_length}
use Rattle.std.proofs.lemmas.List.Concat.{flat_map-append}
use Rattle.std.proofs.lemmas.Option.{same_Some}
use Rattle.std.proofs.lemmas.List.Elements.{All-push, All-same, All-weaker, Contains-get_or, filter-append}
use Rattle.std.proofs.lemmas.List.Kept.{AllPairs-filter}
use Rattle.std.proofs.lemmas.List.Sums.{length-filter}
use Rattle.std.proofs.Math.Seq.{drop-append_seam}
use Rattle.cell_net.specs.Space.{IsCell}
use Rattle.cell_net.specs.Rules.{IsInstance}
use Rattle.cell_net.specs.Borders.{IsAtEnd}
use Rattle.cell_net.specs.declared.cells.CellSpec.{CellSpec}
use Rattle.cell_net.specs.declared.ids.CellId.{CellId}
use Rattle.cell_net.specs.declared.ids.NodeId.{NodeId}
use Rattle.cell_net.specs.declared.parts.InstanceParts.{InstanceParts}
use Rattle.gap_clauses.specs.declared.fan.Stop.{Stop}
use Rattle.gap_clauses.specs.declared.fan.Stop.TheVariants.{TooMany, Memory}
use Rattle.gap_clauses.specs.Walks.{Step, IsWalk, IsWalkFrom, IsWalkBefore, end_of, node_numbers}
use Rattle.gap_clauses.specs.Crowds.{IsCrowdedFrom}
use Rattle.gap_clauses.specs.Fans.{FanParts, AreListed, AreRows, GoesOverNext, IsDone, IsGroup, HasTooManyWalks, IsOverNodes, IsSearchState, IsFanOf, IsSearchStop, IsSkipped, IsStop, IsUpTo, LeadToCells, all_over, ends_in, nodes_at, walk_at, walks_to}
use Rattle.gap_clauses.proofs.ListLemmas.{Contains-from_filter}
use Rattle.gap_clauses.proofs.OrderLaws.{not_before_back}
use Rattle.gap_clauses.proofs.ListedLaws.{all_listed, first_group, first_listed, done_alone, done_last, done_more, done_next, listed_push}
use Rattle.gap_clauses.proofs.OverLaws.{group_over}
use Rattle.gap_clauses.proofs.WalkLaws.{end_is_cell, same_cell, walk_is_short}

take_at_most : {X : Type 0} (k : ℕ) (xs : List X) → length (take k xs) ≤ k
take_at_most zero xs = omega arith
take_at_most (suc k) [] = omega arith
take_at_most (suc k) (x ∷ xs) = omega (arith, take_at_most k xs)

take_below : {X : Type 0} (k : ℕ) (xs : List X) → length (take k xs) ≤ length xs
take_below zero xs = omega arith
take_below (suc k) [] = omega arith
take_below (suc k) (x ∷ xs) = omega (arith, take_below k xs)

-- what stops a search stops one that goes further
over_more : (first : CellId) (walks more : List (List Step)) → HasTooManyWalks first walks → HasTooManyWalks first (walks ++ more)
unfolding HasTooManyWalks
over_more first walks more (f, many) =
    let one = length-filter (ends_in first f) walks in
    let both = length-filter (ends_in first f) (walks ++ more) in
    let parts : length (filter (ends_in first f) (walks ++ more)) ≡ length (filter (ends_in first f) walks) + length (filter (ends_in first f) more) = ap length (filter-append (ends_in first f) walks more) ∙ length-append (filter (ends_in first f) walks) (filter (ends_in first f) more) in
    (f, omega (arith, many, one, both, parts))

stop_more : (first : CellId) (walks more : List (List Step)) (stop : Stop) → IsStop first walks stop → IsStop first (walks ++ more) stop
stop_more first walks more TooMany is = over_more first walks more is
stop_more first walks more Memory is = tt

pub stop_same : (first : CellId) (walks others : List (List Step)) (stop : Stop) → walks ≡ others → IsStop first others stop → IsStop first walks stop
stop_same first walks others TooMany same is = subst (HasTooManyWalks first) (sym same) is
stop_same first walks others Memory same is = tt

pub stop_alike : (first again : CellId) (walks : List (List Step)) (stop : Stop) → first ≡ again → IsStop again walks stop → IsStop first walks stop
stop_alike first again walks TooMany same is = subst (λ e. HasTooManyWalks e walks) (sym same) is
stop_alike first again walks Memory same is = tt

-- one item more of a list gives its piece more
pieces_more : {X Y : Type 0} (f : X → List Y) (xs : List X) (k : ℕ) (x : X) → k < length xs → get_or xs k x ≡ x → flat_map f (take (k + 1) xs) ≡ flat_map f (take k xs) ++ f x
pieces_more f xs k x within is =
    ap (flat_map f) (take_more xs k x within ∙ ap (λ y. take k xs ++ y ∷ []) is) ∙ (flat_map-append f (take k xs) (x ∷ []) ∙ ap (λ ys. flat_map f (take k xs) ++ ys) (append-nil (f x)))

pub walks_more : {X : Type 0} (f : X → List (List Step)) (xs : List X) (k : ℕ) (x : X) (old now new piece : List (List Step)) → k < length xs → get_or xs k x ≡ x → now ≡ old ++ flat_map f (take k xs) → new ≡ now ++ piece → piece ≡ f x →
    new ≡ old ++ flat_map f (take (k + 1) xs)
walks_more f xs k x old now new piece within is before after same =
    after ∙ (ap (λ ws. ws ++ piece) before ∙ (append_assoc old (flat_map f (take k xs)) piece ∙ ap (λ ws. old ++ ws) (ap (λ ws. flat_map f (take k xs) ++ ws) same ∙ sym (pieces_more f xs k x within is))))

pub stop_within : {X : Type 0} (f : X → List (List Step)) (first : CellId) (xs : List X) (k : ℕ) (x : X) (old now piece : List (List Step)) (stop : Stop) → k < length xs → get_or xs k x ≡ x → now ≡ old ++ flat_map f (take k xs) → piece ≡ f x →
    IsStop first (now ++ piece) stop → IsStop first (old ++ flat_map f xs) stop
stop_within f first xs k x old now piece stop within is before same stopped =
    let upto : now ++ piece ≡ old ++ flat_map f (take (k + 1) xs) = walks_more f xs k x old now (now ++ piece) piece within is before refl same in
    let whole : old ++ flat_map f xs ≡ (now ++ piece) ++ flat_map f (drop (k + 1) xs) =
    ap (λ ys. old ++ flat_map f ys) (sym (take-append-drop (k + 1) xs)) ∙ (ap (λ ws. old ++ ws) (flat_map-append f (take (k + 1) xs) (drop (k + 1) xs))
    ∙ (sym (append_assoc old (flat_map f (take (k + 1) xs)) (flat_map f (drop (k + 1) xs))) ∙ ap (λ ws. ws ++ flat_map f (drop (k + 1) xs)) (sym upto))) in
    stop_same first _ _ stop whole (stop_more first (now ++ piece) (flat_map f (drop (k + 1) xs)) stop stopped)

-- a walk stays where it stands
pub walk_kept : (old now more : List (List Step)) (place : ℕ) → now ≡ old ++ more → place < length old → walk_at now place ≡ walk_at old place
walk_kept old now more place is within = ap (λ ws. walk_at ws place) is ∙ get_or_append_left old more [] place within

-- a walk between two places
pub walk_between : (walks : List (List Step)) (from end place : ℕ) → from ≤ place → place < end → end ≤ length walks → (place - from < length (slice_range walks from end)) × (get_or (slice_range walks from end) (place - from) (walk_at walks place) ≡ walk_at walks place)
walk_between walks from end place above below within =
    let size : length (drop from walks) ≡ length walks - from = length-drop from walks in
    let at : from + (place - from) ≡ place = omega arith in
    let whole : length (slice_range walks from end) ≡ end - from = length-take-le (end - from) (drop from walks) (omega arith) in (
      omega arith,
      get_or-take (end - from) (drop from walks) (place - from) (walk_at walks place) (omega arith) ∙ (get_or-drop from walks (place - from) (walk_at walks place) ∙ (ap (λ k. get_or walks k (walk_at walks place)) at ∙ get_or_default walks place (walk_at walks place) [] (omega arith))),
    )

pub slice_whole : (walks : List (List Step)) (from end place : ℕ) → end ≤ place → take (place - from) (slice_range walks from end) ≡ slice_range walks from end
slice_whole walks from end place past = take_all (place - from) (slice_range walks from end) (let few : length (slice_range walks from end) ≤ end - from = take_at_most (end - from) (drop from walks) in omega arith)

-- the walks that are listed lead to cells
pub listed_lead : (p : InstanceParts) (e : CellId) (P : List Step → Type 0) (walks : List (List Step)) → IsCell p e → AreListed p e P walks → LeadToCells p e walks
listed_lead p e P walks here listed k d within =
    let walk : IsWalkFrom p e (get_or walks k d) = ((listed.each (get_or walks k d)).0 (Contains-get_or walks k d within)).0 in
    end_is_cell p e (get_or walks k d) (end_of e (get_or walks k d)) here walk.leads

before_differs : (one other : List Step) → IsWalkBefore one other → one ≢ other
before_differs one other before same = let self : IsWalkBefore one one = subst (IsWalkBefore one) (sym same) before in not_before_back one one self self

-- listed walks with too many to a cell
pub crowded : (p : InstanceParts) (e : CellId) (P : List Step → Type 0) (walks : List (List Step)) → AreListed p e P walks → HasTooManyWalks e walks → IsCrowdedFrom p e
unfolding HasTooManyWalks ends_in
crowded p e P walks listed (f, many) = (
  f,
  record {
    walks = walks_to e walks f;
    are_walks = λ k d within.
        let w : List Step = get_or (walks_to e walks f) k d in
        let there = Contains-from_filter (ends_in e f) walks w (Contains-get_or (walks_to e walks f) k d within) in
        subst (IsWalk p e w) (same_cell (end_of e w) f (eqb-true _ _ there.1)) ((listed.each w).0 there.0).0;
    no_walk_twice = λ i j d low high. before_differs _ _ (AllPairs-filter IsWalkBefore (ends_in e f) walks listed.in_order i j d low high);
    many = omega (arith, many, length-filter (ends_in e f) walks);
  },
)

pub search_stop : (p : InstanceParts) (e : CellId) (P : List Step → Type 0) (walks : List (List Step)) (stop : Stop) → AreListed p e P walks → IsStop e walks stop → IsSearchStop p e stop
search_stop p e P walks TooMany listed is = crowded p e P walks listed is
search_stop p e P walks Memory listed is = tt

-- the group of a search, among more walks
pub group_kept : (old now : List (List Step)) (from end : ℕ) → from ≤ end → end ≡ length old → take (length old) now ≡ old → slice_range now from end ≡ drop from old
group_kept old now from end low is kept =
    let size : from + (end - from) ≡ length old = omega arith in
    sym (drop-take from (end - from) now) ∙ (ap (λ k. drop from (take k now)) size ∙ ap (drop from) kept)

-- the walks over one node more
pub record AreFurther (p : InstanceParts) (e : CellId) (ms : List ℕ) (n : ℕ) (now new : List (List Step)) : Type 0 where
  pub more : List (List Step)
  pub is : new ≡ now ++ more
  pub up_to : AreListed p e (IsUpTo (ms ++ n ∷ [])) new
  pub group : AreListed p e (IsOverNodes (ms ++ n ∷ [])) more

pub further_over : (p : InstanceParts) (rows : List (List CellId)) (e : CellId) (old now new : List (List Step)) (from end below : ℕ) (n : NodeId) → IsInstance p → AreRows p rows → IsCell p e → IsGroup p e old from → end ≡ length old →
    take (length old) now ≡ old → AreListed p e (IsDone (nodes_at old from) below) now → below ≤ n.0 → All (GoesOverNext p e below (Some n)) (slice_range now from end) →
    new ≡ now ++ all_over p rows e n (slice_range now from end) → AreFurther p e (nodes_at old from) n.0 now new
further_over p rows e old now new from end below n rules are_rows here group is kept listed low goes more =
    let same : slice_range now from end ≡ drop from old = group_kept old now from end (omega (arith, group.within)) is kept in
    let here_group : AreListed p e (IsOverNodes (nodes_at old from)) (slice_range now from end) = subst (AreListed p e (IsOverNodes (nodes_at old from))) (sym same) group.group in
    let done : AreListed p e (IsDone (nodes_at old from) n.0) now = done_next p e (nodes_at old from) below n (slice_range now from end) now here_group goes low listed in
    let next = group_over p rows e (nodes_at old from) n (slice_range now from end) are_rows here here_group in
    record {
      more = all_over p rows e n (slice_range now from end);
      is = more;
      up_to = listed_push p e (nodes_at old from) n.0 now (all_over p rows e n (slice_range now from end)) new done next more;
      group = next;
    }

-- none of them
pub further_none : (p : InstanceParts) (e : CellId) (ms : List ℕ) (n : ℕ) (now new : List (List Step)) → AreFurther p e ms n now new → length new ≤ length now → AreListed p e (IsDone ms (n + 1)) new
further_none p e ms n now new further few =
    let none : further.more ≡ [] = nil_from_length further.more (omega (arith, ap length further.is, length-append now further.more)) in
    done_alone p e ms n new further.up_to (subst (AreListed p e (IsOverNodes (ms ++ n ∷ []))) none further.group)

-- some of them: the next group
pub further_nodes : (p : InstanceParts) (e : CellId) (ms : List ℕ) (n : ℕ) (now new : List (List Step)) → AreFurther p e ms n now new → length now < length new → nodes_at new (length now) ≡ ms ++ n ∷ []
unfolding IsOverNodes
further_nodes p e ms n now new further some =
    let size : length new ≡ length now + length further.more = ap length further.is ∙ length-append now further.more in
    let rest : drop (length now) new ≡ further.more = ap (drop (length now)) further.is ∙ drop-append_seam now further.more in
    let at : walk_at new (length now) ≡ walk_at further.more 0 = sym (get_or-drop (length now) new 0 [] ∙ ap (λ k. walk_at new k) (let e : length now + 0 ≡ length now = omega arith in e)) ∙ ap (λ ws. walk_at ws 0) rest in
    ap node_numbers at ∙ ((further.group.each (walk_at further.more 0)).0 (Contains-get_or further.more 0 [] (omega arith))).1

pub further_group : (p : InstanceParts) (e : CellId) (ms : List ℕ) (n : ℕ) (now new : List (List Step)) → AreFurther p e ms n now new → length now < length new → IsGroup p e new (length now)
further_group p e ms n now new further some =
    let nodes = further_nodes p e ms n now new further some in
    let rest : drop (length now) new ≡ further.more = ap (drop (length now)) further.is ∙ drop-append_seam now further.more in
    record {
      within = some;
      group = subst (λ ns. AreListed p e (IsOverNodes ns) (drop (length now) new)) (sym nodes) (subst (AreListed p e (IsOverNodes (ms ++ n ∷ []))) (sym rest) further.group);
      all = subst (λ ns. AreListed p e (IsUpTo ns) new) (sym nodes) further.up_to;
    }

pub further_done : (p : InstanceParts) (e : CellId) (ms : List ℕ) (n : ℕ) (now new last : List (List Step)) → IsInstance p → AreFurther p e ms n now new → length now < length new → AreListed p e (IsDone (nodes_at new (length now)) p.nodes) last → AreListed p e (IsDone ms (n + 1)) last
further_done p e ms n now new last rules further some done =
    done_more p e ms n last rules (subst (λ ns. AreListed p e (IsDone ns p.nodes) last) (further_nodes p e ms n now new further some) done)

-- what stood first stands first
pub kept_on : (old now new more : List (List Step)) → take (length old) now ≡ old → new ≡ now ++ more → take (length old) new ≡ old
kept_on old now new more kept is =
    let size : length old ≤ length now = omega (arith, ap length kept, take_below (length old) now) in
    ap (take (length old)) is ∙ (take-append-le (length old) now more size ∙ kept)

pub kept_through : (old new last : List (List Step)) → take (length old) new ≡ old → take (length new) last ≡ new → take (length old) last ≡ old
kept_through old new last kept again =
    let size : length old ≤ length new = omega (arith, ap length kept, take_below (length old) new) in
    sym (take-take (length old) (length new) last size) ∙ (ap (take (length old)) again ∙ kept)

-- the next node of one walk more
pub goes_more : (p : InstanceParts) (first : CellId) (below : ℕ) (next lower : Option NodeId) (walks : List (List Step)) (from end place : ℕ) (spec : CellSpec) → from ≤ place → place < end → end ≤ length walks →
    slice_get p.cells (end_of first (walk_at walks place)).0 ≡ Some spec → IsSkipped below lower spec.low → IsSkipped below lower spec.high → ((m : NodeId) → IsSkipped below next m → IsSkipped below lower m) →
    All (GoesOverNext p first below next) (take (place - from) (slice_range walks from end)) → All (GoesOverNext p first below lower) (take (place + 1 - from) (slice_range walks from end))
unfolding GoesOverNext
goes_more p first below next lower walks from end place spec above under within is at_low at_high others old =
    let there = walk_between walks from end place above under within in
    let one : place + 1 - from ≡ place - from + 1 = omega arith in
    let more : take (place + 1 - from) (slice_range walks from end) ≡ take (place - from) (slice_range walks from end) ++ walk_at walks place ∷ [] =
    ap (λ k. take k (slice_range walks from end)) one ∙ (take_more (slice_range walks from end) (place - from) (walk_at walks place) there.0 ∙ ap (λ w. take (place - from) (slice_range walks from end) ++ w ∷ []) there.1) in
    All-same (GoesOverNext p first below lower) _ _ more (All-push (GoesOverNext p first below lower) (take (place - from) (slice_range walks from end)) (walk_at walks place)
    (All-weaker (GoesOverNext p first below next) (GoesOverNext p first below lower) (λ w goes s m here at. others m (goes s m here at)) (take (place - from) (slice_range walks from end)) old)
    (λ s m here at. let same : s ≡ spec = same_Some _ _ (sym here ∙ is) in elim (subst (λ (x : CellSpec). IsAtEnd x m) same at) [ inl low ↦ subst (IsSkipped below lower) low at_low | inr high ↦ subst (IsSkipped below lower) high at_high ]))

-- a search begins
pub ready_first : (p : InstanceParts) (rows : List (List CellId)) (e : CellId) (fan : FanParts) → IsInstance p → AreRows p rows → IsCell p e → fan ≡ record { first = e; cells = length p.cells; walks = [] ∷ [] } → IsSearchState p rows fan 0
ready_first p rows e fan rules are here is = subst (λ (v : FanParts). IsSearchState p rows v 0) (sym is) (record {
  rules = rules;
  are_rows = are;
  first = here;
  cells = refl;
  group = record { within = omega arith; group = first_group p e; all = first_listed p e };
})

-- and ends
pub fan_found : (p : InstanceParts) (e : CellId) (fan found : FanParts) → IsInstance p → fan ≡ record { first = e; cells = length p.cells; walks = [] ∷ [] } → found.first ≡ fan.first → found.cells ≡ fan.cells →
    AreListed p fan.first (IsDone (nodes_at fan.walks 0) p.nodes) found.walks → ((f : CellId) → f.0 < found.cells → length (walks_to found.first found.walks f) ≤ 64) → IsFanOf p e found
fan_found p e fan found rules is first cells listed few = record {
  first = first ∙ ap (λ (v : FanParts). v.first) is;
  cells = cells ∙ ap (λ (v : FanParts). v.cells) is;
  all = all_listed p e found.walks rules (subst (λ (v : FanParts). AreListed p v.first (IsDone (nodes_at v.walks 0) p.nodes) found.walks) is listed);
  few = few;
}

-- the walks over one node more, as a search finds them
pub visit_over : (p : InstanceParts) (rows : List (List CellId)) (fan : FanParts) (from end : ℕ) (first : CellId) (now new : List (List Step)) (below : ℕ) (n : NodeId) → IsSearchState p rows fan from → end ≡ length fan.walks → first ≡ fan.first →
    take (length fan.walks) now ≡ fan.walks → AreListed p fan.first (IsDone (nodes_at fan.walks from) below) now → below ≤ n.0 → All (GoesOverNext p first below (Some n)) (slice_range now from end) →
    new ≡ now ++ all_over p rows first n (slice_range now from end) → AreFurther p fan.first (nodes_at fan.walks from) n.0 now new
visit_over p rows fan from end first now new below n ready is same kept listed low goes more =
    further_over p rows fan.first fan.walks now new from end below n ready.rules ready.are_rows ready.first ready.group is kept listed low (subst (λ e. All (GoesOverNext p e below (Some n)) (slice_range now from end)) same goes)
    (more ∙ ap (λ e. now ++ all_over p rows e n (slice_range now from end)) same)

pub visit_ready : (p : InstanceParts) (rows : List (List CellId)) (fan next : FanParts) (from begin : ℕ) (n : ℕ) (now : List (List Step)) → IsSearchState p rows fan from → AreFurther p fan.first (nodes_at fan.walks from) n now next.walks → next.first ≡ fan.first → next.cells ≡ fan.cells →
    begin ≡ length now → begin < length next.walks → IsSearchState p rows next begin
visit_ready p rows fan next from begin n now ready further first cells is some = record {
  rules = ready.rules;
  are_rows = ready.are_rows;
  first = subst (IsCell p) (sym first) ready.first;
  cells = cells ∙ ready.cells;
  group = subst (λ e. IsGroup p e next.walks begin) (sym first) (subst (IsGroup p fan.first next.walks) (sym is) (further_group p fan.first (nodes_at fan.walks from) n now next.walks further (omega (arith, is, some))));
}

pub visit_smaller : (p : InstanceParts) (rows : List (List CellId)) (fan next : FanParts) (from begin : ℕ) (n : ℕ) (now : List (List Step)) → IsSearchState p rows fan from → AreFurther p fan.first (nodes_at fan.walks from) n now next.walks → next.first ≡ fan.first → next.cells ≡ fan.cells →
    begin ≡ length now → begin < length next.walks → length p.cells - length (walk_at next.walks begin) < length p.cells - length (walk_at fan.walks from)
visit_smaller p rows fan next from begin n now ready further first cells is some =
    let again = visit_ready p rows fan next from begin n now ready further first cells is some in
    let nodes : nodes_at next.walks begin ≡ nodes_at fan.walks from ++ n ∷ [] = ap (nodes_at next.walks) is ∙ further_nodes p fan.first (nodes_at fan.walks from) n now next.walks further (omega (arith, is, some)) in
    let here = length-map (walk_at next.walks begin) (λ (s : Step). s.node.0) in
    let there = length-map (walk_at fan.walks from) (λ (s : Step). s.node.0) in
    let more : length (nodes_at next.walks begin) ≡ length (nodes_at fan.walks from) + 1 = ap length nodes ∙ length_push (nodes_at fan.walks from) n in
    let walk : IsWalkFrom p next.first (walk_at next.walks begin) = ((again.group.all.each (walk_at next.walks begin)).0 (Contains-get_or next.walks begin [] some)).0 in
    let short = walk_is_short p next.first (walk_at next.walks begin) again.first walk in
    omega (arith, here, there, more, short)

pub visit_done : (p : InstanceParts) (rows : List (List CellId)) (fan : FanParts) (from end below : ℕ) (first : CellId) (now : List (List Step)) → IsSearchState p rows fan from → end ≡ length fan.walks → first ≡ fan.first → take (length fan.walks) now ≡ fan.walks →
    AreListed p fan.first (IsDone (nodes_at fan.walks from) below) now → All (GoesOverNext p first below None) (slice_range now from end) → AreListed p fan.first (IsDone (nodes_at fan.walks from) p.nodes) now
visit_done p rows fan from end below first now ready is same kept listed goes =
    let here : slice_range now from end ≡ drop from fan.walks = group_kept fan.walks now from end (omega (arith, is, ready.group.within)) is kept in
    done_last p fan.first (nodes_at fan.walks from) below (slice_range now from end) now ready.rules (subst (AreListed p fan.first (IsOverNodes (nodes_at fan.walks from))) (sym here) ready.group.group)
    (subst (λ e. All (GoesOverNext p e below None) (slice_range now from end)) same goes) listed

pub visit_leads : (p : InstanceParts) (first e : CellId) (P : List Step → Type 0) (walks : List (List Step)) → first ≡ e → IsCell p e → AreListed p e P walks → LeadToCells p first walks
visit_leads p first e P walks same here listed = subst (λ x. LeadToCells p x walks) (sym same) (listed_lead p e P walks here listed)

pub visit_walks : (p : InstanceParts) (first e : CellId) (P : List Step → Type 0) (walks : List (List Step)) → first ≡ e → AreListed p e P walks → All (IsWalkFrom p first) walks
visit_walks p first e P walks same listed = subst (λ x. All (IsWalkFrom p x) walks) (sym same) (λ k d within. ((listed.each (get_or walks k d)).0 (Contains-get_or walks k d within)).0)

-- what the loop keeps: behind a group that was visited, and where there was none
pub visit_on : (p : InstanceParts) (rows : List (List CellId)) (fan next last : FanParts) (from begin n m : ℕ) (now : List (List Step)) → IsSearchState p rows fan from → AreFurther p fan.first (nodes_at fan.walks from) n now next.walks →
    next.first ≡ fan.first → next.cells ≡ fan.cells → begin ≡ length now → begin < length next.walks → take (length fan.walks) now ≡ fan.walks → last.first ≡ next.first → last.cells ≡ next.cells → take (length next.walks) last.walks ≡ next.walks →
    AreListed p next.first (IsDone (nodes_at next.walks begin) p.nodes) last.walks → m ≡ n →
    (last.first ≡ fan.first) × (last.cells ≡ fan.cells) × (take (length fan.walks) last.walks ≡ fan.walks) × AreListed p fan.first (IsDone (nodes_at fan.walks from) (m + 1)) last.walks
visit_on p rows fan next last from begin n m now ready further first cells is some kept again_first again_cells again listed number = (
  again_first ∙ first,
  again_cells ∙ cells,
  kept_through fan.walks next.walks last.walks (kept_on fan.walks now next.walks further.more kept further.is) again,
  subst (λ k. AreListed p fan.first (IsDone (nodes_at fan.walks from) (k + 1)) last.walks) (sym number)
      (further_done p fan.first (nodes_at fan.walks from) n now next.walks last.walks ready.rules further (omega (arith, is, some))
      (subst (λ e. AreListed p e (IsDone (nodes_at next.walks (length now)) p.nodes) last.walks) first (subst (λ k. AreListed p next.first (IsDone (nodes_at next.walks k) p.nodes) last.walks) is listed))),
)

pub visit_stays : (p : InstanceParts) (fan next : FanParts) (from n m : ℕ) (now : List (List Step)) → AreFurther p fan.first (nodes_at fan.walks from) n now next.walks →
    next.first ≡ fan.first → next.cells ≡ fan.cells → length next.walks ≤ length now → take (length fan.walks) now ≡ fan.walks → m ≡ n →
    (next.first ≡ fan.first) × (next.cells ≡ fan.cells) × (take (length fan.walks) next.walks ≡ fan.walks) × AreListed p fan.first (IsDone (nodes_at fan.walks from) (m + 1)) next.walks
visit_stays p fan next from n m now further first cells few kept number = (
  first,
  cells,
  kept_on fan.walks now next.walks further.more kept further.is,
  subst (λ k. AreListed p fan.first (IsDone (nodes_at fan.walks from) (k + 1)) next.walks) (sym number) (further_none p fan.first (nodes_at fan.walks from) n now next.walks further few),
)
