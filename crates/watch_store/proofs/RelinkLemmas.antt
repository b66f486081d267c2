-- The chains after a node was relinked, read off the nodes.
use Rattle.std.proofs.Common.{◌≡◌, ◌≢◌, ℕ, ◌<◌, List, ◌∷◌, length, get_or, set, refl, ap, sym, ◌∙◌}
use Rattle.std.specs.Prelude.{Option, Some, None}
use Rattle.std.proofs.lemmas.List.{get_or-set_other, get_or-map, map-set, set-get_or}
use Rattle.sat_core.specs.declared.literal.Lit.{Lit}
use Rattle.sat_core.specs.Marks.{mark_place}
use Rattle.watch_store.specs.declared.node.Node.{Node}
use Rattle.watch_store.specs.Chains.{IsChainWalk}
use Rattle.watch_store.specs.Watching.{watches_of, nexts_of, homes_of}
use Rattle.watch_store.proofs.ChainLemmas.{walk_move_first, walk_move_later}

-- a new link leaves the watches
pub watches-next : (nodes : List Node) (b after : ℕ) (d : Node) → b < length nodes → watches_of (set nodes b (record { watch = (get_or nodes b d).watch; next = after })) ≡ watches_of nodes
watches-next nodes b after d within =
    let x : Node = record { watch = (get_or nodes b d).watch; next = after } in
    map-set (λ (n : Node). n.watch) nodes b x
    ∙ (ap (set (watches_of nodes) b) (sym (get_or-map (λ (n : Node). n.watch) nodes b d d.watch within)) ∙ set-get_or (watches_of nodes) b d.watch)

pub nexts-next : (nodes : List Node) (b : ℕ) (x : Node) → nexts_of (set nodes b x) ≡ set (nexts_of nodes) b x.next
nexts-next nodes b x = map-set (λ (n : Node). n.next) nodes b x

pub watches-set : (nodes : List Node) (b : ℕ) (x : Node) → watches_of (set nodes b x) ≡ set (watches_of nodes) b x.watch
watches-set nodes b x = map-set (λ (n : Node). n.watch) nodes b x

pub homes-set : (watches : List Lit) (b : ℕ) (x : Lit) → homes_of (set watches b x) ≡ set (homes_of watches) b (mark_place x)
homes-set watches b x = map-set mark_place watches b x

pub relinked_first : (heads : List ℕ) (nodes : List Node) (home node : ℕ) (watch : Lit) (heads1 heads2 : List ℕ) (nodes2 : List Node) → mark_place watch < length heads → heads1 ≡ set heads home (get_or (nexts_of nodes) node 0) → heads2 ≡ set heads1 (mark_place watch) node → nodes2 ≡ set nodes node (record { watch = watch; next = get_or heads1 (mark_place watch) 0 }) → (kept rest : List ℕ) (at : ℕ) → mark_place watch ≢ home → IsChainWalk heads (nexts_of nodes) (homes_of (watches_of nodes)) home kept (node ∷ rest) None at → IsChainWalk heads2 (nexts_of nodes2) (homes_of (watches_of nodes2)) home kept rest None (get_or (nexts_of nodes) node 0)
relinked_first heads nodes home node watch heads1 heads2 nodes2 within is1 is2 is3 kept rest at apart walk =
    let after : ℕ = get_or (nexts_of nodes) node 0 in
    let to : ℕ = mark_place watch in
    let head : get_or heads1 to 0 ≡ get_or heads to 0 = ap (λ h. get_or h to 0) is1 ∙ get_or-set_other heads home to after 0 apart in
    let nexts2 : nexts_of nodes2 ≡ set (nexts_of nodes) node (get_or heads to 0) = ap nexts_of is3 ∙ (nexts-next nodes node (record { watch = watch; next = get_or heads1 to 0 }) ∙ ap (set (nexts_of nodes) node) head) in
    let homes2 : homes_of (watches_of nodes2) ≡ set (homes_of (watches_of nodes)) node to = ap (λ ns. homes_of (watches_of ns)) is3 ∙ (ap homes_of (watches-set nodes node (record { watch = watch; next = get_or heads1 to 0 })) ∙ homes-set (watches_of nodes) node watch) in
    let heads2_is : heads2 ≡ set (set heads home after) to node = is2 ∙ ap (λ h. set h to node) is1 in
    rw (heads2_is, nexts2, homes2) (walk_move_first heads (nexts_of nodes) (homes_of (watches_of nodes)) home kept node rest at to within apart walk)

pub relinked_later : (heads : List ℕ) (nodes : List Node) (home b node : ℕ) (d : Node) (watch : Lit) (heads1 heads2 : List ℕ) (nodes1 nodes2 : List Node) → mark_place watch < length heads → b < length nodes → heads1 ≡ heads → nodes1 ≡ set nodes b (record { watch = (get_or nodes b d).watch; next = get_or (nexts_of nodes) node 0 }) → heads2 ≡ set heads1 (mark_place watch) node → nodes2 ≡ set nodes1 node (record { watch = watch; next = get_or heads1 (mark_place watch) 0 }) → (kept rest : List ℕ) (at : ℕ) → mark_place watch ≢ home → IsChainWalk heads (nexts_of nodes) (homes_of (watches_of nodes)) home kept (node ∷ rest) (Some b) at → IsChainWalk heads2 (nexts_of nodes2) (homes_of (watches_of nodes2)) home kept rest (Some b) (get_or (nexts_of nodes) node 0)
relinked_later heads nodes home b node d watch heads1 heads2 nodes1 nodes2 within b_within is1 is_nodes1 is2 is3 kept rest at apart walk =
    let after : ℕ = get_or (nexts_of nodes) node 0 in
    let to : ℕ = mark_place watch in
    let head : get_or heads1 to 0 ≡ get_or heads to 0 = ap (λ h. get_or h to 0) is1 in
    let nexts1 : nexts_of nodes1 ≡ set (nexts_of nodes) b after = ap nexts_of is_nodes1 ∙ nexts-next nodes b (record { watch = (get_or nodes b d).watch; next = after }) in
    let watches1 : watches_of nodes1 ≡ watches_of nodes = ap watches_of is_nodes1 ∙ watches-next nodes b after d b_within in
    let nexts2 : nexts_of nodes2 ≡ set (set (nexts_of nodes) b after) node (get_or heads to 0) = ap nexts_of is3 ∙ (nexts-next nodes1 node (record { watch = watch; next = get_or heads1 to 0 }) ∙ (ap (set (nexts_of nodes1) node) head ∙ ap (λ ns. set ns node (get_or heads to 0)) nexts1)) in
    let homes2 : homes_of (watches_of nodes2) ≡ set (homes_of (watches_of nodes)) node to = ap (λ ns. homes_of (watches_of ns)) is3 ∙ (ap homes_of (watches-set nodes1 node (record { watch = watch; next = get_or heads1 to 0 }) ∙ ap (λ ws. set ws node watch) watches1) ∙ homes-set (watches_of nodes) node watch) in
    let heads2_is : heads2 ≡ set heads to node = is2 ∙ ap (λ h. set h to node) is1 in
    rw (heads2_is, nexts2, homes2) (walk_move_later heads (nexts_of nodes) (homes_of (watches_of nodes)) home kept b node rest at to within apart walk)

pub relinked : (heads : List ℕ) (nodes : List Node) (home : ℕ) (before : Option ℕ) (node after : ℕ) (watch : Lit) (heads1 heads2 : List ℕ) (nodes1 nodes2 : List Node) → mark_place watch < length heads → ((b : ℕ) → before ≡ Some b → b < length nodes) → after ≡ get_or (nexts_of nodes) node 0 → (before ≡ None → heads1 ≡ set heads home after) → (before ≡ None → nodes1 ≡ nodes) → ((b : ℕ) → before ≡ Some b → heads1 ≡ heads) → ((b : ℕ) (d : Node) → before ≡ Some b → nodes1 ≡ set nodes b (record { watch = (get_or nodes b d).watch; next = after })) → heads2 ≡ set heads1 (mark_place watch) node → nodes2 ≡ set nodes1 node (record { watch = watch; next = get_or heads1 (mark_place watch) 0 }) → (kept rest : List ℕ) (at : ℕ) → mark_place watch ≢ home → IsChainWalk heads (nexts_of nodes) (homes_of (watches_of nodes)) home kept (node ∷ rest) before at → IsChainWalk heads2 (nexts_of nodes2) (homes_of (watches_of nodes2)) home kept rest before (get_or (nexts_of nodes) node 0)
relinked heads nodes home None node after watch heads1 heads2 nodes1 nodes2 within below is first_heads first_nodes later_heads later_nodes heads2_is nodes2_is =
    relinked_first heads nodes home node watch heads1 heads2 nodes2 within (first_heads refl ∙ ap (set heads home) is) heads2_is (nodes2_is ∙ ap (λ ns. set ns node (record { watch = watch; next = get_or heads1 (mark_place watch) 0 })) (first_nodes refl))
relinked heads nodes home (Some b) node after watch heads1 heads2 nodes1 nodes2 within below is first_heads first_nodes later_heads later_nodes heads2_is nodes2_is =
    let d : Node = record { watch = watch; next = 0 } in
    relinked_later heads nodes home b node d watch heads1 heads2 nodes1 nodes2 within (below b refl) (later_heads b refl) (later_nodes b d refl ∙ ap (λ (n : ℕ). set nodes b (record { watch = (get_or nodes b d).watch; next = n })) is) heads2_is nodes2_is

pub relinked_watches : (nodes : List Node) (before : Option ℕ) (node after : ℕ) (watch : Lit) (head : ℕ) (nodes1 nodes2 : List Node) → ((b : ℕ) → before ≡ Some b → b < length nodes) → (before ≡ None → nodes1 ≡ nodes) → ((b : ℕ) (d : Node) → before ≡ Some b → nodes1 ≡ set nodes b (record { watch = (get_or nodes b d).watch; next = after })) → nodes2 ≡ set nodes1 node (record { watch = watch; next = head }) → watches_of nodes2 ≡ set (watches_of nodes) node watch
relinked_watches nodes None node after watch head nodes1 nodes2 below first later is =
    ap watches_of (is ∙ ap (λ ns. set ns node (record { watch = watch; next = head })) (first refl)) ∙ watches-set nodes node (record { watch = watch; next = head })
relinked_watches nodes (Some b) node after watch head nodes1 nodes2 below first later is =
    let d : Node = record { watch = watch; next = 0 } in
    ap watches_of is ∙ (watches-set nodes1 node (record { watch = watch; next = head }) ∙ ap (λ ws. set ws node watch) (ap watches_of (later b d refl) ∙ watches-next nodes b after d (below b refl)))

pub next_read : (nodes : List Node) (node : ℕ) (d : Node) → node < length nodes → (get_or nodes node d).next ≡ get_or (nexts_of nodes) node 0
next_read nodes node d within = sym (get_or-map (λ (n : Node). n.next) nodes node d 0 within)
