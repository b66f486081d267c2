-- Steps of the loops that number a network, and what is stored of it.
use Rattle.std.proofs.Common.{◌≡◌, ◌≢◌, ℕ, ◌+◌, ◌-◌, ◌*◌, ◌<◌, ◌≤◌, ◌^◌, List, [], ◌∷◌, ◌++◌, length, get_or, take, drop, map, sym, ap, ◌∙◌, subst, ⊎_elim, arith, Some}
use Rattle.std.specs.Prelude.{nat_eq, slice_index, slice_get}
use Rattle.std.specs.List.{position_or_len}
use Rattle.std.proofs.lemmas.Bool.{eq-eqb}
use Rattle.std.proofs.lemmas.Bool.Decides.{eqb_tells}
use Rattle.std.proofs.lemmas.List.{length-map, get_or-map, map-append, take_more}
use Rattle.std.proofs.lemmas.Option.{slice_get_within, get_or_from_slice_get}
use Rattle.std.proofs.Math.Nat.{mul-le-mul_right}
use Rattle.std.proofs.lemmas.List.Sums.{position_or_len_is}
use Rattle.std.proofs.lemmas.List.FromFn.{map-range_with_len_more}
use Rattle.clause_list.specs.Ranges.{from_below, below}
use Rattle.clause_list.specs.Numbers.{Network, section_of, above, gap, gaps_below}
use Rattle.clause_list.specs.Orders.{place_in_section, first_gap}
use Rattle.clause_list.proofs.ListLaws.{length-below, at_below, same_number}
use Rattle.clause_list.proofs.SectionLaws.{above_is, place_within, places_of_section, length-above, next_gap, few_gaps, few_in_section}
use Rattle.std.specs.Prelude.{All}
use Rattle.std.proofs.lemmas.List.Elements.{Contains-get_or}
use Rattle.clause_list.proofs.BorderLaws.{section_member, above_member}
use Rattle.clause_encoder.specs.PairFitting.{IsOfSection, IsAbove}
use Rattle.clause_encoder.specs.NetworkStore.{IsNetworkStore, sections_alone}

map_more : {X : Type 0} (f : ℕ → X) (n : ℕ) → map f (from_below 0 (n + 1)) ≡ map f (from_below 0 n) ++ f n ∷ []
unfolding from_below
map_more f n = let e : n + 1 - 0 ≡ n + 1 = omega arith in let z : n - 0 ≡ n = omega arith in rw (e, z) (map-range_with_len_more f 0 n n (omega arith))

-- one number more
pub grown : {X : Type 0} (f : ℕ → X) (n : ℕ) (old new : List X) (x : X) → old ≡ map f (from_below 0 n) → new ≡ old ++ x ∷ [] → x ≡ f n → new ≡ map f (from_below 0 (n + 1))
grown f n old new x before this same = this ∙ ap (λ xs. xs ++ x ∷ []) before ∙ ap (λ y. map f (from_below 0 n) ++ y ∷ []) same ∙ sym (map_more f n)

-- what is stored for a number
pub stored_at : {X : Type 0} (f : ℕ → X) (n k : ℕ) (xs : List X) (d : X) → xs ≡ map f (below n) → k < n → (k < length xs) × (get_or xs k d ≡ f k)
stored_at f n k xs d same within =
    let count : length xs ≡ n = ap length same ∙ length-map (below n) f ∙ length-below n in
    (omega arith, ap (λ ys. get_or ys k d) same ∙ get_or-map f (below n) k 0 d (omega (arith, length-below n)) ∙ ap f (at_below n k 0 within))

-- the item stands first at that place, or nowhere
pub first_at : (xs : List ℕ) (item place : ℕ) → ((k : ℕ) → k < place → get_or xs k 0 ≢ item) → place ≤ length xs → (place < length xs → get_or xs place 0 ≡ item) → place ≡ position_or_len (nat_eq item) xs
first_at xs item place before within here =
    sym (position_or_len_is (nat_eq item) xs place 0 within
    (λ k less. ⊎_elim (λ e. absurd (before k less (sym e.1))) (λ n. n.0) (eqb_tells item (get_or xs k 0)))
    (λ inside. eq-eqb item (get_or xs place 0) (sym (here inside))))

-- one item more of a list that is mapped
pub mapped_more : {X Y : Type 0} (f : X → Y) (xs : List X) (n : ℕ) (old new : List Y) (x : X) → old ≡ map f (take n xs) → new ≡ old ++ f x ∷ [] → slice_get xs n ≡ Some x → new ≡ map f (take (n + 1) xs)
mapped_more f xs n old new x before this is =
    let within : n < length xs = slice_get_within xs n x is in
    let here : get_or xs n x ≡ x = get_or_from_slice_get xs n x x is in
    this ∙ (ap (λ ys. ys ++ f x ∷ []) before ∙ (ap (λ y. map f (take n xs) ++ f y ∷ []) (sym here) ∙ (sym (map-append f (take n xs) (get_or xs n x ∷ [])) ∙ ap (map f) (sym (take_more xs n x within)))))

-- what is stored for the cells of a network
pub store_is : (v net : Network) (rows : List (List ℕ)) (places gaps : List ℕ) (behind : ℕ) → v ≡ net → IsNetworkStore v rows places gaps behind → IsNetworkStore net rows places gaps behind
store_is v net rows places gaps behind same store = subst (λ n. IsNetworkStore n rows places gaps behind) same store

pub row_at : (v net : Network) (rows : List (List ℕ)) (places gaps : List ℕ) (behind e : ℕ) (d : List ℕ) → v ≡ net → IsNetworkStore v rows places gaps behind → e < length net.sections → (e < length rows) × (get_or rows e d ≡ section_of net e)
row_at v net rows places gaps behind e d same store within = stored_at (section_of net) (length net.sections) e rows d (store_is v net rows places gaps behind same store).rows_are within

pub place_at : (v net : Network) (rows : List (List ℕ)) (places gaps : List ℕ) (behind e d : ℕ) → v ≡ net → IsNetworkStore v rows places gaps behind → e < length net.sections → (e < length places) × (get_or places e d ≡ place_in_section net e)
place_at v net rows places gaps behind e d same store within = stored_at (place_in_section net) (length net.sections) e places d (store_is v net rows places gaps behind same store).places_are within

pub gap_at : (v net : Network) (rows : List (List ℕ)) (places gaps : List ℕ) (behind e d : ℕ) → v ≡ net → IsNetworkStore v rows places gaps behind → e < length net.sections → (e < length gaps) × (get_or gaps e d ≡ first_gap net e)
gap_at v net rows places gaps behind e d same store within = stored_at (first_gap net) (length net.sections) e gaps d (store_is v net rows places gaps behind same store).gaps_are within

-- numbers of gaps are numbers of 32 bits
pub gap_few : (net : Network) (e : ℕ) → e ≤ length net.sections → length net.sections ≤ 1000 → net.candidates ≤ 512 → first_gap net e ≤ 1000513
gap_few net e within few few_candidates =
    let gaps : gaps_below net e ≤ e * length net.sections = few_gaps net e in
    let all : e * length net.sections ≤ 1000 * length net.sections = mul-le-mul_right (length net.sections) (omega arith) in
    omega arith

-- the number of a gap, by the places of its cells
pub gap_is : (v net : Network) (rows : List (List ℕ)) (places gaps : List ℕ) (behind e f first place other : ℕ) → v ≡ net → IsNetworkStore v rows places gaps behind → e < f → f < length net.sections → slice_index net.sections e ≡ slice_index net.sections f → first ≡ first_gap net e → place ≡ place_in_section net e → other ≡ place_in_section net f → (place < other) × (first + (other - place - 1) ≡ gap net e f) × (first + (other - place - 1) < 2 ^ 32)
gap_is v net rows places gaps behind e f first place other same given less within alike first_is place_is other_is =
    let store = store_is v net rows places gaps behind same given in
    let few : length net.sections ≤ 1000 = store.few in
    let few_candidates : net.candidates ≤ 512 = store.few_candidates in
    let (rise, is) = places_of_section net e f less within alike in
    let here : place_in_section net f < length (section_of net f) = place_within net f within in
    let small : length (section_of net f) ≤ length net.sections = few_in_section net f in
    let bound : first_gap net e ≤ 1000513 = gap_few net e (omega arith) few few_candidates in
    (omega arith, omega arith, omega arith)

-- one cell more is numbered
pub gaps_more : (sections : List ℕ) (candidates e : ℕ) (row : List ℕ) (place next : ℕ) → e < length sections → length sections ≤ 1000 → candidates ≤ 512 → row ≡ section_of (sections_alone sections) e → place ≡ place_in_section (sections_alone sections) e → next ≡ first_gap (record { sections = sections; candidates = candidates; kept = [] }) e → (length row < 2 ^ 32) × (place < length row) × (next + (length row - place - 1) < 2 ^ 32) × (next + (length row - place - 1) ≡ first_gap (record { sections = sections; candidates = candidates; kept = [] }) (e + 1))
gaps_more sections candidates e row place next within few few_candidates row_is place_is next_is =
    let net : Network = record { sections = sections; candidates = candidates; kept = [] } in
    let size : length row ≡ length (section_of net e) = ap length row_is in
    let here : place_in_section net e < length (section_of net e) = place_within net e within in
    let small : length (section_of net e) ≤ length sections = few_in_section net e in
    let step : first_gap net (e + 1) ≡ first_gap net e + length (above net e) = next_gap net e within in
    let count : length (above net e) ≡ length (section_of net e) - (place_in_section net e + 1) = length-above net e within in
    let bound : first_gap net (e + 1) ≤ 1000513 = gap_few net (e + 1) (omega arith) few few_candidates in
    (omega arith, omega arith, omega arith, omega arith)

-- the cells of a section, and those above one of it
pub section_members : (net : Network) (e : ℕ) → All (IsOfSection net e) (section_of net e)
section_members net e k d within =
    let (same, cell) = section_member net e (get_or (section_of net e) k d) (Contains-get_or (section_of net e) k d within) in
    record { cell = cell; same = same_number (slice_index net.sections e) (slice_index net.sections (get_or (section_of net e) k d)) same }

pub above_members : (net : Network) (e : ℕ) → All (IsAbove net e) (above net e)
above_members net e k d within =
    let (higher, cell, same) = above_member net e (get_or (above net e) k d) (Contains-get_or (above net e) k d within) in
    record { higher = higher; cell = cell; same = same_number (slice_index net.sections e) (slice_index net.sections (get_or (above net e) k d)) same }

-- the cells above one of a section stand behind it
pub above_at : (net : Network) (e : ℕ) (row : List ℕ) (place : ℕ) → e < length net.sections → row ≡ section_of net e → place ≡ place_in_section net e → (place < length row) × (drop (place + 1) row ≡ above net e)
above_at net e row place within row_is place_is =
    let here : place_in_section net e < length (section_of net e) = place_within net e within in
    let size : length row ≡ length (section_of net e) = ap length row_is in
    (omega arith, ap (λ n. drop (n + 1) row) place_is ∙ ap (drop (place_in_section net e + 1)) row_is ∙ sym (above_is net e within))
