-- Listings: the tracks that sections list, as entries.
use Rattle.std.proofs.Common.{◌≡◌, ◌<◌, ◌≤◌, ◌+◌, ◌⊎◌, inl, inr, ◌==◌, ℕ, zero, suc, Bool, true, false, List, [], ◌∷◌, ◌++◌, length, take, get_or, Some, slice_get, refl, sym, ap, subst, ◌∙◌, arith, append_assoc, cond}
use Rattle.std.specs.Prelude.{bytes_eq, count_by}
use Rattle.std.specs.List.{Contains, All}
use Rattle.std.proofs.lemmas.Bool.Decides.{Decides-eqb}
use Rattle.std.proofs.lemmas.List.{append-nil, take_more, take_all, length-take}
use Rattle.std.proofs.lemmas.List.Elements.{Contains-append_cases, Contains-append_left, Contains-append_right}
use Rattle.std.proofs.lemmas.List.Sums.{sum_by-cons}
use Rattle.std.proofs.lemmas.Option.{same_Some, slice_get_within, get_or_from_slice_get, slice_get-get_or}
use Rattle.std.proofs.lemmas.Slice.Eq.{bytes_eq-Decides}
use Rattle.rail_net.specs.Parts.{Stated, stated_by, listings_from, listings, Lists, IsTrackOfSection, IsTrack, track_names}
use Rattle.rail_net.specs.Rules.{AreKnown, IsListedOnce}
use Rattle.rail_net.specs.Entries.{HasEntry, entries_under}
use Rattle.rail_net.specs.Tables.{Numbers, AddsListings, AreListings}
use Rattle.rail_net.specs.declared.entries.Entry.{Entry}
use Rattle.rail_net.specs.declared.parts.GroupPart.{GroupPart}
use Rattle.vss_lists.specs.Breaks.{HoldsOfEach}
use Rattle.rail_net.specs.declared.parts.NetParts.{NetParts}
use Rattle.rail_net.specs.declared.parts.TrackPart.{TrackPart}
use Rattle.rail_net.proofs.ListLaws.{mapped_at, push_at}

-- ---- adding listings

stated_more : (item : ℕ) (names : List (List ℕ)) (name : List ℕ) → stated_by item (names ++ name ∷ []) ≡ stated_by item names ++ record { name = name; item = item } ∷ []
stated_more item [] name = refl
stated_more item (n ∷ names) name = ap (λ ss. record { name = n; item = item } ∷ ss) (stated_more item names name)

numbers_append : (names : List (List ℕ)) (ss ts : List Stated) (es fs : List Entry) → Numbers names ss es → Numbers names ts fs → Numbers names (ss ++ ts) (es ++ fs)
numbers_append names [] ts [] fs one other = other
numbers_append names [] ts (e ∷ es) fs one other = absurd one
numbers_append names (s ∷ ss) ts [] fs one other = absurd one
numbers_append names (s ∷ ss) ts (e ∷ es) fs one other = (one.0, one.1, numbers_append names ss ts es fs one.2 other)

pub adds_none : (tracks : List (List ℕ)) (section : ℕ) (old : List Entry) → AddsListings tracks section [] old old
unfolding AddsListings
adds_none tracks section old = ([], sym (append-nil old), tt)

pub adds_more : (tracks : List (List ℕ)) (section : ℕ) (names : List (List ℕ)) (name : List ℕ) (track : ℕ) (old new : List Entry) → slice_get tracks track ≡ Some name
    → AddsListings tracks section names old new → AddsListings tracks section (names ++ name ∷ []) old (new ++ record { key = track; value = section } ∷ [])
unfolding AddsListings
adds_more tracks section names name track old new is (added, grown, numbers) =
    let e : Entry = record { key = track; value = section } in (
      added ++ e ∷ [],
      ap (λ es. es ++ e ∷ []) grown ∙ append_assoc old added (e ∷ []),
      subst (λ ss. Numbers tracks ss (added ++ e ∷ [])) (sym (stated_more section names name))
          (numbers_append tracks (stated_by section names) (record { name = name; item = section } ∷ []) added (e ∷ []) numbers (is, refl, tt)),
    )

pub known_none : (names : List (List ℕ)) → AreKnown names []
unfolding AreKnown
known_none names k text is = absurd (grind arith)

pub known_more : (names texts : List (List ℕ)) (text : List ℕ) → Contains names text → AreKnown names texts → AreKnown names (texts ++ text ∷ [])
unfolding AreKnown
known_more names texts text there known k other is = elim (push_at texts text k other is) [
  | inl before ↦ known k other before
  | inr here ↦ subst (Contains names) here.1 there
]

pub known_at : (names texts : List (List ℕ)) (k : ℕ) (text : List ℕ) → slice_get texts k ≡ Some text → AreKnown names texts → Contains names text
unfolding AreKnown
known_at names texts k text is known = known k text is

listings_more : (i j : ℕ) (gs : List GroupPart) (g : GroupPart) → j ≡ i + length gs → listings_from i (gs ++ g ∷ []) ≡ listings_from i gs ++ stated_by j g.tracks
listings_more i j [] g same = append-nil (stated_by i g.tracks) ∙ ap (λ k. stated_by k g.tracks) (let at : i ≡ j = omega arith in at)
listings_more i j (h ∷ gs) g same =
    ap (λ ss. stated_by i h.tracks ++ ss) (listings_more (i + 1) j gs g (omega arith)) ∙ sym (append_assoc (stated_by i h.tracks) (listings_from (i + 1) gs) (stated_by j g.tracks))

-- the listings of one more section
pub section_more : (tracks : List (List ℕ)) (gs : List GroupPart) (place : ℕ) (g : GroupPart) (old new : List Entry) → slice_get gs place ≡ Some g
    → Numbers tracks (listings_from 0 (take place gs)) old → AddsListings tracks place g.tracks old new → Numbers tracks (listings_from 0 (take (place + 1) gs)) new
unfolding AddsListings
section_more tracks gs place g old new is so_far (added, grown, numbers) =
    let within : place < length gs = slice_get_within gs place g is in
    let front : take (place + 1) gs ≡ take place gs ++ g ∷ [] = take_more gs place g within ∙ ap (λ x. take place gs ++ x ∷ []) (get_or_from_slice_get gs place g g is) in
    let all : listings_from 0 (take (place + 1) gs) ≡ listings_from 0 (take place gs) ++ stated_by place g.tracks =
    ap (listings_from 0) front ∙ listings_more 0 place (take place gs) g (take_length gs place within) in
    subst (λ ss. Numbers tracks ss new) (sym all) (subst (Numbers tracks (listings_from 0 (take place gs) ++ stated_by place g.tracks)) (sym grown)
    (numbers_append tracks (listings_from 0 (take place gs)) (stated_by place g.tracks) old added so_far numbers))
  where
    take_length : (gs : List GroupPart) (place : ℕ) → place < length gs → place ≡ 0 + length (take place gs)
    take_length gs place within = simp length-take (omega arith)

pub listings_all : (p : NetParts) (place : ℕ) (entries : List Entry) → length p.sections ≤ place → Numbers (track_names p) (listings_from 0 (take place p.sections)) entries → AreListings p entries
unfolding AreListings
listings_all p place entries past numbers = subst (λ gs. Numbers (track_names p) (listings_from 0 gs) entries) (take_all place p.sections past) numbers

-- ---- what is listed

pub contains_cons : {X : Type 0} (x : X) (xs : List X) (y : X) → Contains (x ∷ xs) y → (x ≡ y) ⊎ Contains xs y
contains_cons x xs y (zero, within, is) = inl is
contains_cons x xs y (suc k, within, is) = inr (k, omega arith, is)

pub contains_rest : {X : Type 0} (x : X) (xs : List X) (y : X) → Contains xs y → Contains (x ∷ xs) y
contains_rest x xs y (k, within, is) = (suc k, omega arith, is)

pub contains_first : {X : Type 0} (x : X) (xs : List X) → Contains (x ∷ xs) x
contains_first x xs = (zero, omega arith, refl)

-- an entry stands for a name that is stated
numbers_has : (names : List (List ℕ)) (ss : List Stated) (es : List Entry) (key value : ℕ) → Numbers names ss es → HasEntry es key value
    → (name : List ℕ) × (slice_get names key ≡ Some name) × Contains ss (record { name = name; item = value })
numbers_has names [] [] key value numbers there = absurd (omega (arith, there.1))
numbers_has names [] (e ∷ es) key value numbers there = absurd numbers
numbers_has names (s ∷ ss) [] key value numbers there = absurd numbers
numbers_has names (s ∷ ss) (e ∷ es) key value numbers there = elim (contains_cons e es (record { key = key; value = value }) there) [
  | inl here ↦
      let at : e.key ≡ key = ap (λ (x : Entry). x.key) here in
      let val : s.item ≡ value = sym numbers.1 ∙ ap (λ (x : Entry). x.value) here in
      (s.name, subst (λ k. slice_get names k ≡ Some s.name) at numbers.0, subst (λ v. Contains (s ∷ ss) (record { name = s.name; item = v })) val (contains_first s ss))
  | inr later ↦
      let rest = numbers_has names ss es key value numbers.2 later in
      (rest.0, rest.1, contains_rest s ss (record { name = rest.0; item = value }) rest.2)
]

-- and a name that is stated has its entry
has_numbers : (names : List (List ℕ)) (ss : List Stated) (es : List Entry) (name : List ℕ) (value : ℕ) → Numbers names ss es → Contains ss (record { name = name; item = value })
    → (key : ℕ) × (slice_get names key ≡ Some name) × HasEntry es key value
has_numbers names [] es name value numbers there = absurd (omega (arith, there.1))
has_numbers names (s ∷ ss) [] name value numbers there = absurd numbers
has_numbers names (s ∷ ss) (e ∷ es) name value numbers there = elim (contains_cons s ss (record { name = name; item = value }) there) [
  | inl here ↦
      let own : s.name ≡ name = ap (λ (x : Stated). x.name) here in
      let val : e.value ≡ value = numbers.1 ∙ ap (λ (x : Stated). x.item) here in
      (e.key, numbers.0 ∙ ap Some own, subst (λ v. Contains (e ∷ es) (record { key = e.key; value = v })) val (contains_first e es))
  | inr later ↦
      let rest = has_numbers names ss es name value numbers.2 later in
      (rest.0, rest.1, contains_rest e es (record { key = rest.0; value = value }) rest.2)
]

stated_has : (item : ℕ) (names : List (List ℕ)) (s : Stated) → Contains (stated_by item names) s → (s.item ≡ item) × Contains names s.name
stated_has item [] s there = absurd (omega (arith, there.1))
stated_has item (n ∷ names) s there = elim (contains_cons (record { name = n; item = item }) (stated_by item names) s there) [
  | inl here ↦ (sym (ap (λ (x : Stated). x.item) here), subst (Contains (n ∷ names)) (ap (λ (x : Stated). x.name) here) (contains_first n names))
  | inr later ↦ let rest = stated_has item names s later in (rest.0, contains_rest n names s.name rest.1)
]

has_stated : (item : ℕ) (names : List (List ℕ)) (name : List ℕ) → Contains names name → Contains (stated_by item names) (record { name = name; item = item })
has_stated item [] name there = absurd (omega (arith, there.1))
has_stated item (n ∷ names) name there = elim (contains_cons n names name there) [
  | inl here ↦ subst (λ m. Contains (stated_by item (n ∷ names)) (record { name = m; item = item })) here (contains_first (record { name = n; item = item }) (stated_by item names))
  | inr later ↦ contains_rest (record { name = n; item = item }) (stated_by item names) (record { name = name; item = item }) (has_stated item names name later)
]

-- what sections from a number on list
listings_has : (i : ℕ) (gs : List GroupPart) (s : Stated) → Contains (listings_from i gs) s → (k : ℕ) × (g : GroupPart) × (s.item ≡ i + k) × (slice_get gs k ≡ Some g) × Contains g.tracks s.name
listings_has i [] s there = absurd (omega (arith, there.1))
listings_has i (g ∷ gs) s there = elim (Contains-append_cases (stated_by i g.tracks) (listings_from (i + 1) gs) s there) [
  | inl here ↦ let own = stated_has i g.tracks s here in (zero, g, omega (arith, own.0), refl, own.1)
  | inr later ↦ let rest = listings_has (i + 1) gs s later in (suc rest.0, rest.1, omega (arith, rest.2), rest.3, rest.4)
]

pub has_listings : (i k : ℕ) (gs : List GroupPart) (g : GroupPart) (name : List ℕ) (item : ℕ) → item ≡ i + k → slice_get gs k ≡ Some g → Contains g.tracks name → Contains (listings_from i gs) (record { name = name; item = item })
has_listings i k [] g name item at is there = absurd (grind arith)
has_listings i zero (h ∷ gs) g name item at is there =
    let own : h ≡ g = same_Some h g is in
    let number : i ≡ item = omega arith in
    subst (λ n. Contains (listings_from i (h ∷ gs)) (record { name = name; item = n })) number
    (Contains-append_left (stated_by i h.tracks) (listings_from (i + 1) gs) (record { name = name; item = i }) (has_stated i h.tracks name (subst (λ (x : GroupPart). Contains x.tracks name) (sym own) there)))
has_listings i (suc k) (h ∷ gs) g name item at is there =
    Contains-append_right (stated_by i h.tracks) (listings_from (i + 1) gs) (record { name = name; item = item }) (has_listings (i + 1) k gs g name item (omega arith) is there)

-- an entry under a track's number has the number of a section that lists it
pub of_entry : (p : NetParts) (entries : List Entry) (track section : ℕ) → AreListings p entries → HasEntry entries track section → IsTrackOfSection p section track
unfolding AreListings
of_entry p entries track section numbers there =
    let entry = numbers_has (track_names p) (listings p) entries track section numbers there in
    let listed = listings_has 0 p.sections (record { name = entry.0; item = section }) entry.2 in
    let number : listed.0 ≡ section = omega (arith, listed.2) in
    record {
      name = entry.0;
      is_track = entry.1;
      listed = record { part = listed.1; is_section = subst (λ k. slice_get p.sections k ≡ Some listed.1) number listed.3; listed = listed.4 };
    }

-- and a track of a section has an entry
pub entry_of : (p : NetParts) (entries : List Entry) (section : ℕ) (name : List ℕ) → AreListings p entries → Lists p section name
    → (track : ℕ) × IsTrack p name track × HasEntry entries track section
unfolding AreListings
entry_of p entries section name numbers lists =
    has_numbers (track_names p) (listings p) entries name section numbers (has_listings 0 section p.sections lists.part name section (omega arith) lists.is_section lists.listed)

-- keys are numbers of tracks
keys_within : (names : List (List ℕ)) (ss : List Stated) (es : List Entry) → Numbers names ss es → (k : ℕ) (e : Entry) → slice_get es k ≡ Some e → e.key < length names
keys_within names ss [] numbers k e is = absurd (grind arith)
keys_within names [] (f ∷ es) numbers k e is = absurd numbers
keys_within names (s ∷ ss) (f ∷ es) numbers zero e is =
    let own : f ≡ e = same_Some f e is in
    slice_get_within names e.key s.name (subst (λ (x : Entry). slice_get names x.key ≡ Some s.name) own numbers.0)
keys_within names (s ∷ ss) (f ∷ es) numbers (suc k) e is = keys_within names ss es numbers.2 k e is

pub listing_keys : (p : NetParts) (entries : List Entry) (n : ℕ) → n ≡ length (track_names p) → AreListings p entries → All (λ e. e.key < n) entries
unfolding AreListings
listing_keys p entries n same numbers k d within =
    let low = keys_within (track_names p) (listings p) entries numbers k (get_or entries k d) (slice_get-get_or entries k d within) in
    omega arith

-- ---- counts

-- tests of two forms that hold together are the same
pub same_test : (a b : Bool) → (a ≡ true → b ≡ true) → (b ≡ true → a ≡ true) → a ≡ b
same_test true true there back = refl
same_test true false there back = sym (there refl)
same_test false true there back = back refl
same_test false false there back = refl

-- where a name has one number, as many entries are under it as names are stated
numbers_count : (names : List (List ℕ)) (ss : List Stated) (es : List Entry) (key : ℕ) (name : List ℕ)
    → ((i j : ℕ) (n : List ℕ) → slice_get names i ≡ Some n → slice_get names j ≡ Some n → i ≡ j)
    → slice_get names key ≡ Some name → Numbers names ss es → entries_under es key ≡ count_by (λ s. bytes_eq s.name name) ss
numbers_count names [] [] key name one is numbers = refl
numbers_count names [] (e ∷ es) key name one is numbers = absurd numbers
numbers_count names (s ∷ ss) [] key name one is numbers = absurd numbers
numbers_count names (s ∷ ss) (e ∷ es) key name one is numbers =
    let test : (e.key == key) ≡ bytes_eq s.name name = same_test (e.key == key) (bytes_eq s.name name)
    (λ t. (bytes_eq-Decides s.name name).1 (same_Some s.name name (sym numbers.0 ∙ (ap (slice_get names) ((Decides-eqb e.key key).0 t) ∙ is))))
    (λ t. (Decides-eqb e.key key).1 (one e.key key s.name numbers.0 (is ∙ ap Some (sym ((bytes_eq-Decides s.name name).0 t))))) in
    let rest = numbers_count names ss es key name one is numbers.2 in
    sum_by-cons (λ (x : Entry). cond (x.key == key) 1 0) e es ∙ (ap (λ b. cond b 1 0 + entries_under es key) test ∙ (ap (λ n. cond (bytes_eq s.name name) 1 0 + n) rest
    ∙ sym (sum_by-cons (λ (x : Stated). cond (bytes_eq x.name name) 1 0) s ss)))

pub listing_count : (p : NetParts) (entries : List Entry) (track : ℕ) (name : List ℕ)
    → ((i j : ℕ) (n : List ℕ) → slice_get (track_names p) i ≡ Some n → slice_get (track_names p) j ≡ Some n → i ≡ j)
    → AreListings p entries → IsTrack p name track → entries_under entries track ≡ count_by (λ l. bytes_eq l.name name) (listings p)
unfolding AreListings
listing_count p entries track name one numbers is = numbers_count (track_names p) (listings p) entries track name one is numbers

first_count : {X : Type 0} (p : X → Bool) (y : X) (xs : List X) → p y ≡ true → count_by p (y ∷ xs) ≡ 1 + count_by p xs
first_count p y xs fact = sum_by-cons (λ z. cond (p z) 1 0) y xs ∙ ap (λ b. cond b 1 0 + count_by p xs) fact

some_count : {X : Type 0} (p : X → Bool) (xs : List X) (x : X) → Contains xs x → p x ≡ true → 1 ≤ count_by p xs
some_count p [] x there fact = absurd (omega (arith, there.1))
some_count p (y ∷ xs) x there fact = elim (contains_cons y xs x there) [
  | inl here ↦
      let whole : count_by p (y ∷ xs) ≡ 1 + count_by p xs = first_count p y xs (ap p here ∙ fact) in
      omega arith
  | inr later ↦
      let rest = some_count p xs x later fact in
      let whole : count_by p (y ∷ xs) ≡ cond (p y) 1 0 + count_by p xs = sum_by-cons (λ z. cond (p z) 1 0) y xs in
      omega arith
]

-- of a test that at most one item passes, one item passes it
pub one_passes : {X : Type 0} (p : X → Bool) (xs : List X) (x y : X) → count_by p xs ≤ 1 → Contains xs x → p x ≡ true → Contains xs y → p y ≡ true → x ≡ y
one_passes p [] x y few has px also py = absurd (omega (arith, has.1))
one_passes p (z ∷ xs) x y few has px also py = elim (contains_cons z xs x has) [
  | inl here ↦ elim (contains_cons z xs y also) [
    | inl too ↦ sym here ∙ too
    | inr later ↦ absurd (omega (arith, first_count p z xs (ap p here ∙ px), some_count p xs y later py))
  ]
  | inr later ↦ elim (contains_cons z xs y also) [
    | inl here ↦ absurd (omega (arith, first_count p z xs (ap p here ∙ py), some_count p xs x later px))
    | inr both ↦
        let whole : count_by p (z ∷ xs) ≡ cond (p z) 1 0 + count_by p xs = sum_by-cons (λ w. cond (p w) 1 0) z xs in
        one_passes p xs x y (omega arith) later px both py
  ]
]

-- where each track is listed once at most, it is of one section
pub one_section : (p : NetParts) (a b track : ℕ) → HoldsOfEach (IsListedOnce p) p.tracks → IsTrackOfSection p a track → IsTrackOfSection p b track → a ≡ b
one_section p a b track once of_a of_b =
    let own : of_b.name ≡ of_a.name = same_Some of_b.name of_a.name (sym of_b.is_track ∙ of_a.is_track) in
    let part = mapped_at (λ (t : TrackPart). t.name) p.tracks track of_a.name of_a.is_track in
    let few : count_by (λ (l : Stated). bytes_eq l.name of_a.name) (listings p) ≤ 1 =
    subst (λ n. count_by (λ (l : Stated). bytes_eq l.name n) (listings p) ≤ 1) part.2 (once.at_each track part.0 part.1) in
    let test : bytes_eq of_a.name of_a.name ≡ true = (bytes_eq-Decides of_a.name of_a.name).1 refl in
    let first : Contains (listings p) (record { name = of_a.name; item = a }) = has_listings 0 a p.sections of_a.listed.part of_a.name a (omega arith) of_a.listed.is_section of_a.listed.listed in
    let second : Contains (listings p) (record { name = of_b.name; item = b }) = has_listings 0 b p.sections of_b.listed.part of_b.name b (omega arith) of_b.listed.is_section of_b.listed.listed in
    let same = one_passes (λ (l : Stated). bytes_eq l.name of_a.name) (listings p) (record { name = of_a.name; item = a }) (record { name = of_b.name; item = b }) few
    first test second ((bytes_eq-Decides of_b.name of_a.name).1 own) in
    ap (λ (l : Stated). l.item) same
