-- Marks of nodes and sections: what they tell of the parts.
use Rattle.std.proofs.Common.{◌≡◌, ◌≢◌, ◌<◌, ◌+◌, ◌⊎◌, inl, inr, ◌↔◌, ℕ, zero, suc, Bool, true, false, IsTrue, List, [], ◌∷◌, ◌++◌, length, Some, slice_get, map, refl, sym, ap, subst, ◌∙◌, arith}
use Rattle.std.specs.Prelude.{slice_index, if◌then◌else◌}
use Rattle.std.specs.List.{range_with_len}
use Rattle.std.proofs.lemmas.Bool.{cases_eq, false≢true}
use Rattle.std.proofs.lemmas.List.Elements.{Contains-append_cases, Contains-append_left, Contains-append_right}
use Rattle.std.proofs.lemmas.Option.{same_Some, slice_get_within, get_or_from_slice_get}
use Rattle.node_groups.specs.Reach.{LeadsTo, Reaches}
use Rattle.node_groups.specs.Touch.{Touch, HasEnd}
use Rattle.node_groups.specs.Groups.{GroupsByReach}
use Rattle.node_groups.specs.declared.segments.Segment.{Segment}
use Rattle.vss_lists.specs.Breaks.{HoldsOfEach}
use Rattle.rail_net.specs.Parts.{EndsAt, IsNode, IsTrackOfSection}
use Rattle.rail_net.specs.Borders.{IsFree}
use Rattle.rail_net.specs.Refusals.{HasNewNodes}
use Rattle.rail_net.specs.Rules.{IsListedOnce}
use Rattle.rail_net.specs.Sections.{Adjoin, HangsTogether, IsOfOneSection}
use Rattle.rail_net.specs.Entries.{AreMixed, HasEntry, IsMixed}
use Rattle.rail_net.specs.Tables.{AreMarkedApart, AreBars, AreTrackEnds, AreHomes, AreSplits, border_flag, flags_of, paired, track_segment, segments_from, spread, under, zero_under}
use Rattle.rail_net.specs.declared.entries.Entry.{Entry}
use Rattle.rail_net.specs.declared.ends.TrackEnds.{TrackEnds}
use Rattle.rail_net.specs.declared.parts.NetParts.{NetParts}
use Rattle.rail_net.specs.declared.parts.TrackPart.{TrackPart}
use Rattle.rail_net.proofs.ListLaws.{contains_at, place_of, map_at, mapped_at, there_is}
use Rattle.rail_net.proofs.ListingLemmas.{one_section}
use Rattle.rail_net.proofs.NodeLemmas.{at_number, number_at, ends_there, has_spread, spread_has, node_within, spread_within}
use Rattle.rail_net.proofs.ZipLemmas.{zipped_at, at_zipped}

-- a mark that is set exactly where something holds isn't set exactly where its opposite does
unmarked : (mark : Bool) (P Q : Type 0) → IsTrue mark ↔ P → (¬ P → Q) → (Q → ¬ P) → (mark ≡ false) ↔ Q
unmarked true P Q tells to back = (λ e. absurd (false≢true (sym e)), λ q. absurd (back q (tells.0 refl)))
unmarked false P Q tells to back = (λ e. to (λ holds. false≢true (tells.1 holds)), λ q. refl)

mark_tells : (entries : List Entry) (marks : List Bool) (key : ℕ) (mark : Bool) → AreMixed entries marks → slice_get marks key ≡ Some mark → IsTrue mark ↔ IsMixed entries key
unfolding AreMixed
mark_tells entries marks key mark mixed is = mixed key mark is

-- the home of a track that is of a section
pub home_of : (p : NetParts) (homes : List ℕ) (section track : ℕ) → AreHomes p homes → HoldsOfEach (IsListedOnce p) p.tracks → IsTrackOfSection p section track → slice_get homes track ≡ Some section
home_of p homes section track all once of_section =
    let part = mapped_at (λ (t : TrackPart). t.name) p.tracks track of_section.name of_section.is_track in
    let within : track < length homes = subst (λ n. track < n) (sym all.count) (slice_get_within p.tracks track part.0 part.1) in
    let home = there_is homes track within in
    home.1 ∙ ap Some (one_section p home.0 section track once (all.each track home.0 home.1) of_section)

-- ---- nodes whose tracks are of different sections

module _ (p : NetParts) (ends : List TrackEnds) (homes : List ℕ) (all_ends : AreTrackEnds p ends) (new : HasNewNodes p) (all_homes : AreHomes p homes) (once : HoldsOfEach (IsListedOnce p) p.tracks) where
  not_mixed : (node : ℕ) (name : List ℕ) → IsNode p name node → ¬ IsMixed (spread ends homes) node → IsOfOneSection p name
  unfolding IsMixed IsOfOneSection
  not_mixed node name is none track other section its at also in_section in_its =
      let e = number_at p ends all_ends new node name is track at in
      let f = number_at p ends all_ends new node name is other also in
      let one : HasEntry (spread ends homes) node section = has_spread ends homes node section track e.0 e.1 (home_of p homes section track all_homes once in_section) e.2 in
      let two : HasEntry (spread ends homes) node its = has_spread ends homes node its other f.0 f.1 (home_of p homes its other all_homes once in_its) f.2 in
      elim (cases_eq section its) [ inl same ↦ same | inr differ ↦ absurd (none (section, its, one, two, differ)) ]

  one_not_mixed : (node : ℕ) (name : List ℕ) → IsNode p name node → IsOfOneSection p name → ¬ IsMixed (spread ends homes) node
  unfolding IsMixed IsOfOneSection
  one_not_mixed node name is whole (one, other, has_one, has_other, differ) =
      let first = spread_has ends homes node one has_one in
      let second = spread_has ends homes node other has_other in
      differ (whole first.0 second.0 one other (at_number p ends all_ends node name is first.0 first.1 first.2 first.4) (at_number p ends all_ends node name is second.0 second.1 second.2 second.4)
      (all_homes.each first.0 one first.3) (all_homes.each second.0 other second.3))

  pub are_splits : (marks : List Bool) → length marks ≡ length p.nodes → AreMixed (spread ends homes) marks → AreSplits p marks
  are_splits marks len mixed = record {
    len = len;
    at_node = λ node name mark is marked. unmarked mark (IsMixed (spread ends homes) node) (IsOfOneSection p name) (mark_tells (spread ends homes) marks node mark mixed marked)
        (not_mixed node name is) (one_not_mixed node name is);
  }

-- ---- nodes where a track ends on which no virtual border may stand

flag_is : (t : TrackPart) → border_flag t ≡ 0 → t.virtual_ok ≡ true
flag_is t e = by t.virtual_ok refl
  where
    by : (b : Bool) → t.virtual_ok ≡ b → t.virtual_ok ≡ true
    by true is = is
    by false is = absurd (grind arith)

is_flag : (t : TrackPart) → t.virtual_ok ≡ true → border_flag t ≡ 0
is_flag t e = ap (λ (b : Bool). if b then 0 else 1) e

range_has : (a n k x : ℕ) → slice_get (range_with_len a n) k ≡ Some x → (x ≡ a + k) × (k < n)
range_has a zero k x is = absurd (grind arith)
range_has a (suc n) zero x is = (omega (arith, same_Some a x is), omega arith)
range_has a (suc n) (suc k) x is = let rest = range_has (a + 1) n k x is in (omega (arith, rest.0), omega (arith, rest.1))

has_range : (a n k x : ℕ) → k < n → x ≡ a + k → slice_get (range_with_len a n) k ≡ Some x
has_range a zero k x low is = absurd (omega arith)
has_range a (suc n) zero x low is = ap Some (let at : a ≡ x = omega arith in at)
has_range a (suc n) (suc k) x low is = has_range (a + 1) n k x (omega arith) (omega arith)

abbrev pub bars : NetParts → List TrackEnds → List Entry
bars p ends = map zero_under (range_with_len 0 (length p.nodes)) ++ spread ends (flags_of p.tracks)

bars_zero : (p : NetParts) (ends : List TrackEnds) (node : ℕ) → node < length p.nodes → HasEntry (bars p ends) node 0
bars_zero p ends node within =
    Contains-append_left (map zero_under (range_with_len 0 (length p.nodes))) (spread ends (flags_of p.tracks)) (under node 0)
    (contains_at (map zero_under (range_with_len 0 (length p.nodes))) node (under node 0)
    (map_at zero_under (range_with_len 0 (length p.nodes)) node node (has_range 0 (length p.nodes) node node within (omega arith))))

zero_keys : (p : NetParts) (key value : ℕ) → HasEntry (map zero_under (range_with_len 0 (length p.nodes))) key value → (key < length p.nodes) × (value ≡ 0)
zero_keys p key value there =
    let at = place_of (map zero_under (range_with_len 0 (length p.nodes))) (under key value) there in
    let item = mapped_at zero_under (range_with_len 0 (length p.nodes)) at.0 (under key value) at.1 in
    let number = range_has 0 (length p.nodes) at.0 item.0 item.1 in
    let same : item.0 ≡ key = ap (λ (x : Entry). x.key) item.2 in
    (omega (arith, number.0, number.1), sym (ap (λ (x : Entry). x.value) item.2))

module _ (p : NetParts) (ends : List TrackEnds) (all_ends : AreTrackEnds p ends) (new : HasNewNodes p) where
  not_barred : (node : ℕ) (name : List ℕ) → IsNode p name node → ¬ IsMixed (bars p ends) node → IsFree p name
  unfolding IsMixed IsFree
  not_barred node name is none k track at there =
      let e = number_at p ends all_ends new node name is k at in
      let flagged : slice_get (flags_of p.tracks) k ≡ Some (border_flag track) = map_at border_flag p.tracks k track there in
      let entry : HasEntry (bars p ends) node (border_flag track) =
      Contains-append_right (map zero_under (range_with_len 0 (length p.nodes))) (spread ends (flags_of p.tracks)) (under node (border_flag track))
      (has_spread ends (flags_of p.tracks) node (border_flag track) k e.0 e.1 flagged e.2) in
      elim (cases_eq (border_flag track) 0) [
        | inl free ↦ flag_is track free
        | inr barred ↦ absurd (none (border_flag track, 0, entry, bars_zero p ends node (node_within p node name is), barred))
      ]

  all_zero : (node : ℕ) (name : List ℕ) → IsNode p name node → IsFree p name → (value : ℕ) → HasEntry (bars p ends) node value → value ≡ 0
  unfolding IsFree
  all_zero node name is free value there = elim (Contains-append_cases (map zero_under (range_with_len 0 (length p.nodes))) (spread ends (flags_of p.tracks)) (under node value) there) [
    | inl zero_one ↦ (zero_keys p node value zero_one).1
    | inr spread_one ↦
        let found = spread_has ends (flags_of p.tracks) node value spread_one in
        let track = mapped_at border_flag p.tracks found.0 value found.3 in
        sym track.2 ∙ is_flag track.0 (free found.0 track.0 (at_number p ends all_ends node name is found.0 found.1 found.2 found.4) track.1)
  ]

  free_not_barred : (node : ℕ) (name : List ℕ) → IsNode p name node → IsFree p name → ¬ IsMixed (bars p ends) node
  unfolding IsMixed
  free_not_barred node name is free (one, other, has_one, has_other, differ) = differ (all_zero node name is free one has_one ∙ sym (all_zero node name is free other has_other))

  pub are_bars : (marks : List Bool) → length marks ≡ length p.nodes → AreMixed (bars p ends) marks → AreBars p marks
  are_bars marks len mixed = record {
    len = len;
    at_node = λ node name mark is marked. unmarked mark (IsMixed (bars p ends) node) (IsFree p name) (mark_tells (bars p ends) marks node mark mixed marked)
        (not_barred node name is) (free_not_barred node name is);
  }

  pub bars_within : (n : ℕ) → n ≡ length p.nodes → (key value : ℕ) → HasEntry (bars p ends) key value → key < n
  bars_within n same key value there = elim (Contains-append_cases (map zero_under (range_with_len 0 (length p.nodes))) (spread ends (flags_of p.tracks)) (under key value) there) [
    | inl zero_one ↦ subst (λ m. key < m) (sym same) (zero_keys p key value zero_one).0
    | inr spread_one ↦
        let at = place_of (spread ends (flags_of p.tracks)) (under key value) spread_one in
        let low = spread_within p ends (flags_of p.tracks) all_ends n same at.0 (under key value) (slice_get_within (spread ends (flags_of p.tracks)) at.0 (under key value) at.1) in
        subst (λ (x : Entry). x.key < n) (get_or_from_slice_get (spread ends (flags_of p.tracks)) at.0 (under key value) (under key value) at.1) low
  ]

-- ---- sections that fall apart

leads_map : {X : Type 0} (R S : X → X → Type 0) → ((a b : X) → R a b → S a b) → (items : List X) (a b : X) → LeadsTo R a items b → LeadsTo S a items b
leads_map R S each [] a b leads = leads
leads_map R S each (c ∷ items) a b leads = (each a c leads.0, leads_map R S each items c b leads.1)

reaches_map : {X : Type 0} (R S : X → X → Type 0) → ((a b : X) → R a b → S a b) → (a b : X) → Reaches R a b → Reaches S a b
unfolding Reaches
reaches_map R S each a b (items, leads) = (items, leads_map R S each items a b leads)

module _ (p : NetParts) (ends : List TrackEnds) (homes : List ℕ) (all_ends : AreTrackEnds p ends) (new : HasNewNodes p) (all_homes : AreHomes p homes) (once : HoldsOfEach (IsListedOnce p) p.tracks) where
  -- the name of a node where a track has an end
  name_at : (k : ℕ) (e : TrackEnds) (node : ℕ) → slice_get ends k ≡ Some e → (e.from ≡ node) ⊎ (e.to ≡ node) → (name : List ℕ) × IsNode p name node
  name_at k e node there at =
      let within : k < length p.tracks = subst (λ n. k < n) all_ends.count (slice_get_within ends k e there) in
      let t = there_is p.tracks k within in
      let nodes = all_ends.each k t.0 e t.1 there in
      elim at [
        | inl from ↦ (t.0.from, subst (λ n. IsNode p t.0.from n) from nodes.from)
        | inr to ↦ (t.0.to, subst (λ n. IsNode p t.0.to n) to nodes.to)
      ]

  touch_adjoin : (i j : ℕ) → Touch (segments_from ends homes) [] i j → Adjoin p i j
  touch_adjoin i j touch =
      let first = zipped_at track_segment ends homes i touch.first touch.at_first in
      let second = zipped_at track_segment ends homes j touch.second touch.at_second in
      let at_first : (first.0.from ≡ touch.node) ⊎ (first.0.to ≡ touch.node) = subst (λ (s : Segment). HasEnd s touch.node) (sym first.4) touch.end_of_first in
      let at_second : (second.0.from ≡ touch.node) ⊎ (second.0.to ≡ touch.node) = subst (λ (s : Segment). HasEnd s touch.node) (sym second.4) touch.end_of_second in
      let name = name_at i first.0 touch.node first.2 at_first in
      let same : first.1 ≡ second.1 = ap (λ (s : Segment). s.part) first.4 ∙ (touch.one_part ∙ sym (ap (λ (s : Segment). s.part) second.4)) in
      record {
        section = first.1;
        node = name.0;
        in_section = all_homes.each i first.1 first.3;
        also = subst (λ s. IsTrackOfSection p s j) (sym same) (all_homes.each j second.1 second.3);
        at_node = at_number p ends all_ends touch.node name.0 name.1 i first.0 first.2 at_first;
        too = at_number p ends all_ends touch.node name.0 name.1 j second.0 second.2 at_second;
      }

  -- the number of a node where a track ends
  number_of : (k : ℕ) (name : List ℕ) → EndsAt p name k → (node : ℕ) × IsNode p name node
  number_of k name at =
      let e = ends_there p ends all_ends k at.part at.is_track in
      elim at.at_end [
        | inl from ↦ (e.0.from, e.2.from ∙ ap Some from)
        | inr to ↦ (e.0.to, e.2.to ∙ ap Some to)
      ]

  adjoin_touch : (i j : ℕ) → Adjoin p i j → Touch (segments_from ends homes) [] i j
  adjoin_touch i j adjoin =
      let node = number_of i adjoin.node adjoin.at_node in
      let e = number_at p ends all_ends new node.0 adjoin.node node.1 i adjoin.at_node in
      let f = number_at p ends all_ends new node.0 adjoin.node node.1 j adjoin.too in
      record {
        first = track_segment e.0 adjoin.section;
        second = track_segment f.0 adjoin.section;
        at_first = at_zipped track_segment ends homes i e.0 adjoin.section e.1 (home_of p homes adjoin.section i all_homes once adjoin.in_section);
        at_second = at_zipped track_segment ends homes j f.0 adjoin.section f.1 (home_of p homes adjoin.section j all_homes once adjoin.also);
        one_part = refl;
        node = node.0;
        end_of_first = e.2;
        end_of_second = f.2;
        no_barrier = λ there. omega (arith, there.1);
      }

  module _ (groups : List ℕ) (len : length groups ≡ length ends) (by_reach : GroupsByReach (Touch (segments_from ends homes) []) groups) where
    group_at : (k g : ℕ) → slice_get groups k ≡ Some g → (k < length groups) × (slice_index groups k ≡ g)
    group_at k g is = (slice_get_within groups k g is, get_or_from_slice_get groups k g 0 is)

    group_of : (section k : ℕ) → IsTrackOfSection p section k → (g : ℕ) × (slice_get groups k ≡ Some g)
    group_of section k of_section =
        let part = mapped_at (λ (t : TrackPart). t.name) p.tracks k of_section.name of_section.is_track in
        let within : k < length groups = subst (λ n. k < n) (sym (len ∙ all_ends.count)) (slice_get_within p.tracks k part.0 part.1) in
        there_is groups k within

    joins : (section : ℕ) → ¬ IsMixed (paired homes groups) section → HangsTogether p section
    unfolding IsMixed HangsTogether
    joins section none track other in_section also =
        let g = group_of section track in_section in
        let h = group_of section other also in
        let one : HasEntry (paired homes groups) section g.0 = contains_at (paired homes groups) track (under section g.0) (at_zipped under homes groups track section g.0 (home_of p homes section track all_homes once in_section) g.1) in
        let two : HasEntry (paired homes groups) section h.0 = contains_at (paired homes groups) other (under section h.0) (at_zipped under homes groups other section h.0 (home_of p homes section other all_homes once also) h.1) in
        let at = group_at track g.0 g.1 in
        let too = group_at other h.0 h.1 in
        elim (cases_eq g.0 h.0) [
          | inl same ↦ reaches_map (Touch (segments_from ends homes) []) (Adjoin p) touch_adjoin track other ((by_reach track other at.0 too.0).0 (at.1 ∙ (same ∙ sym too.1)))
          | inr differ ↦ absurd (none (section_pair g.0 h.0 one two differ))
        ]
      where
        section_pair : (a b : ℕ) → HasEntry (paired homes groups) section a → HasEntry (paired homes groups) section b → a ≢ b → (one : ℕ) × (other : ℕ) × HasEntry (paired homes groups) section one × HasEntry (paired homes groups) section other × (one ≢ other)
        section_pair a b one two differ = (a, b, one, two, differ)

    connected_one : (section : ℕ) → HangsTogether p section → ¬ IsMixed (paired homes groups) section
    unfolding IsMixed HangsTogether
    connected_one section connected (a, b, has_a, has_b, differ) =
        let i = place_of (paired homes groups) (under section a) has_a in
        let j = place_of (paired homes groups) (under section b) has_b in
        let first = zipped_at under homes groups i.0 (under section a) i.1 in
        let second = zipped_at under homes groups j.0 (under section b) j.1 in
        let own : IsTrackOfSection p section i.0 = subst (λ s. IsTrackOfSection p s i.0) (ap (λ (x : Entry). x.key) first.4) (all_homes.each i.0 first.0 first.2) in
        let also : IsTrackOfSection p section j.0 = subst (λ s. IsTrackOfSection p s j.0) (ap (λ (x : Entry). x.key) second.4) (all_homes.each j.0 second.0 second.2) in
        let at = group_at i.0 first.1 first.3 in
        let too = group_at j.0 second.1 second.3 in
        let same = (by_reach i.0 j.0 at.0 too.0).1 (reaches_map (Adjoin p) (Touch (segments_from ends homes) []) adjoin_touch i.0 j.0 (connected i.0 j.0 own also)) in
        differ (sym (ap (λ (x : Entry). x.value) first.4) ∙ (sym at.1 ∙ (same ∙ (too.1 ∙ ap (λ (x : Entry). x.value) second.4))))

    pub are_apart : (marks : List Bool) → length marks ≡ length p.sections → AreMixed (paired homes groups) marks → AreMarkedApart p marks
    are_apart marks same mixed = record {
      len = same;
      at_section = λ section mark marked. unmarked mark (IsMixed (paired homes groups) section) (HangsTogether p section) (mark_tells (paired homes groups) marks section mark mixed marked)
          (joins section) (connected_one section);
    }

  pub paired_keys : (groups : List ℕ) (n : ℕ) → n ≡ length p.sections → (key value : ℕ) → HasEntry (paired homes groups) key value → key < n
  paired_keys groups n same key value there =
      let at = place_of (paired homes groups) (under key value) there in
      let found = zipped_at under homes groups at.0 (under key value) at.1 in
      let own = all_homes.each at.0 found.0 found.2 in
      let low : found.0 < length p.sections = slice_get_within p.sections found.0 own.listed.part own.listed.is_section in
      subst (λ m. key < m) (sym same) (subst (λ k. k < length p.sections) (ap (λ (x : Entry). x.key) found.4) low)
