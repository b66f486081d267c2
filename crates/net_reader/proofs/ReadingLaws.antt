-- Bytes have one reading: two refusals, or a refusal and a network, are never both right.
use Rattle.std.proofs.Common.{◌≡◌, ◌<◌, ℕ, List, length, map, get_or, Ok, Err, refl, sym, ap, subst, ◌∙◌, arith}
use Rattle.std.specs.List.{All}
use Rattle.std.proofs.lemmas.List.{length-map, get_or-map}
use Rattle.std.proofs.lemmas.Option.{same_Some, slice_get-get_or, slice_get_within}
use Rattle.vss_json.proofs.DocumentLaws.{one_missed, one_stated, stated_not_missed}
use Rattle.vss_json.specs.Documents.{IsNoJson, MissesShape, States}
use Rattle.vss_json.specs.declared.fault.ShapeFault.{ShapeFault}
use Rattle.vss_lists.proofs.OrderLaws.{AreSound, not_kept, one_broken, sound_each}
use Rattle.vss_lists.specs.Breaks.{HoldsOfEach}
use Rattle.vss_lists.specs.Orders.{AreKept, IsFirstBroken}
use Rattle.vss_names.specs.Names.{IsName}
use Rattle.rail_net.proofs.RefusalLaws.{broken_is_no_net, one_broken_rule}
use Rattle.rail_net.specs.Parts.{AreNamed}
use Rattle.rail_net.specs.Refusals.{IsNet, net_rules}
use Rattle.rail_net.specs.declared.parts.GroupPart.{GroupPart}
use Rattle.rail_net.specs.declared.parts.NetParts.{NetParts}
use Rattle.rail_net.specs.declared.parts.NodePart.{NodePart}
use Rattle.rail_net.specs.declared.parts.TrackPart.{TrackPart}
use Rattle.rail_net.specs.declared.refusal.NetRefusal.{NetRefusal}
use Rattle.rail_net.specs.declared.refusal.Spot.{Spot}
use Rattle.net_reader.specs.Document.{document}
use Rattle.net_reader.specs.Laws.{HasOneReading}
use Rattle.net_reader.specs.Readings.{naming_rules}
use Rattle.net_reader.specs.declared.member.Member.{Member}
use Rattle.net_reader.specs.declared.refusal.ReadRefusal.TheVariants.{NotJson, Shape, BadName, Net, Memory}

each_named : {X : Type 0} (f : X → List ℕ) (xs : List X) → All IsName (map f xs) → HoldsOfEach (λ place x. IsName (f x)) xs
each_named {X} f xs named = record {
  at_each = λ k x is.
      let low : k < length xs = slice_get_within xs k x is in
      let same : get_or xs k x ≡ x = same_Some (get_or xs k x) x (sym (slice_get-get_or xs k x low) ∙ is) in
      subst IsName (get_or-map f xs k x (f x) low ∙ ap f same) (named k (f x) (subst (λ n. k < n) (sym (length-map xs f)) low));
}

-- the names of a network are names
names_kept : (p : NetParts) → AreNamed p → AreKept (naming_rules p)
names_kept p named = (
  each_named (λ (n : NodePart). n.name) p.nodes named.nodes,
  (
    each_named (λ (t : TrackPart). t.name) p.tracks named.tracks,
    (each_named (λ (g : GroupPart). g.name) p.sections named.sections, (each_named (λ (g : GroupPart). g.name) p.stations named.stations, tt)),
  ),
)

sound_names : (p : NetParts) → AreSound (naming_rules p)
sound_names p = (sound_each _ _ _, (sound_each _ _ _, (sound_each _ _ _, (sound_each _ _ _, tt))))

same_parts : (bytes : List ℕ) (p q : NetParts) → States document bytes p → States document bytes q → p ≡ q
same_parts = one_stated document

not_stated : (bytes : List ℕ) (p : NetParts) → IsNoJson bytes → ¬ States document bytes p
not_stated bytes p none states = none states.value states.is_json

not_missed : (bytes : List ℕ) (fault : ShapeFault Member) → IsNoJson bytes → ¬ MissesShape document bytes fault
not_missed bytes fault none misses = none misses.value misses.is_json

-- parts with a bad name are not parts whose names are names
not_named : (bytes : List ℕ) (p q : NetParts) (spot : Spot) → States document bytes p → States document bytes q → IsFirstBroken (naming_rules p) spot → ¬ AreKept (naming_rules q)
not_named bytes p q spot first second told kept =
    not_kept (naming_rules p) (sound_names p) spot told (subst (λ x. AreKept (naming_rules x)) (sym (same_parts bytes p q first second)) kept)

-- parts that break a rule are not those of a network
not_net : (bytes : List ℕ) (p q : NetParts) (refusal : NetRefusal) → States document bytes p → States document bytes q → IsFirstBroken (net_rules p) refusal → ¬ IsNet q
not_net bytes p q refusal first second told net =
    broken_is_no_net p refusal told (subst IsNet (sym (same_parts bytes p q first second)) net)

one_spot : (bytes : List ℕ) (p q : NetParts) (one other : Spot) → States document bytes p → States document bytes q
    → IsFirstBroken (naming_rules p) one → IsFirstBroken (naming_rules q) other → one ≡ other
one_spot bytes p q one other first second told also =
    one_broken (naming_rules p) (sound_names p) one other told (subst (λ x. IsFirstBroken (naming_rules x) other) (sym (same_parts bytes p q first second)) also)

one_rule : (bytes : List ℕ) (p q : NetParts) (one other : NetRefusal) → States document bytes p → States document bytes q
    → IsFirstBroken (net_rules p) one → IsFirstBroken (net_rules q) other → one ≡ other
one_rule bytes p q one other first second told also =
    one_broken_rule p one other told (subst (λ x. IsFirstBroken (net_rules x) other) (sym (same_parts bytes p q first second)) also)

pub one_reading : (bytes : List ℕ) → HasOneReading bytes
one_reading bytes (Err Memory) other some also first second = absurd (some refl)
one_reading bytes one (Err Memory) some also first second = absurd (also refl)
one_reading bytes (Ok p) (Ok q) some also first second = ap Ok (same_parts bytes p q first.0 second.0)
one_reading bytes (Ok p) (Err NotJson) some also first second = absurd (not_stated bytes p second first.0)
one_reading bytes (Ok p) (Err (Shape member item)) some also first second = absurd (stated_not_missed document bytes p _ first.0 second)
one_reading bytes (Ok p) (Err (BadName spot)) some also first second = absurd (not_named bytes second.0 p spot second.1 first.0 second.2 (names_kept p first.1.named))
one_reading bytes (Ok p) (Err (Net kind spot)) some also first second = absurd (not_net bytes second.0 p _ second.1 first.0 second.3 first.1)
one_reading bytes (Err NotJson) (Ok q) some also first second = absurd (not_stated bytes q first second.0)
one_reading bytes (Err NotJson) (Err NotJson) some also first second = refl
one_reading bytes (Err NotJson) (Err (Shape member item)) some also first second = absurd (not_missed bytes _ first second)
one_reading bytes (Err NotJson) (Err (BadName spot)) some also first second = absurd (not_stated bytes second.0 first second.1)
one_reading bytes (Err NotJson) (Err (Net kind spot)) some also first second = absurd (not_stated bytes second.0 first second.1)
one_reading bytes (Err (Shape member item)) (Ok q) some also first second = absurd (stated_not_missed document bytes q _ second.0 first)
one_reading bytes (Err (Shape member item)) (Err NotJson) some also first second = absurd (not_missed bytes _ second first)
one_reading bytes (Err (Shape m i)) (Err (Shape n j)) some also first second =
    let same = one_missed document bytes _ _ first second in
    let member : m ≡ n = ap (λ (f : ShapeFault Member). f.member) same in
    let item : i ≡ j = ap (λ (f : ShapeFault Member). f.item) same in
    cc
one_reading bytes (Err (Shape member item)) (Err (BadName spot)) some also first second = absurd (stated_not_missed document bytes second.0 _ second.1 first)
one_reading bytes (Err (Shape member item)) (Err (Net kind spot)) some also first second = absurd (stated_not_missed document bytes second.0 _ second.1 first)
one_reading bytes (Err (BadName spot)) (Ok q) some also first second = absurd (not_named bytes first.0 q spot first.1 second.0 first.2 (names_kept q second.1.named))
one_reading bytes (Err (BadName spot)) (Err NotJson) some also first second = absurd (not_stated bytes first.0 second first.1)
one_reading bytes (Err (BadName spot)) (Err (Shape member item)) some also first second = absurd (stated_not_missed document bytes first.0 _ first.1 second)
one_reading bytes (Err (BadName one)) (Err (BadName other)) some also first second =
    ap (λ s. Err (BadName s)) (one_spot bytes first.0 second.0 one other first.1 second.1 first.2 second.2)
one_reading bytes (Err (BadName one)) (Err (Net kind spot)) some also first second = absurd (not_named bytes first.0 second.0 one first.1 second.1 first.2 second.2)
one_reading bytes (Err (Net kind spot)) (Ok q) some also first second = absurd (not_net bytes first.0 q _ first.1 second.0 first.3 second.1)
one_reading bytes (Err (Net kind spot)) (Err NotJson) some also first second = absurd (not_stated bytes first.0 second first.1)
one_reading bytes (Err (Net kind spot)) (Err (Shape member item)) some also first second = absurd (stated_not_missed document bytes first.0 _ first.1 second)
one_reading bytes (Err (Net kind spot)) (Err (BadName other)) some also first second = absurd (not_named bytes second.0 first.0 other second.1 first.1 second.2 first.2)
one_reading bytes (Err (Net k s)) (Err (Net l t)) some also first second =
    let same = one_rule bytes first.0 second.0 _ _ first.1 second.1 first.3 second.3 in
    grind arith
