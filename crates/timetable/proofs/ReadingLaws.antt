-- For a network bytes have one reading: two refusals, or a refusal and a timetable, are never both right.
use Rattle.std.proofs.Common.{◌≡◌, ℕ, List, Ok, Err, refl, sym, ap, subst, arith}
use Rattle.vss_json.proofs.DocumentLaws.{one_missed, one_stated, stated_not_missed}
use Rattle.vss_json.specs.Documents.{IsNoJson, MissesShape, States}
use Rattle.vss_json.specs.declared.fault.ShapeFault.{ShapeFault}
use Rattle.vss_lists.proofs.OrderLaws.{AreSound, not_kept, one_broken, sound_each, sound_rule}
use Rattle.vss_lists.specs.Orders.{AreKept, IsFirstBroken}
use Rattle.rail_net.specs.Refusals.{IsNet}
use Rattle.rail_net.specs.declared.parts.NetParts.{NetParts}
use Rattle.timetable.specs.Document.{timetable_document}
use Rattle.timetable.specs.Laws.{HasOneTimeReading}
use Rattle.timetable.specs.Places.{IsTimetableFor}
use Rattle.timetable.specs.Rules.{time_rules}
use Rattle.timetable.specs.declared.entries.Entries.{Entries}
use Rattle.timetable.specs.declared.parts.Timetable.{Timetable}
use Rattle.timetable.specs.declared.refusal.TimeMember.{TimeMember}
use Rattle.timetable.specs.declared.refusal.TimeRefusal.TheVariants.{NotJson, Shape, Named, Memory}
use Rattle.timetable.specs.declared.rules.RuleRefusal.{RuleRefusal}
use Rattle.timetable.proofs.TimetableLemmas.{same_timetable}

sound : (p : NetParts) (e : Entries) → AreSound (time_rules p e)
sound p e =
    (sound_each _ _ _, (sound_each _ _ _, (sound_each _ _ _, (sound_each _ _ _, (sound_each _ _ _, (sound_rule _ _, (sound_each _ _ _, tt)))))))

same_entries : (bytes : List ℕ) (e f : Entries) → States timetable_document bytes e → States timetable_document bytes f → e ≡ f
same_entries = one_stated timetable_document

not_stated : (bytes : List ℕ) (e : Entries) → IsNoJson bytes → ¬ States timetable_document bytes e
not_stated bytes e none states = none states.value states.is_json

not_missed : (bytes : List ℕ) (fault : ShapeFault TimeMember) → IsNoJson bytes → ¬ MissesShape timetable_document bytes fault
not_missed bytes fault none misses = none misses.value misses.is_json

-- entries that break a rule don't keep the rules
not_good : (p : NetParts) (bytes : List ℕ) (e f : Entries) (refusal : RuleRefusal) → States timetable_document bytes e → States timetable_document bytes f
    → IsFirstBroken (time_rules p e) refusal → ¬ AreKept (time_rules p f)
not_good p bytes e f refusal first second told kept =
    not_kept (time_rules p e) (sound p e) refusal told (subst (λ x. AreKept (time_rules p x)) (sym (same_entries bytes e f first second)) kept)

one_rule : (p : NetParts) (bytes : List ℕ) (e f : Entries) (one other : RuleRefusal) → States timetable_document bytes e → States timetable_document bytes f
    → IsFirstBroken (time_rules p e) one → IsFirstBroken (time_rules p f) other → one ≡ other
one_rule p bytes e f one other first second told also =
    one_broken (time_rules p e) (sound p e) one other told (subst (λ x. IsFirstBroken (time_rules p x) other) (sym (same_entries bytes e f first second)) also)

one_timetable : (p : NetParts) (bytes : List ℕ) (e f : Entries) (t u : Timetable) → IsNet p → States timetable_document bytes e → States timetable_document bytes f
    → IsTimetableFor p e t → IsTimetableFor p f u → t ≡ u
one_timetable p bytes e f t u net first second is also =
    same_timetable p net e t u is (subst (λ x. IsTimetableFor p x u) (sym (same_entries bytes e f first second)) also)

pub one_reading : (p : NetParts) (bytes : List ℕ) → IsNet p → HasOneTimeReading p bytes
one_reading p bytes net (Err Memory) other some also first second = absurd (some refl)
one_reading p bytes net one (Err Memory) some also first second = absurd (also refl)
one_reading p bytes net (Ok t) (Ok u) some also first second = ap Ok (one_timetable p bytes first.0 second.0 t u net first.1 second.1 first.3 second.3)
one_reading p bytes net (Ok t) (Err NotJson) some also first second = absurd (not_stated bytes first.0 second first.1)
one_reading p bytes net (Ok t) (Err (Shape member item)) some also first second = absurd (stated_not_missed timetable_document bytes first.0 _ first.1 second)
one_reading p bytes net (Ok t) (Err (Named kind spot)) some also first second = absurd (not_good p bytes second.0 first.0 _ second.1 first.1 second.2 first.2)
one_reading p bytes net (Err NotJson) (Ok u) some also first second = absurd (not_stated bytes second.0 first second.1)
one_reading p bytes net (Err NotJson) (Err NotJson) some also first second = refl
one_reading p bytes net (Err NotJson) (Err (Shape member item)) some also first second = absurd (not_missed bytes _ first second)
one_reading p bytes net (Err NotJson) (Err (Named kind spot)) some also first second = absurd (not_stated bytes second.0 first second.1)
one_reading p bytes net (Err (Shape member item)) (Ok u) some also first second = absurd (stated_not_missed timetable_document bytes second.0 _ second.1 first)
one_reading p bytes net (Err (Shape member item)) (Err NotJson) some also first second = absurd (not_missed bytes _ second first)
one_reading p bytes net (Err (Shape m i)) (Err (Shape n j)) some also first second =
    let same = one_missed timetable_document bytes _ _ first second in
    let member : m ≡ n = ap (λ (f : ShapeFault TimeMember). f.member) same in
    let item : i ≡ j = ap (λ (f : ShapeFault TimeMember). f.item) same in
    cc
one_reading p bytes net (Err (Shape member item)) (Err (Named kind spot)) some also first second = absurd (stated_not_missed timetable_document bytes second.0 _ second.1 first)
one_reading p bytes net (Err (Named kind spot)) (Ok u) some also first second = absurd (not_good p bytes first.0 second.0 _ first.1 second.1 first.2 second.2)
one_reading p bytes net (Err (Named kind spot)) (Err NotJson) some also first second = absurd (not_stated bytes first.0 second first.1)
one_reading p bytes net (Err (Named kind spot)) (Err (Shape member item)) some also first second = absurd (stated_not_missed timetable_document bytes first.0 _ first.1 second)
one_reading p bytes net (Err (Named k s)) (Err (Named l t)) some also first second =
    let same = one_rule p bytes first.0 second.0 _ _ first.1 second.1 first.2 second.2 in
    grind arith
