-- What a reading of a timetable document answers.
use Rattle.std.specs.Prelude.{◌<◌, ℕ, List, length, Result, Ok, Err}
use Rattle.vss_json.specs.Documents.{IsNoJson, MissesShape, States}
use Rattle.vss_lists.specs.Orders.{AreKept, IsFirstBroken}
use Rattle.rail_net.specs.declared.parts.NetParts.{NetParts}
use Rattle.timetable.specs.Document.{at_train, timetable_document}
use Rattle.timetable.specs.Places.{IsTimetableFor}
use Rattle.timetable.specs.Rules.{time_rules}
use Rattle.timetable.specs.declared.entries.Entries.{Entries}
use Rattle.timetable.specs.declared.parts.Timetable.{Timetable}
use Rattle.timetable.specs.declared.refusal.TimeRefusal.{TimeRefusal}
use Rattle.timetable.specs.declared.refusal.TimeRefusal.TheVariants.{NotJson, Shape, Named, Memory}
use Rattle.timetable.specs.declared.rules.RuleRefusal.TheVariants as rules

-- Ok gives the timetable that the document states for the network; a refusal tells the first of these that
-- goes wrong: the bytes are JSON, the value has the document's shape, the entries keep the rules of
-- timetables. Want of memory may come at any bytes but none
abbrev pub IsTimeReading : NetParts → List ℕ → Result Timetable TimeRefusal → Type 0
IsTimeReading p bytes (Ok timetable) =
    (entries : Entries) × States timetable_document bytes entries × AreKept (time_rules p entries) × IsTimetableFor p entries timetable
IsTimeReading p bytes (Err NotJson) = IsNoJson bytes
IsTimeReading p bytes (Err (Shape member item)) = MissesShape timetable_document bytes (at_train member item)
IsTimeReading p bytes (Err (Named kind spot)) =
    (entries : Entries) × States timetable_document bytes entries × IsFirstBroken (time_rules p entries) (rules.Named kind spot)
IsTimeReading p bytes (Err Memory) = 0 < length bytes
