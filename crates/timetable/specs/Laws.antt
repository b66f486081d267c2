-- The law of readings, which the function of `laws.rt` hands to its callers.
use Rattle.std.specs.Prelude.{◌≡◌, ◌≢◌, ℕ, List, Result, Err}
use Rattle.rail_net.specs.declared.parts.NetParts.{NetParts}
use Rattle.timetable.specs.Readings.{IsTimeReading}
use Rattle.timetable.specs.declared.parts.Timetable.{Timetable}
use Rattle.timetable.specs.declared.refusal.TimeRefusal.{TimeRefusal}
use Rattle.timetable.specs.declared.refusal.TimeRefusal.TheVariants.{Memory}

-- for the network the bytes have one reading at most, but for want of memory: one timetable or one refusal
abbrev pub HasOneTimeReading : NetParts → List ℕ → Type 0
HasOneTimeReading p bytes =
    (one other : Result Timetable TimeRefusal) → one ≢ Err Memory → other ≢ Err Memory → IsTimeReading p bytes one → IsTimeReading p bytes other → one ≡ other
