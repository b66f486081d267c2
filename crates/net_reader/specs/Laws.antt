-- The law of readings, which the function of `laws.rt` hands to its callers.
use Rattle.std.specs.Prelude.{◌≡◌, ◌≢◌, ℕ, List, Result, Err}
use Rattle.rail_net.specs.declared.parts.NetParts.{NetParts}
use Rattle.net_reader.specs.Readings.{IsReading}
use Rattle.net_reader.specs.declared.refusal.ReadRefusal.{ReadRefusal}
use Rattle.net_reader.specs.declared.refusal.ReadRefusal.TheVariants.{Memory}

-- the bytes have one reading at most, but for want of memory: one network or one refusal
abbrev pub HasOneReading : List ℕ → Type 0
HasOneReading bytes =
    (one other : Result NetParts ReadRefusal) → one ≢ Err Memory → other ≢ Err Memory → IsReading bytes one → IsReading bytes other → one ≡ other
