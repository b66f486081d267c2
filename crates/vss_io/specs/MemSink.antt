-- A sink in memory.
use Rattle.std.specs.Prelude.{ℕ, ◌-◌, ◌/◌, List, length, min, Some, if◌then◌else◌}
use Rattle.vss_io.specs.Calls.{CallCount, next_fails}
use Rattle.vss_io.specs.Shown.{Output}

-- what is written, how many bytes that may be, the puts, and how many of them failed
pub record MemWriting : Type 0 where
  pub written : List ℕ
  pub capacity : ℕ
  pub puts : CallCount
  pub faults : ℕ

-- how many bytes there is still room for
abbrev pub room : MemWriting → ℕ
room sink = sink.capacity - length sink.written

-- how many bytes the next put takes of so many: half of them where it is one that fails, and never more than fit
abbrev pub taken : MemWriting → ℕ → ℕ
taken sink size = min (if next_fails sink.puts then size / 2 else size) (room sink)

-- it tells all that is written
abbrev pub output_of : MemWriting → Output
output_of sink = record { written = Some sink.written; faults = sink.faults }
