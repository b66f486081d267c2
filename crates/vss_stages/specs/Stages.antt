-- Stages in a row: each ends with a value or with a stop, and the next begins with the value of the one before.
use Rattle.std.specs.Prelude.{◌≡◌, Result, Ok, Err}
use Rattle.vss_stages.specs.declared.stop.Stop.{Stop}
use Rattle.vss_stages.specs.declared.stop.Stop.TheVariants.{ReadFault, Memory}

-- the first stage, and then the one that its value picks; a stop of the first is the end of both
pub data Then {R X Y : Type 0} (first : Result X (Stop R) → Type 0) (next : X → Result Y (Stop R) → Type 0) (end : Result Y (Stop R)) : Type 0 where
  goes_on : (x : X) → first (Ok x) → next x end → Then first next end
  stops : (why : Stop R) → first (Err why) → end ≡ Err why → Then first next end

-- the stage ends with this stop, or there was not enough memory
abbrev pub StopsBy : {R X : Type 0} → (Result X (Stop R) → Type 0) → Stop R → Type 0
StopsBy stage Memory = Unit {0}
StopsBy stage why = stage (Err why)

-- a function ends as the stage does, its value seen so, or for want of memory
abbrev pub Ends : {R X Y : Type 0} → (Result Y (Stop R) → Type 0) → (X → Y) → Result X (Stop R) → Type 0
Ends stage seen (Ok x) = stage (Ok (seen x))
Ends stage seen (Err why) = StopsBy stage why

-- the end is no fault of reading and no want of memory
abbrev pub IsSettled : {R X : Type 0} → Result X (Stop R) → Type 0
IsSettled (Err (ReadFault input)) = ⊥
IsSettled (Err Memory) = ⊥
IsSettled end = Unit {0}

-- the two stages end alike, but for faults of reading and want of memory
abbrev pub EndAlike : {R X : Type 0} → (Result X (Stop R) → Type 0) → (Result X (Stop R) → Type 0) → Type 0
EndAlike {R} {X} one other = (r s : Result X (Stop R)) → IsSettled r → IsSettled s → one r → other s → r ≡ s

-- the answer of a reader as the end of a stage: what is made of its value, or its refusal told as a stop
abbrev pub handed : {R X Y E : Type 0} → (X → Y) → (E → Stop R) → Result X E → Result Y (Stop R)
handed made told (Ok x) = Ok (made x)
handed made told (Err why) = Err (told why)

-- the stage ends with what the reader answers
pub record HandsOn {R X Y E : Type 0} (reads : Result X E → Type 0) (made : X → Y) (told : E → Stop R) (end : Result Y (Stop R)) : Type 0 where
  pub answer : Result X E
  pub reads_so : reads answer
  pub end_is : end ≡ handed made told answer
