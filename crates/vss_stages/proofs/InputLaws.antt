-- Files that are read, one after another, for the proofs of crates above.
use Rattle.std.proofs.Common.{◌≤◌, ℕ, List, Option, Some, Result, Ok, Err, IsTrue, length, refl, sym, ap, subst, ◌∙◌, arith}
use Rattle.std.proofs.lemmas.Option.{same_Some}
use Rattle.vss_io.specs.Faults.{Rose}
use Rattle.vss_io.specs.Reading.{IsLongerThan, Keeps}
use Rattle.vss_io.specs.Shown.{Files}
use Rattle.vss_stages.specs.Stages.{Then, StopsBy, Ends, EndAlike}
use Rattle.vss_stages.specs.Inputs.{limit, IsRead, Since, TellsSame, ThenFile}
use Rattle.vss_stages.specs.declared.input.Input.{Input}
use Rattle.vss_stages.specs.declared.stop.Stop.{Stop}
use Rattle.vss_stages.specs.declared.stop.Stop.TheVariants as stop
use Rattle.vss_stages.proofs.StageLaws.{then_ends, goes_then, then_stops, then_maps, stops_map}

pub kept_since : (before after : Files) (names : List (List ℕ)) → Keeps before after names → Since before after
kept_since before after names kept = record { same_tells = kept.same_tells; same_files = kept.same_files; never_falls = kept.never_falls }

rose_within : (a b c d : ℕ) → a ≤ b → c ≤ d → Rose b c → Rose a d
rose_within a b c d begun ended rose = omega arith

-- what is read of a file, by what the shelf showed earlier and shows later
pub read_within : {R : Type 0} (before from to after : Files) (input : Input) (name : List ℕ) → Since before from → Since to after
    → (r : Result (List ℕ) (Stop R)) → IsRead from to input name r → IsRead before after input name r
read_within before from to after input name begun ended (Ok bytes) is =
    (is.0, λ tells. sym (begun.same_files name) ∙ is.1 (subst IsTrue (sym begun.same_tells) tells))
read_within before from to after input name begun ended (Err (stop.ReadFault file)) is =
    (is.0, rose_within (before.faults name) (from.faults name) (to.faults name) (after.faults name) (begun.never_falls name) (ended.never_falls name) is.1)
read_within before from to after input name begun ended (Err (stop.TooLong file)) is =
    (is.0, λ tells. subst (λ (f : Option (List ℕ)). IsLongerThan (limit input) f) (begun.same_files name) (is.1 (subst IsTrue (sym begun.same_tells) tells)))
read_within before from to after input name begun ended (Err stop.Memory) is = absurd is
read_within before from to after input name begun ended (Err stop.Usage) is = absurd is
read_within before from to after input name begun ended (Err (stop.Refused why)) is = absurd is

since_same : (files : Files) → Since files files
since_same files = record { same_tells = refl; same_files = λ name. refl; never_falls = λ name. omega arith }

-- the stage holds of what the shelf shows later, too
abbrev pub IsLasting : {R X : Type 0} → (Files → Files → Result X (Stop R) → Type 0) → Type 0
IsLasting {R} {X} stage = (before after later : Files) → Since after later → (r : Result X (Stop R)) → stage before after r → stage before later r

pub read_lasts : {R : Type 0} (input : Input) (name : List ℕ) → IsLasting {R = R} (λ before after. IsRead before after input name)
read_lasts input name before after later since = read_within before before after later input name (since_same before) since

-- a file is read after a stage, and its bytes are read on
pub file_made : {R X Y Z : Type 0} (stage : Files → Files → Result X (Stop R) → Type 0) (before between after : Files) (input : Input) (name : List ℕ)
    (next : X → List ℕ → Result Y (Stop R) → Type 0) (seen : Z → Y) (x : X) (bytes : List ℕ) (r : Result Z (Stop R)) → IsLasting stage
    → Since before between → Since between after → stage before between (Ok x) → IsRead {R = R} between after input name (Ok bytes) → Ends (next x bytes) seen r
    → Ends (ThenFile stage before after input name next) seen r
file_made {R} stage before between after input name next seen x bytes r lasts one two is read ends =
    then_ends (stage before after) (λ y. Then (IsRead before after input name) (next y)) seen x r (lasts before between after two (Ok x) is)
    (then_ends (IsRead before after input name) (next x) seen bytes r (read_within {R = R} before between after after input name one (since_same after) (Ok bytes) read) ends)

-- a file after a stage isn't read
pub file_unread : {R X Y : Type 0} (stage : Files → Files → Result X (Stop R) → Type 0) (before between after : Files) (input : Input) (name : List ℕ)
    (next : X → List ℕ → Result Y (Stop R) → Type 0) (x : X) (why : Stop R) → IsLasting stage
    → Since before between → Since between after → stage before between (Ok x) → StopsBy (IsRead {R = R} between after input name) why
    → StopsBy (ThenFile stage before after input name next) why
file_unread {R} stage before between after input name next x why lasts one two is unread =
    goes_then (stage before after) (λ y. Then (IsRead before after input name) (next y)) x why (lasts before between after two (Ok x) is)
    (then_stops (IsRead before after input name) (next x) why
    (stops_map (IsRead between after input name) (IsRead before after input name) (read_within {R = R} before between after after input name one (since_same after)) why unread))

-- a stage, then a file: what it ends with lasts where the stage does
pub then_file_lasts : {R X Y : Type 0} (stage : Files → Files → Result X (Stop R) → Type 0) (input : Input) (name : List ℕ) (next : X → List ℕ → Result Y (Stop R) → Type 0)
    → IsLasting stage → IsLasting (λ before after. ThenFile stage before after input name next)
then_file_lasts {R} stage input name next lasts before after later since =
    then_maps (stage before after) (stage before later) (λ x. Then (IsRead before after input name) (next x)) (λ x. Then (IsRead before later input name) (next x))
    (lasts before after later since)
    (λ x. then_maps (IsRead before after input name) (IsRead before later input name) (next x) (next x) (read_lasts {R = R} input name before after later since) (λ bytes r is. is))

longer : (most : ℕ) (bytes : List ℕ) → IsLongerThan most (Some bytes) → length bytes ≤ most → ⊥
longer most bytes long short = omega arith

-- a told file has one text, and is too long or not
pub read_alike : {R : Type 0} (one other : Files) (a b : Files) (input : Input) (name : List ℕ) → TellsSame one other → EndAlike {R = R} (IsRead one a input name) (IsRead other b input name)
read_alike one other a b input name same (Ok x) (Ok y) settled also is has =
    ap (λ (z : List ℕ). Ok z) (same_Some _ _ (sym (is.1 same.tells) ∙ (sym (same.same_files name) ∙ has.1 same.also)))
read_alike one other a b input name same (Ok x) (Err (stop.TooLong file)) settled also is has =
    absurd (longer (limit input) x (subst (λ (f : Option (List ℕ)). IsLongerThan (limit input) f) (same.same_files name ∙ is.1 same.tells) (has.1 same.also)) is.0)
read_alike one other a b input name same (Err (stop.TooLong file)) (Ok y) settled also is has =
    absurd (longer (limit input) y (subst (λ (f : Option (List ℕ)). IsLongerThan (limit input) f) (sym (same.same_files name) ∙ has.1 same.also) (is.1 same.tells)) has.0)
read_alike one other a b input name same (Err (stop.TooLong file)) (Err (stop.TooLong again)) settled also is has =
    ap (λ (i : Input). Err (stop.TooLong i)) (is.0 ∙ sym has.0)
read_alike one other a b input name same (Err (stop.ReadFault file)) s settled also is has = absurd settled
read_alike one other a b input name same (Err stop.Memory) s settled also is has = absurd is
read_alike one other a b input name same (Err stop.Usage) s settled also is has = absurd is
read_alike one other a b input name same (Err (stop.Refused why)) s settled also is has = absurd is
read_alike one other a b input name same r (Err (stop.ReadFault file)) settled also is has = absurd also
read_alike one other a b input name same r (Err stop.Memory) settled also is has = absurd has
read_alike one other a b input name same r (Err stop.Usage) settled also is has = absurd has
read_alike one other a b input name same r (Err (stop.Refused why)) settled also is has = absurd has
