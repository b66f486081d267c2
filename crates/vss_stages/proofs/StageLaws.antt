-- Stages in a row, for the proofs of crates above.
use Rattle.std.proofs.Common.{◌≡◌, ◌≢◌, Result, Ok, Err, refl, sym, ap, subst, ◌∙◌}
use Rattle.vss_stages.specs.Stages.{Then, goes_on, stops, StopsBy, Ends, IsSettled, EndAlike, handed, HandsOn}
use Rattle.vss_stages.specs.declared.stop.Stop.{Stop}
use Rattle.vss_stages.specs.declared.stop.Stop.TheVariants as stop

-- a stop of the next stage is the end of the row
pub goes_then : {R X Y : Type 0} (first : Result X (Stop R) → Type 0) (next : X → Result Y (Stop R) → Type 0) (x : X) (why : Stop R)
    → first (Ok x) → StopsBy (next x) why → StopsBy (Then first next) why
goes_then first next x stop.Memory is stopped = tt
goes_then first next x stop.Usage is stopped = goes_on x is stopped
goes_then first next x (stop.ReadFault input) is stopped = goes_on x is stopped
goes_then first next x (stop.TooLong input) is stopped = goes_on x is stopped
goes_then first next x (stop.Refused why) is stopped = goes_on x is stopped

-- the next stage ends as the row does
pub then_ends : {R X Y Z : Type 0} (first : Result X (Stop R) → Type 0) (next : X → Result Y (Stop R) → Type 0) (seen : Z → Y) (x : X) (r : Result Z (Stop R))
    → first (Ok x) → Ends (next x) seen r → Ends (Then first next) seen r
then_ends first next seen x (Ok y) is ends = goes_on x is ends
then_ends first next seen x (Err why) is ends = goes_then first next x why is ends

-- a stop of the first stage is the end of the row
pub then_stops : {R X Y : Type 0} (first : Result X (Stop R) → Type 0) (next : X → Result Y (Stop R) → Type 0) (why : Stop R) → StopsBy first why → StopsBy (Then first next) why
then_stops first next stop.Memory is = tt
then_stops first next stop.Usage is = stops stop.Usage is refl
then_stops first next (stop.ReadFault input) is = stops (stop.ReadFault input) is refl
then_stops first next (stop.TooLong input) is = stops (stop.TooLong input) is refl
then_stops first next (stop.Refused why) is = stops (stop.Refused why) is refl

-- weaker stages make a weaker row
pub then_maps : {R X Y : Type 0} (first other : Result X (Stop R) → Type 0) (next later : X → Result Y (Stop R) → Type 0) → ((r : Result X (Stop R)) → first r → other r)
    → ((x : X) (r : Result Y (Stop R)) → next x r → later x r) → (r : Result Y (Stop R)) → Then first next r → Then other later r
then_maps first other next later one two r (goes_on x is ends) = goes_on x (one (Ok x) is) (two x r ends)
then_maps first other next later one two r (stops why is same) = stops why (one (Err why) is) same

pub stops_map : {R Y : Type 0} (stage other : Result Y (Stop R) → Type 0) → ((r : Result Y (Stop R)) → stage r → other r) → (why : Stop R) → StopsBy stage why → StopsBy other why
stops_map stage other maps stop.Memory is = tt
stops_map stage other maps stop.Usage is = maps (Err stop.Usage) is
stops_map stage other maps (stop.ReadFault input) is = maps (Err (stop.ReadFault input)) is
stops_map stage other maps (stop.TooLong input) is = maps (Err (stop.TooLong input)) is
stops_map stage other maps (stop.Refused why) is = maps (Err (stop.Refused why)) is

settled_err : (R X Y : Type 0) (why : Stop R) → IsSettled {R = R} {X = X} (Err why) → IsSettled {R = R} {X = Y} (Err why)
settled_err R X Y stop.Memory is = absurd is
settled_err R X Y (stop.ReadFault input) is = absurd is
settled_err R X Y (stop.TooLong input) is = tt
settled_err R X Y (stop.Refused why) is = tt
settled_err R X Y stop.Usage is = tt

abbrev ok_of : (R X : Type 0) → X → Result X (Stop R)
ok_of R X x = Ok x

abbrev err_of : (R X : Type 0) → Stop R → Result X (Stop R)
err_of R X why = Err why

same_value : (R X : Type 0) (a b : X) → ok_of R X a ≡ ok_of R X b → a ≡ b
same_value R X a b e = cc

same_stop : (R X : Type 0) (a b : Stop R) → err_of R X a ≡ err_of R X b → a ≡ b
same_stop R X a b e = cc

not_both : (R X : Type 0) (a : X) (why : Stop R) → ok_of R X a ≡ err_of R X why → ⊥
not_both R X a why e = cc

-- rows end alike where each of their stages does
pub then_alike : {R X Y : Type 0} (first other : Result X (Stop R) → Type 0) (next later : X → Result Y (Stop R) → Type 0) → EndAlike first other → ((x : X) → EndAlike (next x) (later x))
    → EndAlike (Then first next) (Then other later)
then_alike {R} {X} {Y} first other next later one two r s settled also (goes_on x is ends) (goes_on y has end) =
    two y r s settled also (subst (λ (z : X). next z r) (same_value R X x y (one (Ok x) (Ok y) tt tt is has)) ends) end
then_alike {R} {X} {Y} first other next later one two r s settled also (goes_on x is ends) (stops why has same) =
    absurd (not_both R X x why (one (Ok x) (Err why) tt (settled_err R Y X why (subst (λ (z : Result Y (Stop R)). IsSettled z) same also)) is has))
then_alike {R} {X} {Y} first other next later one two r s settled also (stops why is same) (goes_on y has end) =
    absurd (not_both R X y why (sym (one (Err why) (Ok y) (settled_err R Y X why (subst (λ (z : Result Y (Stop R)). IsSettled z) same settled)) tt is has)))
then_alike {R} {X} {Y} first other next later one two r s settled also (stops why is same) (stops since has equal) =
    same ∙ (ap (λ (w : Stop R). err_of R Y w) (same_stop R X why since (one (Err why) (Err since)
    (settled_err R Y X why (subst (λ (z : Result Y (Stop R)). IsSettled z) same settled)) (settled_err R Y X since (subst (λ (z : Result Y (Stop R)). IsSettled z) equal also)) is has)) ∙ sym equal)

-- a stop that is stated is the end of the stage
pub stops_by : {R Y : Type 0} (stage : Result Y (Stop R) → Type 0) (why : Stop R) → stage (Err why) → StopsBy stage why
stops_by stage stop.Memory is = tt
stops_by stage stop.Usage is = is
stops_by stage (stop.ReadFault input) is = is
stops_by stage (stop.TooLong input) is = is
stops_by stage (stop.Refused why) is = is

-- what a reader gives, and what it refuses, is the end of the stage that hands it on
pub hands_value : {R X Y E : Type 0} (reads : Result X E → Type 0) (made : X → Y) (told : E → Stop R) (x : X) → reads (Ok x) → HandsOn reads made told (Ok (made x))
hands_value reads made told x is = record { answer = Ok x; reads_so = is; end_is = refl }

pub hands_refusal : {R X Y E : Type 0} (reads : Result X E → Type 0) (made : X → Y) (told : E → Stop R) (why : E) → reads (Err why) → HandsOn reads made told (Err (told why))
hands_refusal reads made told why is = record { answer = Err why; reads_so = is; end_is = refl }

-- an end that is settled is no want of memory of the reader
pub settled_answer : {R X Y E : Type 0} (reads : Result X E → Type 0) (made : X → Y) (told : E → Stop R) (memory : E) (end : Result Y (Stop R))
    → told memory ≡ stop.Memory → IsSettled end → (h : HandsOn reads made told end) → h.answer ≢ Err memory
settled_answer {R} {X} {Y} reads made told memory end is_memory settled h = λ same.
    subst (λ (e : Result Y (Stop R)). IsSettled e) (h.end_is ∙ (ap (handed made told) same ∙ ap (λ (w : Stop R). err_of R Y w) is_memory)) settled

-- a stage that hands on what a reader answers ends alike, where two answers of the reader are handed on as one, but for
-- want of memory
pub handed_alike : {R X Y E : Type 0} (reads : Result X E → Type 0) (made : X → Y) (told : E → Stop R) (memory : E)
    → told memory ≡ stop.Memory → ((r s : Result X E) → r ≢ Err memory → s ≢ Err memory → reads r → reads s → handed made told r ≡ handed made told s)
    → EndAlike (HandsOn reads made told) (HandsOn reads made told)
handed_alike reads made told memory is_memory one = λ r s settled also is has.
    is.end_is ∙ (one is.answer has.answer (settled_answer reads made told memory r is_memory settled is) (settled_answer reads made told memory s is_memory also has) is.reads_so has.reads_so
    ∙ sym has.end_is)
