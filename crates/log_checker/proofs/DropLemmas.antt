-- Laws of drops and of their undoing.
use Rattle.std.proofs.Common.{◌≡◌, ◌≢◌, ℕ, zero, suc, ◌+◌, ◌<◌, ◌≤◌, Bool, true, false, not, ◌&&◌, ◌||◌, inl, inr, List, [], ◌∷◌, ◌++◌, length, take, get_or, refl, ap, sym, subst, ◌∙◌, arith}
use Rattle.std.specs.Prelude.{nat_eq}
use Rattle.std.proofs.lemmas.Bool.{cases_eq, cases_lt, eq-eqb, ne_eqb, eqb-true}
use Rattle.std.proofs.lemmas.List.{get_or-take, length-take-le}
use Rattle.std.proofs.lemmas.List.Elements.{All-push, All-nil}
use Rattle.std.proofs.lemmas.List.Quantifiers.{all_pairs_push}
use Rattle.std.proofs.lemmas.List.Folds.{list_any-append}
use Rattle.std.proofs.Math.Bool.{or-false, or_assoc, and-true}
use Rattle.sat_core.specs.declared.literal.ClauseId.{ClauseId}
use Rattle.log_checker.specs.declared.dropped.Dropped.{Dropped}
use Rattle.log_checker.specs.Stored.{number_at, is_dropped, AscendsTo}
use Rattle.log_checker.specs.Drops.{is_named, IsLiveNumber, CanDrop, DropsAlso, Revives, SameDrops}
use Rattle.log_checker.proofs.StoreLemmas.{number_at-same}

true_is_not_false : true ≡ false → ⊥
true_is_not_false same = cc

-- one number more
is_named-push : (ids : List ClauseId) (id : ClauseId) (number : ℕ) → is_named (ids ++ id ∷ []) number ≡ (is_named ids number || is_named (id ∷ []) number)
is_named-push ids id number = list_any-append (λ (one : ClauseId). nat_eq number one.0) ids (id ∷ [])

-- the place of a number is the only one with that number
pub place_named : (own : ℕ) (numbers : List ClauseId) (last place other : ℕ) (id : ClauseId) → AscendsTo own numbers last → place < own + length numbers → number_at own numbers place ≡ id.0 → other < own + length numbers → is_named (id ∷ []) (number_at own numbers other) ≡ nat_eq other place
place_named own numbers last place other id ascends within is within' =
    or-false (nat_eq (number_at own numbers other) id.0)
    ∙ elim (cases_eq other place) [
      | inl same ↦ eq-eqb (number_at own numbers other) id.0 (ap (number_at own numbers) same ∙ is) ∙ sym (eq-eqb other place same)
      | inr differs ↦ ne_eqb (number_at own numbers other) id.0 (λ number. differs (number_at-same own numbers last other place ascends within' within (number ∙ sym is))) ∙ sym (ne_eqb other place differs)
    ]

pub none_named : (own : ℕ) (numbers : List ClauseId) (other : ℕ) (id : ClauseId) → number_at own numbers other ≢ id.0 → is_named (id ∷ []) (number_at own numbers other) ≡ false
none_named own numbers other id differs = or-false (nat_eq (number_at own numbers other) id.0) ∙ ne_eqb (number_at own numbers other) id.0 differs

-- a named number stands somewhere
named_at : (ids : List ClauseId) (number : ℕ) → is_named ids number ≡ true → (k : ℕ) × (k < length ids) × ((d : ClauseId) → (get_or ids k d).0 ≡ number)
named_at [] number named = absurd (true_is_not_false (sym named))
named_at (id ∷ ids) number named =
    elim (nat_eq number id.0) as (λ b. nat_eq number id.0 ≡ b → (b || is_named ids number) ≡ true → (k : ℕ) × (k < length (id ∷ ids)) × ((d : ClauseId) → (get_or (id ∷ ids) k d).0 ≡ number)) [
      | true ↦ λ here _. (0, omega arith, λ d. sym (eqb-true number id.0 here))
      | false ↦ λ _ later. let rest = named_at ids number later in (suc rest.0, omega (arith, rest.1), λ d. rest.2 d)
    ] refl named

not_named : (ids : List ClauseId) (number : ℕ) → is_named ids number ≡ false → (k : ℕ) (d : ClauseId) → k < length ids → (get_or ids k d).0 ≢ number
not_named [] number none k d within same = omega arith
not_named (id ∷ ids) number none zero d within same =
    true_is_not_false (sym (ap (λ b. b || is_named ids number) (eq-eqb number id.0 (sym same))) ∙ none)
not_named (id ∷ ids) number none (suc k) d within same =
    let later : is_named ids number ≡ false = elim (nat_eq number id.0) as (λ b. (b || is_named ids number) ≡ false → is_named ids number ≡ false) [ true ↦ λ never. absurd (true_is_not_false never) | false ↦ λ rest. rest ] none in
    not_named ids number later k d (omega arith) same

-- nothing is dropped yet
pub DropsAlso-none : (numbers : List ClauseId) (old : Dropped) → DropsAlso numbers old old []
DropsAlso-none numbers old = record {
  same_own = refl;
  same_size = refl;
  here = λ place within. sym (or-false (is_dropped old place));
  behind = λ place past. refl;
}

pub CanDrop-none : (numbers : List ClauseId) (old : Dropped) → CanDrop numbers old []
CanDrop-none numbers old = record {
  all_live = All-nil (IsLiveNumber numbers old);
  none_twice = λ i j d before within. absurd (omega arith);
}

pub DropsAlso-more : (numbers : List ClauseId) (old now next : Dropped) (ids : List ClauseId) (id : ClauseId) → DropsAlso numbers old now ids → DropsAlso numbers now next (id ∷ []) → DropsAlso numbers old next (ids ++ id ∷ [])
DropsAlso-more numbers old now next ids id first second = record {
  same_own = second.same_own ∙ first.same_own;
  same_size = second.same_size ∙ first.same_size;
  here = λ place within.
      let number : ℕ = number_at old.own numbers place in
      let step : is_dropped next place ≡ (is_dropped now place || is_named (id ∷ []) number) = subst (λ own. is_dropped next place ≡ (is_dropped now place || is_named (id ∷ []) (number_at own numbers place))) first.same_own (second.here place (subst (λ own. place < own + length numbers) (sym first.same_own) within)) in
      step
      ∙ (ap (λ b. b || is_named (id ∷ []) number) (first.here place within)
      ∙ (or_assoc (is_dropped old place) (is_named ids number) (is_named (id ∷ []) number)
      ∙ ap (λ b. is_dropped old place || b) (sym (is_named-push ids id number))));
  behind = λ place past. second.behind place (subst (λ own. own + length numbers ≤ place) (sym first.same_own) past) ∙ first.behind place past;
}

-- a flag that an or leaves unset is unset on both sides
or_parts : (b c : Bool) → (b || c) ≡ false → (b ≡ false) × (c ≡ false)
or_parts true c never = absurd (true_is_not_false never)
or_parts false c is = (refl, is)

live_before : (numbers : List ClauseId) (old now : Dropped) (ids : List ClauseId) (id : ClauseId) → DropsAlso numbers old now ids → IsLiveNumber numbers now id → IsLiveNumber numbers old id × (is_named ids id.0 ≡ false)
unfolding IsLiveNumber
live_before numbers old now ids id drops (place, within, is, stands) =
    let within' : place < old.own + length numbers = subst (λ own. place < own + length numbers) drops.same_own within in
    let is' : number_at old.own numbers place ≡ id.0 = subst (λ own. number_at own numbers place ≡ id.0) drops.same_own is in
    let parts = or_parts (is_dropped old place) (is_named ids (number_at old.own numbers place)) (sym (drops.here place within') ∙ stands) in
    ((place, within', is', parts.0), subst (λ number. is_named ids number ≡ false) is' parts.1)

pub CanDrop-more : (numbers : List ClauseId) (old now : Dropped) (ids : List ClauseId) (id : ClauseId) → DropsAlso numbers old now ids → CanDrop numbers old ids → IsLiveNumber numbers now id → CanDrop numbers old (ids ++ id ∷ [])
CanDrop-more numbers old now ids id drops can live =
    let before = live_before numbers old now ids id drops live in
    record {
      all_live = All-push (IsLiveNumber numbers old) ids id can.all_live before.0;
      none_twice = all_pairs_push (λ first later. first.0 ≢ later.0) ids id can.none_twice (not_named ids id.0 before.1);
    }

-- where a number isn't that of a live clause any more, it was none before, or it stands among those dropped since
pub not_live_now : (numbers : List ClauseId) (last : ℕ) (old now : Dropped) (ids : List ClauseId) (id : ClauseId) → DropsAlso numbers old now ids → ¬ IsLiveNumber numbers now id → IsLiveNumber numbers old id → is_named ids id.0 ≡ true
unfolding IsLiveNumber
not_live_now numbers last old now ids id drops gone (place, within, is, stands) =
    let now_is : is_dropped now place ≡ (is_dropped old place || is_named ids (number_at old.own numbers place)) = drops.here place within in
    let named_is : is_dropped now place ≡ is_named ids id.0 = now_is ∙ (ap (λ b. b || is_named ids (number_at old.own numbers place)) stands ∙ ap (is_named ids) is) in
    elim (is_named ids id.0) as (λ b. is_named ids id.0 ≡ b → b ≡ true) [
      | true ↦ λ _. refl
      | false ↦ λ none. absurd (gone (place, subst (λ own. place < own + length numbers) (sym drops.same_own) within, subst (λ own. number_at own numbers place ≡ id.0) (sym drops.same_own) is, named_is ∙ none))
    ] refl

pub CanDrop-not : (numbers : List ClauseId) (last : ℕ) (old now : Dropped) (ids : List ClauseId) (count : ℕ) (d : ClauseId) → count < length ids → DropsAlso numbers old now (take count ids) → ¬ IsLiveNumber numbers now (get_or ids count d) → ¬ CanDrop numbers old ids
CanDrop-not numbers last old now ids count d within drops gone can =
    let id : ClauseId = get_or ids count d in
    let named = named_at (take count ids) id.0 (not_live_now numbers last old now (take count ids) id drops gone (can.all_live count d within)) in
    let front : length (take count ids) ≡ count = length-take-le count ids (omega arith) in
    let earlier : named.0 < count = omega (arith, named.1) in
    can.none_twice named.0 count d earlier within (ap (λ (one : ClauseId). one.0) (sym (get_or-take count ids named.0 d earlier)) ∙ named.2 d)

-- what is taken back was as before
pub SameDrops-revived : (numbers : List ClauseId) (last : ℕ) (old now back : Dropped) (ids : List ClauseId) → AscendsTo old.own numbers last → CanDrop numbers old ids → DropsAlso numbers old now ids → Revives numbers now back ids → SameDrops old back
unfolding IsLiveNumber
SameDrops-revived numbers last old now back ids ascends can drops revives = record {
  same_own = revives.same_own ∙ drops.same_own;
  same_size = revives.same_size ∙ drops.same_size;
  same = λ place. elim (cases_lt place (old.own + length numbers)) [
    | inl within ↦
        let number : ℕ = number_at old.own numbers place in
        let taken : is_dropped back place ≡ (is_dropped now place && not (is_named ids number)) = subst (λ own. is_dropped back place ≡ (is_dropped now place && not (is_named ids (number_at own numbers place)))) drops.same_own (revives.here place (subst (λ own. place < own + length numbers) (sym drops.same_own) within)) in
        let unset : is_named ids number ≡ true → is_dropped old place ≡ false = λ named.
        let at = named_at ids number named in
        let live = can.all_live at.0 (record { 0 = 0 }) at.1 in
        let same : live.0 ≡ place = number_at-same old.own numbers last live.0 place ascends live.1 within (live.2 ∙ at.2 (record { 0 = 0 })) in
        subst (λ other. is_dropped old other ≡ false) same live.3 in
        taken ∙ (ap (λ b. b && not (is_named ids number)) (drops.here place within) ∙ undo (is_dropped old place) (is_named ids number) unset)
    | inr past ↦ revives.behind place (subst (λ own. own + length numbers ≤ place) (sym drops.same_own) past) ∙ drops.behind place past
  ];
}
  where
    undo : (b c : Bool) → (c ≡ true → b ≡ false) → ((b || c) && not c) ≡ b
    undo true true unset = sym (unset refl)
    undo true false unset = refl
    undo false true unset = refl
    undo false false unset = refl

pub Revives-none : (numbers : List ClauseId) (old : Dropped) → Revives numbers old old []
Revives-none numbers old = record {
  same_own = refl;
  same_size = refl;
  here = λ place within. sym (and-true (is_dropped old place));
  behind = λ place past. refl;
}

pub Revives-more : (numbers : List ClauseId) (old now next : Dropped) (ids : List ClauseId) (id : ClauseId) → Revives numbers old now ids → Revives numbers now next (id ∷ []) → Revives numbers old next (ids ++ id ∷ [])
Revives-more numbers old now next ids id first second = record {
  same_own = second.same_own ∙ first.same_own;
  same_size = second.same_size ∙ first.same_size;
  here = λ place within.
      let number : ℕ = number_at old.own numbers place in
      let step : is_dropped next place ≡ (is_dropped now place && not (is_named (id ∷ []) number)) = subst (λ own. is_dropped next place ≡ (is_dropped now place && not (is_named (id ∷ []) (number_at own numbers place)))) first.same_own (second.here place (subst (λ own. place < own + length numbers) (sym first.same_own) within)) in
      step
      ∙ (ap (λ b. b && not (is_named (id ∷ []) number)) (first.here place within)
      ∙ (both (is_dropped old place) (is_named ids number) (is_named (id ∷ []) number)
      ∙ ap (λ b. is_dropped old place && not b) (sym (is_named-push ids id number))));
  behind = λ place past. second.behind place (subst (λ own. own + length numbers ≤ place) (sym first.same_own) past) ∙ first.behind place past;
}
  where
    both : (b c d : Bool) → ((b && not c) && not d) ≡ (b && not (c || d))
    both true true d = refl
    both true false d = refl
    both false c d = refl

-- one clause dropped, and one revived
pub DropsAlso-one : (numbers : List ClauseId) (last : ℕ) (old new : Dropped) (id : ClauseId) (place : ℕ) → AscendsTo old.own numbers last → place < old.own + length numbers → number_at old.own numbers place ≡ id.0 → new.own ≡ old.own → length new.flags.items ≡ length old.flags.items → ((other : ℕ) → is_dropped new other ≡ (is_dropped old other || nat_eq other place)) → DropsAlso numbers old new (id ∷ [])
DropsAlso-one numbers last old new id place ascends within is own size drops = record {
  same_own = own;
  same_size = size;
  here = λ other within'. drops other ∙ ap (λ b. is_dropped old other || b) (sym (place_named old.own numbers last place other id ascends within is within'));
  behind = λ other past. drops other ∙ (ap (λ b. is_dropped old other || b) (ne_eqb other place (λ same. omega arith)) ∙ or-false (is_dropped old other));
}

pub Revives-one : (numbers : List ClauseId) (last : ℕ) (old new : Dropped) (id : ClauseId) (place : ℕ) → AscendsTo old.own numbers last → place < old.own + length numbers → number_at old.own numbers place ≡ id.0 → new.own ≡ old.own → length new.flags.items ≡ length old.flags.items → ((other : ℕ) → is_dropped new other ≡ (is_dropped old other && not (nat_eq other place))) → Revives numbers old new (id ∷ [])
Revives-one numbers last old new id place ascends within is own size drops = record {
  same_own = own;
  same_size = size;
  here = λ other within'. drops other ∙ ap (λ b. is_dropped old other && not b) (sym (place_named old.own numbers last place other id ascends within is within'));
  behind = λ other past. drops other ∙ (ap (λ b. is_dropped old other && not b) (ne_eqb other place (λ same. omega arith)) ∙ and-true (is_dropped old other));
}

pub Revives-missing : (numbers : List ClauseId) (old : Dropped) (id : ClauseId) → ((place : ℕ) → place < old.own + length numbers → number_at old.own numbers place ≢ id.0) → Revives numbers old old (id ∷ [])
Revives-missing numbers old id none = record {
  same_own = refl;
  same_size = refl;
  here = λ place within. sym (ap (λ b. is_dropped old place && not b) (none_named old.own numbers place id (none place within)) ∙ and-true (is_dropped old place));
  behind = λ place past. refl;
}

-- a number is that of a live clause exactly where its place isn't dropped
pub IsLiveNumber-at : (numbers : List ClauseId) (dropped : Dropped) (id : ClauseId) (place : ℕ) → place < dropped.own + length numbers → number_at dropped.own numbers place ≡ id.0 → is_dropped dropped place ≡ false → IsLiveNumber numbers dropped id
unfolding IsLiveNumber
IsLiveNumber-at numbers dropped id place within is stands = (place, within, is, stands)

pub IsLiveNumber-gone : (numbers : List ClauseId) (last : ℕ) (dropped : Dropped) (id : ClauseId) (place : ℕ) → AscendsTo dropped.own numbers last → place < dropped.own + length numbers → number_at dropped.own numbers place ≡ id.0 → is_dropped dropped place ≡ true → ¬ IsLiveNumber numbers dropped id
unfolding IsLiveNumber
IsLiveNumber-gone numbers last dropped id place ascends within is gone (other, within', is', stands) =
    let same : other ≡ place = number_at-same dropped.own numbers last other place ascends within' within (is' ∙ sym is) in
    true_is_not_false (sym gone ∙ (ap (is_dropped dropped) (sym same) ∙ stands))

pub IsLiveNumber-missing : (numbers : List ClauseId) (dropped : Dropped) (id : ClauseId) → ((place : ℕ) → place < dropped.own + length numbers → number_at dropped.own numbers place ≢ id.0) → ¬ IsLiveNumber numbers dropped id
unfolding IsLiveNumber
IsLiveNumber-missing numbers dropped id none (place, within, is, stands) = none place within is

pub DropsAlso-same : (numbers : List ClauseId) (old now same : Dropped) (ids : List ClauseId) → DropsAlso numbers old now ids → SameDrops now same → DropsAlso numbers old same ids
DropsAlso-same numbers old now same ids drops alike = record {
  same_own = alike.same_own ∙ drops.same_own;
  same_size = alike.same_size ∙ drops.same_size;
  here = λ place within. alike.same place ∙ drops.here place within;
  behind = λ place past. alike.same place ∙ drops.behind place past;
}
