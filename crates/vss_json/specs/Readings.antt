-- Readings: what a value is read as, or the first fault of shape on the way.
use Rattle.std.specs.Prelude.{◌≡◌, ℕ, ◌+◌, Bool, List, [], ◌∷◌, Option, Some, None, Result, Ok, Err, ok_or, option_map, option_and_then, if◌then◌else◌, ⊤}
use Rattle.vss_json.specs.Values.{Json, member, text_of, number_of, flag_of, list_of, is_object, some_items, text_pairs}
use Rattle.vss_json.specs.declared.fault.ShapeFault.{ShapeFault}
use Rattle.vss_json.specs.declared.fault.WalkFault.{WalkFault}
use Rattle.vss_json.specs.declared.fault.WalkFault.TheVariants.{Shape, Memory}

-- a value, or the fault of shape that comes first
abbrev pub Reading : Type 0 → Type 0 → Type 0
Reading X M = Result X (ShapeFault M)

-- the second reading, if the first gave a value; else the fault of the first
infixl 10 ◌>>=◌
abbrev pub ◌>>=◌ : {M X Y : Type 0} → Reading X M → (X → Reading Y M) → Reading Y M
Ok x >>= next = next x
Err fault >>= next = Err fault

-- a walk has read this, or stopped at its first fault of shape; want of memory says nothing of what
-- is read
abbrev pub Gives : {M X : Type 0} → Reading X M → Result X (WalkFault M) → Type 0
Gives reading (Ok x) = reading ≡ Ok x
Gives reading (Err (Shape fault)) = reading ≡ Err fault
Gives reading (Err Memory) = ⊤

module _ {M : Type 0} where
  -- whether it is an object
  unfoldable pub object : ShapeFault M → Json → Reading ⊤ M
  object fault d = if is_object d then Ok tt else Err fault

  -- the text under a name
  unfoldable pub text : ShapeFault M → List ℕ → Json → Reading (List ℕ) M
  text fault name d = ok_or (option_and_then text_of (member name d)) fault

  -- the number under a name
  unfoldable pub number : ShapeFault M → List ℕ → Json → Reading ℕ M
  number fault name d = ok_or (option_and_then number_of (member name d)) fault

  -- a member that may be missing, read where it is there
  abbrev pub if_there : {X : Type 0} → ShapeFault M → (Json → Option X) → Option Json → Reading (Option X) M
  if_there fault read None = Ok None
  if_there fault read (Some d) = ok_or (option_map Some (read d)) fault

  -- the number under a name that may be missing
  unfoldable pub optional_number : ShapeFault M → List ℕ → Json → Reading (Option ℕ) M
  optional_number fault name d = if_there fault number_of (member name d)

  -- the `true` or `false` under a name that may be missing
  unfoldable pub optional_flag : ShapeFault M → List ℕ → Json → Reading (Option Bool) M
  optional_flag fault name d = if_there fault flag_of (member name d)

  -- each value of a list, item by item, the first of them as the item of that number
  abbrev pub each_from : {X : Type 0} → (ℕ → Json → Reading X M) → ℕ → List Json → Reading (List X) M
  each_from read number [] = Ok []
  each_from read number (d ∷ ds) =
      read number d >>= (λ x. each_from read (number + 1) ds >>= (λ xs. Ok (x ∷ xs)))

  -- each item of the list under a name
  unfoldable pub list : {X : Type 0} → ShapeFault M → (ℕ → Json → Reading X M) → List ℕ → Json → Reading (List X) M
  list fault read name d = ok_or (option_and_then list_of (member name d)) fault >>= each_from read 0

  -- each value as a text, else the fault
  abbrev pub each_text : ShapeFault M → List Json → Reading (List (List ℕ)) M
  each_text fault = each_from (λ number d. ok_or (text_of d) fault) 0

  -- the texts of the list under a name, of which there is at least one
  unfoldable pub texts : ShapeFault M → List ℕ → Json → Reading (List (List ℕ)) M
  texts fault name d = ok_or (option_and_then some_items (member name d)) fault >>= each_text fault

  -- the list of two lists of two texts under a name
  unfoldable pub pairs : ShapeFault M → List ℕ → Json → Reading ((List ℕ × List ℕ) × (List ℕ × List ℕ)) M
  pairs fault name d = ok_or (option_and_then text_pairs (member name d)) fault

  -- each item of a list that may be missing: then there is none
  abbrev pub each_if_there : {X : Type 0} → (ℕ → Json → Reading X M) → Option (List Json) → Reading (List X) M
  each_if_there read None = Ok []
  each_if_there read (Some ds) = each_from read 0 ds

  -- each item of the list under a name that may be missing
  unfoldable pub optional_list : {X : Type 0} → ShapeFault M → (ℕ → Json → Reading X M) → List ℕ → Json → Reading (List X) M
  optional_list fault read name d = if_there fault list_of (member name d) >>= each_if_there read
