-- Laws of the text of a list: what is read of it, and that it has one reading.
use Rattle.std.proofs.Common.{◌≡◌, ◌≢◌, ℕ, ◌+◌, ◌-◌, ◌<◌, ◌≤◌, List, [], ◌∷◌, ◌++◌, length, take, drop, refl, ap, sym, ◌∙◌, arith, append_assoc, append-nil, length-append}
use Rattle.std.specs.Prelude.{All, slice_index}
use Rattle.std.specs.List.{flat_map}
use Rattle.std.proofs.lemmas.List.{flat_map_more, take_at}
use Rattle.std.proofs.lemmas.List.Elements.{All-nil, All-push, All-head, All-tail}
use Rattle.vss_text.specs.Reading.{EndsWithin, NeverBegins, Misses, IsReadOnce}
use Rattle.vss_text.specs.declared.miss.Miss.{Miss}
use Rattle.vss_text.specs.declared.miss.Miss.TheVariants.{Short, Wrong}
use Rattle.derivation_log.specs.Text.{list_text, blanked}
use Rattle.derivation_log.specs.Tested.{IsList, IsListOf}
use Rattle.derivation_log.specs.declared.list.ListText.{ListText}

-- words of some kind: how they are spelled, and which are in range
module _ {X : Type 0} (spelled : X → List ℕ) (P : X → Type 0) where
  -- the text of words, with a blank behind each
  abbrev pub words_text : List X → List ℕ
  words_text words = flat_map (blanked spelled) words

  text_cons : (word : X) (words : List X) (rest : List ℕ) → list_text spelled (word ∷ words) ++ rest ≡ spelled word ++ 32 ∷ (list_text spelled words ++ rest)
  text_cons word words rest = simp append_assoc

  words_cons : (word : X) (words : List X) (rest : List ℕ) → words_text (word ∷ words) ++ rest ≡ spelled word ++ 32 ∷ (words_text words ++ rest)
  words_cons word words rest = simp append_assoc

  -- what is tested of a text, and what is left of it
  pub record IsSoFar (text : List ℕ) (count : ℕ) (left : List ℕ) : Type 0 where
    pub words : List X
    pub so_far : text ≡ words_text words ++ left
    pub in_range : All P words
    pub counted : length words ≡ count
    pub room : count + length left ≤ length text

  pub IsSoFar-none : (text : List ℕ) → IsSoFar text 0 text
  IsSoFar-none text = record { words = []; so_far = refl; in_range = All-nil P; counted = refl; room = omega arith }

  pub IsSoFar-more : (text : List ℕ) (count : ℕ) (left : List ℕ) (word : X) (after : List ℕ) → IsSoFar text count left → P word → left ≡ spelled word ++ 32 ∷ after → IsSoFar text (count + 1) after
  IsSoFar-more text count left word after before range is = record {
    words = before.words ++ word ∷ [];
    so_far = before.so_far ∙ (ap (λ back. words_text before.words ++ back) is
        ∙ (sym (append_assoc (words_text before.words) (spelled word ++ 32 ∷ []) after ∙ ap (λ back. words_text before.words ++ back) (append_assoc (spelled word) (32 ∷ []) after))
        ∙ ap (λ front. front ++ after) (flat_map_more (blanked spelled) [] before.words word)));
    in_range = All-push P before.words word before.in_range range;
    counted = omega (arith, length-append before.words (word ∷ []), before.counted);
    room = omega (arith, before.room, ap length is, length-append (spelled word) (32 ∷ after));
  }

  -- the list ends
  pub IsSoFar-list : (text : List ℕ) (count : ℕ) (left after : List ℕ) (list : ListText) → IsSoFar text count left → left ≡ 48 ∷ after
      → list.text.now ≡ take (length text - length left + 1) text → list.count ≡ count → IsList spelled P list
  IsSoFar-list text count left after list so_far is front counts = record {
    words = so_far.words;
    in_range = so_far.in_range;
    is_of = record {
      text_is =
          let split : text ≡ (words_text so_far.words ++ 48 ∷ []) ++ after = so_far.so_far ∙ (ap (λ back. words_text so_far.words ++ back) is ∙ sym (append_assoc (words_text so_far.words) (48 ∷ []) after)) in
          let long : length (words_text so_far.words ++ 48 ∷ []) ≡ length text - length left + 1 =
          omega (arith, ap length so_far.so_far, length-append (words_text so_far.words) left, length-append (words_text so_far.words) (48 ∷ []), ap length is) in
          front ∙ (ap (take (length text - length left + 1)) split ∙ take_at (words_text so_far.words ++ 48 ∷ []) after (length text - length left + 1) long);
      counted = so_far.counted ∙ sym counts;
    };
  }

  -- the text ends between two words
  pub IsSoFar-ends : (text : List ℕ) (count : ℕ) (left : List ℕ) → IsSoFar text count left → length left ≡ 0 → EndsWithin (All P) (list_text spelled) text
  IsSoFar-ends text count [] so_far none = record {
    item = so_far.words;
    more = 48 ∷ [];
    fits = so_far.in_range;
    goes_on = ap (λ front. front ++ 48 ∷ []) (so_far.so_far ∙ append-nil (words_text so_far.words));
    too_early = omega arith;
  }
  IsSoFar-ends text count (b ∷ left) so_far none = absurd (omega arith)

  -- the text ends within a word
  within_word : (text : List ℕ) (count : ℕ) (left : List ℕ) → IsSoFar text count left → EndsWithin P (blanked spelled) left → EndsWithin (All P) (list_text spelled) text
  within_word text count left so_far within = record {
    item = so_far.words ++ within.item ∷ [];
    more = within.more ++ 48 ∷ [];
    fits = All-push P so_far.words within.item so_far.in_range within.fits;
    goes_on =
        ap (λ front. front ++ (within.more ++ 48 ∷ [])) so_far.so_far
        ∙ (append_assoc (words_text so_far.words) left (within.more ++ 48 ∷ [])
        ∙ (ap (λ back. words_text so_far.words ++ back) (sym (append_assoc left within.more (48 ∷ [])) ∙ ap (λ front. front ++ 48 ∷ []) within.goes_on)
        ∙ (sym (append_assoc (words_text so_far.words) (blanked spelled within.item) (48 ∷ []))
        ∙ ap (λ front. front ++ 48 ∷ []) (flat_map_more (blanked spelled) [] so_far.words within.item))));
    too_early = omega (arith, within.too_early, length-append within.more (48 ∷ []));
  }

-- where no word begins with 0, and no text begins with two words
module _ {X : Type 0} (spelled : X → List ℕ) (P : X → Type 0) (no_zero : (word : X) (rest : List ℕ) → P word → slice_index (spelled word ++ 32 ∷ rest) 0 ≢ 48) (one_reading : (one other : X) (rest rest' : List ℕ) → P one → P other → spelled one ++ 32 ∷ rest ≡ spelled other ++ 32 ∷ rest' → (one ≡ other) × (rest ≡ rest')) where
  -- what is left of a list behind words that were read
  record GoesOn (words others : List X) (left rest : List ℕ) : Type 0 where
    later : List X
    is_more : others ≡ words ++ later
    is_left : left ≡ list_text spelled later ++ rest
    in_range : All P later

  goes_on : (words others : List X) (left rest : List ℕ) → All P words → All P others → words_text spelled P words ++ left ≡ list_text spelled others ++ rest → GoesOn words others left rest
  goes_on [] others left rest range range' same = record { later = others; is_more = refl; is_left = same; in_range = range' }
  goes_on (word ∷ words) [] left rest range range' same =
      absurd (no_zero word (words_text spelled P words ++ left) (All-head P word words range) (ap (λ bytes. slice_index bytes 0) (sym (words_cons spelled P word words left) ∙ same)))
  goes_on (word ∷ words) (other ∷ others) left rest range range' same =
      let parts = one_reading word other (words_text spelled P words ++ left) (list_text spelled others ++ rest) (All-head P word words range) (All-head P other others range')
      (sym (words_cons spelled P word words left) ∙ (same ∙ text_cons spelled P other others rest)) in
      let inner = goes_on words others left rest (All-tail P word words range) (All-tail P other others range') parts.1 in
      let first : word ≡ other = parts.0 in
      let more : others ≡ words ++ inner.later = inner.is_more in
      record { later = inner.later; is_more = cc; is_left = inner.is_left; in_range = inner.in_range }

  -- no text begins with two lists
  pub list_read_once : IsReadOnce (All P) (list_text spelled)
  unfolding IsReadOnce
  list_read_once = λ one other rest rest' range range' same.
      let more = goes_on one other (48 ∷ rest) rest' range range' (sym (append_assoc (words_text spelled P one) (48 ∷ []) rest) ∙ same) in
      ends one other rest rest' more.later more.is_more more.is_left more.in_range
    where
      ends : (one other : List X) (rest rest' : List ℕ) (later : List X) → other ≡ one ++ later → 48 ∷ rest ≡ list_text spelled later ++ rest' → All P later → (one ≡ other) × (rest ≡ rest')
      ends one other rest rest' [] more left range = (sym (more ∙ append-nil one), ap (drop 1) left)
      ends one other rest rest' (word ∷ later) more left range =
          absurd (no_zero word (list_text spelled later ++ rest') (All-head P word later range) (sym (ap (λ bytes. slice_index bytes 0) (left ∙ text_cons spelled P word later rest'))))

  -- a word is missed that doesn't begin with 0, so the list is
  pub list_misses : (text : List ℕ) (count : ℕ) (left : List ℕ) (miss : Miss) → IsSoFar spelled P text count left → 0 < length left → slice_index left 0 ≢ 48
      → Misses P (blanked spelled) left miss → Misses (All P) (list_text spelled) text miss
  unfolding NeverBegins
  list_misses text count left Short so_far some first missed = within_word spelled P text count left so_far missed
  list_misses text count left Wrong so_far some first missed = λ others more rest range same.
      let behind = goes_on so_far.words others (left ++ more) rest so_far.in_range range
      (sym (append_assoc (words_text spelled P so_far.words) left more) ∙ (ap (λ front. front ++ more) (sym so_far.so_far) ∙ same)) in
      fails left more rest behind.later some first missed behind.is_left behind.in_range
    where
      fails : (left more rest : List ℕ) (later : List X) → 0 < length left → slice_index left 0 ≢ 48 → ((word : X) (more rest : List ℕ) → P word → left ++ more ≢ blanked spelled word ++ rest)
          → left ++ more ≡ list_text spelled later ++ rest → All P later → ⊥
      fails [] more rest later some first missed is range = omega arith
      fails (b ∷ left) more rest [] some first missed is range = first (ap (λ bytes. slice_index bytes 0) is)
      fails (b ∷ left) more rest (word ∷ later) some first missed is range =
          missed word more (list_text spelled later ++ rest) (All-head P word later range) (is ∙ (text_cons spelled P word later rest ∙ sym (append_assoc (spelled word) (32 ∷ []) (list_text spelled later ++ rest))))

  -- the words that were read of a list, and the text of those that are left
  pub record IsPartlyRead (list : ListText) (words : List X) (left : List ℕ) (place : ℕ) : Type 0 where
    pub later : List X
    pub in_range : All P words
    pub later_in_range : All P later
    pub is_of : IsListOf spelled list (words ++ later)
    pub left_is : left ≡ list_text spelled later
    pub placed : length words ≡ place

  pub IsPartlyRead-none : (list : ListText) → IsList spelled P list → IsPartlyRead list [] list.text.now 0
  IsPartlyRead-none list is = record { later = is.words; in_range = All-nil P; later_in_range = is.in_range; is_of = is.is_of; left_is = is.is_of.text_is; placed = refl }

  next_is : (list : ListText) (words : List X) (left : List ℕ) (place : ℕ) (later : List X) → All P words → All P later → IsListOf spelled list (words ++ later) → left ≡ list_text spelled later → length words ≡ place
      → place < list.count → (word : X) (after : List ℕ) → P word → left ≡ spelled word ++ 32 ∷ after → IsPartlyRead list (words ++ word ∷ []) after (place + 1)
  next_is list words left place [] range later_range is left_is placed within word after in_range found = absurd (omega (arith, is.counted, length-append words []))
  next_is list words left place (next ∷ later) range later_range is left_is placed within word after in_range found =
      let spelled_so : spelled word ++ 32 ∷ after ≡ spelled next ++ 32 ∷ list_text spelled later =
      sym found ∙ (left_is ∙ (sym (append-nil (list_text spelled (next ∷ later))) ∙ (text_cons spelled P next later [] ∙ ap (λ back. spelled next ++ 32 ∷ back) (append-nil (list_text spelled later))))) in
      let parts = one_reading word next after (list_text spelled later) in_range (All-head P next later later_range) spelled_so in
      let split : words ++ next ∷ later ≡ (words ++ word ∷ []) ++ later = ap (λ one. words ++ one ∷ later) (sym parts.0) ∙ sym (append_assoc words (word ∷ []) later) in
      record {
        later = later;
        in_range = All-push P words word range in_range;
        later_in_range = All-tail P next later later_range;
        is_of = record { text_is = is.text_is ∙ ap (list_text spelled) split; counted = sym (ap length split) ∙ is.counted };
        left_is = parts.1;
        placed = omega (arith, length-append words (word ∷ []), placed);
      }

  pub IsPartlyRead-more : (list : ListText) (words : List X) (left : List ℕ) (place : ℕ) (word : X) (after : List ℕ) → IsPartlyRead list words left place → place < list.count → P word → left ≡ spelled word ++ 32 ∷ after → IsPartlyRead list (words ++ word ∷ []) after (place + 1)
  IsPartlyRead-more list words left place word after read within range found = next_is list words left place read.later read.in_range read.later_in_range read.is_of read.left_is read.placed within word after range found

  -- a word that is left isn't missed
  pub IsPartlyRead-found : (list : ListText) (words : List X) (left : List ℕ) (place : ℕ) (miss : Miss) → IsPartlyRead list words left place → place < list.count → Misses P (blanked spelled) left miss → ⊥
  unfolding NeverBegins
  IsPartlyRead-found list words left place miss read within missed = found left read.later miss read.later_in_range read.left_is (omega (arith, read.is_of.counted, length-append words read.later, read.placed)) missed
    where
      found : (left : List ℕ) (later : List X) (miss : Miss) → All P later → left ≡ list_text spelled later → 0 < length later → Misses P (blanked spelled) left miss → ⊥
      found left [] miss range is some missed = omega arith
      found left (word ∷ later) Short range is some missed =
          let parts = one_reading word missed.item (list_text spelled later ++ missed.more) [] (All-head P word later range) missed.fits
          (sym (text_cons spelled P word later missed.more) ∙ (ap (λ front. front ++ missed.more) (sym is) ∙ missed.goes_on)) in
          omega (arith, missed.too_early, ap length parts.1, length-append (list_text spelled later) missed.more)
      found left (word ∷ later) Wrong range is some missed =
          missed word [] (list_text spelled later) (All-head P word later range)
          (append-nil left ∙ (is ∙ (sym (append-nil (list_text spelled (word ∷ later))) ∙ (text_cons spelled P word later [] ∙ (sym (append_assoc (spelled word) (32 ∷ []) (list_text spelled later ++ [])) ∙ ap (λ back. blanked spelled word ++ back) (append-nil (list_text spelled later)))))))

  pub IsPartlyRead-all : (list : ListText) (words : List X) (left : List ℕ) (place : ℕ) → IsPartlyRead list words left place → list.count ≤ place → IsListOf spelled list words
  IsPartlyRead-all list words left place read past = whole read.later read.is_of (omega (arith, read.is_of.counted, length-append words read.later, read.placed))
    where
      whole : (later : List X) → IsListOf spelled list (words ++ later) → length later ≡ 0 → IsListOf spelled list words
      whole [] is none = record { text_is = is.text_is ∙ ap (list_text spelled) (append-nil words); counted = ap length (sym (append-nil words)) ∙ is.counted }
      whole (word ∷ later) is none = absurd (omega arith)
