-- What reading some of the files keeps.
use Rattle.std.proofs.Common.{◌≢◌, [], ◌∷◌, ℕ, List, arith}
use Rattle.std.specs.Prelude.{All}
use Rattle.std.proofs.lemmas.List.Elements.{All-cons, All-nil}
use Rattle.vss_io.specs.Reading.{Keeps}
use Rattle.vss_io.specs.Shown.{Files}
use Rattle.vss_io.proofs.ReadingLaws.{Keeps-among, Keeps-then}

-- a name differs from two where it differs from three, and so on
first_of_two : (other a b : List ℕ) → All (λ name. other ≢ name) (a ∷ b ∷ []) → All (λ name. other ≢ name) (a ∷ [])
first_of_two other a b differs = All-cons (λ name. other ≢ name) a [] (differs 0 [] (omega arith)) (All-nil (λ name. other ≢ name))

second_of_two : (other a b : List ℕ) → All (λ name. other ≢ name) (a ∷ b ∷ []) → All (λ name. other ≢ name) (b ∷ [])
second_of_two other a b differs = All-cons (λ name. other ≢ name) b [] (differs 1 [] (omega arith)) (All-nil (λ name. other ≢ name))

two_of_three : (other a b c : List ℕ) → All (λ name. other ≢ name) (a ∷ b ∷ c ∷ []) → All (λ name. other ≢ name) (a ∷ b ∷ [])
two_of_three other a b c differs =
    All-cons (λ name. other ≢ name) a (b ∷ []) (differs 0 [] (omega arith)) (All-cons (λ name. other ≢ name) b [] (differs 1 [] (omega arith)) (All-nil (λ name. other ≢ name)))

last_of_three : (other a b c : List ℕ) → All (λ name. other ≢ name) (a ∷ b ∷ c ∷ []) → All (λ name. other ≢ name) (c ∷ [])
last_of_three other a b c differs = All-cons (λ name. other ≢ name) c [] (differs 2 [] (omega arith)) (All-nil (λ name. other ≢ name))

-- one file of two
pub keeps_first : (before now : Files) (a b : List ℕ) → Keeps before now (a ∷ []) → Keeps before now (a ∷ b ∷ [])
keeps_first before now a b keeps = Keeps-among before now (a ∷ []) (a ∷ b ∷ []) (λ other differs. first_of_two other a b differs) keeps

-- one file, then another
pub keeps_two : (before between now : Files) (a b : List ℕ) → Keeps before between (a ∷ []) → Keeps between now (b ∷ []) → Keeps before now (a ∷ b ∷ [])
keeps_two before between now a b one two =
    Keeps-then before between now (a ∷ b ∷ []) (keeps_first before between a b one)
    (Keeps-among between now (b ∷ []) (a ∷ b ∷ []) (λ other differs. second_of_two other a b differs) two)

-- two files of three
pub keeps_two_of_three : (before now : Files) (a b c : List ℕ) → Keeps before now (a ∷ b ∷ []) → Keeps before now (a ∷ b ∷ c ∷ [])
keeps_two_of_three before now a b c keeps = Keeps-among before now (a ∷ b ∷ []) (a ∷ b ∷ c ∷ []) (λ other differs. two_of_three other a b c differs) keeps

-- two files, then a third
pub keeps_three : (before between now : Files) (a b c : List ℕ) → Keeps before between (a ∷ b ∷ []) → Keeps between now (c ∷ []) → Keeps before now (a ∷ b ∷ c ∷ [])
keeps_three before between now a b c two one =
    Keeps-then before between now (a ∷ b ∷ c ∷ []) (keeps_two_of_three before between a b c two)
    (Keeps-among between now (c ∷ []) (a ∷ b ∷ c ∷ []) (λ other differs. last_of_three other a b c differs) one)
