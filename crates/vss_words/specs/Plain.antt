-- What plain words ask for: names and numbers in their order, none of which begins with `-`, and options behind them.
use Rattle.std.specs.Prelude.{◌≡◌, ◌≢◌, ℕ, List, [], ◌∷◌, Some, None, codes, option_map, option_and_then}
use Rattle.vss_words.specs.Commands.{command}
use Rattle.vss_words.specs.Numbers.{number_from}
use Rattle.vss_words.specs.declared.command.DocumentNames.{DocumentNames}
use Rattle.vss_words.specs.declared.command.Command.TheVariants.{Verify, Generate, Optimise, Judge, Check, Make}

-- a word that isn't empty and doesn't begin with `-`
abbrev pub IsPlainWord : List ℕ → Type 0
IsPlainWord [] = ⊥
IsPlainWord (first ∷ rest) = first ≢ 45

abbrev pub documents_named : List ℕ → List ℕ → DocumentNames
documents_named network timetable = record { network = network; timetable = timetable }

-- plain words ask for the task that they name, with its files, and with each number that is in form and in range
pub record PlainWordsAreTaken : Type 0 where
  pub verify : (n t : List ℕ) → IsPlainWord n → IsPlainWord t
      → command (codes "verify" ∷ n ∷ t ∷ []) ≡ Some (Verify (documents_named n t) 200000)
  pub generate : (n t : List ℕ) → IsPlainWord n → IsPlainWord t
      → command (codes "generate" ∷ n ∷ t ∷ []) ≡ Some (Generate (documents_named n t) None 200000)
  pub optimise : (n t : List ℕ) → IsPlainWord n → IsPlainWord t
      → command (codes "optimise" ∷ n ∷ t ∷ []) ≡ Some (Optimise (documents_named n t) 200000)
  pub judge : (n t r : List ℕ) → IsPlainWord n → IsPlainWord t → IsPlainWord r
      → command (codes "judge" ∷ n ∷ t ∷ r ∷ []) ≡ Some (Judge (documents_named n t) r)
  pub check : (n t r : List ℕ) → IsPlainWord n → IsPlainWord t → IsPlainWord r
      → command (codes "check" ∷ n ∷ t ∷ r ∷ []) ≡ Some (Check (documents_named n t) r)
  pub make : (seed size : List ℕ) → IsPlainWord seed → IsPlainWord size
      → command (codes "make" ∷ seed ∷ size ∷ []) ≡ option_and_then (λ of. option_map (Make of) (number_from 1 8 size)) (number_from 0 4294967295 seed)
  pub budget : (n t v : List ℕ) → IsPlainWord n → IsPlainWord t → IsPlainWord v
      → command (codes "optimise" ∷ n ∷ t ∷ codes "--budget" ∷ v ∷ []) ≡ option_map (Optimise (documents_named n t)) (number_from 1 1000000000 v)
  pub borders : (n t v : List ℕ) → IsPlainWord n → IsPlainWord t → IsPlainWord v
      → command (codes "generate" ∷ n ∷ t ∷ codes "--borders" ∷ v ∷ []) ≡ option_map (λ most. Generate (documents_named n t) (Some most) 200000) (number_from 0 4294967295 v)
  pub budget_twice : (n t v u : List ℕ) → IsPlainWord n → IsPlainWord t → IsPlainWord v → IsPlainWord u
      → command (codes "optimise" ∷ n ∷ t ∷ codes "--budget" ∷ v ∷ codes "--budget" ∷ u ∷ []) ≡ None
  pub help : (n t : List ℕ) → IsPlainWord n → IsPlainWord t
      → command (codes "optimise" ∷ n ∷ t ∷ codes "--help" ∷ []) ≡ None
