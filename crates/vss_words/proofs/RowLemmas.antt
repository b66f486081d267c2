-- What a parse by `clap` says of the rows that words give.
use Rattle.std.proofs.Common.{◌≡◌, ◌≢◌, ◌∙◌, ◌&&◌, ap, sym, refl, inl, inr, Bool, true, false, ℕ, List, [], ◌∷◌, Some, None}
use Rattle.clap.specs.Kinds.{HasKind, IsAmong, Kinds}
use Rattle.clap.specs.Simple.{HasMatchesOf, is_simple}
use Rattle.clap.specs.Words.{App, Row, fault_of, found_of, is_simple_and_free, kind_of, matches_of, rows_of}
use Rattle.clap.specs.declared.error.Error.{Error}
use Rattle.clap.specs.declared.error.kind.ErrorKind.{ErrorKind}
use Rattle.clap.specs.declared.error.kind.ErrorKind.TheVariants.{OutOfMemory}
use Rattle.clap.specs.declared.parser.matches.ArgMatches.{ArgMatches}
use Rattle.vss_words.specs.Commands.{rows_given, unless_fault}

first_part : (a b : Bool) → (a && b) ≡ true → a ≡ true
first_part true b both = refl
first_part false b both = cc

pub found : (app : App) (words : List (List ℕ)) (m : ArgMatches) → is_simple_and_free app ≡ true → fault_of app words ≡ []
    → HasMatchesOf app words m → rows_given app words ≡ Some (rows_of (found_of m))
unfolding rows_given
found app words m simple no_fault has =
    ap (λ (kinds : Kinds). unless_fault kinds (matches_of app words)) no_fault
    ∙ ap (λ (rows : List Row). Some rows) (sym (has (first_part (is_simple app) _ simple)).0)

some_fault : (kind : ErrorKind) (kinds : Kinds) (rows : List Row) → IsAmong kind kinds → unless_fault kinds rows ≡ None
some_fault kind [] rows among = absurd among
some_fault kind (first ∷ others) rows among = refl

pub not_found : (app : App) (words : List (List ℕ)) (e : Error) → HasKind (fault_of app words) e → kind_of e ≢ OutOfMemory → rows_given app words ≡ None
unfolding rows_given
not_found app words e (inl memory) other = absurd (other memory)
not_found app words e (inr among) other = some_fault (kind_of e) (fault_of app words) (matches_of app words) among
