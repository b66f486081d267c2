-- What readings one after another leave of a shelf's files.
use Rattle.std.proofs.Common.{◌≢◌, ℕ, List, refl, sym, ◌∙◌, subst, arith}
use Rattle.std.specs.Prelude.{All, IsTrue}
use Rattle.vss_io.specs.Shown.{Files}
use Rattle.vss_io.specs.Reading.{Keeps}

-- nothing is read
pub Keeps-nothing : (files : Files) (names : List (List ℕ)) → Keeps files files names
Keeps-nothing files names = record { same_tells = refl; same_files = λ other. refl; never_falls = λ other. omega arith; others = λ tells other differs. refl }

-- two readings of files among these
pub Keeps-then : (before between now : Files) (names : List (List ℕ)) → Keeps before between names → Keeps between now names → Keeps before now names
Keeps-then before between now names first second = record {
  same_tells = second.same_tells ∙ first.same_tells;
  same_files = λ other. second.same_files other ∙ first.same_files other;
  never_falls = λ other. omega (arith, first.never_falls other, second.never_falls other);
  others = λ tells other differs. second.others (subst IsTrue (sym first.same_tells) tells) other differs ∙ first.others tells other differs;
}

-- more names say less
pub Keeps-among : (before now : Files) (few many : List (List ℕ))
    → ((other : List ℕ) → All (λ name. other ≢ name) many → All (λ name. other ≢ name) few) → Keeps before now few → Keeps before now many
Keeps-among before now few many among keeps = record {
  same_tells = keeps.same_tells;
  same_files = keeps.same_files;
  never_falls = keeps.never_falls;
  others = λ tells other differs. keeps.others tells other (among other differs);
}
