-- To print nothing is to leave the output as it was.
use Rattle.std.proofs.Common.{◌≡◌, ℕ, List, [], Option, Some, None, Ok, refl, sym, ap, arith}
use Rattle.std.proofs.lemmas.List.{append-nil}
use Rattle.vss_io.specs.Shown.{Output}
use Rattle.vss_io.specs.Written.{followed_by, Prints}

nothing_behind : (written : Option (List ℕ)) → written ≡ followed_by written []
nothing_behind None = refl
nothing_behind (Some before) = ap (λ (b : List ℕ). Some b) (sym (append-nil before))

pub prints_nothing : {T E : Type 0} (out : Output) (x : T) → Prints {T = T} {E = E} out out [] (Ok x)
prints_nothing out x = record {
  front = record { count = 0; grew = nothing_behind out.written };
  whole = nothing_behind out.written;
  never_falls = omega arith;
  cause = tt;
}
