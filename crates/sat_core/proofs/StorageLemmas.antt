-- A clause more is stored: the row has its literals behind the others, and the ends have the new length of the row.
use Rattle.std.proofs.Common.{◌≡◌, ℕ, ◌-◌, ◌^◌, ◌<◌, List, [], ◌∷◌, ◌++◌, length, arith}
use Rattle.std.proofs.lemmas.List.{length_push}
use Rattle.std.proofs.lemmas.List.Elements.{All-push, All-same}
use Rattle.vss_rows.specs.Pieces.{pieces}
use Rattle.vss_rows.proofs.PieceLaws.{rises_more, pieces_more}
use Rattle.sat_core.specs.declared.literal.Lit.{Lit}
use Rattle.sat_core.specs.Clauses.{IsClause}
use Rattle.sat_core.specs.Storage.{IsStored}

pub IsStored-push : (vars : ℕ) (row : List Lit) (ends : List ℕ) (clause longer : List Lit) (more : List ℕ) → IsStored vars row ends → IsClause vars clause → length ends < 2 ^ 32 - 1 → longer ≡ row ++ clause → more ≡ ends ++ length longer ∷ [] → IsStored vars longer more
IsStored-push vars row ends clause longer more stored fresh few row_is ends_are = record {
  rising = rises_more row clause longer ends more stored.rising row_is ends_are;
  clauses = All-same (IsClause vars) _ _ (pieces_more row clause longer ends more stored.rising row_is ends_are) (All-push (IsClause vars) (pieces row 0 ends) clause stored.clauses fresh);
  numbered = rw (ends_are, length_push) (omega arith);
}
