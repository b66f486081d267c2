-- The table and the numbers of a train among those of all.
use Rattle.std.proofs.Common.{◌≡◌, ◌∙◌, ℕ, ◌<◌, List, length, get_or, sym, ap, subst}
use Rattle.std.proofs.lemmas.List.{get_or-map}
use Rattle.cell_net.specs.declared.parts.InstanceParts.{InstanceParts}
use Rattle.sat_core.specs.declared.literal.Lit.{Lit}
use Rattle.sweep_table.specs.Tables.{Table}
use Rattle.clause_list.specs.Numbers.{CodedTrain}
use Rattle.clause_list.specs.WholeList.{no_table, table_at, train_at, of_train}
use Rattle.clause_encoder.specs.TableLists.{table_over, tables_of}
use Rattle.clause_encoder.specs.Families.{FitsWhole, AllFit}

-- the family of the train of that place
pub family_at : {X : Type 0} (family : Table → CodedTrain → List (List Lit)) (table : X → InstanceParts → Table) (p : InstanceParts) (tables : List X) (trains : List CodedTrain) (i : ℕ) (x : X) (a : CodedTrain) → i < length tables → get_or tables i x ≡ x → a ≡ train_at trains i → family (table x p) a ≡ of_train family (tables_of table p tables) trains i
unfolding of_train
family_at family table p tables trains i x a within at same =
    let this : table x p ≡ table_at (tables_of table p tables) i = ap (λ y. table y p) (sym at) ∙ sym (get_or-map (table_over table p) tables i x no_table within) in
    ap (λ t. family t a) this ∙ ap (family (table_at (tables_of table p tables) i)) same

pub fits_at : {X : Type 0} (items : X → ℕ) (table : X → InstanceParts → Table) (p : InstanceParts) (tables : List X) (trains : List CodedTrain) (i : ℕ) (x : X) (a : CodedTrain) → AllFit items table p tables trains → i < length tables → get_or tables i x ≡ x → a ≡ train_at trains i → FitsWhole (items x) p (table x p) a
fits_at items table p tables trains i x a all within at same =
    subst (FitsWhole (items x) p (table x p)) (sym same) (subst (λ y. FitsWhole (items y) p (table y p) (train_at trains i)) at (all.each i x within))
