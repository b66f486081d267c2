-- A list whose vector or slice is lent: what it is once the loan is over.
use Rattle.std.specs.Prelude.{List, ◌++◌, length, take, drop}
use Rattle.std.specs.Borrow.{Lends, MutBor, Fml, RattleType, Array}
use Rattle.std.specs.declared.vec.Vec.{Vec}
use Rattle.std.specs.contracts.alloc.Global as global
use Rattle.std.specs.contracts.vec.Vec as vec
use Rattle.std.specs.contracts.impls.GlobalAllocator.TheImpl.{ghosts}
use Rattle.vss_lists.specs.contracts.list.Items.{the_row}

-- then the items are those that the vector shows last
abbrev pub LendsVec : (T : RattleType) → MutBor (List T.Denot) → MutBor (Vec T.Denot global.the_row.Denot) → Fml
LendsVec T list lent = Lends (the_row T) (vec.the_row T global.the_row ghosts) list lent (λ last. last.items)

-- what a slice shows in place of the items: as many as there were
abbrev pub in_place_of : {X : Type 0} → List X → List X → List X
in_place_of items last = take (length items) (last ++ drop (length last) items)

-- then the items are those that the slice, which keeps its length, shows last
abbrev pub LendsSlice : (T : RattleType) → MutBor (List T.Denot) → MutBor (List T.Denot) → Fml
LendsSlice T list lent = Lends (the_row T) (Array T 0) list lent (in_place_of list.now)
