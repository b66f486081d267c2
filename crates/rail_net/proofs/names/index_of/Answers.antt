-- Why `index_of` does what its contract says.
use Rattle.std.proofs.Common.{◌≡◌, ◌++◌, ◌∷◌, [], true, false, length, map, string_bytes, slice_get, Some, subst, sym, ap, refl, ◌∙◌, arith}
use Rattle.std.specs.Prelude.{if◌then◌else◌, bytes_eq}
use Rattle.std.specs.List.{Contains, list_any}
use Rattle.std.proofs.lemmas.Option.{slice_get_read}
use Rattle.rail_net.specs.Rules.{HasNewName}
use Rattle.rail_net.proofs.ListLaws.{holds_more, holds_all}
use Rattle.rail_net.proofs.NameLaws.{any_named, none_named, new_here, old_here, names_more, keys_more, was_there, was_new}
use Rattle.rail_net.proofs.names.index_of.Goals as goal

pub returns-in-Ok-default-false-clause-old : goal.returns-in-Ok-default-false-clause-old
returns-in-Ok-default-false-clause-old g c =
    let items = c.args.items.now in
    let x = c.index-items-place.result in
    let keys = c.loop-place.names.keys in
    let name = string_bytes c.in-Ok-from_str.name in
    let is : slice_get items c.loop-place.place ≡ Some x = slice_get_read items (length items) c.loop-place.place x refl (omega arith) c.index-items-place.is in
    let own : name ≡ g.T.Named.name_of x = c.in-Ok-from_str.ensures.ok ∙ c.name.ensures in
    let has : list_any (λ key. bytes_eq name (string_bytes key)) keys ≡ true = was_there _ c.in-Ok-default-false.field-0-1 c.in-Ok-default-false.ensures.added c.in-Ok-default-false.field-0-1-test in
    record {
      before = c.loop-place.invariant.new;
      item = x;
      is_there = is;
      breaks = old_here g.T.Named.name_of items c.loop-place.place x
          (subst (λ names. Contains names (g.T.Named.name_of x)) c.loop-place.invariant.names (subst (Contains (map string_bytes keys)) own (any_named name keys has)));
    }

pub loop-place-preserved : goal.loop-place-preserved
loop-place-preserved g c =
    let items = c.args.items.now in
    let x = c.index-items-place.result in
    let keys = c.loop-place.names.keys in
    let key = c.in-Ok-from_str.name in
    let is : slice_get items c.loop-place.place ≡ Some x = slice_get_read items (length items) c.loop-place.place x refl (omega arith) c.index-items-place.is in
    let own : string_bytes key ≡ g.T.Named.name_of x = c.in-Ok-from_str.ensures.ok ∙ c.name.ensures in
    let lacks : list_any (λ k. bytes_eq (string_bytes key) (string_bytes k)) keys ≡ false = was_new _ c.in-Ok-default-true.field-0-1 c.in-Ok-default-true.ensures.added c.in-Ok-default-true.field-0-1-test in
    let grown : c.insert_full.new.self.keys ≡ keys ++ key ∷ [] = c.in-Ok-default-true.ensures.keys ∙ ap (λ b. if b then keys else keys ++ key ∷ []) lacks in
    record {
      names = ap (map string_bytes) grown ∙ (keys_more keys key ∙ (ap (λ name. map string_bytes keys ++ name ∷ []) own ∙ names_more g.T.Named.name_of items c.loop-place.place x (map string_bytes keys) is c.loop-place.invariant.names));
      new = holds_more (HasNewName g.T.Named.name_of items) items c.loop-place.place x c.loop-place.invariant.new is
          (new_here g.T.Named.name_of items c.loop-place.place x (λ there. none_named (string_bytes key) keys lacks
          (subst (Contains (map string_bytes keys)) (sym own) (subst (λ names. Contains names (g.T.Named.name_of x)) (sym c.loop-place.invariant.names) there))));
    }

pub returns-clause-new : goal.returns-clause-new
returns-clause-new g c = holds_all (HasNewName g.T.Named.name_of c.args.items.now) c.args.items.now c.loop-place.place (omega arith) c.loop-place.invariant.new
