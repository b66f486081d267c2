-- Why `NameIndex::number_of` does what its contract says.
use Rattle.std.proofs.Common.{◌≡◌, map, string_bytes, subst, sym}
use Rattle.std.specs.List.{Contains}
use Rattle.rail_net.proofs.NameLaws.{found_at, none_named}
use Rattle.rail_net.proofs.names.NameIndex.number_of.Goals as goal

pub returns-in-Some : goal.returns-in-Some
returns-in-Some c =
    let found = found_at c.args.name.now c.self.inside.names.keys c.in-Some.number (sym c.in-Some.ensures.index) in
    cc

pub returns-in-None : goal.returns-in-None
returns-in-None c = λ there.
    let seen : c.args.self.now ≡ map string_bytes c.self.inside.names.keys = cc in
    none_named c.args.name.now c.self.inside.names.keys (sym c.in-None.ensures.found) (subst (λ names. Contains names c.args.name.now) seen there)
