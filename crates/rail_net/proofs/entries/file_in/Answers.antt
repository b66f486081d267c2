-- Why `file_in` does what its contract says.
use Rattle.std.proofs.Common.{◌<◌, length, get_or, take, set, Some, subst, sym, ◌∙◌, refl, arith}
use Rattle.std.proofs.lemmas.List.{length-set, take_more, take_all}
use Rattle.rail_net.specs.Entries.{AreValues}
use Rattle.rail_net.specs.declared.entries.Entry.{Entry}
use Rattle.rail_net.proofs.EntryLemmas.{no_values, values_more}
use Rattle.rail_net.proofs.entries.file_in.Goals as goal

pub loop-at-init : goal.loop-at-init
loop-at-init c = record { len = refl; values = no_values c.args.values.now c.requires.none }

pub loop-at-preserved : goal.loop-at-preserved
loop-at-preserved c =
    let entries = c.args.entries.now in
    let e : Entry = get_or entries c.loop-at.at (record { key = 0; value = 0 }) in
    let low : e.key < length c.loop-at.values = omega (arith, c.requires.keys c.loop-at.at (record { key = 0; value = 0 }) (omega arith), c.loop-at.invariant.len) in
    record {
      len = length-set c.loop-at.values e.key (Some e.value) ∙ c.loop-at.invariant.len;
      values = subst (λ xs. AreValues xs (set c.loop-at.values e.key (Some e.value))) (sym (take_more entries c.loop-at.at (record { key = 0; value = 0 }) (omega arith)))
          (values_more (take c.loop-at.at entries) c.loop-at.values e low c.loop-at.invariant.values);
    }

pub returns : goal.returns
returns c = subst (λ xs. AreValues xs c.loop-at.values) (take_all c.loop-at.at c.args.entries.now (omega arith)) c.loop-at.invariant.values
