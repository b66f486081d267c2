-- Why `linked` does what its contract says.
use Rattle.std.proofs.Common.{subst}
use Rattle.sweep_table.specs.Groups.{AreGroups}
use Rattle.sweep_table.proofs.BuildLemmas.{is_long}
use Rattle.sweep_table.proofs.TableLaws.{have_ends, is_table, is_table_of}
use Rattle.sweep_table.proofs.build.linked.Goals as goal

pub firsts_of-requires : goal.firsts_of-requires
firsts_of-requires c = have_ends _ _ _ (is_long _ _ c.requires.of) c.requires.sweeps c.requires.few

pub lasts_of-requires : goal.lasts_of-requires
lasts_of-requires c = have_ends _ _ _ (is_long _ _ c.requires.of) c.requires.sweeps c.requires.few

pub returns-clause-sweeps : goal.returns-clause-sweeps
returns-clause-sweeps c = is_table_of _ _ _ _ _ _ _ c.requires.sweeps c.in_ok-firsts.ensures c.in_ok-lasts.ensures (subst (λ ks. AreGroups ks c.in_ok-starting.starting) c.deref.ensures.value c.in_ok-starting.ensures) (subst (λ ks. AreGroups ks c.in_ok-ending.ending) c.deref-2.ensures.value c.in_ok-ending.ensures)

pub returns-clause-rules : goal.returns-clause-rules
returns-clause-rules c = is_table _ _ _ _ _ _ _ c.requires.sweeps c.in_ok-firsts.ensures c.in_ok-lasts.ensures (subst (λ ks. AreGroups ks c.in_ok-starting.starting) c.deref.ensures.value c.in_ok-starting.ensures) (subst (λ ks. AreGroups ks c.in_ok-ending.ending) c.deref-2.ensures.value c.in_ok-ending.ensures)
