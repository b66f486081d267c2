-- Why `add_list` does what its contract says.
use Rattle.std.proofs.Common.{arith}
use Rattle.vss_io.proofs.CallLaws.{HasPrinted-nothing, HasPrinted-more, HasPrinted-stopped, HasPrinted-kept}
use Rattle.derivation_log.proofs.WriteLemmas.{next_word_read, no_word_left}
use Rattle.derivation_log.proofs.write.add_list.Goals as goal

pub loop-word-init : goal.loop-word-init
loop-word-init g c = HasPrinted-nothing _ _

pub returns-in_err-add : goal.returns-in_err-add
returns-in_err-add g c = HasPrinted-stopped _ _ _ _ _ _ _ _ _ _ _ c.loop-word.invariant c.in_err-add.ensures (next_word_read g.W.Word.spelled _ c.args.words.now c.loop-word.word-index c.word-item.result (omega arith) c.word-item.is) c.from_residual.ensures.0

pub loop-word-preserved : goal.loop-word-preserved
loop-word-preserved g c = HasPrinted-more _ _ _ _ _ _ _ _ _ c.loop-word.invariant c.in_ok-add.ensures (next_word_read g.W.Word.spelled _ c.args.words.now c.loop-word.word-index c.word-item.result (omega arith) c.word-item.is)

pub returns : goal.returns
returns g c = HasPrinted-kept _ _ _ _ _ _ _ (rw (← no_word_left g.W.Word.spelled c.loop-word.text c.args.words.now c.loop-word.word-index (omega arith)) at c.loop-word.invariant) c.add-2.ensures.printed
