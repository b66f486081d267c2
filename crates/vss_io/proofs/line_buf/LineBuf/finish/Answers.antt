-- The last bytes of a line are put, or they were put with the line feed.
use Rattle.std.proofs.Common.{[], take, sym, ap, ◌∙◌, append-nil}
use Rattle.vss_io.proofs.CallLaws.{PrintsAllBut-ended, PrintsAllBut-broken, PrintsAllBut-whole}
use Rattle.vss_io.proofs.line_buf.LineBuf.finish.Goals as goal

pub returns-in_err-add-clause-printed : goal.returns-in_err-add-clause-printed
returns-in_err-add-clause-printed g c = PrintsAllBut-broken _ _ _ _ [] _ _ _ c.in_err-add.ensures.printed (append-nil _) c.from_residual.ensures.0

pub returns-then-self-eq0-clause-printed : goal.returns-then-self-eq0-clause-printed
returns-then-self-eq0-clause-printed g c =
    PrintsAllBut-whole _ _ _ _ _ (sym c.self.view_is ∙ ap (λ used. take used c.self.inside.bytes) c.if-self-eq0.true) c.in_ok-add.ensures.printed

pub returns-clause-printed : goal.returns-clause-printed
returns-clause-printed g c =
    PrintsAllBut-ended _ _ _ c.add.new.self _ [] _ _ _ c.in_ok-add.ensures.printed (rw (c.self.view_is, ← append-nil c.add.new.self) at c.put.ensures) (append-nil _)
