-- Each piece of a line is printed where the one before it ended.
use Rattle.std.proofs.Common.{◌≡◌, ℕ, ◌+◌, ◌<◌, List, [], ◌∷◌, ◌++◌, length, drop, get_or, append_assoc, arith, ap, sym, ◌∙◌}
use Rattle.std.specs.Borrow.{Bor}
use Rattle.std.proofs.lemmas.List.{at_drop_all, at_drop_more}
use Rattle.vss_io.specs.Line.{line, joined}
use Rattle.vss_io.proofs.CallLaws.{HasPrinted-nothing, HasPrinted-more, HasPrinted-broken, HasPrinted-ended}
use Rattle.vss_io.proofs.line_buf.print_line.Goals as goal

-- the pieces that are left begin with the next one
next_piece : (text : List ℕ) (pieces : List (Bor (List ℕ))) (i : ℕ) (d : Bor (List ℕ)) → i < length pieces → (text ++ (get_or pieces i d).now) ++ line (joined (drop (i + 1) pieces)) ≡ text ++ line (joined (drop i pieces))
next_piece text pieces i d within =
    append_assoc text (get_or pieces i d).now (line (joined (drop (i + 1) pieces)))
    ∙ ap (λ rest. text ++ rest) (sym (append_assoc (get_or pieces i d).now (joined (drop (i + 1) pieces)) (10 ∷ [])) ∙ ap line (sym (at_drop_more joined pieces i d within)))

pub loop-piece-init : goal.loop-piece-init
loop-piece-init g c = rw c.new-text.ensures (HasPrinted-nothing _ _)

pub loop-piece-preserved : goal.loop-piece-preserved
loop-piece-preserved g c =
    HasPrinted-more _ _ _ _ _ _ _ _ _ c.loop-piece.invariant c.in_ok-add.ensures.printed (next_piece _ c.args.pieces.now c.loop-piece.piece-index _ (omega arith))

pub returns-in_err-add : goal.returns-in_err-add
returns-in_err-add g c =
    HasPrinted-broken _ _ _ _ _ _ _ _ _ _ c.loop-piece.invariant c.in_err-add.ensures.printed (next_piece _ c.args.pieces.now c.loop-piece.piece-index _ (omega arith)) c.from_residual.ensures.0

pub returns : goal.returns
returns g c =
    HasPrinted-ended _ _ _ _ _ _ (rw (at_drop_all joined c.args.pieces.now c.loop-piece.piece-index (omega arith)) at c.loop-piece.invariant) c.finish.ensures.printed
