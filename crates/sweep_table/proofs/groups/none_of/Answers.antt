-- Why `none_of` does what its contract says.
use Rattle.std.proofs.Common.{◌≡◌, ◌+◌, ◌∙◌, [], length, ap}
use Rattle.std.proofs.lemmas.List.{length_push}
use Rattle.std.proofs.lemmas.List.Elements.{All-push, All-same}
use Rattle.sweep_table.proofs.groups.none_of.Goals as goal

pub loop-preserved : goal.loop-preserved
loop-preserved g c =
    let more = c.in_ok-push.ensures.items in (
      ap length more ∙ (length_push c.loop.lists.items c.new.result ∙ ap (λ n. n + 1) c.loop.invariant.0),
      All-same (λ g. g ≡ []) _ _ more (All-push (λ g. g ≡ []) _ _ c.loop.invariant.1 c.new.ensures),
    )
