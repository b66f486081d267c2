-- Why `mark_in` does what its contract says.
use Rattle.std.proofs.Common.{◌≡◌, ◌<◌, ◌+◌, ℕ, length, get_or, take, set, true, false, None, Bool, List, subst, sym, ap, ◌∙◌, refl, arith}
use Rattle.std.specs.Prelude.{if◌then◌else◌}
use Rattle.std.proofs.lemmas.List.{length-set, take_more, take_all}
use Rattle.rail_net.specs.declared.entries.Entry.{Entry}
use Rattle.rail_net.proofs.EntryLemmas.{AreMarked, no_marks, marked_by, marks_mixed}
use Rattle.rail_net.proofs.entries.mark_in.Goals as goal

pub loop-at-init : goal.loop-at-init
loop-at-init c = record { len = refl; marks = no_marks c.args.values.now c.args.marks.now c.requires.none }

-- marking keeps the length
same_length : (kept : Bool) (marks : List Bool) (key : ℕ) → length (if kept then marks else set marks key true) ≡ length marks
same_length true marks key = refl
same_length false marks key = length-set marks key true

pub loop-at-preserved : goal.loop-at-preserved
loop-at-preserved c =
    let entries = c.args.entries.now in
    let marks = c.loop-at.marks in
    let e : Entry = get_or entries c.loop-at.at (record { key = 0; value = 0 }) in
    let low : e.key < length marks = omega (arith, c.requires.keys c.loop-at.at (record { key = 0; value = 0 }) (omega arith), c.loop-at.invariant.len) in
    let more = marked_by c.is_kept.result (take c.loop-at.at entries) c.args.values.now marks e None low (c.requires.len ∙ sym c.loop-at.invariant.len) c.is_kept.ensures c.loop-at.invariant.marks in
    record {
      len = ap length c.mark.ensures ∙ (same_length c.is_kept.result marks e.key ∙ c.loop-at.invariant.len);
      marks = subst (λ ms. AreMarked (take (c.loop-at.at + 1) entries) c.args.values.now ms) (sym c.mark.ensures)
          (subst (λ xs. AreMarked xs c.args.values.now (if c.is_kept.result then marks else set marks e.key true)) (sym (take_more entries c.loop-at.at (record { key = 0; value = 0 }) (omega arith))) more);
    }

pub returns : goal.returns
returns c =
    let entries = c.args.entries.now in
    marks_mixed entries c.args.values.now c.loop-at.marks (c.requires.len ∙ sym c.loop-at.invariant.len) c.requires.values
    (subst (λ xs. AreMarked xs c.args.values.now c.loop-at.marks) (take_all c.loop-at.at entries (omega arith)) c.loop-at.invariant.marks)
