-- Why `walk` does what its contract says.
use Rattle.std.proofs.Common.{◌≡◌, ◌<◌, ◌≤◌, ◌⊎◌, ◌+◌, inl, inr, length, get_or, arith, ap, sym, subst, ◌∙◌}
use Rattle.search_trail.specs.Trails.{TrailParts, Grows}
use Rattle.search_trail.specs.declared.entry.Entry.{Entry}
use Rattle.search_trail.proofs.TrailLaws.{Grows-on}
use Rattle.watch_store.specs.Walking.{IsStore}
use Rattle.watch_store.proofs.RelinkLemmas.{next_read}
use Rattle.watch_store.proofs.LoopLemmas.{falsified_in, walking_start, step_ready, walking_here, walking_gone, walking_end, walking_ticks, walking_ticked, walking_conflict, walking_place, Grows-read}
use Rattle.watch_store.proofs.walk.walk.Goals.{in-Here, in-Gone, else-chain-test, then-chain-test+then-at-nodes}
use Rattle.watch_store.proofs.walk.walk.Goals as goal

pub place-home-requires : goal.place-home-requires
place-home-requires g c = (falsified_in c.args.table.now c.args.heads.now c.args.nodes.now c.args.trail.now c.read.result c.at.result c.negated-falsified.result c.requires.store c.requires.unread c.read.ensures.value c.at.ensures.value c.negated-falsified.ensures).0.0

pub bounds-heads-home : goal.bounds-heads-home
bounds-heads-home g c = subst (λ n. n < length c.args.heads.now) (sym c.place-home.ensures) (falsified_in c.args.table.now c.args.heads.now c.args.nodes.now c.args.trail.now c.read.result c.at.result c.negated-falsified.result c.requires.store c.requires.unread c.read.ensures.value c.at.ensures.value c.negated-falsified.ensures).1

pub chain-init : goal.chain-init
chain-init g c =
    let at : (d : Entry) → (get_or c.args.trail.now.entries c.args.trail.now.read d).lit ≡ c.at.result = λ d. ap (λ n. (get_or c.args.trail.now.entries n d).lit) (sym c.read.ensures.value) ∙ c.at.ensures.value d in
    walking_start c.args.table.now c.args.heads.now c.args.nodes.now c.args.trail.now c.at.result c.negated-falsified.result c.place-home.result c.args.steps.now c.requires.store c.requires.unread at c.negated-falsified.ensures c.place-home.ensures

pub step-requires : goal.step-requires
step-requires g c = step_ready c.args.table.now c.chain.heads c.chain.nodes c.args.trail.now c.chain.trail c.place-home.result c.chain.before c.chain.at c.chain.visited c.args.steps.now c.chain.steps c.if-at-nodes.false c.chain.invariant

pub returns-in-Conflict-clause-store : goal.returns-in-Conflict-clause-store
returns-in-Conflict-clause-store g c = (walking_conflict c.args.table.now c.chain.heads c.step.new.heads c.chain.nodes c.step.new.nodes c.args.trail.now c.chain.trail c.step.new.trail c.place-home.result c.chain.before c.chain.at c.chain.visited c.args.steps.now c.chain.steps c.number.result c.if-at-nodes.false c.number.ensures c.in-Conflict.ensures.tells c.chain.invariant).0

pub returns-in-Conflict-clause-visits : goal.returns-in-Conflict-clause-visits
returns-in-Conflict-clause-visits g c = λ d. walking_ticked c.args.table.now c.chain.heads c.chain.nodes c.args.trail.now c.chain.trail c.place-home.result c.chain.before c.chain.at c.chain.visited c.args.steps.now c.chain.steps c.tick.new.self d c.if-at-nodes.false c.tick.ensures.more c.chain.invariant

pub returns-in-Conflict-clause-grows : goal.returns-in-Conflict-clause-grows
returns-in-Conflict-clause-grows g c = Grows-on c.args.trail.now c.chain.trail c.step.new.trail c.chain.invariant.grows c.step.ensures.grows

pub returns-in-Conflict-clause-conflict : goal.returns-in-Conflict-clause-conflict
returns-in-Conflict-clause-conflict g c = (walking_conflict c.args.table.now c.chain.heads c.step.new.heads c.chain.nodes c.step.new.nodes c.args.trail.now c.chain.trail c.step.new.trail c.place-home.result c.chain.before c.chain.at c.chain.visited c.args.steps.now c.chain.steps c.number.result c.if-at-nodes.false c.number.ensures c.in-Conflict.ensures.tells c.chain.invariant).1

pub chain-preserved : goal.chain-preserved
chain-preserved g c =
    elim c.match-step.branch [
      | in-Here w ↦ rw (w.before-is, next_read c.chain.nodes c.chain.at _ c.if-at-nodes.false) (walking_here c.args.table.now c.chain.heads c.step.new.heads c.chain.nodes c.step.new.nodes c.args.trail.now c.chain.trail c.step.new.trail c.place-home.result c.chain.before c.chain.at _ c.chain.visited c.args.steps.now c.chain.steps c.tick.new.self c.if-at-nodes.false w.in-Here.ensures.tells c.step.ensures.grows c.step.ensures.read c.tick.ensures.more c.chain.invariant)
      | in-Gone w ↦ rw (w.before-is, next_read c.chain.nodes c.chain.at _ c.if-at-nodes.false) (walking_gone c.args.table.now c.chain.heads c.step.new.heads c.chain.nodes c.step.new.nodes c.args.trail.now c.chain.trail c.step.new.trail c.place-home.result c.chain.before c.chain.at _ c.chain.visited c.args.steps.now c.chain.steps c.tick.new.self c.if-at-nodes.false w.in-Gone.ensures.tells c.step.ensures.grows c.step.ensures.read c.tick.ensures.more c.chain.invariant)
    ]

pub mark_read-requires : goal.mark_read-requires
mark_read-requires g c = record { unread = c.chain.invariant.mid.unread }

pub returns-clause-store : goal.returns-clause-store
returns-clause-store g c =
    let over : (length c.chain.nodes ≤ c.chain.at) ⊎ (length c.chain.nodes ≤ c.chain.visited) = elim c.chain-test.branch [
      | else-chain-test w ↦ inr (omega (arith, c.chain.auto.nodes))
      | then-chain-test+then-at-nodes w ↦ inl (omega arith)
    ] in
    subst (λ (t : TrailParts). IsStore c.args.table.now c.chain.heads c.chain.nodes t) (sym c.mark_read.ensures.one_more) (walking_end c.args.table.now c.chain.heads c.chain.nodes c.args.trail.now c.chain.trail c.place-home.result c.chain.before c.chain.at c.chain.visited c.args.steps.now c.chain.steps over c.chain.invariant)

pub returns-clause-visits : goal.returns-clause-visits
returns-clause-visits g c = λ d. walking_ticks c.args.table.now c.chain.heads c.chain.nodes c.args.trail.now c.chain.trail c.place-home.result c.chain.before c.chain.at c.chain.visited c.args.steps.now c.chain.steps d c.chain.invariant

pub returns-clause-grows : goal.returns-clause-grows
returns-clause-grows g c = subst (λ (t : TrailParts). Grows c.args.trail.now t) (sym c.mark_read.ensures.one_more) (Grows-read c.args.trail.now c.chain.trail _ c.chain.invariant.grows)

pub returns-clause-read : goal.returns-clause-read
returns-clause-read g c = ap (λ (t : TrailParts). t.read) c.mark_read.ensures.one_more ∙ ap (λ n. n + 1) c.chain.invariant.read

pub number-requires : goal.number-requires
number-requires g c = walking_place c.args.table.now c.chain.heads c.chain.nodes c.args.trail.now c.chain.trail c.place-home.result c.chain.before c.chain.at c.chain.visited c.args.steps.now c.chain.steps c.if-at-nodes.false c.chain.invariant
