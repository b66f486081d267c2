-- Why `are_known` does what its contract says.
use Rattle.std.proofs.Common.{◌≡◌, ◌<◌, ◌+◌, ◌∷◌, [], ◌++◌, ℕ, List, length, take, get_or, slice_get, Some, subst, sym, ap, refl, ◌∙◌}
use Rattle.std.specs.List.{Contains}
use Rattle.std.proofs.lemmas.Bool.{false≢true}
use Rattle.std.proofs.lemmas.Option.{slice_get_read, slice_get_within, get_or_from_slice_get}
use Rattle.std.proofs.lemmas.List.{take_more, take_all}
use Rattle.rail_net.specs.Rules.{AreKnown}
use Rattle.rail_net.proofs.ListingLemmas.{known_none, known_more, known_at}
use Rattle.rail_net.proofs.rules.references.are_known.Goals as goal

here : (texts : List (List ℕ)) (at : ℕ) (text : List ℕ) → at < length texts → text ≡ get_or texts at text → slice_get texts at ≡ Some text
here texts at text within is = slice_get_read texts (length texts) at text refl within is

front : (texts : List (List ℕ)) (at : ℕ) (text : List ℕ) → slice_get texts at ≡ Some text → take (at + 1) texts ≡ take at texts ++ text ∷ []
front texts at text is = take_more texts at text (slice_get_within texts at text is) ∙ ap (λ x. take at texts ++ x ∷ []) (get_or_from_slice_get texts at text text is)

pub loop-at-init : goal.loop-at-init
loop-at-init c = known_none c.args.names.now

pub loop-at-preserved : goal.loop-at-preserved
loop-at-preserved c =
    let texts = c.args.texts.now in
    let names = c.args.names.now in
    let at = c.loop-at.at in
    let text = c.index-texts-at.result in
    let is = here texts at text c.loop-at-test.true c.index-texts-at.is in
    let found : Contains names text = subst (Contains names) c.as_str.ensures (c.is_known.ensures.0 c.if-not-is_known.false) in
    subst (AreKnown names) (sym (front texts at text is)) (known_more names (take at texts) text found c.loop-at.invariant)

pub returns-then-not-is_known : goal.returns-then-not-is_known
returns-then-not-is_known c =
    let texts = c.args.texts.now in
    let names = c.args.names.now in
    let text = c.index-texts-at.result in
    let is = here texts c.loop-at.at text c.loop-at-test.true c.index-texts-at.is in
    (λ said. absurd (false≢true said), λ known. absurd (false≢true (sym c.if-not-is_known.true ∙ c.is_known.ensures.1 (subst (Contains names) (sym c.as_str.ensures) (known_at names texts c.loop-at.at text is known)))))

pub returns : goal.returns
returns c = (λ said. subst (AreKnown c.args.names.now) (take_all c.loop-at.at c.args.texts.now c.loop-at-test.false) c.loop-at.invariant, λ known. refl)
