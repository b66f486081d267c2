-- Why `marked_tracks` does what its contract says.
use Rattle.std.proofs.Common.{◌≡◌, ◌<◌, ◌++◌, inl, inr, ℕ, Bool, true, List, [], ◌∷◌, length, take, get_or, sym, ap, subst, ◌∙◌}
use Rattle.std.specs.List.{Contains}
use Rattle.std.proofs.lemmas.List.{take_more}
use Rattle.std.proofs.lemmas.List.Elements.{Contains-append_left, Contains-push, Contains-push_cases}
use Rattle.rail_net.specs.declared.parts.NetParts.{NetParts}
use Rattle.discretise.specs.Stations.{AreMarkedNames, MarksName}
use Rattle.discretise.proofs.stations.marked_tracks.Goals as goal

more : (p : NetParts) (names : List (List ℕ)) (name : List ℕ) (old new : List Bool) → AreMarkedNames p names old → MarksName p name old new → AreMarkedNames p (names ++ name ∷ []) new
more p names name old new so_far marks = record {
  count = marks.count ∙ so_far.count;
  each = λ k mark its at named. elim (marks.each k mark its at named) [
    | inl here ↦ (λ told. subst (Contains (names ++ name ∷ [])) (sym here.0) (Contains-push names name), λ has. here.1)
    | inr other ↦
        let tells = so_far.each k mark its other.1 named in (
          λ told. Contains-append_left names (name ∷ []) its (tells.0 told),
          λ has. elim (Contains-push_cases names name its has) [ inl before ↦ tells.1 before | inr same ↦ absurd (other.0 (sym same)) ],
        )
  ];
}

pub loop-at-preserved : goal.loop-at-preserved
loop-at-preserved c =
    let p = c.args.net.now in
    let i = c.loop-at.at in
    let names : List (List ℕ) = c.args.station.now.tracks in
    let seen : List (List ℕ) = c.as_slice-names.result.now in
    let name : List ℕ = c.index-names-at.result in
    let within : i < length names = subst (λ (ns : List (List ℕ)). i < length ns) c.as_slice-names.ensures c.loop-at-test.true in
    let read : name ≡ get_or names i name = subst (λ (ns : List (List ℕ)). name ≡ get_or ns i name) c.as_slice-names.ensures c.index-names-at.is in
    let marks = subst (λ (n : List ℕ). MarksName p n c.loop-at.marks.items c.mark.new.marks.items) c.as_str.ensures c.mark.ensures in
    subst (λ (ns : List (List ℕ)). AreMarkedNames p ns c.mark.new.marks.items) (sym (take_more names i name within ∙ ap (λ n. take i names ++ n ∷ []) (sym read)))
    (more p (take i names) name c.loop-at.marks.items c.mark.new.marks.items c.loop-at.invariant marks)
