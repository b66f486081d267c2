-- The rules of the grid in a row: what is told of a part of them is told of all, and one refusal at most is told.
use Rattle.std.proofs.Common.{◌≡◌, ◌/◌, ◌%◌, ℕ, zero, suc, [], ◌∷◌, ◌++◌, ap, sym, ◌∙◌, subst, arith}
use Rattle.std.proofs.Math.Nat.{mul-mod_left}
use Rattle.std.proofs.lemmas.Nat.{div-add-mod'}
use Rattle.vss_lists.specs.Orders.{AreKept, BreaksFirst, IsFirstBroken}
use Rattle.vss_lists.proofs.OrderLaws.{AreSound, sound_each, sound_rule}
use Rattle.rail_net.specs.declared.parts.NetParts.{NetParts}
use Rattle.rail_net.specs.declared.refusal.ListKind.{ListKind}
use Rattle.timetable.specs.declared.parts.Timetable.{Timetable}
use Rattle.discretise.specs.Refusals.{AreWholeSteps, CutRules, RefusesCut, cut_at, cut_rules, size_rules, track_rules, train_rules}
use Rattle.discretise.specs.declared.refusal.CutFault.{CutFault}
use Rattle.discretise.specs.declared.refusal.CutRefusal.{CutRefusal}

later_at : (front rest : CutRules) (n : ℕ) (answer : CutRefusal) → AreKept front → BreaksFirst rest n answer → (m : ℕ) × BreaksFirst (front ++ rest) m answer
later_at [] rest n answer kept told = (n, told)
later_at (this ∷ front) rest n answer kept told = let m = later_at front rest n answer kept.1 told in (suc m.0, (kept.0, m.1))

sooner_at : (front rest : CutRules) (n : ℕ) (answer : CutRefusal) → BreaksFirst front n answer → BreaksFirst (front ++ rest) n answer
sooner_at [] rest n answer told = absurd told
sooner_at (this ∷ front) rest zero answer told = told
sooner_at (this ∷ front) rest (suc n) answer told = (told.0, sooner_at front rest n answer told.1)

-- rules that are kept, and behind them the first that is broken
pub later : (front rest : CutRules) (answer : CutRefusal) → AreKept front → RefusesCut rest answer → RefusesCut (front ++ rest) answer
unfolding IsFirstBroken
later front rest answer kept told = λ told_it. let first = told told_it in later_at front rest first.0 answer kept first.1

-- the first that is broken is among the front ones
pub sooner : (front rest : CutRules) (answer : CutRefusal) → RefusesCut front answer → RefusesCut (front ++ rest) answer
unfolding IsFirstBroken
sooner front rest answer told = λ told_it. let first = told told_it in (first.0, sooner_at front rest first.0 answer first.1)

-- the rule of that number is the first that is broken
pub told_place : (rules : CutRules) (n : ℕ) (kind : CutFault) (list : ListKind) (place : ℕ) (answer : CutRefusal)
    → answer ≡ cut_at kind list place → BreaksFirst rules n (cut_at kind list place) → RefusesCut rules answer
unfolding IsFirstBroken
told_place rules n kind list place answer is first = λ told. (n, subst (BreaksFirst rules n) (sym is) first)

-- rules in a row are kept, if both rows are
pub all_kept : (front rest : CutRules) → AreKept front → AreKept rest → AreKept (front ++ rest)
all_kept [] rest kept also = also
all_kept (this ∷ front) rest kept also = (kept.0, all_kept front rest kept.1 also)

all_sound : (front rest : CutRules) → AreSound front → AreSound rest → AreSound (front ++ rest)
all_sound [] rest sound also = also
all_sound (this ∷ front) rest sound also = (sound.0, all_sound front rest sound.1 also)

sound_sizes : (p : NetParts) (t : Timetable) → AreSound (size_rules p t)
sound_sizes p t = (sound_rule _ _, (sound_rule _ _, (sound_rule _ _, (sound_rule _ _, tt))))

sound_tracks : (p : NetParts) (t : Timetable) → AreSound (track_rules p t)
sound_tracks p t = (sound_each _ _ _, (sound_each _ _ _, tt))

sound_trains : (t : Timetable) → AreSound (train_rules t)
sound_trains t = (sound_each _ _ _, (sound_each _ _ _, (sound_each _ _ _, (sound_each _ _ _, (sound_each _ _ _, (sound_each _ _ _, (sound_each _ _ _, tt)))))))

pub sound_cut : (p : NetParts) (t : Timetable) → AreSound (cut_rules p t)
sound_cut p t = all_sound (size_rules p t) (track_rules p t ++ train_rules t) (sound_sizes p t) (all_sound (track_rules p t) (train_rules t) (sound_tracks p t) (sound_trains t))

-- metres without a rest are whole steps
pub whole_steps : (t : Timetable) (metres : ℕ) → metres % t.space_step_m ≡ 0 → AreWholeSteps t metres
whole_steps t metres rest = record { steps = metres / t.space_step_m; whole = omega (arith, rest, div-add-mod' metres t.space_step_m) }

pub whole_rest : (t : Timetable) (metres : ℕ) → AreWholeSteps t metres → metres % t.space_step_m ≡ 0
whole_rest t metres are = ap (λ n. n % t.space_step_m) are.whole ∙ mul-mod_left are.steps t.space_step_m
