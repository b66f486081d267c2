-- On the verdict: runs by train, and that a lawful plan keeps the judge's rules.
use Rattle.std.proofs.Common.{◌≡◌, ◌<◌, ◌+◌, inl, inr, ℕ, zero, suc, List, [], ◌∷◌, length, All, AllPairs, Some, slice_get, slice_index_or, Contains, refl, sym, ap, subst, ◌∙◌, below_more, arith}
use Rattle.std.specs.List.{AllZip, zip}
use Rattle.std.proofs.lemmas.Option.{slice_get_cases, slice_get_within, slice_get-get_or, get_or_from_slice_get, same_Some}
use Rattle.vss_lists.specs.Breaks.{HoldsOfEach}
use Rattle.vss_lists.specs.Orders.{AreKept, IsFirstBroken}
use Rattle.cell_net.specs.Borders.{IsBorderSet, IsLayout}
use Rattle.cell_net.specs.Runs.{Arrives, Enters, IsRun, IsSweep, IsMet, Continues}
use Rattle.cell_net.specs.Plans.{AreApart, IsLawful}
use Rattle.cell_net.specs.declared.ids.CandidateId.{CandidateId}
use Rattle.cell_net.specs.declared.ids.TrainId.{TrainId}
use Rattle.cell_net.specs.declared.plans.Sweep.{Sweep}
use Rattle.cell_net.specs.declared.plans.TrainRun.{TrainRun}
use Rattle.cell_net.specs.declared.plans.Plan.{Plan}
use Rattle.cell_net.specs.declared.trains.TrainSpec.{TrainSpec}
use Rattle.cell_net.specs.declared.parts.InstanceParts.{InstanceParts}
use Rattle.plan_checker.specs.Clashes.{AreApartAt}
use Rattle.plan_checker.specs.RunRules.{GoesOnFromBefore, IsMetAt, rule_of_sweeps, rules_of_run, rules_of_sweep}
use Rattle.plan_checker.specs.Verdicts.{HaveRunsBelow, IsHeld, rule_of_runs, rules_of_plan}
use Rattle.plan_checker.specs.declared.breach.Breach.{Breach}

-- one train more has its run
pub runs_more : (p : InstanceParts) (runs : List TrainRun) (n : ℕ) (r : TrainRun) → HaveRunsBelow p runs n → slice_get runs n ≡ Some r →
    ((t : TrainSpec) → slice_get p.trains n ≡ Some t → IsRun p t r) → HaveRunsBelow p runs (n + 1)
runs_more p runs n r before is run k t q low spec there =
    below_more (λ j. slice_get p.trains j ≡ Some t → slice_get runs j ≡ Some q → IsRun p t q) n (λ j h s o. before j t q h s o)
    (λ s o. let same : Some r ≡ Some q = sym is ∙ o in let e : r ≡ q = cc in subst (IsRun p t) e (run t s)) k low spec there

zip_from : {A B : Type 0} (R : A → B → Type 0) (xs : List A) (ys : List B) → length xs ≡ length ys →
    ((k : ℕ) (x : A) (y : B) → slice_get xs k ≡ Some x → slice_get ys k ≡ Some y → R x y) → AllZip R xs ys
zip_from R [] [] len each = tt
zip_from R [] (y ∷ ys) len each = absurd (omega arith)
zip_from R (x ∷ xs) [] len each = absurd (omega arith)
zip_from R (x ∷ xs) (y ∷ ys) len each = (each 0 x y refl refl, zip_from R xs ys (omega arith) (λ k a b at there. each (suc k) a b at there))

pub zip_at : {A B : Type 0} (R : A → B → Type 0) (xs : List A) (ys : List B) → AllZip R xs ys → (k : ℕ) (x : A) (y : B) → slice_get xs k ≡ Some x → slice_get ys k ≡ Some y → R x y
zip_at R [] [] zip k x y at there = absurd (cc)
zip_at R [] (b ∷ ys) zip k x y at there = absurd zip
zip_at R (a ∷ xs) [] zip k x y at there = absurd zip
zip_at {A} {B} R (a ∷ xs) (b ∷ ys) zip zero x y at there = let e : a ≡ x = cc in let f : b ≡ y = cc in subst (λ (u : A). R u y) e (subst (R a) f zip.0)
zip_at R (a ∷ xs) (b ∷ ys) zip (suc k) x y at there = zip_at R xs ys zip.1 k x y at there

-- a sweep of a run keeps its rules
sweep_of_run : (p : InstanceParts) (train : TrainId) (t : TrainSpec) (r : TrainRun) → IsRun p t r → (k : ℕ) (w : Sweep) → slice_get r.sweeps k ≡ Some w → AreKept (rules_of_sweep p train t r k w)
sweep_of_run p train t r run k w there =
    let within = slice_get_within r.sweeps k w there in
    let is : slice_index_or r.sweeps k w ≡ w = get_or_from_slice_get r.sweeps k w w there in
    let sweep : IsSweep p t w.cells = subst (λ (v : Sweep). IsSweep p t v.cells) is (run.sweeps k w within) in
    let goes_on : GoesOnFromBefore t r.sweeps k w = λ before v at here.
    let next : slice_index_or r.sweeps (before + 1) w ≡ w = rw at is in
    let last : slice_index_or r.sweeps before w ≡ v = get_or_from_slice_get r.sweeps before v w here in
    subst (λ (u : Sweep). Continues t v.cells u.cells) next
    (subst (λ (u : Sweep). Continues t u.cells (slice_index_or r.sweeps (before + 1) w).cells) last (run.goes_on before w (omega arith))) in
    (sweep.path, (sweep.long_enough, (sweep.slow_enough, (goes_on, tt))))

pub contains_at : {X : Type 0} (xs : List X) (k : ℕ) (x : X) → slice_get xs k ≡ Some x → Contains xs x
contains_at xs k x there = (k, slice_get_within xs k x there, get_or_from_slice_get xs k x x there)

-- each train has its run, where all before the last one have
pub have_runs : (p : InstanceParts) (runs : List TrainRun) → length runs ≡ length p.trains → HaveRunsBelow p runs (length runs) → AllZip (IsRun p) p.trains runs
have_runs p runs each below = zip_from (IsRun p) p.trains runs (sym each)
    (λ k t r spec there. below k t r (slice_get_within runs k r there) spec there)

-- what two lists hold at a place is what both beside each other hold there
zip_there : {A B : Type 0} (xs : List A) (ys : List B) (k : ℕ) (x : A) (y : B) → slice_get xs k ≡ Some x → slice_get ys k ≡ Some y → slice_get (zip xs ys) k ≡ Some (x, y)
zip_there [] ys k x y at there = absurd (cc)
zip_there (a ∷ xs) [] k x y at there = absurd (cc)
zip_there (a ∷ xs) (b ∷ ys) zero x y at there = let e : a ≡ x = cc in let f : b ≡ y = cc in rw (e, f) refl
zip_there (a ∷ xs) (b ∷ ys) (suc k) x y at there = zip_there xs ys k x y at there

zip_here : {A B : Type 0} (xs : List A) (ys : List B) (k : ℕ) (both : A × B) → slice_get (zip xs ys) k ≡ Some both → (slice_get xs k ≡ Some both.0) × (slice_get ys k ≡ Some both.1)
zip_here [] ys k both at = absurd (cc)
zip_here (a ∷ xs) [] k both at = absurd (cc)
zip_here {A} {B} (a ∷ xs) (b ∷ ys) zero both at =
    let e : (a, b) ≡ both = same_Some (a, b) both at in
    (ap (λ (z : A × B). Some z.0) e, ap (λ (z : A × B). Some z.1) e)
zip_here (a ∷ xs) (b ∷ ys) (suc k) both at = zip_here xs ys k both at

-- what holds of each item holds at each place
each_of_all : {X : Type 0} (P : X → Type 0) (xs : List X) → All P xs → HoldsOfEach (λ _ x. P x) xs
each_of_all P xs all = record {
  at_each = λ k x is. subst P (get_or_from_slice_get xs k x x is) (all k x (slice_get_within xs k x is));
}

-- a run keeps its rules
pub run_kept : (p : InstanceParts) (train : TrainId) (t : TrainSpec) (r : TrainRun) → IsRun p t r → AreKept (rules_of_run p train t r)
run_kept p train t r run =
    (run.enters, (record { at_each = sweep_of_run p train t r run }, (run.arrives, (each_of_all (IsMet p t r) t.stops run.stops, tt))))

-- what keeps the rules is a run
pub is_run : (p : InstanceParts) (train : TrainId) (t : TrainSpec) (r : TrainRun) → Enters t r → (rule_of_sweeps p train t r).kept → Arrives t r →
    HoldsOfEach (IsMetAt p t r) t.stops → IsRun p t r
is_run p train t r enters sweeps arrives stops = record {
  enters = enters;
  sweeps = λ k d within.
      let keeps = sweeps.at_each k (slice_index_or r.sweeps k d) (slice_get-get_or r.sweeps k d within) in
      record { path = keeps.0; long_enough = keeps.1.0; slow_enough = keeps.1.1.0 };
  goes_on = λ k d below.
      let keeps = sweeps.at_each (k + 1) (slice_index_or r.sweeps (k + 1) d) (slice_get-get_or r.sweeps (k + 1) d below) in
      keeps.1.1.1.0 k (slice_index_or r.sweeps k d) refl (slice_get-get_or r.sweeps k d (omega arith));
  arrives = arrives;
  stops = λ k d within. stops.at_each k (slice_index_or t.stops k d) (slice_get-get_or t.stops k d within);
}

-- the trains before a place keep their rules, if they have their runs
pub fails_here : (p : InstanceParts) (runs : List TrainRun) (n : ℕ) (r : TrainRun) (breach : Breach) → HaveRunsBelow p runs n → n < length p.trains → slice_get runs n ≡ Some r →
    ((t : TrainSpec) → slice_get p.trains n ≡ Some t → IsFirstBroken (rules_of_run p (record { 0 = n }) t r) breach) → (rule_of_runs p runs).told breach
fails_here p runs n r breach before within is wrong =
    elim (slice_get_cases p.trains n).1 [
      | inl (t, low, spec, at) ↦ (
        n,
        (t, r),
        (λ k both low' there. let parts = zip_here p.trains runs k both there in
            run_kept p (record { 0 = k }) both.0 both.1 (before k both.0 both.1 low' parts.0 parts.1)),
        zip_there p.trains runs n t r spec is,
        wrong t spec,
      )
      | inr past ↦ absurd (let high = past.0 in omega arith)
    ]

-- the layout holds each kept border
pub is_layout : (p : InstanceParts) (borders : List CandidateId) → IsBorderSet p borders → HoldsOfEach (IsHeld borders) p.kept → IsLayout p borders
is_layout p borders set kept = record { set = set; holds_kept = λ k d within. kept.at_each k (slice_index_or p.kept k d) (slice_get-get_or p.kept k d within) }

-- nothing is wrong
pub is_lawful : (p : InstanceParts) (borders : List CandidateId) (plan : Plan) → IsLayout p borders → AllZip (IsRun p) p.trains plan.runs →
    ((step x y : ℕ) → x < y → AreApartAt p borders plan.runs step x y) → IsLawful p borders plan
unfolding AreApartAt
is_lawful p borders plan layout runs apart = record {
  layout = layout;
  runs = runs;
  apart = λ i j d before within step w v here there. apart step i j before w v
      (record { run = slice_index_or plan.runs i d; is_run = slice_get-get_or plan.runs i d (omega arith); is_there = here })
      (record { run = slice_index_or plan.runs j d; is_run = slice_get-get_or plan.runs j d within; is_there = there });
}

-- in a lawful plan all trains are apart at all steps
always_apart : (p : InstanceParts) (borders : List CandidateId) (runs : List TrainRun) → AllPairs (AreApart p borders) runs → (step x y : ℕ) → x < y → AreApartAt p borders runs step x y
unfolding AreApartAt
always_apart p borders runs apart step x y later w v one other =
    let first : slice_index_or runs x one.run ≡ one.run = get_or_from_slice_get runs x one.run one.run one.is_run in
    let second : slice_index_or runs y one.run ≡ other.run = get_or_from_slice_get runs y other.run one.run other.is_run in
    let pair : AreApart p borders (slice_index_or runs x one.run) (slice_index_or runs y one.run) =
    apart x y one.run later (slice_get_within runs y other.run other.is_run) in
    let moved : AreApart p borders one.run other.run =
    subst (λ (r : TrainRun). AreApart p borders r other.run) first (subst (AreApart p borders (slice_index_or runs x one.run)) second pair) in
    moved step w v one.is_there other.is_there

-- where each train has its run, each keeps its rules
pub runs_kept : (p : InstanceParts) (runs : List TrainRun) → AllZip (IsRun p) p.trains runs → (rule_of_runs p runs).kept
runs_kept p runs zipped = record {
  at_each = λ k both there. let parts = zip_here p.trains runs k both there in
      run_kept p (record { 0 = k }) both.0 both.1 (zip_at (IsRun p) p.trains runs zipped k both.0 both.1 parts.0 parts.1);
}

-- a lawful plan keeps the judge's rules
pub rules_kept : (p : InstanceParts) (borders : List CandidateId) (plan : Plan) → IsLawful p borders plan → AreKept (rules_of_plan p borders plan)
rules_kept p borders plan lawful =
    (each_of_all (Contains borders) p.kept lawful.layout.holds_kept, (runs_kept p plan.runs lawful.runs, (always_apart p borders plan.runs lawful.apart, tt)))
