-- What plain words ask for, task by task.
use Rattle.std.proofs.Common.{◌≡◌, ◌∙◌, ap, refl, ℕ, List, [], ◌∷◌, Option, Some, None, fold}
use Rattle.std.specs.Prelude.{codes, option_and_then, option_map}
use Rattle.clap.specs.Faults.{defaults_fault, walk_fault}
use Rattle.clap.specs.Simple.{Shape, built}
use Rattle.clap.specs.Walk.{Held, Rule, Walk, idle, nothing_held, option, settled, walk, walked}
use Rattle.clap.specs.declared.error.kind.ErrorKind.TheVariants.{DisplayHelp}
use Rattle.vss_words.specs.Commands.{command, command_from}
use Rattle.vss_words.specs.Forms.{form}
use Rattle.vss_words.specs.Numbers.{number_from}
use Rattle.vss_words.specs.Plain.{IsPlainWord, documents_named}
use Rattle.vss_words.specs.declared.command.Command.TheVariants.{Verify, Generate, Optimise, Judge, Check, Make}
use Rattle.vss_words.specs.declared.task.Task.{Task}
use Rattle.vss_words.specs.declared.task.Task.TheVariants as task
use Rattle.vss_words.proofs.WalkSteps.{TakesTwo, after_plain, between, fault_plain, fault_two, given_after, second_held, walked_plain, walked_two}

abbrev shape_of_task : Task → Shape
shape_of_task task = (built (form task)).top

-- the walk behind two plain words
abbrev behind_two : Task → List ℕ → List ℕ → Walk
behind_two task n t = between (second_held (shape_of_task task) n t) idle 3

verify_takes : (n t : List ℕ) → TakesTwo (shape_of_task task.Verify) n t
verify_takes n t = record { first = refl; second = refl; first_fault = refl; second_fault = refl }

generate_takes : (n t : List ℕ) → TakesTwo (shape_of_task task.Generate) n t
generate_takes n t = record { first = refl; second = refl; first_fault = refl; second_fault = refl }

optimise_takes : (n t : List ℕ) → TakesTwo (shape_of_task task.Optimise) n t
optimise_takes n t = record { first = refl; second = refl; first_fault = refl; second_fault = refl }

judge_takes : (n t : List ℕ) → TakesTwo (shape_of_task task.Judge) n t
judge_takes n t = record { first = refl; second = refl; first_fault = refl; second_fault = refl }

check_takes : (n t : List ℕ) → TakesTwo (shape_of_task task.Check) n t
check_takes n t = record { first = refl; second = refl; first_fault = refl; second_fault = refl }

make_takes : (n t : List ℕ) → TakesTwo (shape_of_task task.Make) n t
make_takes n t = record { first = refl; second = refl; first_fault = refl; second_fault = refl }

pub verify : (n t : List ℕ) → IsPlainWord n → IsPlainWord t → command (codes "verify" ∷ n ∷ t ∷ []) ≡ Some (Verify (documents_named n t) 200000)
unfolding command defaults_fault walk_fault
verify n t one two = ap (option_and_then (command_from task.Verify)) (given_after (form task.Verify) (codes "verify" ∷ n ∷ t ∷ []) (behind_two task.Verify n t) []
    (walked_two (shape_of_task task.Verify) n t [] (verify_takes n t) one two) (fault_two (shape_of_task task.Verify) n t [] (verify_takes n t) one two))

pub generate : (n t : List ℕ) → IsPlainWord n → IsPlainWord t → command (codes "generate" ∷ n ∷ t ∷ []) ≡ Some (Generate (documents_named n t) None 200000)
unfolding command defaults_fault walk_fault
generate n t one two = ap (option_and_then (command_from task.Generate)) (given_after (form task.Generate) (codes "generate" ∷ n ∷ t ∷ []) (behind_two task.Generate n t) []
    (walked_two (shape_of_task task.Generate) n t [] (generate_takes n t) one two) (fault_two (shape_of_task task.Generate) n t [] (generate_takes n t) one two))

pub optimise : (n t : List ℕ) → IsPlainWord n → IsPlainWord t → command (codes "optimise" ∷ n ∷ t ∷ []) ≡ Some (Optimise (documents_named n t) 200000)
unfolding command defaults_fault walk_fault
optimise n t one two = ap (option_and_then (command_from task.Optimise)) (given_after (form task.Optimise) (codes "optimise" ∷ n ∷ t ∷ []) (behind_two task.Optimise n t) []
    (walked_two (shape_of_task task.Optimise) n t [] (optimise_takes n t) one two) (fault_two (shape_of_task task.Optimise) n t [] (optimise_takes n t) one two))

pub make : (n t : List ℕ) → IsPlainWord n → IsPlainWord t → command (codes "make" ∷ n ∷ t ∷ []) ≡ option_and_then (λ of. option_map (Make of) (number_from 1 8 t)) (number_from 0 4294967295 n)
unfolding command defaults_fault walk_fault
make n t one two = ap (option_and_then (command_from task.Make)) (given_after (form task.Make) (codes "make" ∷ n ∷ t ∷ []) (behind_two task.Make n t) []
    (walked_two (shape_of_task task.Make) n t [] (make_takes n t) one two) (fault_two (shape_of_task task.Make) n t [] (make_takes n t) one two))

pub judge : (n t r : List ℕ) → IsPlainWord n → IsPlainWord t → IsPlainWord r → command (codes "judge" ∷ n ∷ t ∷ r ∷ []) ≡ Some (Judge (documents_named n t) r)
unfolding command defaults_fault walk_fault
judge n t r one two three =
    let s = shape_of_task task.Judge in
    let end = walked_two s n t (r ∷ []) (judge_takes n t) one two ∙ walked_plain s.rules (second_held s n t) idle 3 r three in
    let faults = fault_two s n t (r ∷ []) (judge_takes n t) one two ∙ fault_plain s (second_held s n t) idle 3 r [] three in
    ap (option_and_then (command_from task.Judge)) (given_after (form task.Judge) (codes "judge" ∷ n ∷ t ∷ r ∷ []) (after_plain s.rules (second_held s n t) idle 3 r) [] end faults)

pub check : (n t r : List ℕ) → IsPlainWord n → IsPlainWord t → IsPlainWord r → command (codes "check" ∷ n ∷ t ∷ r ∷ []) ≡ Some (Check (documents_named n t) r)
unfolding command defaults_fault walk_fault
check n t r one two three =
    let s = shape_of_task task.Check in
    let end = walked_two s n t (r ∷ []) (check_takes n t) one two ∙ walked_plain s.rules (second_held s n t) idle 3 r three in
    let faults = fault_two s n t (r ∷ []) (check_takes n t) one two ∙ fault_plain s (second_held s n t) idle 3 r [] three in
    ap (option_and_then (command_from task.Check)) (given_after (form task.Check) (codes "check" ∷ n ∷ t ∷ r ∷ []) (after_plain s.rules (second_held s n t) idle 3 r) [] end faults)

-- an option was named, and its value is to come
abbrev awaiting : List Rule → List ℕ → Held → Held
awaiting c id h = record (settled c h) { pending = Some (id, []) }

abbrev held_at_budget : List ℕ → List ℕ → Held
held_at_budget n t = awaiting (shape_of_task task.Optimise).rules (codes "budget") (second_held (shape_of_task task.Optimise) n t)

budget_met : (n t : List ℕ) → walked (shape_of_task task.Optimise).rules [] (behind_two task.Optimise n t) (codes "--budget") ≡ between (held_at_budget n t) (option (codes "budget")) 3
unfolding walked
budget_met n t = refl

budget_no_fault : (n t : List ℕ) (rest : List (List ℕ)) → walk_fault (shape_of_task task.Optimise) [] (behind_two task.Optimise n t) (codes "--budget" ∷ rest)
    ≡ walk_fault (shape_of_task task.Optimise) [] (between (held_at_budget n t) (option (codes "budget")) 3) rest
unfolding walk_fault
budget_no_fault n t rest = ap (λ (w : Walk). walk_fault (shape_of_task task.Optimise) [] w rest) (budget_met n t)

pub budget : (n t v : List ℕ) → IsPlainWord n → IsPlainWord t → IsPlainWord v
    → command (codes "optimise" ∷ n ∷ t ∷ codes "--budget" ∷ v ∷ []) ≡ option_map (Optimise (documents_named n t)) (number_from 1 1000000000 v)
unfolding command defaults_fault walk_fault
budget n t v one two three =
    let s = shape_of_task task.Optimise in
    let rest = codes "--budget" ∷ v ∷ [] in
    let end = walked_two s n t rest (optimise_takes n t) one two
    ∙ ap (λ (w : Walk). fold (walked s.rules []) w (v ∷ [])) (budget_met n t)
    ∙ walked_plain s.rules (held_at_budget n t) (option (codes "budget")) 3 v three in
    let faults = fault_two s n t rest (optimise_takes n t) one two ∙ budget_no_fault n t (v ∷ [])
    ∙ fault_plain s (held_at_budget n t) (option (codes "budget")) 3 v [] three in
    ap (option_and_then (command_from task.Optimise)) (given_after (form task.Optimise) (codes "optimise" ∷ n ∷ t ∷ codes "--budget" ∷ v ∷ [])
    (after_plain s.rules (held_at_budget n t) (option (codes "budget")) 3 v) [] end faults)

abbrev held_at_borders : List ℕ → List ℕ → Held
held_at_borders n t = awaiting (shape_of_task task.Generate).rules (codes "borders") (second_held (shape_of_task task.Generate) n t)

borders_met : (n t : List ℕ) → walked (shape_of_task task.Generate).rules [] (behind_two task.Generate n t) (codes "--borders") ≡ between (held_at_borders n t) (option (codes "borders")) 3
unfolding walked
borders_met n t = refl

borders_no_fault : (n t : List ℕ) (rest : List (List ℕ)) → walk_fault (shape_of_task task.Generate) [] (behind_two task.Generate n t) (codes "--borders" ∷ rest)
    ≡ walk_fault (shape_of_task task.Generate) [] (between (held_at_borders n t) (option (codes "borders")) 3) rest
unfolding walk_fault
borders_no_fault n t rest = ap (λ (w : Walk). walk_fault (shape_of_task task.Generate) [] w rest) (borders_met n t)

most_given : (n t : List ℕ) (most : Option ℕ)
    → option_and_then (λ given. option_map (Generate (documents_named n t) given) (Some 200000)) (option_map Some most) ≡ option_map (λ count. Generate (documents_named n t) (Some count) 200000) most
most_given n t None = refl
most_given n t (Some count) = refl

pub borders : (n t v : List ℕ) → IsPlainWord n → IsPlainWord t → IsPlainWord v
    → command (codes "generate" ∷ n ∷ t ∷ codes "--borders" ∷ v ∷ []) ≡ option_map (λ most. Generate (documents_named n t) (Some most) 200000) (number_from 0 4294967295 v)
unfolding command defaults_fault walk_fault
borders n t v one two three =
    let s = shape_of_task task.Generate in
    let rest = codes "--borders" ∷ v ∷ [] in
    let end = walked_two s n t rest (generate_takes n t) one two
    ∙ ap (λ (w : Walk). fold (walked s.rules []) w (v ∷ [])) (borders_met n t)
    ∙ walked_plain s.rules (held_at_borders n t) (option (codes "borders")) 3 v three in
    let faults = fault_two s n t rest (generate_takes n t) one two ∙ borders_no_fault n t (v ∷ [])
    ∙ fault_plain s (held_at_borders n t) (option (codes "borders")) 3 v [] three in
    ap (option_and_then (command_from task.Generate)) (given_after (form task.Generate) (codes "generate" ∷ n ∷ t ∷ codes "--borders" ∷ v ∷ [])
    (after_plain s.rules (held_at_borders n t) (option (codes "borders")) 3 v) [] end faults)
    ∙ most_given n t (number_from 0 4294967295 v)

abbrev held_again : List ℕ → List ℕ → List ℕ → Held
held_again n t v = awaiting (shape_of_task task.Optimise).rules (codes "budget") (after_plain (shape_of_task task.Optimise).rules (held_at_budget n t) (option (codes "budget")) 3 v).held

budget_again : (n t v : List ℕ) → walked (shape_of_task task.Optimise).rules [] (after_plain (shape_of_task task.Optimise).rules (held_at_budget n t) (option (codes "budget")) 3 v) (codes "--budget")
    ≡ between (held_again n t v) (option (codes "budget")) 3
unfolding walked
budget_again n t v = refl

again_no_fault : (n t v : List ℕ) (rest : List (List ℕ))
    → walk_fault (shape_of_task task.Optimise) [] (after_plain (shape_of_task task.Optimise).rules (held_at_budget n t) (option (codes "budget")) 3 v) (codes "--budget" ∷ rest)
    ≡ walk_fault (shape_of_task task.Optimise) [] (between (held_again n t v) (option (codes "budget")) 3) rest
unfolding walk_fault
again_no_fault n t v rest = ap (λ (w : Walk). walk_fault (shape_of_task task.Optimise) [] w rest) (budget_again n t v)

pub budget_twice : (n t v u : List ℕ) → IsPlainWord n → IsPlainWord t → IsPlainWord v → IsPlainWord u
    → command (codes "optimise" ∷ n ∷ t ∷ codes "--budget" ∷ v ∷ codes "--budget" ∷ u ∷ []) ≡ None
unfolding command defaults_fault walk_fault
budget_twice n t v u one two three four =
    let s = shape_of_task task.Optimise in
    let last = codes "--budget" ∷ u ∷ [] in
    let end = walked_two s n t (codes "--budget" ∷ v ∷ last) (optimise_takes n t) one two
    ∙ ap (λ (w : Walk). fold (walked s.rules []) w (v ∷ last)) (budget_met n t)
    ∙ ap (λ (w : Walk). fold (walked s.rules []) w last) (walked_plain s.rules (held_at_budget n t) (option (codes "budget")) 3 v three)
    ∙ ap (λ (w : Walk). fold (walked s.rules []) w (u ∷ [])) (budget_again n t v)
    ∙ walked_plain s.rules (held_again n t v) (option (codes "budget")) 3 u four in
    let faults = fault_two s n t (codes "--budget" ∷ v ∷ last) (optimise_takes n t) one two ∙ budget_no_fault n t (v ∷ last)
    ∙ fault_plain s (held_at_budget n t) (option (codes "budget")) 3 v last three ∙ again_no_fault n t v (u ∷ [])
    ∙ fault_plain s (held_again n t v) (option (codes "budget")) 3 u [] four in
    ap (option_and_then (command_from task.Optimise)) (given_after (form task.Optimise) (codes "optimise" ∷ n ∷ t ∷ codes "--budget" ∷ v ∷ last)
    (after_plain s.rules (held_again n t v) (option (codes "budget")) 3 u) [] end faults)

asks_for_help : (n t : List ℕ) → walk_fault (shape_of_task task.Optimise) [] (behind_two task.Optimise n t) (codes "--help" ∷ []) ≡ DisplayHelp ∷ []
unfolding walk_fault
asks_for_help n t = refl

pub help : (n t : List ℕ) → IsPlainWord n → IsPlainWord t → command (codes "optimise" ∷ n ∷ t ∷ codes "--help" ∷ []) ≡ None
unfolding command
help n t one two =
    let s = shape_of_task task.Optimise in
    let words = n ∷ t ∷ codes "--help" ∷ [] in
    ap (option_and_then (command_from task.Optimise)) (given_after (form task.Optimise) (codes "optimise" ∷ words)
    (walk s.rules [] nothing_held words) (DisplayHelp ∷ []) refl
    (fault_two s n t (codes "--help" ∷ []) (optimise_takes n t) one two ∙ asks_for_help n t))
