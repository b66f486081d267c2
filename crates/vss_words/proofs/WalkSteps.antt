-- How `clap` goes over words of which none begins with `-`: at each it looks at its first byte alone.
use Rattle.std.proofs.Common.{◌≡◌, ◌==◌, ◌∙◌, ap, ap₂, refl, ℕ, false, List, [], ◌∷◌, None, is_some, fold}
use Rattle.std.proofs.lemmas.Bool.{ne_eqb}
use Rattle.clap.specs.Faults.{check_fault, defaults_fault, entered_fault, settle_fault, step_fault, turn_fault, walk_fault, word_fault}
use Rattle.clap.specs.Kinds.{Kinds, or_else}
use Rattle.clap.specs.Simple.{App, Shape, argument_words, built, entered, names_of}
use Rattle.clap.specs.Walk.{Held, Rule, Step, Waiting, Walk, after_step, finished, idle, nothing_held, option, plain_word, positional, settled, walk, walk_from, walked, word_met}
use Rattle.vss_words.specs.Commands.{rows_given, unless_fault}
use Rattle.vss_words.specs.Plain.{IsPlainWord}

-- the word is no flag and no `--`
met : (c : List Rule) (waiting : Waiting) (position : ℕ) (word : List ℕ) (h : Held) → IsPlainWord word
    → word_met c [] false waiting position word h ≡ plain_word c waiting word h
met c waiting position [] h plain = absurd plain
met c idle position (x ∷ xs) h plain = let e : (x == 45) ≡ false = ne_eqb x 45 plain in rw (e, e) refl
met c (option id) position (x ∷ xs) h plain = let e : (x == 45) ≡ false = ne_eqb x 45 plain in rw (e, e) refl
met c positional position (x ∷ xs) h plain = let e : (x == 45) ≡ false = ne_eqb x 45 plain in rw (e, e) refl

no_fault : (s : Shape) (waiting : Waiting) (word : List ℕ) (h : Held) → IsPlainWord word → word_fault s [] false waiting word h ≡ []
no_fault s waiting [] h plain = absurd plain
no_fault s idle (x ∷ xs) h plain = let e : (x == 45) ≡ false = ne_eqb x 45 plain in rw (e, e) refl
no_fault s (option id) (x ∷ xs) h plain = let e : (x == 45) ≡ false = ne_eqb x 45 plain in rw (e, e) refl
no_fault s positional (x ∷ xs) h plain = let e : (x == 45) ≡ false = ne_eqb x 45 plain in rw (e, e) refl

-- a walk that is between two words
abbrev pub between : Held → Waiting → ℕ → Walk
between h waiting position = record { held = h; waiting = waiting; position = position; is_trailing = false; stopped = None }

-- the walk after a plain word, and the faults of that word
abbrev pub after_plain : List Rule → Held → Waiting → ℕ → List ℕ → Walk
after_plain c h waiting position word = after_step c word (between h waiting position) (plain_word c waiting word h).0 (plain_word c waiting word h).1

abbrev pub faults_of_plain : Shape → Held → Waiting → ℕ → List ℕ → Kinds
faults_of_plain s h waiting position word = step_fault s position (plain_word s.rules waiting word h).0 (plain_word s.rules waiting word h).1

pub walked_plain : (c : List Rule) (h : Held) (waiting : Waiting) (position : ℕ) (word : List ℕ) → IsPlainWord word
    → walked c [] (between h waiting position) word ≡ after_plain c h waiting position word
unfolding walked
walked_plain c h waiting position word plain =
    ap (λ (m : Held × Step). after_step c word (between h waiting position) m.0 m.1) (met c waiting position word h plain)

turn_plain : (s : Shape) (h : Held) (waiting : Waiting) (position : ℕ) (word : List ℕ) → IsPlainWord word
    → turn_fault s [] (between h waiting position) word ≡ faults_of_plain s h waiting position word
turn_plain s h waiting position word plain =
    ap₂ (λ (fault : Kinds) (m : Held × Step). or_else fault (step_fault s position m.0 m.1)) (no_fault s waiting word h plain) (met s.rules waiting position word h plain)

pub fault_plain : (s : Shape) (h : Held) (waiting : Waiting) (position : ℕ) (word : List ℕ) (rest : List (List ℕ)) → IsPlainWord word
    → walk_fault s [] (between h waiting position) (word ∷ rest) ≡ or_else (faults_of_plain s h waiting position word) (walk_fault s [] (after_plain s.rules h waiting position word) rest)
unfolding walk_fault
fault_plain s h waiting position word rest plain =
    ap₂ or_else (turn_plain s h waiting position word plain) (ap (λ (w : Walk). walk_fault s [] w rest) (walked_plain s.rules h waiting position word plain))

-- what is held after a first and after a second value
abbrev pub first_held : Shape → List ℕ → Held
first_held s n = (after_plain s.rules nothing_held idle 1 n).held

abbrev pub second_held : Shape → List ℕ → List ℕ → Held
second_held s n t = (after_plain s.rules (first_held s n) idle 2 t).held

-- the first two words of a task that are no flags are its first two values
pub record TakesTwo (s : Shape) (n t : List ℕ) : Type 0 where
  pub first : after_plain s.rules nothing_held idle 1 n ≡ between (first_held s n) idle 2
  pub second : after_plain s.rules (first_held s n) idle 2 t ≡ between (second_held s n t) idle 3
  pub first_fault : faults_of_plain s nothing_held idle 1 n ≡ []
  pub second_fault : faults_of_plain s (first_held s n) idle 2 t ≡ []

pub walked_two : (s : Shape) (n t : List ℕ) (rest : List (List ℕ)) → TakesTwo s n t → IsPlainWord n → IsPlainWord t
    → fold (walked s.rules []) (walk_from nothing_held) (n ∷ t ∷ rest) ≡ fold (walked s.rules []) (between (second_held s n t) idle 3) rest
walked_two s n t rest two one other =
    ap (λ (w : Walk). fold (walked s.rules []) w (t ∷ rest)) (walked_plain s.rules nothing_held idle 1 n one ∙ two.first)
    ∙ ap (λ (w : Walk). fold (walked s.rules []) w rest) (walked_plain s.rules (first_held s n) idle 2 t other ∙ two.second)

pub fault_two : (s : Shape) (n t : List ℕ) (rest : List (List ℕ)) → TakesTwo s n t → IsPlainWord n → IsPlainWord t
    → walk_fault s [] (walk_from nothing_held) (n ∷ t ∷ rest) ≡ walk_fault s [] (between (second_held s n t) idle 3) rest
fault_two s n t rest two one other =
    fault_plain s nothing_held idle 1 n (t ∷ rest) one
    ∙ ap₂ or_else two.first_fault (ap (λ (w : Walk). walk_fault s [] w (t ∷ rest)) two.first)
    ∙ fault_plain s (first_held s n) idle 2 t rest other
    ∙ ap₂ or_else two.second_fault (ap (λ (w : Walk). walk_fault s [] w rest) two.second)

-- the faults of a parse whose walk ends so
abbrev pub faults_after : App → Walk → Kinds → Kinds
faults_after a w faults = or_else faults (or_else (entered_fault a w.stopped)
    (or_else (settle_fault a.top.rules a.top.args_override_self w.held)
    (or_else (defaults_fault (settled a.top.rules w.held).rows a.top.rules)
    (check_fault a.top (finished a.top.rules w.held) (is_some (entered a w.stopped))))))

-- what words give follows from the walk over them, and from its faults
pub given_after : (app : App) (words : List (List ℕ)) (w : Walk) (faults : Kinds)
    → walk (built app).top.rules (names_of (built app)) nothing_held (argument_words app words) ≡ w
    → walk_fault (built app).top (names_of (built app)) (walk_from nothing_held) (argument_words app words) ≡ faults
    → rows_given app words ≡ unless_fault (faults_after (built app) w faults) (finished (built app).top.rules w.held)
unfolding rows_given
given_after app words w faults end none =
    ap₂ (λ (x : Walk) (k : Kinds). unless_fault (faults_after (built app) x k) (finished (built app).top.rules x.held)) end none
