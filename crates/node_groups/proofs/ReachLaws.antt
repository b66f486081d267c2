-- The laws of `Reaches`: it is reflexive and transitive, symmetric where the relation is, and carries what each step carries
use Rattle.std.proofs.Common.{◌≡◌, ◌↔◌, List, [], ◌∷◌, refl, sym, subst}
use Rattle.node_groups.specs.Reach.{LeadsTo, Reaches}

-- each item reaches itself
pub Reaches-refl : {X : Type 0} (R : X → X → Type 0) (a : X) → Reaches R a a
unfolding Reaches
Reaches-refl R a = ([], refl)

-- one step
pub Reaches-step : {X : Type 0} (R : X → X → Type 0) (a b : X) → R a b → Reaches R a b
unfolding Reaches
Reaches-step R a b step = (b ∷ [], (step, refl))

leads_to_keeps : {X : Type 0} (R : X → X → Type 0) (P : X → Type 0) → ((x y : X) → R x y → P x → P y) → (items : List X) (a b : X) → LeadsTo R a items b → P a → P b
leads_to_keeps R P keeps [] a b same here = subst P same here
leads_to_keeps R P keeps (c ∷ cs) a b (step, rest) here = leads_to_keeps R P keeps cs c b rest (keeps a c step here)

-- induction: what each step keeps holds of each item that is reached
pub Reaches-keeps : {X : Type 0} (R : X → X → Type 0) (P : X → Type 0) → ((x y : X) → R x y → P x → P y) → (a b : X) → Reaches R a b → P a → P b
unfolding Reaches
Reaches-keeps R P keeps a b (items, led) here = leads_to_keeps R P keeps items a b led here

leads_to_joined : {X : Type 0} (R : X → X → Type 0) (items : List X) (a b c : X) → LeadsTo R a items b → Reaches R b c → Reaches R a c
unfolding Reaches
leads_to_joined R [] a b c same rest = subst (λ x. Reaches R x c) (sym same) rest
leads_to_joined R (d ∷ ds) a b c (step, led) rest =
    let (items, more) = leads_to_joined R ds d b c led rest in (d ∷ items, (step, more))

-- one path after another
pub Reaches-trans : {X : Type 0} (R : X → X → Type 0) (a b c : X) → Reaches R a b → Reaches R b c → Reaches R a c
unfolding Reaches
Reaches-trans R a b c (items, led) rest = leads_to_joined R items a b c led rest

-- the way back, where each step has one
pub Reaches-sym : {X : Type 0} (R : X → X → Type 0) → ((x y : X) → R x y → R y x) → (a b : X) → Reaches R a b → Reaches R b a
Reaches-sym R back a b reached =
    Reaches-keeps R (λ x. Reaches R x a) (λ x y step so_far. Reaches-trans R y x a (Reaches-step R y x (back x y step)) so_far) a b reached (Reaches-refl R a)

-- what is reached, seen through a function that turns each step into a path
pub Reaches-map : {X Y : Type 0} (R : X → X → Type 0) (S : Y → Y → Type 0) (f : X → Y) → ((x y : X) → R x y → Reaches S (f x) (f y)) → (a b : X) → Reaches R a b → Reaches S (f a) (f b)
Reaches-map R S f along a b reached =
    Reaches-keeps R (λ x. Reaches S (f a) (f x)) (λ x y step so_far. Reaches-trans S (f a) (f x) (f y) so_far (along x y step)) a b reached (Reaches-refl S (f a))

-- what is reached by one relation is reached by another, if each step of the first is a path of the second
pub Reaches-within : {X : Type 0} (R S : X → X → Type 0) → ((x y : X) → R x y → Reaches S x y) → (a b : X) → Reaches R a b → Reaches S a b
Reaches-within R S along a b reached = Reaches-map R S (λ x. x) along a b reached

-- two relations reach alike, if each turns the steps of the other into steps: f takes an item of the first to one of the
-- second, and g takes it back
pub Reaches-alike : {X Y : Type 0} (R : X → X → Type 0) (S : Y → Y → Type 0) (f : X → Y) (g : Y → X) → ((x y : X) → R x y → S (f x) (f y)) → ((x y : Y) → S x y → R (g x) (g y)) → (a b : X) → g (f a) ≡ a → g (f b) ≡ b → Reaches R a b ↔ Reaches S (f a) (f b)
Reaches-alike R S f g forth back a b a_back b_back = (
  Reaches-map R S f (λ x y step. Reaches-step S (f x) (f y) (forth x y step)) a b,
  λ reached. rw (a_back, b_back) at (Reaches-map S R g (λ x y step. Reaches-step R (g x) (g y) (back x y step)) (f a) (f b) reached),
)
