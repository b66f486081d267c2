-- The luby sequence, halved down to the block that ends in the item.
use Rattle.std.proofs.Common.{◌≡◌, ℕ, zero, suc, ◌+◌, ◌-◌, ◌*◌, ◌/◌, ◌^◌, ◌<◌, ◌≤◌, List, [], ◌∷◌, ◌++◌, length, refl, ap, sym, subst, ◌∙◌, arith}
use Rattle.std.specs.Prelude.{Some, slice_get}
use Rattle.std.proofs.Math.Nat.{pow-suc}
use Rattle.std.proofs.lemmas.List.{length-append}
use Rattle.watch_solver.specs.Luby.{luby_block, IsLuby}

get_front : (xs ys : List ℕ) (i item : ℕ) → slice_get xs i ≡ Some item → slice_get (xs ++ ys) i ≡ Some item
get_front [] ys i item is = absurd (cc)
get_front (x ∷ xs) ys zero item is = is
get_front (x ∷ xs) ys (suc i) item is = get_front xs ys i item is

get_behind : (xs ys : List ℕ) (i : ℕ) → slice_get (xs ++ ys) (length xs + i) ≡ slice_get ys i
get_behind [] ys i = ap (slice_get ys) (omega arith)
get_behind (x ∷ xs) ys i = let e : length (x ∷ xs) + i ≡ suc (length xs + i) = omega arith in ap (slice_get ((x ∷ xs) ++ ys)) e ∙ get_behind xs ys i

length_block : (k : ℕ) → length (luby_block k) + 1 ≡ 2 ^ k
length_block zero = refl
length_block (suc k) =
    let before : length (luby_block k) + 1 ≡ 2 ^ k = length_block k in
    let power : 2 ^ suc k ≡ 2 ^ k * 2 = pow-suc 2 k in
    let outer : length (luby_block k ++ (luby_block k ++ 2 ^ k ∷ [])) ≡ length (luby_block k) + length (luby_block k ++ 2 ^ k ∷ []) = length-append (luby_block k) (luby_block k ++ 2 ^ k ∷ []) in
    let inner : length (luby_block k ++ 2 ^ k ∷ []) ≡ length (luby_block k) + 1 = length-append (luby_block k) (2 ^ k ∷ []) in
    omega (arith, before, power, outer, inner)

-- the item of that number is the one at `rest` of a block of that size
pub record IsInBlock (number rest size : ℕ) : Type 0 where
  pub block : ℕ
  pub sized : size + 1 ≡ 2 ^ block
  pub from : 1 ≤ rest
  pub upto : rest ≤ size
  pub tells : (item : ℕ) → slice_get (luby_block block) (rest - 1) ≡ Some item → IsLuby number item

pub in_block_start : (number : ℕ) → 1 ≤ number → number ≤ 4294967295 → IsInBlock number number 4294967295
unfolding IsLuby
in_block_start number from upto = record { block = 32; sized = refl; from = from; upto = upto; tells = λ item is. (from, (32, is)) }

halved : (k size : ℕ) → size + 1 ≡ 2 ^ suc k → (size / 2 ≡ length (luby_block k)) × (size ≡ 2 * length (luby_block k) + 1)
halved k size sized =
    let before : length (luby_block k) + 1 ≡ 2 ^ k = length_block k in
    let power : 2 ^ suc k ≡ 2 ^ k * 2 = pow-suc 2 k in
    let whole : size ≡ 2 * length (luby_block k) + 1 = omega (arith, before, power, sized) in
    (omega (arith, whole), whole)

low_in : (number rest size block : ℕ) → size + 1 ≡ 2 ^ block → 1 ≤ rest → rest ≤ size → rest ≤ size / 2 → ((item : ℕ) → slice_get (luby_block block) (rest - 1) ≡ Some item → IsLuby number item) → IsInBlock number rest (size / 2)
low_in number rest size zero sized from upto low tells = absurd (omega (arith, sized, from, upto))
low_in number rest size (suc k) sized from upto low tells = record {
  block = k;
  sized = omega (arith, (halved k size sized).0, length_block k);
  from = from;
  upto = low;
  tells = λ item is. tells item (get_front (luby_block k) (luby_block k ++ 2 ^ k ∷ []) (rest - 1) item is);
}

high_in : (number rest size block : ℕ) → size + 1 ≡ 2 ^ block → 1 ≤ rest → rest < size → size / 2 < rest → ((item : ℕ) → slice_get (luby_block block) (rest - 1) ≡ Some item → IsLuby number item) → IsInBlock number (rest - size / 2) (size / 2)
high_in number rest size zero sized from upto high tells = absurd (omega (arith, sized, from, upto))
high_in number rest size (suc k) sized from upto high tells =
    let half = halved k size sized in
    record {
      block = k;
      sized = omega (arith, half.0, length_block k);
      from = omega (arith, high);
      upto = omega (arith, half.0, half.1, upto);
      tells = λ item is.
          let place : rest - 1 ≡ length (luby_block k) + (rest - size / 2 - 1) = omega (arith, half.0, high) in
          tells item (ap (slice_get (luby_block k ++ (luby_block k ++ 2 ^ k ∷ []))) place ∙ (get_behind (luby_block k) (luby_block k ++ 2 ^ k ∷ []) (rest - size / 2 - 1) ∙ get_front (luby_block k) (2 ^ k ∷ []) (rest - size / 2 - 1) item is));
    }

last_in : (number rest size block : ℕ) → size + 1 ≡ 2 ^ block → 1 ≤ rest → rest ≤ size → size ≤ rest → ((item : ℕ) → slice_get (luby_block block) (rest - 1) ≡ Some item → IsLuby number item) → IsLuby number (size / 2 + 1)
last_in number rest size zero sized from upto end tells = absurd (omega (arith, sized, from, upto))
last_in number rest size (suc k) sized from upto end tells =
    let half = halved k size sized in
    let first : rest - 1 ≡ length (luby_block k) + length (luby_block k) = omega (arith, half.1, upto, end) in
    let second : length (luby_block k) ≡ length (luby_block k) + 0 = omega arith in
    let item : 2 ^ k ≡ size / 2 + 1 = omega (arith, half.0, length_block k) in
    tells (size / 2 + 1) (ap (slice_get (luby_block k ++ (luby_block k ++ 2 ^ k ∷ []))) first ∙ (get_behind (luby_block k) (luby_block k ++ 2 ^ k ∷ []) (length (luby_block k)) ∙ (ap (slice_get (luby_block k ++ 2 ^ k ∷ [])) second ∙ (get_behind (luby_block k) (2 ^ k ∷ []) 0 ∙ ap (λ n. Some n) item))))

pub in_low_half : (number rest size half : ℕ) → half ≡ size / 2 → rest < size → rest ≤ half → IsInBlock number rest size → IsInBlock number rest half
in_low_half number rest size half is short low was = subst (IsInBlock number rest) (sym is) (low_in number rest size was.block was.sized was.from was.upto (omega (arith, is, low)) was.tells)

pub in_high_half : (number rest size half : ℕ) → half ≡ size / 2 → rest < size → half < rest → IsInBlock number rest size → IsInBlock number (rest - half) half
in_high_half number rest size half is short high was = subst (λ h. IsInBlock number (rest - h) h) (sym is) (high_in number rest size was.block was.sized was.from short (omega (arith, is, high)) was.tells)

pub at_block_end : (number rest size : ℕ) → size ≤ rest → IsInBlock number rest size → IsLuby number (size / 2 + 1)
at_block_end number rest size end was = last_in number rest size was.block was.sized was.from was.upto end was.tells
