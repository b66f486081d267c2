-- Clauses added in parts.
use Rattle.std.proofs.Common.{◌≡◌, ℕ, suc, ◌+◌, ◌-◌, ◌<◌, ◌≤◌, List, [], ◌∷◌, ◌++◌, length, take, refl, sym, ap, ◌∙◌, subst, arith, append_assoc, length-append}
use Rattle.std.specs.Prelude.{Result, Ok, Err, OnErr}
use Rattle.std.specs.List.{range_with_len, flat_map}
use Rattle.std.proofs.lemmas.List.{take-append-le, append-nil}
use Rattle.std.proofs.lemmas.List.Sums.{sum_by-append}
use Rattle.sat_core.specs.declared.literal.Lit.{Lit}
use Rattle.sat_core.specs.Storage.{FormulaParts}
use Rattle.border_counter.specs.Adding.{AddsAll, AddsFront, HasRoom}
use Rattle.border_counter.proofs.RangeLemmas.{more, split_at}

pub adds_none : (before : FormulaParts) → AddsAll before [] before
adds_none before = record { vars = refl; list = sym (append-nil before.clauses); room_for_clauses = omega arith; room_for_lits = omega arith }

pub adds_both : (before now after : FormulaParts) (one other : List (List Lit)) → AddsAll before one now → AddsAll now other after → AddsAll before (one ++ other) after
adds_both before now after one other first second = record {
  vars = second.vars ∙ first.vars;
  list = second.list ∙ (ap (λ cs. cs ++ other) first.list ∙ append_assoc before.clauses one other);
  room_for_clauses = omega (arith, length-append one other);
  room_for_lits = omega (arith, sum_by-append length one other);
}

pub front_first : (before after : FormulaParts) (one other : List (List Lit)) → AddsFront before one after → AddsFront before (one ++ other) after
front_first before after one other first =
    let front = first.front in
    let few : front.count ≤ length one = omega arith in
    record {
      vars = first.vars;
      front = record {
        count = front.count;
        few = omega (arith, length-append one other);
        list = front.list ∙ ap (λ cs. before.clauses ++ cs) (sym (take-append-le front.count one other few));
      };
    }

take_behind : (one other : List (List Lit)) (count : ℕ) → take (length one + count) (one ++ other) ≡ one ++ take count other
take_behind [] other count = let e : 0 + count ≡ count = omega arith in ap (λ n. take n other) e
take_behind (clause ∷ one) other count =
    let later = take_behind one other count in
    let e : suc (length one) + count ≡ suc (length one + count) = omega arith in
    ap (λ n. take n (clause ∷ (one ++ other))) e ∙ ap (λ cs. clause ∷ cs) later

pub front_behind : (before now after : FormulaParts) (one other : List (List Lit)) → AddsAll before one now → AddsFront now other after → AddsFront before (one ++ other) after
front_behind before now after one other first second =
    let front = second.front in
    record {
      vars = second.vars ∙ first.vars;
      front = record {
        count = length one + front.count;
        few = omega (arith, length-append one other);
        list = front.list ∙ (ap (λ cs. cs ++ take front.count other) first.list ∙ (append_assoc before.clauses one (take front.count other) ∙ ap (λ cs. before.clauses ++ cs) (sym (take_behind one other front.count))));
      };
    }

pub room_first : (before : FormulaParts) (one other : List (List Lit)) → HasRoom before (one ++ other) → HasRoom before one
room_first before one other room = (omega (arith, room.0, length-append one other), omega (arith, room.1, sum_by-append length one other))

pub room_behind : (before now : FormulaParts) (one other : List (List Lit)) → AddsAll before one now → HasRoom before (one ++ other) → HasRoom now other
room_behind before now one other first room = (omega (arith, room.0, length-append one other), omega (arith, room.1, sum_by-append length one other))

pub few_first : (before : FormulaParts) (one other : List (List Lit)) (most : ℕ) → length before.clauses + length (one ++ other) < most → length before.clauses + length one < most
few_first before one other most few = omega (arith, few, length-append one other)

pub few_behind : (before now : FormulaParts) (one other : List (List Lit)) (most : ℕ) → AddsAll before one now → length before.clauses + length (one ++ other) < most → length now.clauses + length other < most
few_behind before now one other most first few = omega (arith, few, length-append one other, length-append before.clauses one, ap length first.list)

-- one number of a range more
pub adds_more : (f : ℕ → List (List Lit)) (k next : ℕ) (before now after : FormulaParts) → next ≡ k + 1 → AddsAll before (flat_map f (range_with_len 1 k)) now → AddsAll now (f next) after → AddsAll before (flat_map f (range_with_len 1 (k + 1))) after
adds_more f k next before now after same first second = subst (λ cs. AddsAll before cs after) (sym (more f 1 k next (omega arith))) (adds_both before now after (flat_map f (range_with_len 1 k)) (f next) first second)

pub front_more : (f : ℕ → List (List Lit)) (n k next : ℕ) (before now after : FormulaParts) → k < n → next ≡ k + 1 → AddsAll before (flat_map f (range_with_len 1 k)) now → AddsFront now (f next) after → AddsFront before (flat_map f (range_with_len 1 n)) after
front_more f n k next before now after within same first second = subst (λ cs. AddsFront before cs after) (sym (split_at f 1 n k next within (omega arith))) (front_behind before now after _ _ first (front_first now after (f next) _ second))

pub room_more : (f : ℕ → List (List Lit)) (n k next : ℕ) (before now : FormulaParts) → k < n → next ≡ k + 1 → AddsAll before (flat_map f (range_with_len 1 k)) now → HasRoom before (flat_map f (range_with_len 1 n)) → HasRoom now (f next)
room_more f n k next before now within same first room =
    let all = subst (HasRoom before) (split_at f 1 n k next within (omega arith)) room in
    room_first now (f next) _ (room_behind before now (flat_map f (range_with_len 1 k)) _ first all)

pub few_more : (f : ℕ → List (List Lit)) (n k next most : ℕ) (before now : FormulaParts) → k < n → next ≡ k + 1 → AddsAll before (flat_map f (range_with_len 1 k)) now → length before.clauses + length (flat_map f (range_with_len 1 n)) < most → length now.clauses + length (f next) < most
few_more f n k next most before now within same first few =
    let all = subst (λ cs. length before.clauses + length cs < most) (split_at f 1 n k next within (omega arith)) few in
    few_first now (f next) (flat_map f (range_with_len (next + 1) (n - (k + 1)))) most (few_behind before now (flat_map f (range_with_len 1 k)) _ most first all)

pub on_err : {T E P : Type 0} (result : Result T E) → P → OnErr result P
on_err (Ok x) fact = tt
on_err (Err e) fact = fact
