-- Laws of `Takes` and `IsCause`, and the steps of a loop that takes the clauses of one item after another.
use Rattle.std.proofs.Common.{◌≡◌, ℕ, ◌+◌, ◌-◌, ◌<◌, ◌≤◌, List, [], ◌∷◌, ◌++◌, length, take, drop, get_or, map, refl, sym, ap, ◌∙◌, subst, ⊎_elim, ◌⊎◌, arith, append_assoc, length-append}
use Rattle.std.proofs.Common.{Result, Ok, Err, Bool, true, false, cond}
use Rattle.std.proofs.lemmas.Bool.{false≢true}
use Rattle.std.specs.Prelude.{OnOk, IfErr}
use Rattle.std.specs.List.{flat_map}
use Rattle.std.specs.List.{range_with_len}
use Rattle.std.proofs.Math.Nat.{sub_self}
use Rattle.std.proofs.lemmas.List.{append-nil, map-append, map-id, take_more, take-append-drop, take_all, drop_more, take_at, drop_at}
use Rattle.std.proofs.lemmas.List.Elements.{All-head, All-same, All-take, All-drop}
use Rattle.std.proofs.lemmas.List.FromFn.{take-map-range_with_len, map-range_with_len_more, get_or-range_with_len, length-range_with_len}
use Rattle.sat_core.specs.Clauses.{IsClause}
use Rattle.clause_list.specs.Ranges.{from_below}
use Rattle.std.proofs.lemmas.List.Sums.{sum_by-append, sum_by-cons}
use Rattle.std.proofs.lemmas.List.Concat.{flat_map-append}
use Rattle.sat_core.specs.declared.literal.Lit.{Lit}
use Rattle.clause_encoder.specs.declared.writer.WriteFault.{WriteFault}
use Rattle.clause_encoder.specs.declared.writer.WriteFault.TheVariants.{Full, Memory}
use Rattle.clause_encoder.specs.Writing.{AreClauses, Writing, Takes, Adds, IsCause, literal_count}

pub takes_none : (w : Writing) → Takes w [] w
takes_none w = record { vars = refl; most = refl; keeps = refl; count = omega arith; lits = omega arith; kept = λ k. sym (append-nil w.kept) }

pub takes_both : (u v w : Writing) (xs ys : List (List Lit)) → Takes u xs v → Takes v ys w → Takes u (xs ++ ys) w
takes_both u v w xs ys one other =
    let total : literal_count (xs ++ ys) ≡ literal_count xs + literal_count ys = sum_by-append length xs ys in
    record {
      vars = other.vars ∙ one.vars;
      most = other.most ∙ one.most;
      keeps = other.keeps ∙ one.keeps;
      count = omega (arith, length-append xs ys);
      lits = omega arith;
      kept = λ k. other.kept (one.keeps ∙ k) ∙ ap (λ kept. kept ++ ys) (one.kept k) ∙ append_assoc u.kept xs ys;
    }

pub cause_front : (fault : WriteFault) (w : Writing) (xs ys : List (List Lit)) → IsCause w xs fault → IsCause w (xs ++ ys) fault
unfolding IsCause
cause_front Full w xs ys much = let clauses : length (xs ++ ys) ≡ length xs + length ys = length-append xs ys in omega arith
cause_front Memory w xs ys much = tt

pub cause_rest : (fault : WriteFault) (w v : Writing) (xs ys : List (List Lit)) → Takes w xs v → IsCause v ys fault → IsCause w (xs ++ ys) fault
unfolding IsCause
cause_rest Full w v xs ys one much = let clauses : length (xs ++ ys) ≡ length xs + length ys = length-append xs ys in omega arith
cause_rest Memory w v xs ys one much = tt

pub one_clause : (vars : ℕ) (lits : List Lit) → AreClauses vars (lits ∷ []) → IsClause vars lits
one_clause vars lits fits = All-head (IsClause vars) lits [] fits.each

pub clauses_front : (vars : ℕ) (xs ys : List (List Lit)) → AreClauses vars (xs ++ ys) → AreClauses vars xs
clauses_front vars xs ys all = record { each = All-same (IsClause vars) xs (take (length xs) (xs ++ ys)) (sym (take_at xs ys (length xs) refl)) (All-take (IsClause vars) (length xs) (xs ++ ys) all.each) }

pub clauses_back : (vars : ℕ) (xs ys : List (List Lit)) → AreClauses vars (xs ++ ys) → AreClauses vars ys
clauses_back vars xs ys all = record { each = All-same (IsClause vars) ys (drop (length xs) (xs ++ ys)) (sym (drop_at xs ys (length xs) refl)) (All-drop (IsClause vars) (length xs) (xs ++ ys) all.each) }

-- what is written for the items of a list: what goes before the item of a place, what this gives, and what goes after
split_at : {X : Type 0} (of : X → List (List Lit)) (xs : List X) (i : ℕ) (d : X) → i < length xs → flat_map of xs ≡ (flat_map of (take i xs) ++ of (get_or xs i d)) ++ flat_map of (drop (i + 1) xs)
split_at of xs i d within = ap (flat_map of) (sym (take-append-drop i xs)) ∙ flat_map-append of (take i xs) (drop i xs) ∙ ap (λ ys. flat_map of (take i xs) ++ flat_map of ys) (drop_more xs i d within) ∙ sym (append_assoc (flat_map of (take i xs)) (of (get_or xs i d)) (flat_map of (drop (i + 1) xs)))

front_more : {X : Type 0} (of : X → List (List Lit)) (xs : List X) (i : ℕ) (d : X) → i < length xs → flat_map of (take (i + 1) xs) ≡ flat_map of (take i xs) ++ of (get_or xs i d)
front_more of xs i d within = ap (flat_map of) (take_more xs i d within) ∙ flat_map-append of (take i xs) (get_or xs i d ∷ []) ∙ ap (λ ys. flat_map of (take i xs) ++ ys) (append-nil (of (get_or xs i d)))

-- A loop over items that writes clauses for each: the step, the end, the exit in the middle, and what is still to be written.
pub each_more : {X : Type 0} (of : X → List (List Lit)) (xs : List X) (i : ℕ) (d : X) (u v w : Writing) (ys : List (List Lit)) → Takes u (flat_map of (take i xs)) v → Takes v ys w → i < length xs → ys ≡ of (get_or xs i d) → Takes u (flat_map of (take (i + 1) xs)) w
each_more of xs i d u v w ys before this within same = subst (λ zs. Takes u zs w) (sym (front_more of xs i d within)) (takes_both u v w (flat_map of (take i xs)) (of (get_or xs i d)) before (subst (λ zs. Takes v zs w) same this))

pub each_done : {X : Type 0} (of : X → List (List Lit)) (xs : List X) (i : ℕ) (u v : Writing) → Takes u (flat_map of (take i xs)) v → length xs ≤ i → Takes u (flat_map of xs) v
each_done of xs i u v taken past = subst (λ ys. Takes u (flat_map of ys) v) (take_all i xs past) taken

pub each_full : {X : Type 0} (of : X → List (List Lit)) (xs : List X) (i : ℕ) (d : X) (u v : Writing) (fault : WriteFault) (ys : List (List Lit)) → Takes u (flat_map of (take i xs)) v → IsCause v ys fault → i < length xs → ys ≡ of (get_or xs i d) → IsCause u (flat_map of xs) fault
each_full of xs i d u v fault ys before much within same =
    subst (λ zs. IsCause u zs fault) (sym (split_at of xs i d within)) (cause_front fault u (flat_map of (take i xs) ++ of (get_or xs i d)) (flat_map of (drop (i + 1) xs)) (cause_rest fault u v (flat_map of (take i xs)) (of (get_or xs i d)) before (subst (λ zs. IsCause v zs fault) same much)))

pub each_fits : {X : Type 0} (of : X → List (List Lit)) (xs : List X) (i : ℕ) (d : X) (vars now : ℕ) (ys : List (List Lit)) → AreClauses vars (flat_map of xs) → now ≡ vars → i < length xs → ys ≡ of (get_or xs i d) → AreClauses now ys
each_fits of xs i d vars now ys all kept within same =
    let whole : AreClauses vars ((flat_map of (take i xs) ++ of (get_or xs i d)) ++ flat_map of (drop (i + 1) xs)) = subst (AreClauses vars) (split_at of xs i d within) all in
    rw (same, kept) (clauses_back vars (flat_map of (take i xs)) (of (get_or xs i d)) (clauses_front vars (flat_map of (take i xs) ++ of (get_or xs i d)) (flat_map of (drop (i + 1) xs)) whole))

-- A loop over a range.
range_push : (a n j : ℕ) → a + n ≡ j → range_with_len a (n + 1) ≡ range_with_len a n ++ j ∷ []
range_push a n j e = sym (map-id (range_with_len a (n + 1))) ∙ map-range_with_len_more (λ x. x) a n j e ∙ ap (λ xs. xs ++ j ∷ []) (map-id (range_with_len a n))

range_more : (from t : ℕ) → from ≤ t → from_below from (t + 1) ≡ from_below from t ++ t ∷ []
unfolding from_below
range_more from t h = let e : t + 1 - from ≡ t - from + 1 = omega arith in ap (range_with_len from) e ∙ range_push from (t - from) t (omega arith)

range_take : (from t end : ℕ) → from ≤ t → t ≤ end → take (t - from) (from_below from end) ≡ from_below from t
unfolding from_below
range_take from t end h k = ap (take (t - from)) (sym (map-id (range_with_len from (end - from)))) ∙ take-map-range_with_len (λ x. x) from (end - from) (t - from) (omega arith) ∙ map-id (range_with_len from (t - from))

pub range_none : (of : ℕ → List (List Lit)) (from t : ℕ) (w : Writing) → t ≡ from → Takes w (flat_map of (from_below from t)) w
unfolding from_below
range_none of from t w same = rw (same, sub_self) (takes_none w)

pub range_step : (of : ℕ → List (List Lit)) (from t : ℕ) (u v w : Writing) (ys : List (List Lit)) → Takes u (flat_map of (from_below from t)) v → Takes v ys w → from ≤ t → ys ≡ of t → Takes u (flat_map of (from_below from (t + 1))) w
range_step of from t u v w ys before this within same =
    rw (range_more from t within, flat_map-append) (takes_both u v w (flat_map of (from_below from t)) (of t ++ []) before (subst (λ zs. Takes v zs w) (same ∙ sym (append-nil (of t))) this))

at_range : (from t end : ℕ) → from ≤ t → t < end → get_or (from_below from end) (t - from) 0 ≡ t
unfolding from_below
at_range from t end h k = get_or-range_with_len from (end - from) (t - from) 0 (omega arith) ∙ omega arith

in_range_len : (from t end : ℕ) → from ≤ t → t < end → t - from < length (from_below from end)
unfolding from_below
in_range_len from t end h k = rw length-range_with_len (omega arith)

empty_range : (from t : ℕ) → t ≤ from → from_below from t ≡ []
unfolding from_below
empty_range from t h = let e : t - from ≡ 0 = omega arith in rw e

pub range_done : (of : ℕ → List (List Lit)) (from t end : ℕ) (u v : Writing) → Takes u (flat_map of (from_below from t)) v → from ≤ t → end ≤ t → (t ≤ end) ⊎ (t ≡ from) → Takes u (flat_map of (from_below from end)) v
range_done of from t end u v taken h k last =
    ⊎_elim (λ l. subst (λ n. Takes u (flat_map of (from_below from n)) v) (omega arith) taken)
    (λ e. subst (λ ns. Takes u (flat_map of ns) v) (empty_range from t (omega arith) ∙ sym (empty_range from end (omega arith))) taken) last

pub range_full : (of : ℕ → List (List Lit)) (from t end : ℕ) (u v : Writing) (fault : WriteFault) (ys : List (List Lit)) → Takes u (flat_map of (from_below from t)) v → IsCause v ys fault → from ≤ t → t < end → ys ≡ of t → IsCause u (flat_map of (from_below from end)) fault
range_full of from t end u v fault ys before much h k same =
    each_full of (from_below from end) (t - from) 0 u v fault ys (subst (λ zs. Takes u (flat_map of zs) v) (sym (range_take from t end h (omega arith))) before) much (in_range_len from t end h k) (same ∙ ap of (sym (at_range from t end h k)))

pub range_fits : (of : ℕ → List (List Lit)) (from t end vars now : ℕ) (ys : List (List Lit)) → AreClauses vars (flat_map of (from_below from end)) → now ≡ vars → from ≤ t → t < end → ys ≡ of t → AreClauses now ys
range_fits of from t end vars now ys all kept h k same =
    each_fits of (from_below from end) (t - from) 0 vars now ys all kept (in_range_len from t end h k) (same ∙ ap of (sym (at_range from t end h k)))

pub takes_one : (clause : List Lit) → literal_count (clause ∷ []) ≡ length clause
takes_one clause = omega (arith, sum_by-cons length clause [])

-- A loop over a range that adds a literal for each number.
pub adds_none : (of : ℕ → Lit) (from t : ℕ) (w : Writing) → t ≡ from → Adds w (map of (from_below from t)) w
unfolding from_below
adds_none of from t w same = rw (same, sub_self) (ap (λ lits. record w { open_lits = lits }) (sym (append-nil w.open_lits)))

pub adds_step : (of : ℕ → Lit) (from t : ℕ) (u v w : Writing) → Adds u (map of (from_below from t)) v → Adds v (of t ∷ []) w → from ≤ t → Adds u (map of (from_below from (t + 1))) w
adds_step of from t u v w before this within =
    this ∙ (ap {A = Writing} (λ z. record z { open_lits = z.open_lits ++ of t ∷ [] }) before ∙ (ap (λ lits. record u { open_lits = lits }) (append_assoc u.open_lits (map of (from_below from t)) (of t ∷ [])) ∙ ap (λ lits. record u { open_lits = u.open_lits ++ lits }) (sym (ap (map of) (range_more from t within) ∙ map-append of (from_below from t) (t ∷ [])))))

pub adds_done : (of : ℕ → Lit) (from t end : ℕ) (u v : Writing) → Adds u (map of (from_below from t)) v → from ≤ t → end ≤ t → (t ≤ end) ⊎ (t ≡ from) → Adds u (map of (from_below from end)) v
adds_done of from t end u v added h k last =
    ⊎_elim (λ l. subst (λ n. Adds u (map of (from_below from n)) v) (omega arith) added)
    (λ e. subst (λ ns. Adds u (map of ns) v) (empty_range from t (omega arith) ∙ sym (empty_range from end (omega arith))) added) last

-- Clauses that are written behind others.
pub then_ok : (r : Result (Unit {0}) WriteFault) (u v w : Writing) (xs ys zs : List (List Lit)) → Takes u xs v → OnOk r (Takes v ys w) → xs ++ ys ≡ zs → OnOk r (Takes u zs w)
then_ok (Ok done) u v w xs ys zs one other same = subst (λ cs. Takes u cs w) same (takes_both u v w xs ys one other)
then_ok (Err fault) u v w xs ys zs one other same = tt

pub then_err : (r : Result (Unit {0}) WriteFault) (u v : Writing) (xs ys zs : List (List Lit)) → Takes u xs v → IfErr r (IsCause v ys) → xs ++ ys ≡ zs → IfErr r (IsCause u zs)
then_err (Ok done) u v xs ys zs one other same = tt
then_err (Err fault) u v xs ys zs one other same = subst (λ cs. IsCause u cs fault) same (cause_rest fault u v xs ys one other)

pub first_err : (fault : WriteFault) (u : Writing) (xs ys zs : List (List Lit)) → IsCause u xs fault → xs ++ ys ≡ zs → IsCause u zs fault
first_err fault u xs ys zs cause same = subst (λ cs. IsCause u cs fault) same (cause_front fault u xs ys cause)

-- a list that is taken whatever the test says, or where it holds
pub either_way : {X : Type 0} (b : Bool) (x : X) → x ≡ cond b x x
either_way true x = refl
either_way false x = refl

pub where_true : {X : Type 0} (b : Bool) (x y : X) → b ≡ true → x ≡ cond b x y
where_true true x y holds = refl
where_true false x y holds = absurd (false≢true holds)

-- a front that is not taken is the cause for more, too
pub cause_either : (fault : WriteFault) (b : Bool) (u : Writing) (xs ys : List (List Lit)) → IsCause u xs fault → IsCause u (cond b (xs ++ ys) xs) fault
cause_either fault true u xs ys cause = cause_front fault u xs ys cause
cause_either fault false u xs ys cause = cause
