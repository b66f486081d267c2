-- What calls that print leave, one after another. `Prints` and `PrintsAllBut` are for calls in a row, `HasPrinted`
-- for loops. A law named `-then` is of a call that went well and the next one; those named `-stopped`, `-broken`
-- and `-cut` are of a call that failed, after which nothing more is printed.
use Rattle.std.proofs.Common.{◌≡◌, ℕ, ◌≤◌, List, [], ◌++◌, sym, ap, ◌∙◌, append-nil, arith}
use Rattle.std.specs.Prelude.{Result, Ok, Err, IsErr}
use Rattle.vss_io.specs.Faults.{Rose}
use Rattle.vss_io.specs.Shown.{Output}
use Rattle.vss_io.specs.Written.{followed_by, Prints, PrintsAllBut, HasPrinted}
use Rattle.vss_io.proofs.PrintingLaws.{PutsFront-longer, PutsFront-after, PutsFront-put, PutsFront-then, followed_by-after, followed_by-put, followed_by-then, PutsAllBut-nothing, PutsAllBut-add, PutsAllBut-put, PutsAllBut-then}

-- a count that rose later rose since an earlier moment too
pub Rose-earlier : (before between now : ℕ) → before ≤ between → Rose between now → Rose before now
Rose-earlier before between now le rose = omega arith

-- one text is printed after another
pub Prints-then : {T E U F : Type 0} (before between now : Output) (one other text : List ℕ) (x : T) (r : Result U F)
    → Prints {T = T} {E = E} before between one (Ok x) → Prints between now other r → one ++ other ≡ text → Prints before now text r
Prints-then before between now one other text x (Ok y) first second both = record {
  front = PutsFront-after before.written between.written now.written one other text first.whole second.front both;
  whole = followed_by-after before.written between.written now.written one other text first.whole second.whole both;
  never_falls = omega (arith, first.never_falls, second.never_falls);
  cause = tt;
}
Prints-then before between now one other text x (Err e) first second both = record {
  front = PutsFront-after before.written between.written now.written one other text first.whole second.front both;
  whole = tt;
  never_falls = omega (arith, first.never_falls, second.never_falls);
  cause = Rose-earlier before.faults between.faults now.faults first.never_falls second.cause;
}

-- of a longer text too a front is printed
pub Prints-stopped : {T E U F : Type 0} (before now : Output) (one other text : List ℕ) (e : E) (s : Result U F)
    → Prints {T = T} {E = E} before now one (Err e) → one ++ other ≡ text → IsErr s → Prints before now text s
Prints-stopped before now one other text e (Err f) first both is = record {
  front = PutsFront-longer before.written now.written one other text first.front both;
  whole = tt;
  never_falls = first.never_falls;
  cause = first.cause;
}
Prints-stopped before now one other text e (Ok x) first both is = absurd cc

-- a text is printed behind what is kept of another one, and the last of it is kept
pub PrintsAllBut-then : {T E U F : Type 0} (before between now : Output) (kept keeps one other text : List ℕ) (x : T) (r : Result U F)
    → PrintsAllBut {T = T} {E = E} before between kept one (Ok x) → PrintsAllBut between now keeps (kept ++ other) r → one ++ other ≡ text
    → PrintsAllBut before now keeps text r
PrintsAllBut-then before between now kept keeps one other text x (Ok y) first second both = record {
  front = PutsFront-then before.written between.written now.written kept one other [] text first.added second.front (rw (append-nil other) both);
  added = PutsAllBut-then before.written between.written now.written kept keeps one other text first.added second.added both;
  never_falls = omega (arith, first.never_falls, second.never_falls);
  cause = tt;
}
PrintsAllBut-then before between now kept keeps one other text x (Err e) first second both = record {
  front = PutsFront-then before.written between.written now.written kept one other [] text first.added second.front (rw (append-nil other) both);
  added = tt;
  never_falls = omega (arith, first.never_falls, second.never_falls);
  cause = Rose-earlier before.faults between.faults now.faults first.never_falls second.cause;
}

-- a text is printed behind what is kept of another one, and nothing is kept
pub PrintsAllBut-ended : {T E U F : Type 0} (before between now : Output) (kept one other text : List ℕ) (x : T) (r : Result U F)
    → PrintsAllBut {T = T} {E = E} before between kept one (Ok x) → Prints between now (kept ++ other) r → one ++ other ≡ text
    → Prints before now text r
PrintsAllBut-ended before between now kept one other text x (Ok y) first second both = record {
  front = PutsFront-then before.written between.written now.written kept one other [] text first.added second.front (rw (append-nil other) both);
  whole = followed_by-then before.written between.written now.written kept one other text first.added second.whole both;
  never_falls = omega (arith, first.never_falls, second.never_falls);
  cause = tt;
}
PrintsAllBut-ended before between now kept one other text x (Err e) first second both = record {
  front = PutsFront-then before.written between.written now.written kept one other [] text first.added second.front (rw (append-nil other) both);
  whole = tt;
  never_falls = omega (arith, first.never_falls, second.never_falls);
  cause = Rose-earlier before.faults between.faults now.faults first.never_falls second.cause;
}

-- of a longer text too a front is printed, whatever is kept
pub PrintsAllBut-stopped : {T E U F : Type 0} (before now : Output) (kept keeps one other text : List ℕ) (e : E) (s : Result U F)
    → PrintsAllBut {T = T} {E = E} before now kept one (Err e) → one ++ other ≡ text → IsErr s → PrintsAllBut before now keeps text s
PrintsAllBut-stopped before now kept keeps one other text e (Err f) first both is = record {
  front = PutsFront-longer before.written now.written one other text first.front both;
  added = tt;
  never_falls = first.never_falls;
  cause = first.cause;
}
PrintsAllBut-stopped before now kept keeps one other text e (Ok x) first both is = absurd cc

-- the same, where nothing is to be kept
pub PrintsAllBut-broken : {T E U F : Type 0} (before now : Output) (kept one other text : List ℕ) (e : E) (s : Result U F)
    → PrintsAllBut {T = T} {E = E} before now kept one (Err e) → one ++ other ≡ text → IsErr s → Prints before now text s
PrintsAllBut-broken before now kept one other text e (Err f) first both is = record {
  front = PutsFront-longer before.written now.written one other text first.front both;
  whole = tt;
  never_falls = first.never_falls;
  cause = first.cause;
}
PrintsAllBut-broken before now kept one other text e (Ok x) first both is = absurd cc

-- at first all is left
pub HasPrinted-nothing : (output : Output) (text : List ℕ) → HasPrinted output output text text
HasPrinted-nothing output text = record { all_but = PutsAllBut-nothing output.written text; never_falls = omega arith }

-- the first of what is left is printed, but for what is kept of it
pub HasPrinted-more : {T E : Type 0} (before between now : Output) (left text keeps first rest : List ℕ) (x : T)
    → HasPrinted before between left text → PrintsAllBut {T = T} {E = E} between now keeps first (Ok x) → first ++ rest ≡ left → HasPrinted before now (keeps ++ rest) text
HasPrinted-more before between now left text keeps first rest x so_far more split = record {
  all_but = PutsAllBut-add before.written between.written now.written left text first keeps rest so_far.all_but more.added split;
  never_falls = omega (arith, so_far.never_falls, more.never_falls);
}

-- the first of what is left is printed
pub HasPrinted-put : {T E : Type 0} (before between now : Output) (left text first rest : List ℕ) (x : T)
    → HasPrinted before between left text → Prints {T = T} {E = E} between now first (Ok x) → first ++ rest ≡ left → HasPrinted before now rest text
HasPrinted-put before between now left text first rest x so_far more split = record {
  all_but = PutsAllBut-put before.written between.written now.written left text first rest so_far.all_but more.whole split;
  never_falls = omega (arith, so_far.never_falls, more.never_falls);
}

-- a front of what is left is printed, and no more
pub HasPrinted-stopped : {T E U F : Type 0} (before between now : Output) (left text keeps kept first rest : List ℕ) (e : E) (s : Result U F)
    → HasPrinted before between left text → PrintsAllBut {T = T} {E = E} between now keeps first (Err e) → first ++ rest ≡ left → IsErr s → PrintsAllBut before now kept text s
HasPrinted-stopped before between now left text keeps kept first rest e (Err f) so_far more split is = record {
  front = PutsFront-put before.written between.written now.written left text first rest so_far.all_but more.front split;
  added = tt;
  never_falls = omega (arith, so_far.never_falls, more.never_falls);
  cause = Rose-earlier before.faults between.faults now.faults so_far.never_falls more.cause;
}
HasPrinted-stopped before between now left text keeps kept first rest e (Ok x) so_far more split is = absurd cc

-- the same, where nothing is to be kept
pub HasPrinted-broken : {T E U F : Type 0} (before between now : Output) (left text keeps first rest : List ℕ) (e : E) (s : Result U F)
    → HasPrinted before between left text → PrintsAllBut {T = T} {E = E} between now keeps first (Err e) → first ++ rest ≡ left → IsErr s → Prints before now text s
HasPrinted-broken before between now left text keeps first rest e (Err f) so_far more split is = record {
  front = PutsFront-put before.written between.written now.written left text first rest so_far.all_but more.front split;
  whole = tt;
  never_falls = omega (arith, so_far.never_falls, more.never_falls);
  cause = Rose-earlier before.faults between.faults now.faults so_far.never_falls more.cause;
}
HasPrinted-broken before between now left text keeps first rest e (Ok x) so_far more split is = absurd cc

-- the same of a call that keeps nothing
pub HasPrinted-cut : {T E U F : Type 0} (before between now : Output) (left text kept first rest : List ℕ) (e : E) (s : Result U F)
    → HasPrinted before between left text → Prints {T = T} {E = E} between now first (Err e) → first ++ rest ≡ left → IsErr s → PrintsAllBut before now kept text s
HasPrinted-cut before between now left text kept first rest e (Err f) so_far more split is = record {
  front = PutsFront-put before.written between.written now.written left text first rest so_far.all_but more.front split;
  added = tt;
  never_falls = omega (arith, so_far.never_falls, more.never_falls);
  cause = Rose-earlier before.faults between.faults now.faults so_far.never_falls more.cause;
}
HasPrinted-cut before between now left text kept first rest e (Ok x) so_far more split is = absurd cc

-- all that is left is printed
pub HasPrinted-ended : {T E : Type 0} (before between now : Output) (left text : List ℕ) (r : Result T E)
    → HasPrinted before between left text → Prints between now left r → Prints before now text r
HasPrinted-ended before between now left text (Ok x) so_far more = record {
  front = PutsFront-put before.written between.written now.written left text left [] so_far.all_but more.front (append-nil left);
  whole = followed_by-put before.written between.written now.written left text so_far.all_but more.whole;
  never_falls = omega (arith, so_far.never_falls, more.never_falls);
  cause = tt;
}
HasPrinted-ended before between now left text (Err e) so_far more = record {
  front = PutsFront-put before.written between.written now.written left text left [] so_far.all_but more.front (append-nil left);
  whole = tt;
  never_falls = omega (arith, so_far.never_falls, more.never_falls);
  cause = Rose-earlier before.faults between.faults now.faults so_far.never_falls more.cause;
}

-- all that is left is printed, but for what is kept of it
pub HasPrinted-kept : {T E : Type 0} (before between now : Output) (left text keeps : List ℕ) (r : Result T E)
    → HasPrinted before between left text → PrintsAllBut between now keeps left r → PrintsAllBut before now keeps text r
HasPrinted-kept before between now left text keeps (Ok x) so_far more = record {
  front = PutsFront-put before.written between.written now.written left text left [] so_far.all_but more.front (append-nil left);
  added = rw (append-nil keeps) at (PutsAllBut-add before.written between.written now.written left text left keeps [] so_far.all_but more.added (append-nil left));
  never_falls = omega (arith, so_far.never_falls, more.never_falls);
  cause = tt;
}
HasPrinted-kept before between now left text keeps (Err e) so_far more = record {
  front = PutsFront-put before.written between.written now.written left text left [] so_far.all_but more.front (append-nil left);
  added = tt;
  never_falls = omega (arith, so_far.never_falls, more.never_falls);
  cause = Rose-earlier before.faults between.faults now.faults so_far.never_falls more.cause;
}

-- where nothing is kept, all is printed
pub PrintsAllBut-whole : {T E : Type 0} (before now : Output) (kept text : List ℕ) (r : Result T E)
    → kept ≡ [] → PrintsAllBut before now kept text r → Prints before now text r
PrintsAllBut-whole before now kept text (Ok x) none printed = record {
  front = printed.front;
  whole = printed.added.grew ∙ ap (λ put. followed_by before.written put) (sym (append-nil printed.added.put) ∙ ap (λ k. printed.added.put ++ k) (sym none) ∙ printed.added.rest);
  never_falls = printed.never_falls;
  cause = tt;
}
PrintsAllBut-whole before now kept text (Err e) none printed = record { front = printed.front; whole = tt; never_falls = printed.never_falls; cause = printed.cause }
