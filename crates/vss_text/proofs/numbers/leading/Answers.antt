-- Why `leading` does what its contract says.
use Rattle.std.proofs.Common.{◌≡◌, true, false, arith, refl}
use Rattle.vss_text.proofs.NumberLemmas.{AreRead-more, AreRead-number, AreRead-short, AreRead-no_digit, AreRead-ends, AreRead-stops, AreRead-room}
use Rattle.vss_text.proofs.numbers.leading.Goals as goal

pub returns-then-count-eq0-clause-missed : goal.returns-then-count-eq0-clause-missed
returns-then-count-eq0-clause-missed c = AreRead-no_digit c.args.text.now c.args.end c.loop-count.count c.loop-count.value c.requires c.if-count-eq0.true (omega arith) c.if-byte-end.false

pub returns-else-count-eq0-clause-short : goal.returns-else-count-eq0-clause-short
returns-else-count-eq0-clause-short c = AreRead-short c.args.text.now c.loop-count.count c.loop-count.value c.loop-count.invariant (omega arith)

pub returns-else-count-eq0-clause-found : goal.returns-else-count-eq0-clause-found
returns-else-count-eq0-clause-found c = AreRead-number c.args.text.now c.args.end c.loop-count.count c.loop-count.value c.loop-count.invariant (omega arith) (omega arith) c.if-byte-end.false

pub returns-then-byte-end-clause-missed : goal.returns-then-byte-end-clause-missed
returns-then-byte-end-clause-missed c =
    AreRead-stops c.args.text.now c.args.end c.loop-count.count c.loop-count.value c.requires c.loop-count.invariant (omega arith) c.if-byte-end.true
    (λ fine. let never : false ≡ true = c.if-not-goes_on.ensures.1 fine in cc)

pub overflow_mul-value : goal.overflow_mul-value
overflow_mul-value c =
    let fine = c.if-not-goes_on.ensures.0 refl in
    omega (arith, AreRead-room c.args.text.now c.loop-count.count c.loop-count.value c.loop-count.invariant (omega arith) fine.2)

pub overflow_add-value : goal.overflow_add-value
overflow_add-value c =
    let fine = c.if-not-goes_on.ensures.0 refl in
    omega (arith, c.from.ensures, fine.1, AreRead-room c.args.text.now c.loop-count.count c.loop-count.value c.loop-count.invariant (omega arith) fine.2)

pub loop-count-preserved : goal.loop-count-preserved
loop-count-preserved c =
    let fine = c.if-not-goes_on.ensures.0 refl in
    rw c.from.ensures (AreRead-more c.args.text.now c.loop-count.count c.loop-count.value c.loop-count.invariant c.loop-count-test.true fine)

pub returns-clause-missed : goal.returns-clause-missed
returns-clause-missed c = AreRead-ends c.args.text.now c.args.end c.loop-count.count c.loop-count.value c.loop-count.invariant (omega arith)
