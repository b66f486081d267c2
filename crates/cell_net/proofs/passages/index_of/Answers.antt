-- Why `index_of` does what its contract says.
use Rattle.cell_net.proofs.passages.index_of.Goals as goal

pub returns : goal.returns
returns c = record {
  passages_are = rw c.as_slice.ensures at c.in_ok-passages.ensures.0;
  starts_are = rw c.deref.ensures.value at c.in_ok-starts.ensures.0;
  for_each_end = rw (c.in_ok-starts.ensures.1, c.len.ensures);
}
