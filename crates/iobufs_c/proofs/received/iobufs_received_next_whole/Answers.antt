use Rattle.iobufs_c.proofs.received.iobufs_received_next_whole.Goals as goal

pub returns-clause-next : goal.returns-clause-next
returns-clause-next c = record {
  found = c.next_whole-found.result;
  told = c.tell_whole.ensures.told;
  next = rw c.get.ensures.value at c.next_whole-found.ensures.next;
  rest = rw c.get.ensures.value at c.next_whole-found.ensures.left;
}
