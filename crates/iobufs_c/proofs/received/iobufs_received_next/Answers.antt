use Rattle.iobufs_c.proofs.received.iobufs_received_next.Goals as goal

pub returns-clause-next : goal.returns-clause-next
returns-clause-next c = record {
  found = c.next-found.result;
  told = c.tell.ensures.told;
  next = rw c.get.ensures.value at c.next-found.ensures.next;
  rest = rw c.get.ensures.value at c.next-found.ensures.left;
}
