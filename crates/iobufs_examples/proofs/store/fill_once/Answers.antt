use Rattle.iobufs.proofs.CallerFacts.{room_less}
use Rattle.iobufs_examples.proofs.store.fill_once.Goals as goal

pub returns-clause-room : goal.returns-clause-room
returns-clause-room g c = room_less _ _ _ _ _ c.put_slice.ensures c.in_ok-n.ensures.bound.0
