use Rattle.iobufs.proofs.Text.{IfOk, bytes-taken, subst, ◌≡◌}
use Rattle.iobufs.proofs.bufs.reading.IoBufsBuf.copy_to_bytes.Goals as goal

pub returns-then-n-chunk-clause-ok : goal.returns-then-n-chunk-clause-ok
returns-then-n-chunk-clause-ok c = subst (λ x. IfOk c.take_owned_after.result (λ v. v ≡ x))
    (bytes-taken c.args.self.now c.args.n) c.take_owned_after.ensures.ok
