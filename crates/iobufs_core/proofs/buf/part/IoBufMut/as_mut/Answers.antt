use Rattle.std.proofs.Common.{◌++◌, length, drop, take, refl, length-take-le}
use Rattle.std.proofs.lemmas.List.{drop_at}
use Rattle.iobufs_core.proofs.buf.part.IoBufMut.as_mut.Goals as goal

pub returns : goal.returns
returns c =
    let s = c.self.inside in
    let bytes = s.space.filled in
    let rest = drop s.start bytes in
    let front = length-take-le s.start bytes c.self.invariant.1 in (
      (
        refl,
        λ w. rw (← c.self.view_is)
            (let filled = drop_at (take s.start bytes) (take (length rest) (w ++ drop (length w) rest)) s.start front in cc),
      ),
      record { writes_back = tt; value = rw (← c.self.view_is) c.slice_mut.ensures.value },
    )
