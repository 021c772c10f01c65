use Rattle.iobufs.proofs.Text.{ap, arith, byte-at_place, bytes-kept, length}
use Rattle.iobufs.proofs.bufs.IoBufs.byte_behind.Goals as goal

pub locate-place-requires : goal.locate-place-requires
locate-place-requires c = omega (arith, ap length (bytes-kept c.self.inside _ c.self.view_is))

pub returns : goal.returns
returns c = cc (
  c.as_ref-bytes.ensures,
  c.piece.ensures,
  byte-at_place _ _ _ _ c.locate-place.ensures.place,
  bytes-kept c.self.inside _ c.self.view_is,
)
