use Rattle.std.proofs.Common.{◌≡◌, ◌∙◌, arith, ap, sym, Some}
use Rattle.std.specs.Prelude.{slice_get, drop}
use Rattle.iobufs_core.proofs.Behind.{first_behind}
use Rattle.iobufs_core.proofs.Reading.{one_byte, nothing_open, end_from_none}
use Rattle.iobufs_core.proofs.codec.length.length_at.Goals as goal

pub returns-then-byte-lt128-clause-ok : goal.returns-then-byte-lt128-clause-ok
returns-then-byte-lt128-clause-ok g c =
    let text = drop c.args.skip (g.B.Buf.text c.args.buf.now) in
    let first = first_behind (g.B.Buf.text c.args.buf.now) c.args.skip in
    let at : slice_get text 0 ≡ Some c.from.result = first ∙ sym c.byte_at.ensures ∙ c.in-Some.is ∙ ap Some (sym c.from.ensures) in
    one_byte text c.from.result at (omega arith)

pub returns-in_default-clause-err : goal.returns-in_default-clause-err
returns-in_default-clause-err g c =
    let text = drop c.args.skip (g.B.Buf.text c.args.buf.now) in
    let first = first_behind (g.B.Buf.text c.args.buf.now) c.args.skip in
    nothing_open text (end_from_none text 0 (first ∙ sym c.byte_at.ensures ∙ c.in_default.is))
