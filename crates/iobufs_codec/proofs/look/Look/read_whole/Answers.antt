use Rattle.std.proofs.Common.{ap, arith, ◌∙◌}
use Rattle.iobufs_codec.proofs.DecodedBack.{none_read, rest_left}
use Rattle.iobufs_codec.specs.Forms.{read_back}
use Rattle.iobufs_codec.proofs.look.Look.read_whole.Goals as goal

pub returns-in_err-value-clause-back : goal.returns-in_err-value-clause-back
returns-in_err-value-clause-back g c = λ value rest ok e.
    let bytes = g.B.Buf.text c.args.buf.now in
    none_read g.Self.Look.same value rest bytes c.from_residual.result _ c.from_residual.ensures.1
    (g.met.Self.Look.form.refuses value c.args.cfg.now (g.B.OwnedBuf.marked c.args.buf.now) 0 rest _ ok
    (g.met.B.OwnedBuf.same_text c.args.buf.now ∙ e) c.in_err-value.ensures.fault)

pub returns-clause-back : goal.returns-clause-back
returns-clause-back g c = λ value rest ok e.
    let w = g.Self.EncodeSize.written in
    let x = c.in_ok-value.value in
    let len = c.in_ok-value.len in
    let bytes = g.B.Buf.text c.args.buf.now in
    let is = read_back g.met.Self.Look.form value x c.args.cfg.now (g.B.OwnedBuf.marked c.args.buf.now) 0 rest ok
    (g.met.B.OwnedBuf.same_text c.args.buf.now ∙ e) c.in_ok-value.ensures.found in
    let left = ap g.B.Buf.text c.advance.ensures
    ∙ g.met.B.Buf.drops c.args.buf.now len (omega (arith, c.in_ok-value.ensures.within)) in
    (is, rest_left (w value) (w x) bytes rest _ len e (g.met.Self.Look.form.same_written value x is) c.in_ok-value.ensures.len left)
