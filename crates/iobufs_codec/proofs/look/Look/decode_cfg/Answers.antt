use Rattle.std.proofs.Common.{[], length, ap, arith, sym, ◌∙◌}
use Rattle.std.proofs.lemmas.List.{append-nil}
use Rattle.iobufs_codec.proofs.DecodedBack.{none_decoded}
use Rattle.iobufs_codec.specs.Forms.{read_back}
use Rattle.iobufs_codec.proofs.look.Look.decode_cfg.Goals as goal

pub returns-in_err-value-clause-back : goal.returns-in_err-value-clause-back
returns-in_err-value-clause-back g c = λ value ok e.
    let w = g.Self.EncodeSize.written in
    let text = g.B.OwnedBuf.marked c.args.buf.now in
    none_decoded g.Self.Look.same value c.from_residual.result _ c.from_residual.ensures.1
    (g.met.Self.Look.form.refuses value c.args.cfg.now text 0 [] _ ok
    (g.met.B.OwnedBuf.same_text c.args.buf.now ∙ e ∙ sym (append-nil (w value))) c.in_err-value.ensures.fault)

pub returns-then-left-ne0-clause-back : goal.returns-then-left-ne0-clause-back
returns-then-left-ne0-clause-back g c = λ value ok e.
    let w = g.Self.EncodeSize.written in
    let x = c.in_ok-value.value in
    let text = g.B.OwnedBuf.marked c.args.buf.now in
    let is = read_back g.met.Self.Look.form value x c.args.cfg.now text 0 [] ok
    (g.met.B.OwnedBuf.same_text c.args.buf.now ∙ e ∙ sym (append-nil (w value))) c.in_ok-value.ensures.found in
    let one = ap length (g.met.Self.Look.form.same_written value x is) in
    absurd (omega (arith, ap length e, one, c.in_ok-value.ensures.len, c.remaining.ensures, c.if-left-ne0.true))

pub returns-clause-back : goal.returns-clause-back
returns-clause-back g c = λ value ok e.
    read_back g.met.Self.Look.form value c.in_ok-value.value c.args.cfg.now (g.B.OwnedBuf.marked c.args.buf.now) 0 [] ok
    (g.met.B.OwnedBuf.same_text c.args.buf.now ∙ e ∙ sym (append-nil (g.Self.EncodeSize.written value))) c.in_ok-value.ensures.found
