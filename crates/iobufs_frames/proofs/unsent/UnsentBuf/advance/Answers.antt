use Rattle.std.proofs.Common.{◌≡◌, ◌∙◌, ◌-◌, ◌≤◌, ◌++◌, ap, arith, drop, length, length-append, length-drop, refl, subst}
use Rattle.iobufs_core.specs.MarkedText.{MarkedText, text_rest}
use Rattle.iobufs_core.specs.ReadBytes.{bytes-rest}
use Rattle.iobufs_frames.specs.Unsent.{UnsentBytes, unsent_rest}
use Rattle.iobufs_frames.proofs.UnsentLaws.{body_goes}
use Rattle.iobufs_frames.proofs.unsent.UnsentBuf.advance.Goals as goal

pub invariant_of-self-2 : goal.invariant_of-self-2
invariant_of-self-2 c =
    let u = c.self.inside in
    let n = c.args.cnt - c.len-ahead.result in
    let within : n ≤ length u.body.bytes =
    omega (
      arith,
      c.requires,
      ap (λ (v : UnsentBytes). length v.bytes) c.self.view_is,
      length-append u.head.filled u.body.bytes,
      c.len-ahead.ensures.value,
    ) in
    omega (
      arith,
      c.self.invariant,
      ap length c.advance-2.ensures,
      length-drop c.len-ahead.result u.head.filled,
      ap (λ (t : MarkedText). length t.bytes) c.drop_front.ensures,
      ap length (bytes-rest u.body n within),
      length-drop n u.body.bytes,
    )

pub returns : goal.returns
returns c =
    let u = c.self.inside in
    let old : UnsentBytes = record { head = u.head.filled; body = u.body; bytes = u.head.filled ++ u.body.bytes } in
    let n = c.args.cnt in
    subst (λ (v : UnsentBytes). record {
      head = c.advance-2.new.self.filled;
      body = c.drop_front.new.body;
      bytes = c.advance-2.new.self.filled ++ c.drop_front.new.body.bytes;
    } ≡ unsent_rest v n) c.self.view_is
    (body_goes old c.advance-2.new.self.filled c.drop_front.new.body n refl (omega (arith, c.if-cnt-ahead.false, c.len-ahead.ensures.value))
    (omega (arith, c.requires, ap (λ (v : UnsentBytes). length v.bytes) c.self.view_is))
    (c.advance-2.ensures ∙ ap (λ k. drop k u.head.filled) c.len-ahead.ensures.value)
    (c.drop_front.ensures ∙ ap (λ k. text_rest u.body (n - k)) c.len-ahead.ensures.value))
