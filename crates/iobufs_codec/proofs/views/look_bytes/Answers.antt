use Rattle.std.proofs.Common.{arith, ◌≡◌, ◌+◌, ℕ, List, Ok, length, drop, ap, subst, sym, ◌∙◌, length-drop}
use Rattle.iobufs_core.specs.MarkedText.{taken_view}
use Rattle.iobufs_core.specs.ReadLaws.{no_fault}
use Rattle.iobufs_core.specs.Spelled.{spelled_as_one}
use Rattle.iobufs_core.specs.Spelling.{spell, IsSpelledAt}
use Rattle.iobufs_core.specs.Wire.{IsLengthRead}
use Rattle.iobufs_codec.specs.Forms.{made_long}
use Rattle.iobufs_codec.proofs.views.look_bytes.Goals as goal

pub returns-clause-len : goal.returns-clause-len
returns-clause-len g c =
    let n = c.in_ok-n.n in
    let text = g.B.OwnedBuf.marked c.args.buf.now in
    let long : c.in_ok-n.len ≡ length (spell n) = c.in_ok-n.ensures.len in
    let all = ap length (g.met.B.OwnedBuf.same_text c.args.buf.now) in
    let made = subst (λ k. g.T.OwnedBytes.makes (taken_view text (c.args.skip + k) n) c.in_ok-made.made) long c.in_ok-made.ensures.ok in
    let whole = made_long g.T.OwnedBytes.bytes_of g.T.OwnedBytes.makes g.met.T.OwnedBytes.same_bytes text c.args.skip n c.in_ok-made.made
    (omega (arith, c.if-left-n.false, c.remaining.ensures, c.in_ok-n.ensures.within, long, all)) made in
    omega (arith, long, whole)

pub returns-in_err-n-clause-static_text : goal.returns-in_err-n-clause-static_text
returns-in_err-n-clause-static_text g c n there static free =
    let bytes = ap (drop c.args.skip) (g.met.B.OwnedBuf.same_text c.args.buf.now) in
    absurd (no_fault (drop c.args.skip (g.B.Buf.text c.args.buf.now)) c.args.range.now n c.in_err-n.field-0.0
    (subst (λ (xs : List ℕ). IsLengthRead xs c.args.range.now (Ok n)) bytes there.0) c.in_err-n.ensures.err)

pub returns-then-left-n-clause-static_text : goal.returns-then-left-n-clause-static_text
returns-then-left-n-clause-static_text g c n there static free =
    let bytes = ap (drop c.args.skip) (g.met.B.OwnedBuf.same_text c.args.buf.now) in
    let same : n ≡ c.in_ok-n.n =
    spelled_as_one (drop c.args.skip (g.B.Buf.text c.args.buf.now)) n c.in_ok-n.n
    (subst (λ (xs : List ℕ). IsSpelledAt xs n) bytes there.0.0)
    c.in_ok-n.ensures.ok.0 in
    let long : length (spell n) ≡ c.in_ok-n.len = ap (λ k. length (spell k)) same ∙ sym c.in_ok-n.ensures.len in
    absurd (omega (
      arith,
      there.1,
      same,
      long,
      ap length bytes,
      length-drop c.args.skip (g.B.Buf.text c.args.buf.now),
      c.in_ok-n.ensures.within,
      c.remaining.ensures,
      c.if-left-n.true,
    ))

pub returns-in_err-made-clause-static_text : goal.returns-in_err-made-clause-static_text
returns-in_err-made-clause-static_text g c n there static free =
    let bytes = ap (drop c.args.skip) (g.met.B.OwnedBuf.same_text c.args.buf.now) in
    let text = g.B.OwnedBuf.marked c.args.buf.now in
    let same : n ≡ c.in_ok-n.n =
    spelled_as_one (drop c.args.skip (g.B.Buf.text c.args.buf.now)) n c.in_ok-n.n
    (subst (λ (xs : List ℕ). IsSpelledAt xs n) bytes there.0.0)
    c.in_ok-n.ensures.ok.0 in
    let long : length (spell n) ≡ c.in_ok-n.len = ap (λ k. length (spell k)) same ∙ sym c.in_ok-n.ensures.len in
    let view : taken_view text (c.args.skip + length (spell n)) n ≡ taken_view text (c.args.skip + c.in_ok-n.len) c.in_ok-n.n =
    ap (λ k. taken_view text (c.args.skip + k) n) long ∙ ap (taken_view text (c.args.skip + c.in_ok-n.len)) same in
    let refused = c.in_err-made.ensures.static_text (ap (λ v. v.mark) (sym view) ∙ static) (subst g.T.OwnedBytes.is_free view free) in cc
