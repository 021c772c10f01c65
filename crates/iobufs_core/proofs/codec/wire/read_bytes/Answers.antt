use Rattle.std.proofs.Common.{arith, ◌≡◌, ℕ, List, Ok, length, ap, subst, sym, ◌∙◌}
use Rattle.iobufs_core.specs.ReadLaws.{no_fault}
use Rattle.iobufs_core.specs.Spelled.{spelled_as_one}
use Rattle.iobufs_core.specs.Spelling.{spell, IsSpelledAt}
use Rattle.iobufs_core.specs.MarkedText.{taken_view}
use Rattle.iobufs_core.specs.Wire.{IsLengthRead}
use Rattle.iobufs_core.proofs.codec.wire.read_bytes.Goals as goal

pub returns-in_err-found-clause-static_text : goal.returns-in_err-found-clause-static_text
returns-in_err-found-clause-static_text g c n there static free =
    let bytes = g.met.B.OwnedBuf.same_text c.args.buf.now in
    absurd (no_fault (g.B.Buf.text c.args.buf.now) c.args.range.now n c.in_err-found.field-0.0
    (subst (λ (xs : List ℕ). IsLengthRead xs c.args.range.now (Ok n)) bytes there.0) c.in_err-found.ensures.err)

pub returns-then-remaining-found-clause-static_text : goal.returns-then-remaining-found-clause-static_text
returns-then-remaining-found-clause-static_text g c n there static free =
    let bytes = g.met.B.OwnedBuf.same_text c.args.buf.now in
    let same : n ≡ c.in_ok-found.found.value =
    spelled_as_one (g.B.Buf.text c.args.buf.now) n c.in_ok-found.found.value (subst (λ (xs : List ℕ). IsSpelledAt xs n) bytes there.0.0)
    c.in_ok-found.ensures.ok.0.0 in
    let long : length (spell n) ≡ c.in_ok-found.found.len = ap (λ k. length (spell k)) same ∙ sym c.in_ok-found.ensures.ok.1 in
    absurd (omega (arith, there.1, same, long, ap length bytes, c.remaining.ensures, c.if-remaining-found.true))

pub returns-in_err-take_owned_after-clause-static_text : goal.returns-in_err-take_owned_after-clause-static_text
returns-in_err-take_owned_after-clause-static_text g c n there static free =
    let bytes = g.met.B.OwnedBuf.same_text c.args.buf.now in
    let text = g.B.OwnedBuf.marked c.args.buf.now in
    let same : n ≡ c.in_ok-found.found.value =
    spelled_as_one (g.B.Buf.text c.args.buf.now) n c.in_ok-found.found.value (subst (λ (xs : List ℕ). IsSpelledAt xs n) bytes there.0.0)
    c.in_ok-found.ensures.ok.0.0 in
    let long : length (spell n) ≡ c.in_ok-found.found.len = ap (λ k. length (spell k)) same ∙ sym c.in_ok-found.ensures.ok.1 in
    let view : taken_view text (length (spell n)) n ≡ taken_view text c.in_ok-found.found.len c.in_ok-found.found.value =
    ap (λ k. taken_view text k n) long ∙ ap (taken_view text c.in_ok-found.found.len) same in
    let refused = c.in_err-take_owned_after.ensures.static_text (ap (λ v. v.mark) (sym view) ∙ static)
    (subst g.T.OwnedBytes.is_free view free) in cc
