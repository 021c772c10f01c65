use Rattle.std.proofs.Common.{◌≡◌, ℕ, [], ◌∷◌, length, subst, sym, ◌∙◌}
use Rattle.std.proofs.lemmas.Bool.{eqb-true}
use Rattle.iobufs_core.specs.Items.{put_item, push_item}
use Rattle.iobufs_core.specs.Spelling.{spell}
use Rattle.iobufs_core.proofs.codec.wire.IoBufWrite.write_bufs.Goals as goal

pub returns-clause-ok : goal.returns-clause-ok
returns-clause-ok g c =
    let put = g.met.B.BufsMut.puts _ _ _ c.put_length-2.ensures in
    let both = g.met.B.BufsMut.follows _ _ _ _ _ put (c.in_ok-push.ensures.ok) in
    rw (← c.len.ensures.value, ← c.in_ok-view.ensures.cases) both

pub returns-then-is_empty-clause-ok : goal.returns-then-is_empty-clause-ok
returns-then-is_empty-clause-ok g c =
    let none : length c.args.self.now.bytes ≡ 0 = eqb-true _ _ (sym c.is_empty.ensures ∙ c.if-is_empty.true) in
    let put = g.met.B.BufsMut.puts _ _ _ c.put_length.ensures in
    let both = g.met.B.BufsMut.follows _ _ _ _ _ put (g.met.B.BufsMut.skips _ c.args.self.now none) in
    subst (λ (k : ℕ). g.B.BufsMut.done c.args.buf.now (put_item (spell k) ∷ push_item c.args.self.now ∷ []) c.put_length.new.buf)
    (sym none) both
