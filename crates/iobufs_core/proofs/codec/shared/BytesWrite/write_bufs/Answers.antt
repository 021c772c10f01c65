use Rattle.std.proofs.Common.{List, ℕ, [], ◌∷◌, length, subst, sym, ◌≡◌, ap, ◌∙◌}
use Rattle.std.proofs.lemmas.Bool.{eqb-true}
use Rattle.iobufs_core.specs.Items.{put_item, push_item}
use Rattle.iobufs_core.specs.Spelling.{spell}
use Rattle.iobufs_core.specs.View.{view_of_bytes}
use Rattle.iobufs_core.specs.WireLaws.{view_of_bytes-bytes}
use Rattle.iobufs_core.proofs.codec.shared.BytesWrite.write_bufs.Goals as goal

pub returns-clause-ok : goal.returns-clause-ok
returns-clause-ok g c =
    let put = g.met.B.BufsMut.puts _ _ _ c.put_length-2.ensures in
    let both = g.met.B.BufsMut.follows _ _ _ _ _ put c.in_ok-push_bytes.ensures.ok in
    let sized =
    subst (λ (k : ℕ). g.B.BufsMut.done c.args.buf.now (put_item (spell k) ∷ push_item (view_of_bytes c.in_ok-bytes.bytes) ∷ [])
    c.push_bytes.new.self) c.len.ensures.value both in
    subst (λ (bytes : List ℕ). g.B.BufsMut.done c.args.buf.now
    (put_item (spell (length c.args.self.now)) ∷ push_item (view_of_bytes bytes) ∷ [])
    c.push_bytes.new.self) c.in_ok-bytes.ensures.cases sized

pub returns-then-is_empty-clause-ok : goal.returns-then-is_empty-clause-ok
returns-then-is_empty-clause-ok g c =
    let none : length c.args.self.now ≡ 0 = eqb-true _ _ (sym c.is_empty.ensures ∙ c.if-is_empty.true) in
    let put = g.met.B.BufsMut.puts _ _ _ c.put_length.ensures in
    let skipped = g.met.B.BufsMut.skips _ (view_of_bytes c.args.self.now) (ap length (view_of_bytes-bytes c.args.self.now) ∙ none) in
    let both = g.met.B.BufsMut.follows _ _ _ _ _ put skipped in
    subst (λ (k : ℕ). g.B.BufsMut.done c.args.buf.now
    (put_item (spell k) ∷ push_item (view_of_bytes c.args.self.now) ∷ []) c.put_length.new.buf)
    (sym none) both
