use Rattle.std.proofs.Common.{◌∙◌, sym, subst, IfOk}
use Rattle.iobufs_core.specs.View.{View}
use Rattle.iobufs_core.specs.ViewLaws.{taken-whole}
use Rattle.iobufs_core.proofs.codec.owned_buf.IoBufOwnedBuf.take_owned_after.Goals as goal

pub returns-then-n-len-clause-ok : goal.returns-then-n-len-clause-ok
returns-then-n-len-clause-ok g c =
    let whole = taken-whole c.args.self.now c.args.skip c.args.n c.requires (c.if-n-len.true ∙ c.len-len.ensures.value) c.if-n-ne0.true in
    subst (λ (view : View). IfOk c.take_view.result (g.T.OwnedBytes.makes view)) (sym whole) c.take_view.ensures.ok

pub returns-then-n-len-clause-static_text : goal.returns-then-n-len-clause-static_text
returns-then-n-len-clause-static_text g c = λ static free.
    let whole = taken-whole c.args.self.now c.args.skip c.args.n c.requires (c.if-n-len.true ∙ c.len-len.ensures.value) c.if-n-ne0.true in
    c.take_view.ensures.free (subst (λ (view : View). g.T.OwnedBytes.is_free view) whole free)

pub returns-then-n-len-clause-whole : goal.returns-then-n-len-clause-whole
returns-then-n-len-clause-whole g c = λ start first free.
    let whole = taken-whole c.args.self.now c.args.skip c.args.n c.requires (c.if-n-len.true ∙ c.len-len.ensures.value) c.if-n-ne0.true in
    c.take_view.ensures.free (subst (λ (view : View). g.T.OwnedBytes.is_free view) whole free)
