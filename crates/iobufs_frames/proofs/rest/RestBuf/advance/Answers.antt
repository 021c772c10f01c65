use Rattle.std.proofs.Common.{ap, arith, drop, length, ◌∙◌, ◌≡◌, ◌+◌, ◌-◌, ◌++◌}
use Rattle.iobufs_frames.specs.Unsent.{UnsentBytes, rest_after, unsent_rest}
use Rattle.iobufs_frames.proofs.UnsentLaws.{copies_go, rest_goes}
use Rattle.iobufs_frames.proofs.rest.RestBuf.advance.Goals as goal

pub returns-then-cnt-n : goal.returns-then-cnt-n
returns-then-cnt-n c =
    let r = c.self.inside in
    rest_goes r.frame c.advance.new.self (drop r.sent r.tail.items) c.args.cnt c.len-n.ensures.parts
    (omega (arith, c.if-cnt-n.true, c.len-n.ensures.value)) c.advance.ensures
    ∙ ap (λ (u : UnsentBytes). rest_after u c.args.cnt) c.self.view_is

pub returns : goal.returns
returns c =
    let r = c.self.inside in
    let n = length r.frame.bytes in
    let told : c.len-n.result ≡ n = c.len-n.ensures.value in
    let gone : c.advance-2.new.self ≡ unsent_rest r.frame n = c.advance-2.ensures ∙ ap (unsent_rest r.frame) told in
    c.free.ensures
    ∙ ap (λ k. record c.advance-2.new.self { bytes = c.advance-2.new.self.bytes ++ drop (r.sent + (c.args.cnt - k)) r.tail.items }) told
    ∙ copies_go r.frame c.advance-2.new.self r.tail.items r.sent c.args.cnt c.len-n.ensures.parts
    (omega (arith, c.if-cnt-n.false, told)) gone
    ∙ ap (λ (u : UnsentBytes). rest_after u c.args.cnt) c.self.view_is
