use Rattle.std.proofs.Common.{List, ℕ, ◌≡◌, ◌∙◌, ◌++◌, [], ap, arith, drop, length, refl, subst, sym, take}
use Rattle.std.proofs.lemmas.Bool.Decides.{nat_tests}
use Rattle.std.proofs.lemmas.Grind.{common_steps}
use Rattle.std.proofs.lemmas.List.{nil_from_length}
use Rattle.std.specs.Io.KnownBytes.{Appends}
use Rattle.iobufs.proofs.CallerFacts.{sent_front, sent_nothing, sent_on}
use Rattle.iobufs_frames.specs.Streams.{unsent_bytes, unsent_frames}
use Rattle.iobufs_frames.specs.Unsent.{ArePassed, frames_bytes}
use Rattle.iobufs_frames.specs.declared.writer.FrameWriter.{FrameWriter}
use Rattle.iobufs_frames.proofs.UnsentLaws.{passed_both, passed_none}
use Rattle.iobufs_frames.proofs.writer.FrameWriter.send.Goals as goal

pub returns-then-is_empty-2 : goal.returns-then-is_empty-2
returns-then-is_empty-2 g c =
    let old = c.args.self.now in
    let rest : old.rest.bytes ≡ [] =
    nil_from_length old.rest.bytes (grind (arith, common_steps, nat_tests, c.is_empty.ensures, c.if-is_empty.true)) in
    let more : old.more ≡ [] =
    nil_from_length old.more (grind (arith, common_steps, nat_tests, c.is_empty-then-is_empty.ensures, c.if-is_empty-2.true)) in
    let none : unsent_bytes old ≡ [] = ap (λ w. w ++ frames_bytes old.more) rest ∙ ap frames_bytes more in record {
      sent = sent_nothing (g.W.Write.contents old.to) (unsent_bytes old);
      passed = passed_none old.rest old.more;
      ends = (rest, more);
      idle = λ _. refl;
      flushed = λ some. absurd (omega (arith, some, ap (λ (w : List ℕ). length w) none));
      layout = refl;
      range = refl;
    }

pub loop-self-preserved : goal.loop-self-preserved
loop-self-preserved g c =
    let Writer = FrameWriter g.row.W.Denot in
    let contents = g.W.Write.contents in
    let old = c.args.self.now in
    let now = c.loop-self.self in
    let mid = c.write_front.new.self in
    let new = c.drop_sent-in-loop-self.new.self in
    let n = c.in_ok-n.n in
    let inv = c.loop-self.invariant in
    let wrote = c.write_front.ensures.same in
    let gone = c.drop_sent-in-loop-self.ensures in
    let left : unsent_bytes new ≡ drop n (unsent_bytes now) = gone.bytes ∙ ap (λ (w : Writer). drop n (unsent_bytes w)) wrote in
    let took : Appends (contents now.to) (contents new.to) (take n (unsent_bytes now)) =
    subst (λ t. Appends (contents now.to) (contents t) (take n (unsent_bytes now))) (sym (ap (λ (w : Writer). w.to) gone.same))
    c.in_ok-n.ensures.bytes in record {
      sent = sent_on (contents old.to) (contents now.to) (contents new.to) (unsent_bytes old) (unsent_bytes now) (unsent_bytes new)
          inv.sent (sent_front (contents now.to) (contents new.to) (unsent_bytes now) (unsent_bytes new) n took left);
      passed = passed_both (unsent_frames old) now.rest now.more new.rest new.more inv.passed
          (subst (λ (w : Writer). ArePassed (unsent_frames w) new.rest new.more) wrote gone.passed);
      settled = gone.settled;
      flushed = ap (λ (w : Writer). w.is_flushed) gone.same ∙ ap (λ (w : Writer). w.is_flushed) wrote ∙ inv.flushed;
      layout = ap (λ (w : Writer). w.layout) gone.same ∙ ap (λ (w : Writer). w.layout) wrote ∙ inv.layout;
      range = ap (λ (w : Writer). w.range) gone.same ∙ ap (λ (w : Writer). w.range) wrote ∙ inv.range;
    }
