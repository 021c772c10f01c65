use Rattle.std.proofs.Common.{◌≡◌, ◌∙◌, ◌+◌, ◌-◌, ℕ, List, ◌∷◌, ap, arith, drop, length, length-append, subst, sym}
use Rattle.std.proofs.Math.Seq.{drop-append-add}
use Rattle.iobufs_frames.specs.Streams.{unsent_bytes, unsent_frames}
use Rattle.iobufs_frames.specs.Unsent.{ArePassed, UnsentBytes, frames_bytes}
use Rattle.iobufs_frames.specs.declared.writer.FrameWriter.{FrameWriter}
use Rattle.iobufs_frames.proofs.UnsentLaws.{passed_next, passed_on}
use Rattle.iobufs_frames.proofs.writer.FrameWriter.drop_frames.Goals as goal
use Rattle.iobufs_frames.proofs.writer.FrameWriter.drop_frames.Goals.{else-loop-left-test, then-loop-left-test+in_default}

pub loop-left-preserved : goal.loop-left-preserved
loop-left-preserved g c =
    let l = c.loop-left in
    let next = c.in-Some.next in
    let items = c.pop.new.self in
    let more : l.self.more ≡ next ∷ items = c.in-Some.ensures.items in
    let behind : frames_bytes l.self.more ≡ frames_bytes (next ∷ items) = ap frames_bytes more in
    let less = l.left - c.len-left.result in
    let new = c.set.new.self in
    let set : frames_bytes (new ∷ items) ≡ frames_bytes (next ∷ items) = ap (λ (u : UnsentBytes). frames_bytes (u ∷ items)) c.set.ensures in
    let here : l.left ≡ length l.self.rest.bytes + less =
    omega (arith, c.loop-left-test.true, c.len.ensures, c.len-left.ensures) in record {
      within = omega (
        arith,
        l.invariant.within,
        here,
        length-append l.self.rest.bytes (frames_bytes l.self.more),
        ap (λ (w : List ℕ). length w) behind,
        ap (λ (w : List ℕ). length w) set,
      );
      bytes = ap (drop less) set ∙ ap (drop less) (sym behind) ∙ sym (drop-append-add l.self.rest.bytes (frames_bytes l.self.more) less)
          ∙ ap (λ n. drop n (unsent_bytes l.self)) (sym here) ∙ l.invariant.bytes;
      passed = subst (λ (u : UnsentBytes). ArePassed (unsent_frames c.args.self.now) u items) (sym c.set.ensures)
          (passed_next (unsent_frames c.args.self.now) l.self.rest next items
          (subst (λ (us : List UnsentBytes). ArePassed (unsent_frames c.args.self.now) l.self.rest us) more l.invariant.passed));
      same = ap (λ (w : FrameWriter g.row.W.Denot). record w { rest = new; more = c.pop.new.self }) l.invariant.same;
    }

pub returns-clause-passed : goal.returns-clause-passed
returns-clause-passed g c =
    let frames = unsent_frames c.args.self.now in
    let now = c.loop-left-test.self in
    let passed : ArePassed frames now.rest now.more = elim c.loop-left-test.branch [
      | else-loop-left-test w ↦ subst (λ (s : FrameWriter g.row.W.Denot). ArePassed frames s.rest s.more) (sym w.self-is)
          c.loop-left.invariant.passed
      | then-loop-left-test+in_default w ↦ subst (λ (s : FrameWriter g.row.W.Denot). ArePassed frames s.rest s.more) (sym w.self-is)
          (subst (λ (us : List UnsentBytes). ArePassed frames c.loop-left.self.rest us) w.in_default.ensures.items
          c.loop-left.invariant.passed)
    ] in
    passed_on frames now.rest c.advance.new.self now.more c.loop-left.left passed c.advance.ensures
