use Rattle.std.proofs.Common.{[], List, ◌++◌, length, arith, refl, ap, sym, ◌∙◌, append_assoc}
use Rattle.iobufs_core.specs.MarkedText.{MarkedText}
use Rattle.iobufs_core.specs.View.{View}
use Rattle.iobufs_core.specs.declared.codec.base.Error.TheVariants.{InvalidVarint}
use Rattle.iobufs_frames.specs.Frames.{joined_bytes}
use Rattle.iobufs_frames.proofs.FrameLaws.{open_is_not_bad, start}
use Rattle.iobufs_frames.proofs.Frames.run_with_layout.Goals as goal

pub loop-piece-init : goal.loop-piece-init
loop-piece-init c = record {
  same = c.with_layout-frames.ensures.layout;
  text = [];
  framed = start c.args.layout c.args.range.now c.new-found.result.items c.with_layout-frames.result.rest.bytes c.new-found.ensures.items
      (ap (λ (t : MarkedText). t.bytes) c.with_layout-frames.ensures.empty);
  spelled = λ e. absurd (open_is_not_bad InvalidVarint e);
  whole = refl;
  fewer = omega arith;
}

pub loop-piece-preserved : goal.loop-piece-preserved
loop-piece-preserved c =
    let text = c.loop-piece.invariant.text in
    let taken = ap joined_bytes c.in-Some.ensures.steps.0 in
    let piece = c.in-Some.piece.bytes in
    let same = c.loop-piece.invariant.same in
    record {
      same = c.feed_and_move.ensures.layout ∙ same;
      text = text ++ piece;
      framed = (rw same at c.in_ok-stop.ensures.framed) text c.loop-piece.invariant.framed;
      spelled = (rw same at c.in_ok-stop.ensures.spelled) c.loop-piece.invariant.spelled;
      whole = append_assoc text piece (joined_bytes c.next.new.self.rest.items) ∙ ap (λ xs. text ++ xs) (sym taken)
          ∙ c.loop-piece.invariant.whole;
      fewer = omega (arith, ap (λ (views : List View). length views) c.in-Some.ensures.steps.0, c.loop-piece.invariant.fewer);
    }
