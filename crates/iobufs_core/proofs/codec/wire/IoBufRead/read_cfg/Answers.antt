use Rattle.std.proofs.Common.{◌≡◌, ◌≤◌, ℕ, List, Result, Ok, Err, IfOk, IfErr, length, subst, ap}
use Rattle.iobufs_core.specs.View.{View}
use Rattle.iobufs_core.specs.MarkedText.{MarkedText}
use Rattle.iobufs_core.specs.Wire.{IsTaken, IsViewFault, IsViewRead}
use Rattle.iobufs_core.specs.declared.codec.base.Error.{Error}
use Rattle.iobufs_core.specs.declared.codec.base.RangeCfg.{RangeCfg}
use Rattle.iobufs_core.specs.ReadBytes.{left_by_copy, rest_by_copy}
use Rattle.iobufs_core.proofs.codec.wire.IoBufRead.read_cfg.Goals as goal

answered : {Reader : Type 0} (copied : Reader → ℕ → Reader) (text : MarkedText) (range : RangeCfg) (old new : Reader)
    (result : Result View Error)
    → IfOk result (IsTaken (λ view made. made ≡ view) copied text range old new)
    → IfErr result (IsViewFault text range)
    → IsViewRead text range result
answered copied text range old new (Ok view) taken fault = (taken.n, taken.there, taken.made)
answered copied text range old new (Err e) taken fault = fault

pub returns-clause-answer : goal.returns-clause-answer
returns-clause-answer g c =
    answered g.B.Buf.copied (g.B.OwnedBuf.marked c.args.buf.now) c.args.range.now c.args.buf.now c.read_bytes.new.buf c.read_bytes.result
    c.read_bytes.ensures.ok c.read_bytes.ensures.fault

pub returns-clause-left : goal.returns-clause-left
returns-clause-left g c =
    left_by_copy (λ (view : View). view.bytes) (λ view made. made ≡ view) g.B.Buf.copied
    (g.B.OwnedBuf.marked c.args.buf.now) c.args.range.now c.args.buf.now c.read_bytes.new.buf c.read_bytes.result
    (λ view made e. ap (λ (v : View). v.bytes) e) c.read_bytes.ensures.ok

pub returns-clause-rest : goal.returns-clause-rest
returns-clause-rest g c =
    let before = c.args.buf.now in
    rest_by_copy (λ (view : View). view.bytes) (λ view made. made ≡ view) g.B.Buf.copied g.B.OwnedBuf.marked
    c.args.range.now before c.read_bytes.new.buf c.read_bytes.result
    (λ view made e. ap (λ (v : View). v.bytes) e)
    (λ n within. g.met.B.OwnedBuf.copies_marked before n
    (subst (λ (xs : List ℕ). n ≤ length xs) (g.met.B.OwnedBuf.same_text before) within))
    c.read_bytes.ensures.ok
