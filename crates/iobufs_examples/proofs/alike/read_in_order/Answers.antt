use Rattle.std.proofs.Common.{◌≡◌, ◌++◌, sym, ◌∙◌, Ok, Err}
use Rattle.std.proofs.lemmas.Result.{err_from_is_err_and}
use Rattle.iobufs_core.specs.declared.codec.base.Error.TheVariants.{Memory}
use Rattle.iobufs_examples.proofs.InOrderLaws.{behind_written}
use Rattle.iobufs_examples.proofs.alike.read_in_order.Goals as goal

pub returns-in_err-one : goal.returns-in_err-one
returns-in_err-one g c = λ x y rest p q e.
    let (error, told, cause) = err_from_is_err_and c.from_residual.result c.from_residual.ensures.1 in
    let memory : c.in_err-one.field-0.0 ≡ Memory =
    g.met.T.Codec.form.gives_back x c.args.first.now (g.B.OwnedBuf.marked c.args.buf.now) (g.U.EncodeSize.written y ++ rest)
    (Err c.in_err-one.field-0.0) p
    (g.met.B.OwnedBuf.same_text c.args.buf.now ∙ e) c.in_err-one.ensures.answer in
    rw (told, cause) memory

pub returns-in_err-two : goal.returns-in_err-two
returns-in_err-two g c = λ x y rest p q e.
    let one = c.in_ok-one.one in
    let old = g.B.OwnedBuf.marked c.args.buf.now in
    let middle = g.B.OwnedBuf.marked c.read_cfg.new.buf in
    let text = g.met.B.OwnedBuf.same_text c.args.buf.now ∙ e in
    let same = g.met.T.Codec.form.gives_back x c.args.first.now old (g.U.EncodeSize.written y ++ rest)
    (Ok one) p text c.in_ok-one.ensures.answer in
    let left = behind_written g.T.EncodeSize.written g.T.Read.dropping old middle x one
    (g.U.EncodeSize.written y ++ rest) text c.in_ok-one.ensures.rest
    (g.met.T.Codec.form.same_written x one same) (g.met.T.Codec.form.drops_written one) in
    let (error, told, cause) = err_from_is_err_and c.from_residual-in_err-two.result c.from_residual-in_err-two.ensures.1 in
    let memory : c.in_err-two.field-0.0 ≡ Memory =
    g.met.U.Codec.form.gives_back y c.args.second.now middle rest (Err c.in_err-two.field-0.0) q left c.in_err-two.ensures.answer in
    rw (told, cause) memory

pub returns : goal.returns
returns g c = λ x y rest p q e.
    let one = c.in_ok-one.one in
    let two = c.in_ok-two.two in
    let old = g.B.OwnedBuf.marked c.args.buf.now in
    let middle = g.B.OwnedBuf.marked c.read_cfg.new.buf in
    let new = g.B.OwnedBuf.marked c.read_cfg-2.new.buf in
    let text = g.met.B.OwnedBuf.same_text c.args.buf.now ∙ e in
    let same = g.met.T.Codec.form.gives_back x c.args.first.now old (g.U.EncodeSize.written y ++ rest)
    (Ok one) p text c.in_ok-one.ensures.answer in
    let left = behind_written g.T.EncodeSize.written g.T.Read.dropping old middle x one
    (g.U.EncodeSize.written y ++ rest) text c.in_ok-one.ensures.rest
    (g.met.T.Codec.form.same_written x one same) (g.met.T.Codec.form.drops_written one) in
    let second = g.met.U.Codec.form.gives_back y c.args.second.now middle rest (Ok two) q left c.in_ok-two.ensures.answer in
    let end = behind_written g.U.EncodeSize.written g.U.Read.dropping middle new y two rest left c.in_ok-two.ensures.rest
    (g.met.U.Codec.form.same_written y two second) (g.met.U.Codec.form.drops_written two) in
    (same, second, sym (g.met.B.OwnedBuf.same_text c.read_cfg-2.new.buf) ∙ end)
