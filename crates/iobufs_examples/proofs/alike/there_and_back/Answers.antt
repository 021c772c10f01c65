use Rattle.std.proofs.Common.{◌≡◌, ℕ, List, [], ◌∷◌, ◌++◌, sym, ap, ◌∙◌, refl, append-nil, Result, Ok, Err, IfOk, arith}
use Rattle.std.proofs.lemmas.Bool.Decides.{nat_tests}
use Rattle.iobufs_core.specs.MarkedText.{of_view}
use Rattle.iobufs_core.specs.Part.{Part, part_frozen}
use Rattle.iobufs_core.specs.ReadBack.{IsReadBack}
use Rattle.iobufs_core.specs.View.{View}
use Rattle.iobufs_core.specs.declared.codec.base.Error.{Error}
use Rattle.iobufs_examples.proofs.alike.there_and_back.Goals as goal

frozen_bytes : (bytes : List ℕ) (spare : ℕ) → (part_frozen (record { filled = bytes; spare = spare })).bytes ≡ bytes
frozen_bytes [] spare = refl
frozen_bytes (b ∷ bs) spare = grind (arith, nat_tests)

if_read : {Value : Type 0} (same : Value → Value → Type 0) (value : Value) (answer : Result Value Error) → IsReadBack same value answer
    → IfOk answer (same value)
if_read same value (Ok read) h = h
if_read same value (Err error) h = tt

pub returns : goal.returns
returns g c =
    let written = g.T.EncodeSize.written c.args.value.now in
    let part : c.in_ok-encode.field-0 ≡ record { filled = written; spare = 0 } = c.in_ok-encode.ensures.ok in
    let view : c.in_ok-view.view ≡ part_frozen c.in_ok-encode.field-0 = c.in_ok-view.ensures.ok in
    let bytes : c.in_ok-view.view.bytes ≡ written ++ [] =
    ap (λ (v : View). v.bytes) view ∙ ap (λ (p : Part). (part_frozen p).bytes) part ∙ frozen_bytes written 0 ∙ sym (append-nil written) in
    if_read g.T.Read.same c.args.value.now c.read_cfg.result
    (g.met.T.Codec.form.gives_back c.args.value.now c.args.cfg.now (of_view c.in_ok-view.view)
    [] c.read_cfg.result c.requires bytes c.read_cfg.ensures.answer)
