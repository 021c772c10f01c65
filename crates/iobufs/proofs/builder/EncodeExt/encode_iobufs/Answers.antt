use Rattle.iobufs.proofs.Text.{Building, MarkedText, ap, arith, building_after, building_items, bytes-built, empty_building, false≢true, finished, items_bytes, items_inline, length, only-cause, subst, sym, ⊎_elim, ◌<◌, ◌^◌, ◌∙◌, ◌≡◌}
use Rattle.iobufs.proofs.Building.{finished-bytes, items-len, nothing-built, pushes-fit}
use Rattle.iobufs.proofs.builder.EncodeExt.encode_iobufs.Goals as goal

pub returns-in_err-write_bufs-clause-memory : goal.returns-in_err-write_bufs-clause-memory
returns-in_err-write_bufs-clause-memory g c =
    let items = g.Self.EncodeSize.items c.args.self.now in
    λ (fits : length (g.Self.EncodeSize.written c.args.self.now) < 2 ^ 64)
    (inline : items_inline (g.Self.EncodeSize.items c.args.self.now) < 2 ^ 63).
    let bytes = subst (λ bytes. length bytes < 2 ^ 64) (sym (g.met.Self.EncodeSize.joins_items c.args.self.now)) fits in
    ⊎_elim
    (only-cause _ _ _ c.from_residual-in_err-write_bufs.ensures.1)
    (λ long. absurd (pushes-fit c.in_ok-builder.builder items
    (c.in_ok-builder.ensures.ok ∙ ap empty_building c.encode_inline_size.ensures) bytes long.1))
    c.in_err-write_bufs.ensures.cause

pub returns-clause-bytes : goal.returns-clause-bytes
returns-clause-bytes g c =
    let items = g.Self.EncodeSize.items c.args.self.now in
    let (inline, pushed, built) = c.in_ok-write_bufs.ensures.ok in
    ap (λ (text : MarkedText). text.bytes) (c.in_ok-finish.ensures.ok
    ∙ ap finished (built ∙ ap (λ (b : Building). building_after b items)
    (c.in_ok-builder.ensures.ok ∙ ap empty_building c.encode_inline_size.ensures)))
    ∙ finished-bytes (building_after (empty_building (items_inline items)) items) ∙ bytes-built (empty_building (items_inline items)) items
    ∙ g.met.Self.EncodeSize.joins_items c.args.self.now

pub returns-in_err-builder-clause-nothing : goal.returns-in_err-builder-clause-nothing
returns-in_err-builder-clause-nothing g c =
    let items = g.Self.EncodeSize.items c.args.self.now in
    λ (none : length (g.Self.EncodeSize.written c.args.self.now) ≡ 0).
    let bytes = ap length (g.met.Self.EncodeSize.joins_items c.args.self.now) in
    absurd (false≢true (c.in_err-builder.ensures.nothing (omega (arith, none, bytes, items-len items, c.encode_inline_size.ensures))))

pub returns-in_err-write_bufs-clause-nothing : goal.returns-in_err-write_bufs-clause-nothing
returns-in_err-write_bufs-clause-nothing g c =
    λ (none : length (g.Self.EncodeSize.written c.args.self.now) ≡ 0).
    let bytes = ap length (g.met.Self.EncodeSize.joins_items c.args.self.now) in
    absurd (false≢true (c.in_err-write_bufs.ensures.no_push
    (omega (arith, none, bytes, items-len (g.Self.EncodeSize.items c.args.self.now)))))

pub returns-in_err-finish-clause-nothing : goal.returns-in_err-finish-clause-nothing
returns-in_err-finish-clause-nothing g c =
    let items = g.Self.EncodeSize.items c.args.self.now in
    λ (none : length (g.Self.EncodeSize.written c.args.self.now) ≡ 0).
    let bytes : length (items_bytes items) ≡ 0 = ap length (g.met.Self.EncodeSize.joins_items c.args.self.now) ∙ none in
    let (inline, pushed, built) = c.in_ok-write_bufs.ensures.ok in
    let is = built ∙ ap (λ (b : Building). building_after b items)
    (c.in_ok-builder.ensures.ok ∙ ap empty_building c.encode_inline_size.ensures) in
    absurd (false≢true (c.in_err-finish.ensures.nothing (ap building_items is ∙ nothing-built (items_inline items) items bytes)))
