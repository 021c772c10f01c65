use Rattle.iobufs_owner.proofs.Base.{◌≡◌, ◌∙◌, ap, None, Some, sym, Seen, owner-described}
use Rattle.iobufs_owner.proofs.owner.Machine.described.Goals as goal

pub unreachable-requires : goal.unreachable-requires
unreachable-requires c =
    let e = rw (
      c.recovered.ensures,
      c.deref.ensures.value,
      ap (λ (m : Seen). m.state.tables.blocks) c.self.view_is,
    ) at c.block_with.ensures in
    let z : None ≡ Some c.requires.says.block =
    sym c.in-None.is ∙ e ∙ sym (owner-described _ c.args.x c.args.word c.requires.word) ∙ c.requires.says.says.owner in
    absurd (cc)

pub returns : goal.returns
returns c =
    let e = rw (
      c.recovered.ensures,
      c.deref.ensures.value,
      ap (λ (m : Seen). m.state.tables.blocks) c.self.view_is,
    ) at c.block_with.ensures in
    owner-described _ c.args.x c.args.word c.requires.word ∙ sym e ∙ c.in-Some.is
