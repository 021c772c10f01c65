use Rattle.iobufs_owner.proofs.Base.{◌≡◌, ◌∙◌, Some, sym, subst, refl, Handle, Descriptor, handle_at, DescribesBlock, Loaded, call-fits}
use Rattle.iobufs_owner.proofs.owner.Machine.loaded_block.Goals as goal

pub unreachable-requires : goal.unreachable-requires
unreachable-requires c =
    let l = call-fits c.args.self.now.state c.args.thread (Loaded c.args.range c.args.word) c.find.ensures.sound c.requires in
    c.in_default.not-Some l.view (c.find.ensures.value ∙ l.shares.at)

pub described-requires-clause-says : goal.described-requires-clause-says
described-requires-clause-says c =
    let l = call-fits c.args.self.now.state c.args.thread (Loaded c.args.range c.args.word) c.find.ensures.sound c.requires in
    let q : l.view ≡ c.in-Some.x = (let z = sym l.shares.at ∙ sym c.find.ensures.value ∙ c.in-Some.is in cc) in
    subst (λ (x : Handle). DescribesBlock c.args.self.now.state.tables (record x { word = Descriptor c.args.word }) c.args.word) q (record {
      block = l.block;
      log = l.promised.log;
      tail = l.promised.tail;
      says = l.promised.says;
    })

pub returns : goal.returns
returns c =
    let at : handle_at c.args.self.now.state c.args.range.handle ≡ Some c.in-Some.x = sym c.find.ensures.value ∙ c.in-Some.is in
    rw (at, c.described.ensures) refl
