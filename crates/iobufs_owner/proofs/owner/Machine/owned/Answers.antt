use Rattle.iobufs_owner.proofs.Base.{described-at}
use Rattle.iobufs_owner.proofs.owner.Machine.owned.Goals as goal

pub described-requires-clause-says : goal.described-requires-clause-says
described-requires-clause-says c = described-at c.args.self.now.state c.args.h c.args.x c.args.word c.known.ensures.sound c.requires.at
    c.requires.word
