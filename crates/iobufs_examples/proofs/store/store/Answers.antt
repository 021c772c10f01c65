use Rattle.iobufs.proofs.CallerFacts.{stored_done, stored_none}
use Rattle.iobufs_examples.proofs.store.store.Goals as goal

pub returns-clause-done : goal.returns-clause-done
returns-clause-done g c = stored_done _ _ c.args.parts _ c.fill.new.parts c.in-Ok.text c.set_len.ensures c.in_ok-fill.ensures.stored
    c.in-Ok.ensures.ok c.in_ok-fill.ensures.done

pub returns-in_default-clause-nothing : goal.returns-in_default-clause-nothing
returns-in_default-clause-nothing g c = λ none. c.in_default.ensures.nothing
    (stored_none _ _ c.args.parts _ c.fill.new.parts c.set_len.ensures c.in_ok-fill.ensures.stored none)
