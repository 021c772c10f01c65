use Rattle.iobufs_run.proofs.Joined.{back_again, joined_memory}
use Rattle.iobufs_run.proofs.table.texts.join.Goals as goal

pub returns-in-Err : goal.returns-in-Err
returns-in-Err c =
    let none = c.in_ok-joining.ensures.causes in
    let back = back_again c.args.slots.now c.args.target c.args.src _ _ _ _ _ _ _ none
    c.in_ok-piece.ensures.ok c.in-Err.ensures.kept c.in-Err.ensures.err c.hold.ensures in
    joined_memory c.args.end c.args.slots.now _ c.args.target c.args.src none back.0 back.1
