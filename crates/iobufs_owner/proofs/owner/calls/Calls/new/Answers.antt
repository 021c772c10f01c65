use Rattle.iobufs_owner.proofs.Base.{◌≡◌, None, replicate, rules, sym}
use Rattle.iobufs_owner.proofs.Borrowers.{none-counted}
use Rattle.iobufs_owner.proofs.owner.calls.Calls.new.Goals as goal

pub invariant_of-result-2 : goal.invariant_of-result-2
invariant_of-result-2 c =
    let e : c.in_ok-from_elem.field-0.items ≡ replicate c.args.threads None = search rules in
    λ h. rw (e, c.new-2.ensures.items) (sym (none-counted c.args.threads h))
