use Rattle.std.specs.Fn.{CalledAtMut}
use Rattle.iobufs.specs.Visiting.{IsVisited}
use Rattle.iobufs.proofs.Text.{always_mut, deque_len, drop, take, ◌≡◌}
use Rattle.iobufs.proofs.bufs_mut.several.visit_all.Given as goal

-- the parts before the index were visited, and the others are as they were
abbrev pub invariant-loop-i : goal.invariant-loop-i
invariant-loop-i g l = record {
  same_len : deque_len l.parts ≡ l.i-end;
  callable : always_mut g.F.FnMut l.visit;
  rest : drop l.i l.parts.items ≡ drop l.i l.initial.parts.items;
  so_far : IsVisited (λ f x h y. CalledAtMut g.F.FnMut f x tt h y) l.initial.visit (take l.i l.initial.parts.items) l.visit
      (take l.i l.parts.items);
}
