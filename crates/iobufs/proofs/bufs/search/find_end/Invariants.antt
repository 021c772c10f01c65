use Rattle.iobufs.proofs.Text.{get_or, length, ℕ, ◌*◌, ◌+◌, ◌-◌, ◌<◌, ◌^◌, ◌≡◌, ◌≤◌}
use Rattle.iobufs.proofs.bufs.search.find_end.Given as goal

abbrev pub invariant-loop-first : goal.invariant-loop-first
invariant-loop-first g l =
    record {
      ordered : l.first ≤ l.last;
      inside : l.last < length (g.E.Ends.ends l.ends);
      past : g.E.Ends.place l.ends < get_or (g.E.Ends.ends l.ends) l.last 0;
      before : (j : ℕ) → j < l.first → get_or (g.E.Ends.ends l.ends) j 0 ≤ g.E.Ends.place l.ends;
      same_ends : g.E.Ends.ends l.ends ≡ g.E.Ends.ends l.initial.ends;
      same_place : g.E.Ends.place l.ends ≡ g.E.Ends.place l.initial.ends;
      work : 2 ^ g.E.Ends.probed l.ends * (l.last - l.first) < length (g.E.Ends.ends l.ends);
      few : 2 ^ g.E.Ends.probed l.ends ≤ 2 * length (g.E.Ends.ends l.ends);
      halves : length (g.E.Ends.ends l.ends) < 2 ^ g.E.Ends.probed l.ends * (l.last - l.first + 2);
    }

abbrev pub decreases-loop-first : goal.decreases-loop-first
decreases-loop-first g l = l.last - l.first
