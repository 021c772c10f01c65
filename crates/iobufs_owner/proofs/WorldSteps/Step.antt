-- A step by the tables is a step of the world.
use Rattle.iobufs_owner.proofs.Base.{nat_eq, ◌&&◌, ◌||◌, ap, Handle, View, Unique, not, is_empty, is_lent, same_kind, same-kind, and_parts, asked-ok, handle_at, owning-reads, owning-view-reads, view-reads, is_good_place, log_of, ◌-◌, ◌+◌, Mut, OutOfRange, owner-put, owner-advanced, capacity-reads, any-reads, any-tells, within, ◌≡◌, ℕ, Bool, true, false, nat_lt, length, Option, Some, None, refl, length-map, Call, New, External, Static, Put, Advance, Freeze, TryIntoMut, SplitTo, IsUnique, Demote, Clone, Slice, Drop, Act, Begin, Go, Pending, Loaded, Ready, Add, Subtract, Release, Step, Idle, Reply, State, Seen, call_at, reading, read_call, IsSound, refused, Moves, Refuses, Begins, ActsAt, Steps, IsAnswered, answered, get_or-read, moved_at, begun, cond, moved, MatchOption, Refused, cause_at, cause_begun, ltb-false, refused_at, sym, ◌∙◌, get_or_past, Goes, call-fits, held-reads, counted-at, is_over, owner_of, record_at, owner-counted, subst, cause_if, Ceiling, call_set, has_let_go, length-set, both_freed}
use Rattle.iobufs_owner.specs.Changes as change
use Rattle.iobufs_owner.specs.Lending as lending
use Rattle.iobufs_owner.specs.ShortCalls as short
use Rattle.iobufs_owner.proofs.WorldSteps.Taken.{same-taken, reply-taken, made-taken, edit-taken, replaced-in, called-in, reads-detached, by-test, by-cause, had, had-alone}
use Rattle.iobufs_owner.proofs.WorldSteps.Walk.{refused-none}
use Rattle.iobufs_owner.proofs.WorldSteps.TryIntoMut.{recover-word, unique-word}
use Rattle.iobufs_owner.proofs.WorldSteps.Demote.{demote-word}
use Rattle.iobufs_owner.proofs.WorldSteps.Freeze.{freeze-word, freed-in, freed-entries, both-in}
use Rattle.iobufs_owner.proofs.WorldSteps.SplitTo.{split-by}
use Rattle.iobufs_owner.proofs.WorldSteps.New.{granted, new-placed, recorded-made}
use Rattle.iobufs_owner.proofs.WorldSteps.Drop.{drop-word}
use Rattle.iobufs_owner.proofs.WorldSteps.CloneAndSlice.{begun-word, loaded-as, race-as, add-as, subtract-as, frees, GoesAs}

begins : (s t : State) (p : ℕ) (call : Call) (memory : Bool) (reply : Reply) → IsSound s → IsAnswered s (begun s p call memory) reply t
    → MatchOption (cause_begun (reading s) call) (Begins (reading s) p call memory reply (reading t))
    (λ why. Refuses (reading s) why reply (reading t))
unfolding Begins
begins s t p (New base size align) memory reply k i = granted base size align memory (is_good_place s.tables.blocks base size align) refl
    (λ good i. new-placed base size align k good (short.fits_in s.tables size (log_of align) 0) refl i) i
begins s t p (External base size) memory reply k i = granted base size 1 memory (is_good_place s.tables.blocks base size 1) refl
    (λ good i. recorded-made (short.made_block base size 1 true) _ k good refl i) i
begins s t p (Static len) memory reply k i = made-taken s (change.detached_handle len) refl (reads-detached s.tables len) i
begins s t p (Put h n) memory reply k i = had-alone _ _ h Mut i (λ x l i. rw (capacity-reads s h x k l.at l.kind_is)
    (by-cause OutOfRange (nat_lt (x.cap - x.len) n)
    (λ _ i. edit-taken h (record x { len = x.len + n }) (rw (owner-put s.tables x n l.kind_is) refl) i) i))
begins s t p (Advance h n) memory reply k i = had s t h (lending.lend_any_of s h) _ _ _ _ reply (any-reads s h) i (λ x e i.
    (let l = any-tells s h x e in (
      l.at,
      by-cause OutOfRange (nat_lt x.len n) (λ v i. edit-taken h (short.advanced x n)
          (rw (owner-advanced s.tables x n (ltb-false x.len n v) (within s h x k l.at)) refl) i) i,
    )))
begins s t p (Freeze h) memory reply k i = had-alone _ _ h Mut i (λ x l i. by-test (nat_eq x.len 0)
    (λ _ i. reply-taken (freed-entries s h x (Some (change.detached_handle 0)) x.word)
    (replaced-in (short.freed_with s x x.word) h (Some (change.detached_handle 0)) (freed-in s h x x.word k l.at refl)
    (ap Some (reads-detached _ 0))) i)
    (λ _ i. freeze-word h x memory x.word k l refl i) i)
begins s t p (TryIntoMut h) memory reply k i = had-alone _ _ h View i (λ x l i. recover-word h x x.word k l refl i)
begins s t p (SplitTo h at) memory reply k i =
    had-alone _ _ h View i (λ x l i. split-by h at x memory (nat_lt x.len at) (nat_eq at 0) (nat_eq at x.len) k l i)
begins s t p (IsUnique h) memory reply k i = had s t h (lending.lend_owning_of s h) _ _ _ _ reply (owning-reads s h k) i (λ x e i.
    (let a = asked-ok (λ (x : Handle). not (is_empty x.word)) (is_lent h s.calls) (handle_at s h) x e in
    let u = unique-word s h x x.word k a.0 refl a.1 in
    let q = same-taken i in (a.0, (u.0, u.1, q.0 ∙ ap Unique u.2, q.1))))
begins s t p (Demote h) memory reply k i = had s t h (lending.lend_owning_view_of s h) _ _ _ _ reply (owning-view-reads s h k) i (λ x e i.
    (let a = asked-ok (λ (x : Handle). same_kind x.kind View && not (is_empty x.word)) (is_lent h s.calls) (handle_at s h) x e in
    let p = and_parts (same_kind x.kind View) (not (is_empty x.word)) a.1 in
    (a.0, demote-word h x x.word k (record { at = a.0; kind_is = same-kind x.kind View p.0; free = a.2 }) refl i)))
begins s t p (Clone h) memory reply k i = had s t h (lending.lend_view_of s h) _ _ _ _ reply (view-reads s h) i (λ x e i.
    (let at = (asked-ok (λ (x : Handle). same_kind x.kind View) false (handle_at s h) x e).0 in
    (at, begun-word p h 0 x.len x x.word k at refl i)))
begins s t p (Slice h lo hi) memory reply k i = had s t h (lending.lend_view_of s h) _ _ _ _ reply (view-reads s h) i (λ x e i.
    (let at = (asked-ok (λ (x : Handle). same_kind x.kind View) false (handle_at s h) x e).0 in (
      at,
      by-cause OutOfRange (nat_lt hi lo || nat_lt x.len hi) (λ _ i. by-test (nat_eq lo hi)
          (λ _ i. made-taken s (change.detached_handle 0) refl (reads-detached s.tables 0) i)
          (λ _ i. begun-word p h lo hi x x.word k at refl i) i) i,
    )))
begins s t p (Drop h) memory reply k i = had s t h (lending.lend_any_of s h) _ _ _ _ reply (any-reads s h) i (λ x e i.
    (let at = (any-tells s h x e).at in (at, drop-word p h x x.word k at refl i)))

acts : (s t : State) (p : ℕ) (act : Act) (c : Option Pending) (reply : Reply) → IsSound s → call_at s p ≡ c
    → IsAnswered s (moved_at s p act c) reply t
    → MatchOption (cause_at (reading s) act (read_call s.tables c)) (ActsAt (reading s) p act (read_call s.tables c) reply (reading t))
    (λ why. (reply ≡ Refused why) × (reading t ≡ refused_at (reading s) p act (read_call s.tables c)))
unfolding Goes
acts s t p (Begin call memory) None reply k n i = begins s t p call memory reply k i
acts s t p (Go memory) None reply k n i = same-taken i
acts s t p (Go memory) (Some (Loaded part w)) reply k n i =
    let l = call-fits s p (Loaded part w) k n in rw (held-reads s part.handle, l.shares.at) (loaded-as p part w l.view memory k i)
acts s t p (Go memory) (Some (Ready part w r)) reply k n i =
    let a = call-fits s p (Ready part w r) k n in rw (held-reads s part.handle, a.shares.at) (race-as p part w r memory k a i)
acts s t p (Go memory) (Some (Add part r)) reply k n i =
    let a = call-fits s p (Add part r) k n in
    let c = counted-at s part.handle a.view r k a.shares.at a.word in
    let over : is_over (reading s) (owner_of s.tables a.view) ≡ nat_lt s.ceiling (record_at s.tables r).count =
    rw (owner-counted s.tables a.view r a.word, (k.counted r c.live).counts c.shown) refl in
    rw (held-reads s part.handle, a.shares.at) (subst
    (λ (v : Bool). MatchOption (cause_if v Ceiling) (GoesAs s p part 1 memory (Some a.view) reply
    (reading t)) (λ why. (reply ≡ Refused why) × (reading t ≡ call_set (reading s) p None))) (sym over)
    (add-as p part r memory (nat_lt s.ceiling (record_at s.tables r).count) k a refl (rw a.shares.at at i)))
acts s t p (Go memory) (Some (Subtract r)) reply k n i = subtract-as p r memory k n i
acts s t p (Go memory) (Some (Release r)) reply k n i =
    let f = call-fits s p (Release r) k n in
    frees (reading s) p (record_at s.tables r).block (has_let_go s.tables r) memory f.alone
    (reply-taken (simp length-set) (called-in (both_freed s r) p None (both-in s r k f.live)) i)
acts s t p (Begin call memory) (Some (Loaded part w)) reply k n i = same-taken i
acts s t p act c reply k n i = same-taken i

by-thread : (s t : State) (step : Step) (reply : Reply) (v : Bool) → IsSound s → nat_lt step.thread (length s.calls) ≡ v
    → IsAnswered s (cond v (moved_at s step.thread step.act (call_at s step.thread)) (refused s Idle)) reply t
    → MatchOption (cond v (cause_at (reading s) step.act (read_call s.tables (call_at s step.thread))) (Some Idle))
    (ActsAt (reading s) step.thread step.act (read_call s.tables (call_at s step.thread)) reply (reading t))
    (λ why. (reply ≡ Refused why) × (reading t ≡ refused_at (reading s) step.thread step.act (read_call s.tables (call_at s step.thread))))
by-thread s t step reply true k e i = acts s t step.thread step.act (call_at s step.thread) reply k refl i
by-thread s t step reply false k e i =
    let r = same-taken i in
    rw (get_or_past s.calls step.thread None (ltb-false step.thread (length s.calls) e))
    (r.0, r.1 ∙ sym (refused-none (reading s) step.thread step.act))

-- users of a sound machine see a move of it as a step of the world
pub steps-of : (m n : Seen) (step : Step) (reply : Reply) → IsSound m.state → Moves m step reply n
    → Steps (reading m.state) step reply (reading n.state)
steps-of m n step reply k i =
    rw (length-map, get_or-read (read_call m.state.tables) m.state.calls step.thread None)
    (by-thread m.state n.state step reply (nat_lt step.thread (length m.state.calls)) k refl
    (answered m (moved m.state step) reply n.state i))
