-- The effect on a state of each step of a clone, a slice and a drop: the calls that may take several.
--     clone_of                        how a clone begins
--     slice_of                        how a slice begins; an empty one needs no block
--     share_by                        what the loaded word makes of a clone or slice: a view at once, or a call with
--                                     steps to come
--     drop_of, drop_by, drop_counted  how a drop begins: of a number, a handle, its word, a record
--     after_count                     what a drop that has read the count still has to do
--     ended, shared                   a call that ends without a view, and with one
--     borrowed                        the view that an unfinished clone or slice borrows
--     loaded_block                    the block that the loaded descriptor speaks of
--     ready_of                        the second step: a record is made that counts two, or the call ends for lack of
--                                     memory
--     race_of, race_by                the compare-exchange: the record is shown, or another one came first
--     add_of                          a holder is counted, unless there are too many
--     subtract_of, release_of         a holder less, and block and record freed
use Rattle.std.specs.Prelude.{ℕ, ◌+◌, ◌-◌, nat_lt, nat_eq, Bool, None, unwrap_or, ◌||◌, if◌then◌else◌}
use Rattle.iobufs_owner.specs.Types.{Handle, Kind, View, Mut, Word, Empty, Descriptor, Counted, Share, Pending, Loaded, Ready, Add, Subtract, Release, Refusal, OutOfRange, Memory, Ceiling, Refused}
use Rattle.iobufs_owner.specs.State.{State, handle_at, record_at, recovered, owned_by}
use Rattle.iobufs_owner.specs.Changes.{Outcome, refused, on_lent, done, edited, state_without, made, called, unfinished_call, with_record, next_record, with_count, block_freed, record_freed, both_freed, detached_handle, part}
use Rattle.iobufs_owner.specs.Lending.{lend_any_of, lend_view_of}

-- ---- their first step

-- the word is loaded
abbrev pub share_by : State → ℕ → Share → Handle → Word → Outcome
share_by s p k x Empty = made s (part x k.lo k.hi Empty)
share_by s p k x (Descriptor w) = unfinished_call s p (Loaded k w)
share_by s p k x (Counted r) = unfinished_call s p (Add k r)

abbrev pub clone_of : State → ℕ → ℕ → Outcome
clone_of s p h = on_lent s (lend_view_of s h) (λ x. share_by s p (record { handle = h; lo = 0; hi = x.len }) x x.word)

abbrev pub slice_of : State → ℕ → (h lo hi : ℕ) → Outcome
slice_of s p h lo hi =
    on_lent s (lend_view_of s h)
    (λ x. if nat_lt hi lo || nat_lt x.len hi then refused s OutOfRange
    else (if nat_eq lo hi then made s (detached_handle 0)
    else share_by s p (record { handle = h; lo = lo; hi = hi }) x x.word))

-- a view of a counted block loads the count: the only holder will free, another one subtracts
abbrev pub after_count : (count r : ℕ) → Pending
after_count count r = if nat_eq count 1 then Release r else Subtract r

abbrev pub drop_counted : State → (p h r : ℕ) → Kind → Outcome
drop_counted s p h r Mut = done (state_without (both_freed s r) h)
drop_counted s p h r View = unfinished_call (state_without s h) p (after_count (record_at s.tables r).count r)

abbrev pub drop_by : State → (p h : ℕ) → Handle → Word → Outcome
drop_by s p h x Empty = done (state_without s h)
drop_by s p h x (Descriptor w) = done (state_without (block_freed s (recovered s.tables x w)) h)
drop_by s p h x (Counted r) = drop_counted s p h r x.kind

abbrev pub drop_of : State → (p h : ℕ) → Outcome
drop_of s p h = on_lent s (lend_any_of s h) (λ x. drop_by s p h x x.word)

-- ---- their further steps

-- the call ends without a new handle
abbrev pub ended : State → ℕ → Refusal → Outcome
ended s p why = record { reply = Refused why; state = called s p None }

-- a share call has come to its end: one view more, by record r
abbrev pub shared : State → ℕ → Share → Handle → ℕ → Outcome
shared s p k x r = made (called s p None) (part x k.lo k.hi (Counted r))

-- the view that an unfinished clone or slice borrows: it stays until the call ends, so the default is never reached
abbrev pub borrowed : State → Share → Handle
borrowed s k = unwrap_or (handle_at s k.handle) (detached_handle 0)

-- the block that a loaded descriptor recovers, by the place of the view that it was loaded from
abbrev pub loaded_block : State → Share → ℕ → ℕ
loaded_block s k w = owned_by s.tables (record (borrowed s k) { word = Descriptor w })

-- a record for the block of the loaded descriptor, which counts the handle and the new view
abbrev pub ready_of : State → ℕ → Share → ℕ → Bool → Outcome
ready_of s p k w memory =
    if memory then unfinished_call (with_record s 2 (loaded_block s k w)) p (Ready k w (next_record s)) else ended s p Memory

-- the compare-exchange with the loaded descriptor, by the view's word: a record's if another call has come first. Another
-- descriptor, which no sound machine has there, changes nothing.
abbrev pub race_by : State → ℕ → Share → (w r : ℕ) → Handle → Word → Outcome
race_by s p k w r x (Counted winner) = unfinished_call (record_freed s r) p (Add k winner)
race_by s p k w r x (Descriptor now) =
    if nat_eq now w then shared (edited s k.handle (record x { word = Counted r })) p k x r else unfinished_call s p (Ready k w r)
race_by s p k w r x Empty = unfinished_call s p (Ready k w r)

abbrev pub race_of : State → ℕ → Share → (w r : ℕ) → Outcome
race_of s p k w r = race_by s p k w r (borrowed s k) (borrowed s k).word

-- one holder more
abbrev pub add_of : State → ℕ → Share → ℕ → Outcome
add_of s p k r =
    let count = (record_at s.tables r).count in
    if nat_lt s.ceiling count then ended s p Ceiling else shared (with_count s r (count + 1)) p k (borrowed s k) r

-- one holder less; the last one will free
abbrev pub subtract_of : State → (p r : ℕ) → Outcome
subtract_of s p r =
    let fewer = with_count s r ((record_at s.tables r).count - 1) in
    if nat_eq (record_at s.tables r).count 1 then unfinished_call fewer p (Release r) else done (called fewer p None)

-- record and block are freed, and no count is written
abbrev pub release_of : State → (p r : ℕ) → Outcome
release_of s p r = done (called (both_freed s r) p None)
