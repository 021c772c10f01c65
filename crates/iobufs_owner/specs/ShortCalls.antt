-- The effect on a state of each call that ends with its first step: all except clones, slices and drops.
--     made_block, first_handle, whole_view           a block, and the first handle on it: writable and empty, or a
--                                                    view of all
--     described_of, recorded_of                      a new block under a descriptor, and under a record
--     CanDescribe, fits_in, placed                   a block that a word can describe; whether the fields suffice;
--                                                    and the new block under a word or else a record
--     new_of, external_of                            native storage, and adopted one
--     static_of                                      a view of static bytes
--     put_of                                         bytes put after those of a writable handle
--     advance_of, advanced                           the first bytes dropped
--     IsLoose                                        a handle that is gone, or holds nothing
--     freed_with                                     the block of a sole holder is freed, and its record
--     freeze_of, freeze_by, frozen                   a writable handle becomes a view; an empty one frees its block
--     promoted                                       a record in place of a descriptor
--     recover_of, recover_by, thawed, declined       a view becomes writable again, or stays since it isn't the sole
--                                                    holder of native storage
--     split_of, split_by, split_with                 the first bytes of a view become another one, and both hold the
--                                                    block
--     unique_of, is_unique                           whether a handle is the sole holder
--     demote_of, demote_by, demote_counted,          a sole view replaces its record by a descriptor, which has the
--     may_demote, described, tail_of                 number of bytes of the block after the view
use Rattle.std.specs.Prelude.{◌≡◌, ◌⊎◌, ℕ, ◌+◌, ◌-◌, ◌^◌, nat_lt, nat_eq, Bool, true, false, length, Option, None, Some, ◌&&◌, ◌||◌, not, if◌then◌else◌}
use Rattle.iobufs_owner.specs.Types.{Block, Handle, View, Mut, Word, Empty, Descriptor, Counted, OutOfRange, BadPlace, Memory, Ceiling, Declined, Unique}
use Rattle.iobufs_owner.specs.Kinds.{is_mut}
use Rattle.iobufs_owner.specs.Places.{IsGoodPlace, is_good_place, log_of}
use Rattle.iobufs_owner.specs.State.{State, Tables, block_at, record_at, tail_in, retailed, recovered, owned_by}
use Rattle.iobufs_owner.specs.Word.{HasRoom, fits, word_of}
use Rattle.iobufs_owner.specs.Changes.{Outcome, refused, on_lent, done, edited, made, with_block, with_record, next_record, with_count, block_freed, record_freed, both_freed, detached_handle, part}
use Rattle.iobufs_owner.specs.Lending.{lend_of, lend_any_of, lend_owning_of, lend_owning_view_of}

-- ---- new blocks

abbrev pub made_block : (base size align : ℕ) → Bool → Block
made_block base size align external = record { base = base; size = size; align = align; external = external }

-- a new writable handle on a block
abbrev pub first_handle : Block → Word → Handle
first_handle b w = record { kind = Mut; ptr = b.base; len = 0; cap = b.size; word = w }

-- a view of a whole block
abbrev pub whole_view : Block → Word → Handle
whole_view b w = record { kind = View; ptr = b.base; len = b.size; cap = 0; word = w }

-- a new block that a descriptor describes
abbrev pub described_of : State → Block → ℕ → Outcome
described_of s b w = made (with_block s b) (first_handle b (Descriptor w))

-- a new block that a new record counts
abbrev pub recorded_of : State → Block → Handle → Outcome
recorded_of s b x = made (with_record (with_block s b) 1 (length s.tables.blocks)) x

-- a new native block that a word describes
pub record CanDescribe (s : State) (b : Block) (w : ℕ) : Type 0 where
  pub log : ℕ
  pub place : IsGoodPlace s.tables.blocks b.base b.size b.align
  pub native : b.external ≡ false
  pub align : b.align ≡ 2 ^ log
  pub room : HasRoom s.tables.align_bits s.tables.tail_bits s.tables.size_bits b.size log 0
  pub word : w ≡ word_of s.tables.align_bits s.tables.tail_bits b.size log 0

abbrev pub fits_in : Tables → (size log tail : ℕ) → Bool
fits_in g size log tail = fits g.align_bits g.tail_bits g.size_bits size log tail

-- where the fields have room a descriptor of tail 0, else a record
abbrev pub placed : State → (base size align : ℕ) → Outcome
placed s base size align =
    let b = made_block base size align false in
    if fits_in s.tables size (log_of align) 0
    then described_of s b (word_of s.tables.align_bits s.tables.tail_bits size (log_of align) 0)
    else recorded_of s b (first_handle b (Counted (next_record s)))

abbrev pub new_of : State → (base size align : ℕ) → Bool → Outcome
new_of s base size align memory =
    if is_good_place s.tables.blocks base size align then
    (if memory then placed s base size align else refused s Memory) else refused s BadPlace

abbrev pub external_of : State → (base size : ℕ) → Bool → Outcome
external_of s base size memory =
    let b = made_block base size 1 true in
    if is_good_place s.tables.blocks base size 1
    then (if memory then recorded_of s b (whole_view b (Counted (next_record s))) else refused s Memory)
    else refused s BadPlace

abbrev pub static_of : State → ℕ → Outcome
static_of s len = made s (detached_handle len)

-- ---- Put and Advance

abbrev pub put_of : State → ℕ → ℕ → Outcome
put_of s h n =
    on_lent s (lend_of s h Mut) (λ x. if nat_lt (x.cap - x.len) n then refused s OutOfRange else done
    (edited s h (record x { len = x.len + n })))

-- a view has capacity 0 and keeps it
abbrev pub advanced : Handle → ℕ → Handle
advanced x n = record x { ptr = x.ptr + n; len = x.len - n; cap = x.cap - n }

abbrev pub advance_of : State → ℕ → ℕ → Outcome
advance_of s h n = on_lent s (lend_any_of s h) (λ x. if nat_lt x.len n then refused s OutOfRange else done (edited s h (advanced x n)))

-- ---- Freeze

-- something that holds nothing, in the place of a handle that lets its block go
abbrev pub IsLoose : Option Handle → Type 0
IsLoose o = (o ≡ None) ⊎ (o ≡ Some (detached_handle 0))

-- the block that a handle owns alone is freed, and the record that it goes by, if any
abbrev pub freed_with : State → Handle → Word → State
freed_with s x Empty = s
freed_with s x (Descriptor w) = block_freed s (recovered s.tables x w)
freed_with s x (Counted r) = both_freed s r

-- the writable handle as a view
abbrev pub frozen : Handle → Word → Handle
frozen x w = record { kind = View; ptr = x.ptr; len = x.len; cap = 0; word = w }

-- a handle's descriptor becomes a new record with this count
abbrev pub promoted : State → Handle → ℕ → State
promoted s x n = with_record s n (owned_by s.tables x)

abbrev pub freeze_by : State → ℕ → Bool → Handle → Word → Outcome
freeze_by s h memory x Empty = done (edited s h (frozen x Empty))
freeze_by s h memory x (Descriptor w) =
    if nat_lt (x.cap - x.len) (2 ^ s.tables.tail_bits)
    then done (edited s h (frozen x (Descriptor (retailed s.tables w (x.cap - x.len)))))
    else (if memory then done (edited (promoted s x 1) h (frozen x (Counted (next_record s)))) else refused s Memory)
freeze_by s h memory x (Counted r) = done (edited s h (frozen x (Counted r)))

abbrev pub freeze_of : State → ℕ → Bool → Outcome
freeze_of s h memory =
    on_lent s (lend_of s h Mut)
    (λ x. if nat_eq x.len 0 then done (edited (freed_with s x x.word) h (detached_handle 0)) else freeze_by s h memory x x.word)

-- ---- TryIntoMut

-- the view as a writable handle
abbrev pub thawed : Handle → ℕ → Word → Handle
thawed x cap w = record { kind = Mut; ptr = x.ptr; len = x.len; cap = cap; word = w }

abbrev pub declined : State → Outcome
declined s = record { reply = Declined; state = s }

abbrev pub recover_by : State → ℕ → Handle → Word → Outcome
recover_by s h x Empty = if nat_eq x.len 0 then done (edited s h (thawed x 0 Empty)) else declined s
recover_by s h x (Descriptor w) =
    done (edited s h (thawed x (x.len + tail_in s.tables w) (Descriptor (retailed s.tables w 0))))
recover_by s h x (Counted r) =
    let b = block_at s.tables (record_at s.tables r).block in
    if b.external then declined s
    else (if nat_eq (record_at s.tables r).count 1
    then done (edited s h (thawed x (b.base + b.size - x.ptr) (Counted r)))
    else declined s)

abbrev pub recover_of : State → ℕ → Outcome
recover_of s h = on_lent s (lend_of s h View) (λ x. recover_by s h x x.word)

-- ---- SplitTo

-- the handle keeps what is after the place, and the part before it is a new view; both with this word
abbrev pub split_with : State → ℕ → ℕ → Handle → Word → Outcome
split_with s h at x w = made (edited s h (part x at x.len w)) (part x 0 at w)

abbrev pub split_by : State → ℕ → ℕ → Bool → Handle → Word → Outcome
split_by s h at memory x Empty = split_with s h at x Empty
split_by s h at memory x (Descriptor w) =
    if memory
    then split_with (promoted s x 2) h at x (Counted (next_record s))
    else refused s Memory
split_by s h at memory x (Counted r) =
    if nat_lt s.ceiling (record_at s.tables r).count then refused s Ceiling
    else split_with (with_count s r ((record_at s.tables r).count + 1)) h at x (Counted r)

abbrev pub split_of : State → ℕ → ℕ → Bool → Outcome
split_of s h at memory =
    on_lent s (lend_of s h View)
    (λ x. if nat_lt x.len at then refused s OutOfRange
    else (if nat_eq at 0 then made s (detached_handle 0)
    else (if nat_eq at x.len then made (edited s h (detached_handle 0)) x
    else split_by s h at memory x x.word)))

-- ---- IsUnique

abbrev pub is_unique : Tables → Handle → Word → Bool
is_unique g x Empty = false
is_unique g x (Descriptor w) = true
is_unique g x (Counted r) = is_mut x.kind || nat_eq (record_at g r).count 1

abbrev pub unique_of : State → ℕ → Outcome
unique_of s h = on_lent s (lend_owning_of s h) (λ x. record { reply = Unique (is_unique s.tables x x.word); state = s })

-- ---- Demote

-- the bytes of a block after a view
abbrev pub tail_of : Block → Handle → ℕ
tail_of b x = b.base + b.size - x.ptr - x.len

-- a record that counts one view of a native block, whose size, alignment and tail have room in a word
abbrev pub may_demote : Tables → Handle → ℕ → Bool
may_demote g x r =
    let b = block_at g (record_at g r).block in
    nat_eq (record_at g r).count 1 && not b.external && fits_in g b.size (log_of b.align) (tail_of b x)

-- the view by a descriptor of its block
abbrev pub described : Tables → Handle → ℕ → Handle
described g x r =
    let b = block_at g (record_at g r).block in
    record x { word = Descriptor (word_of g.align_bits g.tail_bits b.size (log_of b.align) (tail_of b x)) }

-- the descriptor takes the record's place, and the record alone is freed
abbrev pub demote_counted : State → ℕ → Handle → ℕ → Outcome
demote_counted s h x r =
    if may_demote s.tables x r then done (edited (record_freed s r) h (described s.tables x r)) else declined s

-- a word that isn't a record's stays; a view without block doesn't come here
abbrev pub demote_by : State → ℕ → Handle → Word → Outcome
demote_by s h x Empty = declined s
demote_by s h x (Descriptor w) = declined s
demote_by s h x (Counted r) = demote_counted s h x r

-- a view goes back from a record to a descriptor
abbrev pub demote_of : State → ℕ → Outcome
demote_of s h = on_lent s (lend_owning_view_of s h) (λ x. demote_by s h x x.word)
