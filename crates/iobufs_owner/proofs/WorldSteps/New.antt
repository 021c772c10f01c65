-- New and External, read as steps of the world.
use Rattle.iobufs_owner.proofs.Base.{◌≡◌, ◌⊎◌, ℕ, Bool, true, false, cond, [], ◌∷◌, ◌++◌, length, Some, All, ap, ◌∙◌, refl, MatchBool, map-append, Block, Handle, Record, Descriptor, Counted, BadPlace, Memory, Reply, State, Tables, reading, read_held, is_freed, IsSound, IsGoodPlace, HasRoom, word_of, Outcome, refused, with_block, with_record, next_record, made_block, first_handle, described_of, recorded_of, NoRoom, Makes, Refuses, block_more, native_block, IsAnswered, calls-read-kept, owner-counted, grown, grown-keeps, handles-kept, fresh-log, fits-room, fits-true, is_good_place, log_of, MatchOption, cause_if, not, Keeps, KeepsLetGo, Mut}
use Rattle.iobufs_owner.specs.ShortCalls as short
use Rattle.iobufs_owner.proofs.Soundness.{other-base, first-owner, recorded-new, recorded-let_go, both, both-keeps}
use Rattle.iobufs_owner.proofs.WorldSteps.Taken.{same-taken, made-taken}
use Rattle.iobufs_owner.proofs.WorldSteps.GoodPlaces.{good-is}

-- one block more isn't freed
block-in : {s : State} {g : Tables} (b : Block) → IsSound s → IsGoodPlace s.tables.blocks b.base b.size b.align → Keeps s.tables g
    → All (KeepsLetGo s.tables g) s.calls → g.blocks ≡ s.tables.blocks ++ b ∷ []
    → reading (record s { tables = g }) ≡ block_more (reading s) b
block-in {s} {g} b k good e a n = rw (
  handles-kept s.tables g s.calls s.handles e k.fit,
  calls-read-kept s g s.calls e a k.calls_fit,
  n,
  map-append (λ (x : Block). is_freed x s.freed_blocks) s.tables.blocks (b ∷ []),
  fresh-log s.tables b s.freed_blocks (other-base s.tables.blocks b k.blocks.places good) k.block_log.known,
) refl

-- the handle on a block that a record counts
pub recorded-made : {s t : State} {reply : Reply} (b : Block) (x : Handle) → IsSound s → IsGoodPlace s.tables.blocks b.base b.size b.align
    → x.word ≡ Counted (length s.tables.records) → IsAnswered s (recorded_of s b x) reply t
    → NoRoom (reading s) reply (reading t)
    ⊎ Makes (block_more (reading s) b) (record (read_held s.tables x) { block = Some (length s.tables.blocks) }) reply (reading t)
recorded-made {s} b x k good w i =
    let n : ℕ = length s.tables.blocks in
    let o = owner-counted (both s.tables b) x (length s.tables.records) w
    ∙ ap (λ (v : Record). Some v.block) (recorded-new (grown s.tables b) 1 n) in
    made-taken (with_record (with_block s b) 1 n) x
    (block-in b k good (both-keeps s.tables b) (recorded-let_go (grown s.tables b) 1 n _) refl) (rw o refl) i

-- a new native block is placed where users see it
pub new-placed : {s t : State} {reply : Reply} (base size align : ℕ) → IsSound s → IsGoodPlace s.tables.blocks base size align
    → (v : Bool) → short.fits_in s.tables size (log_of align) 0 ≡ v
    → IsAnswered s (cond v (described_of s (made_block base size align false)
    (word_of s.tables.align_bits s.tables.tail_bits size (log_of align) 0))
    (recorded_of s (made_block base size align false) (first_handle (made_block base size align false) (Counted (next_record s))))) reply t
    → NoRoom (reading s) reply (reading t) ⊎ Makes (block_more (reading s) (native_block base size align))
    (record { kind = Mut; block = Some (length s.tables.blocks); place = base; len = 0 }) reply (reading t)
new-placed {s} base size align k good true f i =
    let room = fits-room s.tables.align_bits s.tables.tail_bits s.tables.size_bits size (log_of align) 0 f in
    let b : Block = made_block base size align false in
    let w : ℕ = word_of s.tables.align_bits s.tables.tail_bits size (log_of align) 0 in
    made-taken (with_block s b) (first_handle b (Descriptor w)) (block-in b k good (grown-keeps s.tables b) (λ i d l q j t. refl) refl)
    (rw (first-owner s.tables b (log_of align) w k.blocks.places good room refl) refl) i
new-placed base size align k good false f i = recorded-made (made_block base size align false) _ k good refl i

-- a block that a word describes is placed so
pub described-placed : (s : State) (base size align w : ℕ)
    → HasRoom s.tables.align_bits s.tables.tail_bits s.tables.size_bits size (log_of align) 0
    → w ≡ word_of s.tables.align_bits s.tables.tail_bits size (log_of align) 0
    → described_of s (made_block base size align false) w ≡ short.placed s base size align
described-placed s base size align w room is = rw (
  is,
  fits-true s.tables.align_bits s.tables.tail_bits s.tables.size_bits size (log_of align) 0 room,
) refl

-- a new block where one may be, if memory is granted; what is made is o, and P says so in the world
pub granted : {s t : State} {P : Type 0} {o : Outcome} {reply : Reply} (base size align : ℕ) (memory v : Bool)
    → is_good_place s.tables.blocks base size align ≡ v
    → (IsGoodPlace s.tables.blocks base size align → IsAnswered s o reply t → P)
    → IsAnswered s (cond v (cond memory o (refused s Memory)) (refused s BadPlace)) reply t
    → MatchOption (cause_if (not v) BadPlace) (MatchBool memory P (Refuses (reading s) Memory reply (reading t)))
    (λ why. Refuses (reading s) why reply (reading t))
granted {s} base size align true true e f i = f (good-is s.tables.blocks base size align e) i
granted base size align false true e f i = same-taken i
granted base size align memory false e f i = same-taken i
