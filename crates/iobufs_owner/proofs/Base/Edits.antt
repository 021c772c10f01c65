-- The meaning of a handle's word in a sound machine; and puts, advances, freezes and recoveries in place keep it sound.
use Rattle.iobufs_owner.proofs.Base.Known.{◌≡◌, inl, inr, ℕ, ◌+◌, ◌-◌, ◌%◌, ◌^◌, ◌<◌, ◌≤◌, zero, suc, get_or, List, [], ◌∷◌, true, false, Option, Some, None, SomeIff, sym, ◌∙◌, ap, subst, refl, arith, length, leb_tells, mod-eq_of_lt, Handle, View, Mut, Record, Kind, Block, Pending, Word, Empty, Descriptor, Counted, HasRoom, IsWord, word_of, State, Tables, owner_of, base_by, block_with, handle_at, record_at, block_at, size_in, tail_in, retailed, edited, is_lent, Lends, advanced, frozen, thawed, holders, is_block, reading, read_handle, read_call, IsSound, FitsWord, DescribesBlock, HoldsNothing, IsDescribed, IsCounted, LiesIn, LeavesBehind, alone, describes, hidden, pow_pos, length-map, nat_tests, IsPlace, eqb_tells, log_below, log_of}
use Rattle.iobufs_owner.proofs.Base.Words.{word-size, word-tail, retailed-is, log-below}
use Rattle.iobufs_owner.proofs.Base.Kept.{at-some, fits-at}
use Rattle.iobufs_owner.proofs.Base.StaysSound.{sound-edited, owner-empty, owner-counted}
use Rattle.iobufs_owner.proofs.Base.Lent.{owner-same}
use Rattle.iobufs_owner.proofs.Base.Counts.{count-some, holders-few}

-- a handle that is alone has one holder
pub alone-at : (s : State) (h : ℕ) (x : Handle) (b : ℕ) → IsSound s → handle_at s h ≡ Some x → alone s.tables b (Some x) ≡ true
    → holders (reading s) b ≡ 1
alone-at s h x b k at e = k.sole b (count-some (alone s.tables b) s.handles h None (at-some s.handles h x at) (rw at e))

-- a live record is one of the table
pub live-inside : (rs : List Record) (r : ℕ) → (get_or rs r (record { count = 0; block = 0; live = false })).live ≡ true → r < length rs
live-inside [] r e = absurd (cc)
live-inside (v ∷ rs) zero e = omega arith
live-inside (v ∷ rs) (suc r) e = omega (arith, live-inside rs r e)

-- ---- descriptors

-- a handle by a descriptor holds the first block with the base that is recovered
pub owner-described : (g : Tables) (x : Handle) (w : ℕ) → x.word ≡ Descriptor w → owner_of g x ≡ block_with (base_by g x w) g.blocks
unfolding owner_of
owner-described g x w e = rw e refl

-- a handle with another descriptor of one base holds one block
pub owner-redescribed : (g : Tables) (x y : Handle) (w v : ℕ) → x.word ≡ Descriptor w → y.word ≡ Descriptor v
    → base_by g y v ≡ base_by g x w
    → owner_of g y ≡ owner_of g x
owner-redescribed g x y w v ex ey e =
    owner-described g y v ey ∙ ap (λ n. block_with n g.blocks) e ∙ sym (owner-described g x w ex)

-- the size in a descriptor is that of the block that it describes
pub size-says : (g : Tables) (x : Handle) (w b log tail : ℕ) → IsDescribed g x w b log tail → size_in g w ≡ (block_at g b).size
size-says g x w b log tail d = word-size g.align_bits g.tail_bits g.size_bits w (block_at g b).size log tail d.room d.word

-- the tail in a descriptor is the one with which it describes its block
pub tail-says : (g : Tables) (x : Handle) (w b log tail : ℕ) → IsDescribed g x w b log tail → tail_in g w ≡ tail
tail-says g x w b log tail d = word-tail g.align_bits g.tail_bits g.size_bits w (block_at g b).size log tail d.room d.word

-- a descriptor with another tail fits its block
pub room-again : (g : Tables) (x : Handle) (w b log tail n : ℕ) → IsDescribed g x w b log tail → n < 2 ^ g.tail_bits
    → HasRoom g.align_bits g.tail_bits g.size_bits (block_at g b).size log n
room-again g x w b log tail n d l = record { some = d.room.some; log_fits = d.room.log_fits; tail_fits = l; size_fits = d.room.size_fits }

pub word-again : (g : Tables) (x : Handle) (w b log tail n : ℕ) → IsDescribed g x w b log tail
    → retailed g w n ≡ word_of g.align_bits g.tail_bits (block_at g b).size log n
word-again g x w b log tail n d = retailed-is g.align_bits g.tail_bits g.size_bits w (block_at g b).size log tail n d.room d.word

abbrev pub no_block : Block
no_block = record { base = 0; size = 0; align = 0; external = false }

-- an alignment that divides an address above 0 is at most that address
pub align-small : (base align : ℕ) → 0 < base → base < 2 ^ 64 → base % align ≡ 0 → align < 2 ^ 64
align-small base align p q e = elim (leb_tells align base)
    [ inl l ↦ (let m = l.1 in omega arith) | inr l ↦ absurd (let z = mod-eq_of_lt l.1 in omega (arith, z, e)) ]

power-of : (k align log : ℕ) → log < k → align ≡ 2 ^ log → align ≡ 2 ^ log_below k align
unfolding log_below
power-of zero align log l is = absurd (omega (arith, l))
power-of (suc k) align log l is = elim (eqb_tells align (2 ^ k)) [
  | inl e ↦ rw e.0 e.1
  | inr e ↦ rw e.0 (power-of k align log (elim (eqb_tells log k) [
    | inl i ↦ absurd (e.1 (is ∙ ap (λ (n : ℕ). 2 ^ n) i.1))
    | inr i ↦ (let d = i.1 in omega (arith, l, d))
  ]) is)
]

-- the alignment of a place is the power of its logarithm
pub log-is : (base size align : ℕ) → IsPlace base size align → align ≡ 2 ^ log_of align
log-is base size align p =
    let end = p.ends in
    let fits : align < 2 ^ 64 = align-small base align p.above (omega (arith, end)) p.aligned in
    power-of 64 align p.power.0 (log-below align p.power.0 fits p.power.1) p.power.1

-- in a sound machine a descriptor that describes a block is a word of the format
pub word-fits : (s : State) (x : Handle) (w b log tail : ℕ) → IsSound s → IsDescribed s.tables x w b log tail
    → IsWord s.tables.align_bits s.tables.tail_bits s.tables.size_bits w
word-fits s x w b log tail k d =
    let place = k.blocks.places b (record { base = 0; size = 0; align = 0; external = false }) d.known in
    record {
      size = (block_at s.tables b).size;
      log = log;
      tail = tail;
      small = log-below (2 ^ log) log
          (align-small (block_at s.tables b).base (2 ^ log) place.above (let z = place.ends in omega arith)
          (rw (← d.align) place.aligned)) refl;
      room = d.room;
      is = d.word;
    }

-- a handle inside a block ends below 2 ^ 64, if the block does
end-kind : (b : Block) (x : Handle) (kind : Kind) → b.base + b.size < 2 ^ 64 → LiesIn b x kind → x.ptr + x.len < 2 ^ 64
end-kind b x View e lies = omega (arith, e, lies.ends)
end-kind b x Mut e lies = omega (arith, e, lies.ends, lies.within)

end-by : (s : State) (x : Handle) (w : Word) → IsSound s → FitsWord s.tables s.calls x w → x.ptr + x.len < 2 ^ 64
end-by s x Empty k f = f.ends
end-by s x (Descriptor w) k d = end-kind (block_at s.tables d.block) x x.kind
    (k.blocks.places d.block no_block d.says.known).ends d.says.lies
end-by s x (Counted r) k f = end-kind (block_at s.tables (record_at s.tables r).block) x x.kind
    (k.blocks.places (record_at s.tables r).block no_block f.known).ends f.lies

-- in a sound machine each handle ends where addresses end
pub end-small : (s : State) (h : ℕ) (x : Handle) → IsSound s → handle_at s h ≡ Some x → x.ptr + x.len < 2 ^ 64
end-small s h x k at = end-by s x x.word k (fits-at s h x k at)

-- ---- Put

-- another handle of the kind, by the same word, fits where it lies and ends as the old one does, or holds nothing as that does
pub fits-again : (g : Tables) (calls : List (Option Pending)) (x y : Handle) (w : Word) → y.kind ≡ x.kind → owner_of g y ≡ owner_of g x
    → ((b : Block) → LiesIn b x x.kind → LiesIn b y y.kind)
    → ((b : Block) (tail : ℕ) → LeavesBehind b x tail x.kind → LeavesBehind b y tail y.kind)
    → (HoldsNothing x → HoldsNothing y) → FitsWord g calls x w → FitsWord g calls y w
fits-again g calls x y Empty same o lies behind nothing f = nothing f
fits-again g calls x y (Descriptor w) same o lies behind nothing f =
    let d = f.says in
    record {
      block = f.block;
      log = f.log;
      tail = f.tail;
      says = record {
        known = d.known;
        room = d.room;
        word = d.word;
        align = d.align;
        native = d.native;
        owner = o ∙ d.owner;
        lies = lies (block_at g f.block) d.lies;
        behind = behind (block_at g f.block) f.tail d.behind;
      };
    }
fits-again g calls x y (Counted r) same o lies behind nothing f = record {
  live = f.live;
  known = f.known;
  shown = f.shown;
  lies = lies (block_at g (record_at g r).block) f.lies;
  native = λ m. f.native (sym same ∙ m);
}

-- bytes put to a writable handle leave the block that it holds
pub owner-put : (g : Tables) (x : Handle) (n : ℕ) → x.kind ≡ Mut → owner_of g (record x { len = x.len + n }) ≡ owner_of g x
owner-put g x n m = owner-same g x (record x { len = x.len + n }) refl (λ w. rw m refl)

-- bytes put to a writable handle that no call borrows, within its capacity, keep the machine sound
pub sound-put : (s : State) (h : ℕ) (x : Handle) (n : ℕ) → IsSound s → Lends s h Mut x → n ≤ x.cap - x.len
    → IsSound (edited s h (record x { len = x.len + n }))
sound-put s h x n k t l =
    let y : Handle = record x { len = x.len + n } in
    let o = owner-put s.tables x n t.kind_is in
    sound-edited s h x y k t.at t.free o (λ b. rw o refl) (λ b a. alone-at s h x b k t.at (rw o at a))
    (fits-again s.tables s.calls x y x.word refl o (λ b f.
    let lies = rw t.kind_is at f in rw t.kind_is (record
    { begins = lies.begins; ends = lies.ends; within = omega (arith, l, lies.within) }))
    (λ b tail f. rw t.kind_is (rw t.kind_is at f))
    (λ f. let z = f.no_bytes t.kind_is in record {
      no_room = f.no_room;
      ends = omega (arith, f.no_room, f.ends);
      no_bytes = λ _. omega (arith, f.no_room);
    }) (fits-at s h x k t.at))

-- ---- Advance

within-by : (g : Tables) (calls : List (Option Pending)) (x : Handle) (w : Word) → FitsWord g calls x w → x.kind ≡ Mut → x.len ≤ x.cap
within-by g calls x Empty f m = let z = f.no_bytes m in omega arith
within-by g calls x (Descriptor w) d m = (rw m at d.says.lies).within
within-by g calls x (Counted r) f m = (rw m at f.lies).within

-- a writable handle has no more bytes than room
pub within : (s : State) (h : ℕ) (x : Handle) → IsSound s → handle_at s h ≡ Some x → x.kind ≡ Mut → x.len ≤ x.cap
within s h x k at m = within-by s.tables s.calls x x.word (fits-at s h x k at) m

base-kind : (g : Tables) (x : Handle) (n : ℕ) (kind : Kind) → n ≤ x.len → (kind ≡ Mut → x.len ≤ x.cap) → (w : ℕ) → x.kind ≡ kind
    → base_by g (advanced x n) w ≡ base_by g x w
base-kind g x n View l c w e = rw e (omega arith)
base-kind g x n Mut l c w e = let z = c refl in rw e (omega arith)

-- a handle that gives up bytes that it has holds what it held, where a writable one has no more bytes than capacity
pub owner-advanced : (g : Tables) (x : Handle) (n : ℕ) → n ≤ x.len → (x.kind ≡ Mut → x.len ≤ x.cap)
    → owner_of g (advanced x n) ≡ owner_of g x
owner-advanced g x n l c = owner-same g x (advanced x n) refl (λ w. base-kind g x n x.kind l c w refl)

advance-lies : (b : Block) (x : Handle) (n : ℕ) (kind : Kind) → n ≤ x.len → LiesIn b x kind → LiesIn b (advanced x n) kind
advance-lies b x n View l lies = record {
  begins = omega (arith, lies.begins);
  ends = omega (arith, l, lies.ends);
  no_room = omega
      (arith, lies.no_room);
}
advance-lies b x n Mut l lies = record {
  begins = omega (arith, lies.begins);
  ends = omega (arith, l, lies.ends, lies.within);
  within = omega (arith, l, lies.within);
}

advance-behind : (b : Block) (x : Handle) (n tail : ℕ) (kind : Kind) → n ≤ x.len → LeavesBehind b x tail kind
    → LeavesBehind b (advanced x n) tail kind
advance-behind b x n tail View l e = omega (arith, e)
advance-behind b x n tail Mut l e = e

-- a handle that no call borrows gives up bytes that it has, and the machine stays sound
pub sound-advanced : (s : State) (h : ℕ) (x : Handle) (n : ℕ) → IsSound s → handle_at s h ≡ Some x → is_lent h s.calls ≡ false → n ≤ x.len
    → IsSound (edited s h (advanced x n))
sound-advanced s h x n k at free l =
    let o = owner-advanced s.tables x n l (within s h x k at) in
    sound-edited s h x (advanced x n) k at free o (λ b. rw o refl) (λ b a. alone-at s h x b k at (rw o at a))
    (fits-again s.tables s.calls x (advanced x n) x.word refl o (λ b f. advance-lies b x n x.kind l f)
    (λ b tail f. advance-behind b x n tail x.kind l f)
    (λ f. record {
      no_room = omega (arith, f.no_room);
      ends = omega (arith, f.ends, l);
      no_bytes = λ m. let z = f.no_bytes m in omega arith;
    }) (fits-at s h x k at))

-- ---- Freeze, where the handle keeps what it owns by

-- a writable handle gives the same base as a view whose descriptor has its spare bytes for a tail, where these fit the field
pub base-frozen : (g : Tables) (x : Handle) (w b log tail : ℕ) → x.kind ≡ Mut → x.len ≤ x.cap → IsDescribed g x w b log tail
    → x.cap - x.len < 2 ^ g.tail_bits → base_by g (frozen x (Descriptor (retailed g w (x.cap - x.len))))
    (retailed g w (x.cap - x.len)) ≡ base_by g x w
base-frozen g x w b log tail m c d l =
    let room = room-again g x w b log tail (x.cap - x.len) d l in
    let word = word-again g x w b log tail (x.cap - x.len) d in
    let size = word-size g.align_bits g.tail_bits g.size_bits (retailed g w (x.cap - x.len)) (block_at g b).size log
    (x.cap - x.len) room word in
    let back = word-tail g.align_bits g.tail_bits g.size_bits (retailed g w (x.cap - x.len)) (block_at g b).size log
    (x.cap - x.len) room word in
    let old = size-says g x w b log tail d in
    rw (size, back, m, old) (omega arith)

-- the facts of a descriptor
pub described-at : (s : State) (h : ℕ) (x : Handle) (w : ℕ) → IsSound s → handle_at s h ≡ Some x → x.word ≡ Descriptor w
    → DescribesBlock s.tables x w
described-at s h x w k at i = subst (λ (v : Word). FitsWord s.tables s.calls x v) i (fits-at s h x k at)

-- in a sound machine a handle by a record lies in the record's block, and the record is live and published
pub counted-at : (s : State) (h : ℕ) (x : Handle) (r : ℕ) → IsSound s → handle_at s h ≡ Some x → x.word ≡ Counted r
    → IsCounted s.tables s.calls x r
counted-at s h x r k at i = subst (λ (v : Word). FitsWord s.tables s.calls x v) i (fits-at s h x k at)

-- in a sound machine a handle without block has no capacity, ends where addresses end, and is empty where it is writable
pub empty-at : (s : State) (h : ℕ) (x : Handle) → IsSound s → handle_at s h ≡ Some x → x.word ≡ Empty → HoldsNothing x
empty-at s h x k at i = subst (λ (v : Word). FitsWord s.tables s.calls x v) i (fits-at s h x k at)

-- a handle of this kind lies in its block as this kind does
pub lies-as : (b : Block) (x : Handle) (kind : Kind) → x.kind ≡ kind → LiesIn b x x.kind → LiesIn b x kind
lies-as b x kind e l = subst (λ (q : Kind). LiesIn b x q) e l

-- the view that a handle in its block becomes is in it too
pub frozen-lies : (b : Block) (x : Handle) (w : Word) (kind : Kind) → LiesIn b x kind → LiesIn b (frozen x w) View
frozen-lies b x w View l = record { begins = l.begins; ends = l.ends; no_room = refl }
frozen-lies b x w Mut l = record { begins = l.begins; ends = omega (arith, l.ends, l.within); no_room = refl }

-- where a handle lies isn't told by its word
pub lies-still : (b : Block) (x : Handle) (v : Word) (kind : Kind) → LiesIn b x kind → LiesIn b (record x { word = v }) kind
lies-still b x v View l = record { begins = l.begins; ends = l.ends; no_room = l.no_room }
lies-still b x v Mut l = record { begins = l.begins; ends = l.ends; within = l.within }

-- after a handle of this kind is left what this kind leaves
pub behind-as : (b : Block) (x : Handle) (tail : ℕ) (kind : Kind) → x.kind ≡ kind → LeavesBehind b x tail x.kind
    → LeavesBehind b x tail kind
behind-as b x tail kind e l = subst (λ (q : Kind). LeavesBehind b x tail q) e l

-- which handles are descriptors, and which must be alone
pub alone-described : (g : Tables) (c : ℕ) (x : Handle) (w : ℕ) → x.word ≡ Descriptor w → alone g c (Some x) ≡ is_block c (owner_of g x)
alone-described g c x w e = rw e (grind (arith))

-- a handle by a descriptor describes the block that it holds, and no other
pub describes-described : (g : Tables) (c : ℕ) (x : Handle) (w : ℕ) → x.word ≡ Descriptor w
    → describes g c (Some x) ≡ is_block c (owner_of g x)
describes-described g c x w e = rw e (grind (arith))

-- a handle by a record describes no block
pub describes-counted : (g : Tables) (c : ℕ) (x : Handle) (r : ℕ) → x.word ≡ Counted r → describes g c (Some x) ≡ false
describes-counted g c x r e = rw e (grind (arith))

-- a view by a record needn't be alone on any block
pub alone-shared : (g : Tables) (c : ℕ) (x : Handle) (r : ℕ) → x.word ≡ Counted r → x.kind ≡ View → alone g c (Some x) ≡ false
alone-shared g c x r e v = rw (e, v) (grind (arith))

-- a writable handle by a record has to be alone on the block that it holds, and on no other
pub alone-written : (g : Tables) (c : ℕ) (x : Handle) (r : ℕ) → x.word ≡ Counted r → x.kind ≡ Mut
    → alone g c (Some x) ≡ is_block c (owner_of g x)
alone-written g c x r e v = rw (e, v) (grind (arith))

-- a handle by a descriptor, with another descriptor for the same block
pub sound-redescribed : (s : State) (h : ℕ) (x y : Handle) (w b log tail n : ℕ) → IsSound s → handle_at s h ≡ Some x
    → is_lent h s.calls ≡ false
    → x.word ≡ Descriptor w → IsDescribed s.tables x w b log tail → n < 2 ^ s.tables.tail_bits → y.word ≡ Descriptor (retailed s.tables w n)
    → base_by s.tables y (retailed s.tables w n) ≡ base_by s.tables x w → LiesIn (block_at s.tables b) y y.kind
    → LeavesBehind (block_at s.tables b) y n y.kind → IsSound (edited s h y)
sound-redescribed s h x y w b log tail n k at free xw d l yw base lies behind =
    let o = owner-redescribed s.tables x y w (retailed s.tables w n) xw yw base in
    sound-edited s h x y k at free o (λ c. describes-described s.tables c y (retailed s.tables w n) yw ∙ ap (is_block c) o
    ∙ sym (describes-described s.tables c x w xw))
    (λ c a. alone-at s h x c k at (alone-described s.tables c x w xw ∙ ap (is_block c) (sym o)
    ∙ sym (alone-described s.tables c y (retailed s.tables w n) yw)
    ∙ a)) (subst (λ (v : Word). FitsWord s.tables s.calls y v) (sym yw) (record {
      block = b;
      log = log;
      tail = n;
      says = record {
        known = d.known;
        room = room-again s.tables x w b log tail n d l;
        word = word-again s.tables x w b log tail n d;
        align = d.align;
        native = d.native;
        owner = o ∙ d.owner;
        lies = lies;
        behind = behind;
      };
    }))

-- another handle that holds nothing, in the place of one that no call borrows
pub sound-emptied : (s : State) (h : ℕ) (x y : Handle) (kind : Kind) → IsSound s → Lends s h kind x → x.word ≡ Empty → y.word ≡ Empty
    → HoldsNothing y
    → IsSound (edited s h y)
sound-emptied s h x y kind k t i e f =
    let oy = owner-empty s.tables y e in
    let ox = owner-empty s.tables x i in
    sound-edited s h x y k t.at t.free (oy ∙ sym ox) (λ c. rw (oy, ox) refl) (λ c a. absurd (let q = rw oy at a in cc))
    (subst (λ (v : Word). FitsWord s.tables s.calls y v) (sym e) f)

-- another view by the same record, in the place of a handle that no call borrows
pub sound-recounted : (s : State) (h : ℕ) (x y : Handle) (kind : Kind) (r : ℕ) → IsSound s → Lends s h kind x → x.word ≡ Counted r
    → y.word ≡ Counted r
    → y.kind ≡ View → LiesIn (block_at s.tables (record_at s.tables r).block) y View → IsSound (edited s h y)
sound-recounted s h x y kind r k t i e v lies =
    let f = counted-at s h x r k t.at i in
    sound-edited s h x y k t.at t.free (owner-counted s.tables y r e ∙ sym (owner-counted s.tables x r i))
    (λ c. describes-counted s.tables c y r e ∙ sym (describes-counted s.tables c x r i))
    (λ c a. absurd (let q = sym (alone-shared s.tables c y r e v) ∙ a in cc))
    (subst (λ (w : Word). FitsWord s.tables s.calls y w) (sym e) (record {
      live = f.live;
      known = f.known;
      shown = f.shown;
      lies = subst (λ (q : Kind). LiesIn (block_at s.tables (record_at s.tables r).block) y q) (sym v) lies;
      native = λ m. absurd (let q = sym v ∙ m in cc);
    }))

-- a writable handle by a descriptor that no call borrows becomes a view with its spare bytes for a tail, where these fit the field: the
-- machine stays sound
pub sound-frozen_described : (s : State) (h : ℕ) (x : Handle) (w : ℕ) → IsSound s → Lends s h Mut x → x.word ≡ Descriptor w
    → x.cap - x.len < 2 ^ s.tables.tail_bits → IsSound (edited s h (frozen x (Descriptor (retailed s.tables w (x.cap - x.len)))))
sound-frozen_described s h x w k t i l =
    let g : Tables = s.tables in
    let d = described-at s h x w k t.at i in
    let b : ℕ = d.block in
    let c = within s h x k t.at t.kind_is in
    let lies = lies-as (block_at g b) x Mut t.kind_is d.says.lies in
    sound-redescribed s h x (frozen x (Descriptor (retailed s.tables w (x.cap - x.len)))) w d.block d.log d.tail
    (x.cap - x.len) k t.at t.free i d.says l refl
    (base-frozen g x w d.block d.log d.tail t.kind_is c d.says l)
    (record { begins = omega (arith, lies.begins); ends = omega (arith, lies.ends, c); no_room = refl })
    (omega (arith, lies.ends, c))

-- a writable handle by a record that no call borrows becomes a view by that record, and the machine stays sound
pub sound-frozen_counted : (s : State) (h : ℕ) (x : Handle) (r : ℕ) → IsSound s → Lends s h Mut x → x.word ≡ Counted r
    → IsSound (edited s h (frozen x (Counted r)))
sound-frozen_counted s h x r k t i =
    sound-recounted s h x (frozen x (Counted r)) Mut r k t i refl refl
    (frozen-lies (block_at s.tables (record_at s.tables r).block) x (Counted r) x.kind (counted-at s h x r k t.at i).lies)

-- ---- TryIntoMut

-- a view by a descriptor gives the same base as a writable handle with the tail for spare bytes and a descriptor of tail 0
pub base-thawed : (g : Tables) (x : Handle) (w b log tail : ℕ) → x.kind ≡ View → IsDescribed g x w b log tail
    → base_by g (thawed x (x.len + tail_in g w) (Descriptor (retailed g w 0))) (retailed g w 0) ≡ base_by g x w
base-thawed g x w b log tail m d =
    let room = room-again g x w b log tail 0 d (pow_pos g.tail_bits) in
    let word = word-again g x w b log tail 0 d in
    let size = word-size g.align_bits g.tail_bits g.size_bits (retailed g w 0) (block_at g b).size log 0 room word in
    let old = size-says g x w b log tail d in
    rw (size, m, old) (omega arith)

-- a view by a descriptor that no call borrows becomes writable with the tail for spare bytes, and the machine stays sound
pub sound-thawed_described : (s : State) (h : ℕ) (x : Handle) (w : ℕ) → IsSound s → Lends s h View x → x.word ≡ Descriptor w
    → IsSound (edited s h (thawed x (x.len + tail_in s.tables w) (Descriptor (retailed s.tables w 0))))
sound-thawed_described s h x w k t i =
    let g : Tables = s.tables in
    let d = described-at s h x w k t.at i in
    let lies = lies-as (block_at g d.block) x View t.kind_is d.says.lies in
    let behind = behind-as (block_at g d.block) x d.tail View t.kind_is d.says.behind in
    let tail = tail-says g x w d.block d.log d.tail d.says in
    sound-redescribed s h x (thawed x (x.len + tail_in s.tables w)
    (Descriptor (retailed s.tables w 0))) w d.block d.log d.tail 0 k t.at t.free i
    d.says (pow_pos g.tail_bits) refl
    (base-thawed g x w d.block d.log d.tail t.kind_is d.says)
    (record { begins = lies.begins; ends = rw tail (omega (arith, behind)); within = omega arith })
    refl

-- a view by a record that counts one, of a native block, becomes writable up to the block's end where no call borrows it: the machine stays
-- sound
pub sound-thawed_counted : (s : State) (h : ℕ) (x : Handle) (r : ℕ) → IsSound s → Lends s h View x → x.word ≡ Counted r
    → (block_at s.tables (record_at s.tables r).block).external ≡ false → (record_at s.tables r).count ≡ 1
    → IsSound
    (edited s h (thawed x ((block_at s.tables (record_at s.tables r).block).base +
    (block_at s.tables (record_at s.tables r).block).size - x.ptr) (Counted r)))
sound-thawed_counted s h x r k t i native one =
    let bl : Block = block_at s.tables (record_at s.tables r).block in
    let y : Handle = thawed x (bl.base + bl.size - x.ptr) (Counted r) in
    let f = counted-at s h x r k t.at i in
    let lies = lies-as (block_at s.tables (record_at s.tables r).block) x View t.kind_is f.lies in
    let oy = owner-counted s.tables y r refl in
    let o : owner_of s.tables y ≡ owner_of s.tables x = oy ∙ sym (owner-counted s.tables x r i) in
    let n : holders (reading s) (record_at s.tables r).block ≡ 1 = sym ((k.counted r f.live).counts f.shown) ∙ one in
    sound-edited s h x y k t.at t.free o (λ c. describes-counted s.tables c y r refl ∙ sym (describes-counted s.tables c x r i))
    (λ c a. let q = rw oy at (sym (alone-written s.tables c y r refl refl) ∙ a) in
    let same : c ≡ (record_at s.tables r).block = grind (arith, nat_tests, q) in rw same n)
    (record {
      live = f.live;
      known = f.known;
      shown = f.shown;
      lies = record { begins = lies.begins; ends = omega (arith, lies.begins, lies.ends); within = omega (arith, lies.begins, lies.ends) };
      native = λ m. native;
    })

-- ---- the block of a handle

-- the value of a `Some`
pub same-some : (o : Option ℕ) (v : ℕ) (P : Type 0) (w : ℕ) → o ≡ Some v → SomeIff o P w → v ≡ w
same-some None v P w e s = absurd (cc)
same-some (Some u) v P w e s = let q : u ≡ v = cc in sym q ∙ s.1

-- a count never comes near the end of its type
pub count-small : (s : State) (r : ℕ) → IsSound s → (record_at s.tables r).live ≡ true → hidden s.calls r ≡ 0
    → (record_at s.tables r).count ≤ 2 ^ 33
count-small s r k live z =
    let b : ℕ = (record_at s.tables r).block in
    let c = (k.counted r live).counts z in
    let size = k.size in
    omega (
      arith,
      c,
      holders-few (reading s) b,
      length-map s.handles (read_handle s.tables),
      length-map s.calls (read_call s.tables),
      size.few_handles,
      size.few_calls,
    )
