-- A descriptor recovers its block, whether its handle has it still or not.
use Rattle.iobufs_owner.proofs.Base.{DescribesBlock, IsReady, Seen, seen_of, state_of, before, now, Lends, ◌≡◌, ◌≢◌, ℕ, zero, suc, ◌+◌, ◌^◌, ◌<◌, ◌≤◌, List, [], ◌∷◌, length, get_or, sym, ◌∙◌, ap, refl, arith, Option, Some, None, option_map, add-one, State, Tables, owner_of, block_at, handle_at, base_by, block_with, end_of, size_in, tail_in, recovered, triple, IsWord, IsSound, LiesIn, LeavesBehind, Block, Handle, Kind, View, Mut, Descriptor, eq-eqb, ne_eqb, word-log, word-fits, tail-says, behind-as, lies-as, described-at, no_block, owner-described, size-says, owner-used, block-log-room, eqb_tells, inl, inr}
use Rattle.iobufs_owner.specs.declared.owner.Machine.TheInside.{Inside}

with-later : (x : Block) (base b : ℕ) (bs : List Block) (o : Option ℕ) → ((c : ℕ) → o ≡ Some c → (get_or bs c no_block).base ≡ base)
    → option_map (λ i. i + 1) o ≡ Some b → (get_or (x ∷ bs) b no_block).base ≡ base
with-later x base b bs None h e = absurd (cc)
with-later x base b bs (Some c) h e =
    let i : c + 1 ≡ b = cc in
    let j : suc c ≡ b = sym (add-one c) ∙ i in
    rw (← j) (h c refl)

-- the block that is found by a base has it
pub with-base : (base b : ℕ) (bs : List Block) → block_with base bs ≡ Some b → (get_or bs b no_block).base ≡ base
with-base base b [] e = absurd (cc)
with-base base b (x ∷ bs) e = elim (eqb_tells x.base base) [
  | inl t ↦ (let z = rw t.0 at e in let i : 0 ≡ b = cc in rw (← i) t.1)
  | inr t ↦ with-later x base b bs (block_with base bs) (λ c i. with-base base c bs i) (rw t.0 at e)
]

-- the first block with a base is found by it
pub with-first : (base : ℕ) (bs : List Block) (i : ℕ) → i < length bs → (get_or bs i no_block).base ≡ base
    → ((j : ℕ) → j < i → (get_or bs j no_block).base ≢ base) → block_with base bs ≡ Some i
with-first base [] i l e none = absurd (omega arith)
with-first base (x ∷ bs) zero l e none = rw (eq-eqb x.base base e) refl
with-first base (x ∷ bs) (suc i) l e none = rw (
  ne_eqb x.base base (none 0 (omega arith)),
  with-first base bs i (omega arith) e (λ j m. none (suc j) (omega arith)),
) (ap Some (omega arith))

-- where no block has a base, none is found by it
pub with-none : (base : ℕ) (bs : List Block) → ((j : ℕ) → j < length bs → (get_or bs j no_block).base ≢ base) → block_with base bs ≡ None
with-none base [] none = refl
with-none base (x ∷ bs) none = rw (ne_eqb x.base base (none 0 (omega arith)), with-none base bs (λ j m. none (suc j) (omega arith))) refl

-- a handle's descriptor recovers base, size and alignment of the block that the handle holds
pub recovered-is : (s : State) (h : ℕ) (x : Handle) (w b : ℕ) → IsSound s → handle_at s h ≡ Some x → x.word ≡ Descriptor w
    → owner_of s.tables x ≡ Some b → recovered s.tables x w ≡ triple (block_at s.tables b)
recovered-is s h x w b k at i o =
    let g : Tables = s.tables in
    let d = described-at s h x w k at i in
    let same : d.block ≡ b = (let q = sym d.says.owner ∙ o in cc) in
    let base : base_by g x w ≡ (block_at g b).base = sym (with-base (base_by g x w) b g.blocks (sym (owner-described g x w i) ∙ o)) in
    let size = size-says g x w d.block d.log d.tail d.says ∙ ap (λ (n : ℕ). (block_at g n).size) same in
    let log = word-log g.align_bits g.tail_bits g.size_bits w (block_at g d.block).size d.log d.tail d.says.room d.says.word in
    let align = ap (λ (n : ℕ). 2 ^ n) log ∙ sym d.says.align ∙ ap (λ (n : ℕ). (block_at g n).align) same in
    rw (base, size, align) refl

-- ---- requirements of freeing

ends-below : (b : Block) (x : Handle) (tail size : ℕ) (kind : Kind) → x.kind ≡ kind → size ≡ b.size → LiesIn b x kind
    → LeavesBehind b x tail kind
    → size ≤ end_of x tail
ends-below b x tail size View e n lies behind = rw e (omega (arith, n, behind))
ends-below b x tail size Mut e n lies behind = rw e (omega (arith, n, lies.ends))

pub record SaysEnds (g : Tables) (x : Handle) (w : ℕ) : Type 0 where
  pub word : IsWord g.align_bits g.tail_bits g.size_bits w
  pub view : x.kind ≡ View → x.ptr + x.len + tail_in g w < 2 ^ 64
  pub room : x.kind ≡ Mut → x.ptr + x.cap < 2 ^ 64
  pub below : size_in g w ≤ end_of x (tail_in g w)

-- in a machine a descriptor that describes a block is a word of the format, and the block's end, told from the handle, is an
-- address and no less than its size
pub says-ends : {m : Inside} {n : Seen} {x : Handle} {w : ℕ} → IsReady m → seen_of m ≡ n → DescribesBlock n.state.tables x w
    → SaysEnds (state_of m).tables x w
says-ends {m} {n} {x} {w} r v b =
    let k = r.sound in
    let d = before (λ (s : State). DescribesBlock s.tables x w) m n v b in
    let bl : Block = block_at (state_of m).tables d.block in
    let tail = tail-says (state_of m).tables x w d.block d.log d.tail d.says in
    let size = size-says (state_of m).tables x w d.block d.log d.tail d.says in
    let ends = (k.blocks.places d.block no_block d.says.known).ends in
    record {
      word = word-fits (state_of m) x w d.block d.log d.tail k d.says;
      view = λ e. let behind = behind-as bl x d.tail View e d.says.behind in rw tail (omega (arith, behind, ends));
      room = λ e. let lies = lies-as bl x Mut e d.says.lies in omega (arith, lies.ends, ends);
      below = rw tail (ends-below bl x d.tail (size_in (state_of m).tables w) x.kind refl size d.says.lies d.says.behind);
    }

-- so does a handle's descriptor, and the log of freed blocks is shorter than the table
pub described-ends : {m : Inside} {n : Seen} {h : ℕ} {x : Handle} {w : ℕ} {kind : Kind} → IsReady m → seen_of m ≡ n → Lends n.state h kind x
    → x.word ≡ Descriptor w → SaysEnds (state_of m).tables x w × (length m.freed_blocks.items < length m.blocks.items)
described-ends {m} {n} {h} {x} {w} {kind} r v t i =
    let t' = before (λ (s : State). Lends s h kind x) m n v t in
    let d = described-at (state_of m) h x w r.sound t'.at i in (
      says-ends r v (described-at n.state h x w (now r v) t.at i),
      block-log-room d.block d.says.known (owner-used (state_of m) h x d.block t'.at d.says.owner) r.sound.block_log,
    )
