-- Tables that keep what live handles and calls speak of (`Keeps`): handles and calls that fit go on to fit.
use Rattle.iobufs_owner.proofs.Base.Known.{IsSound, IsCounted, ◌≡◌, ◌≢◌, inl, inr, set, ℕ, zero, suc, ◌<◌, ◌≤◌, ◌==◌, Bool, true, false, List, [], ◌∷◌, length, get_or, map, sym, ◌∙◌, ap, refl, arith, All, Option, Some, None, length-set, get_or-set_same, get_or-set_other, All-from_get_or, All-head, All-tail, eqb_tells, State, Tables, owner_of, owner_by, base_by, record_at, block_at, handle_at, call_at, block_with, holders, reading, read_call, has_let_go, borrows_it, is_lent, FitsWord, Fits, FitsCall, Shares, SpeaksOf, IsDescribed, hidden, releases, Handle, Share, Pending, Loaded, Ready, Add, Subtract, Release, Word, Empty, Descriptor, Counted, eq-eqb, Record, list_any_at}

-- tables that keep what live handles and calls speak of: the bits, each block, the block of each live record
pub record Keeps (g k : Tables) : Type 0 where
  pub align_bits : k.align_bits ≡ g.align_bits
  pub tail_bits : k.tail_bits ≡ g.tail_bits
  pub size_bits : k.size_bits ≡ g.size_bits
  pub longer : length g.blocks ≤ length k.blocks
  pub blocks : (b : ℕ) → b < length g.blocks → block_at k b ≡ block_at g b
  pub with' : (base b : ℕ) → block_with base g.blocks ≡ Some b → block_with base k.blocks ≡ Some b
  pub records : (r : ℕ) → (record_at g r).live ≡ true → (record_at k r).block ≡ (record_at g r).block

-- tables with other records keep what live handles and calls speak of, if each live record keeps its block
pub keeps-records : (g : Tables) (rs : List Record)
    → ((r : ℕ) → (record_at g r).live ≡ true → (record_at (record g { records = rs }) r).block ≡ (record_at g r).block)
    → Keeps g (record g { records = rs })
keeps-records g rs same = record {
  align_bits = refl;
  tail_bits = refl;
  size_bits = refl;
  longer = omega arith;
  blocks = λ b h. refl;
  with' = λ base b h. h;
  records = same;
}

-- unchanged tables keep what live handles and calls speak of
pub keeps-self : (g : Tables) → Keeps g g
keeps-self g = keeps-records g g.records (λ r h. refl)

-- a handle that fits holds the same block by tables that keep what it speaks of
pub owner-kept : (g k : Tables) (calls : List (Option Pending)) (x : Handle) → Keeps g k → FitsWord g calls x x.word
    → owner_of k x ≡ owner_of g x
unfolding owner_of
owner-kept g k calls x e f =
    let by : (w : Word) → x.word ≡ w → FitsWord g calls x w → owner_by k x w ≡ owner_by g x w =
    λ w. elim w as (λ w. x.word ≡ w → FitsWord g calls x w → owner_by k x w ≡ owner_by g x w) [
      | Empty ↦ λ i f. refl
      | Descriptor w ↦ λ i d.
          let o : owner_by g x (Descriptor w) ≡ Some d.block = rw i at d.says.owner in
          rw (e.align_bits, e.tail_bits) (e.with' (base_by g x w) d.block o ∙ sym o)
      | Counted r ↦ λ i f. ap Some (e.records r f.live)
    ] in
    by x.word refl f

-- a descriptor describes its block alike by tables that keep what it speaks of, where its handle holds the same by them
pub described-kept : (g k : Tables) (x : Handle) (w b log tail : ℕ) → owner_of k x ≡ owner_of g x → Keeps g k → IsDescribed g x w b log tail
    → IsDescribed k x w b log tail
described-kept g k x w b log tail o e d =
    let same = e.blocks b d.known in
    let longer = e.longer in
    let known = d.known in
    record {
      known = omega arith;
      room = rw (e.align_bits, e.tail_bits, e.size_bits, same) d.room;
      word = rw (e.align_bits, e.tail_bits, same) d.word;
      align = rw same d.align;
      native = rw same d.native;
      owner = o ∙ d.owner;
      lies = rw same d.lies;
      behind = rw same d.behind;
    }

-- a handle that fits goes on to fit by tables that keep what it speaks of, where the record by which it goes, if any, stays live and is
-- shown
pub fit-on : {g k : Tables} {cs : List (Option Pending)} (ds : List (Option Pending)) (o : Option Handle) → Keeps g k
    → ((x : Handle) (r : ℕ) → o ≡ Some x → x.word ≡ Counted r → IsCounted g cs x r → ((record_at k r).live ≡ true) × (hidden ds r ≡ 0))
    → Fits g cs o → Fits k ds o
fit-on ds None e on f = tt
fit-on {g} {k} {cs} ds (Some x) e on f =
    let o = owner-kept g k cs x e f in
    let by : (w : Word) → x.word ≡ w → FitsWord g cs x w
    → FitsWord k ds x w = λ w. elim w as (λ w. x.word ≡ w → FitsWord g cs x w → FitsWord k ds x w) [
      | Empty ↦ λ i f. f
      | Descriptor w ↦ λ i d. record
          { block = d.block; log = d.log; tail = d.tail; says = described-kept g k x w d.block d.log d.tail o e d.says }
      | Counted r ↦ λ i f.
          let n = on x r refl i f in
          let b = e.records r f.live in
          let same = e.blocks (record_at g r).block f.known in
          let longer = e.longer in
          let known = f.known in
          record {
            live = n.0;
            known = rw b (omega arith);
            shown = n.1;
            lies = rw (b, same) f.lies;
            native = λ m. rw (b, same)
                (f.native m);
          }
    ] in
    by x.word refl f

-- each handle of a list fits the new tables, if those that go by a record do
pub all-fit-on : {g k : Tables} {cs : List (Option Pending)} (ds : List (Option Pending)) (hs : List (Option Handle)) → Keeps g k
    → ((i r : ℕ) (x : Handle) → get_or hs i None ≡ Some x → x.word ≡ Counted r → IsCounted g cs x r
    → ((record_at k r).live ≡ true) × (hidden ds r ≡ 0))
    → All (Fits g cs) hs → All (Fits k ds) hs
all-fit-on {k} ds hs e on f = All-from_get_or (Fits k ds) hs None (λ i l. fit-on ds (get_or hs i None) e (λ x r. on i r x) (f i None l))

-- ---- unfinished calls

-- whether a call counts on a record
abbrev pub names : ℕ → Option Pending → Bool
names r (Some (Ready part w q)) = q == r
names r (Some (Subtract q)) = q == r
names r (Some (Release q)) = q == r
names r c = false

-- whether the call, where it frees a live record, has let go is the same by other tables
abbrev pub KeepsLetGo : Tables → Tables → Option Pending → Type 0
KeepsLetGo g k c = (r : ℕ) → c ≡ Some (Release r) → (record_at g r).live ≡ true → has_let_go k r ≡ has_let_go g r

-- a clone or slice that shares a view shares it in another state, if that has the view under the same number
pub shares-kept : (s t : State) (part : Share) (x : Handle) → (handle_at s part.handle ≡ Some x → handle_at t part.handle ≡ Some x)
    → Shares s part x
    → Shares t part x
shares-kept s t part x at h = record { at = at h.at; view = h.view; order = h.order; within = h.within }

-- a loaded descriptor speaks of its block by tables that keep the block too, if the view holds the same block by them
pub promised-kept : (g k : Tables) (x : Handle) (w b : ℕ) → Keeps g k → owner_of k x ≡ owner_of g x → SpeaksOf g x w b → SpeaksOf k x w b
promised-kept g k x w b e o p =
    let y : Handle = record x { word = Descriptor w } in
    let calls : List (Option Pending) = [] in
    let oy : owner_of k y ≡ owner_of g y = owner-kept g k calls y e (record { block = b; log = p.log; tail = p.tail; says = p.says }) in
    record { log = p.log; tail = p.tail; says = described-kept g k y w b p.log p.tail oy e p.says; owner = o ∙ p.owner; now' = p.now' }

-- if there is an entry at an index, the index is inside the list
pub at-some : {X : Type 0} (xs : List (Option X)) (i : ℕ) (x : X) → get_or xs i None ≡ Some x → i < length xs
at-some [] i x e = absurd (cc)
at-some (y ∷ xs) zero x e = omega arith
at-some (y ∷ xs) (suc i) x e = omega (arith, at-some xs i x e)

-- in a sound machine a handle fits the tables, by its word
pub fits-at : (s : State) (h : ℕ) (x : Handle) → IsSound s → handle_at s h ≡ Some x → FitsWord s.tables s.calls x x.word
fits-at s h x k at =
    let f = k.fit h None (at-some s.handles h x at) in
    rw at at f

-- A call that fits goes on to fit where tables keep what it speaks of, if the handle that it borrows stays, and so do the
-- records that it counts on, hidden or not. The block that it is about to free keeps its holders, and the call has let go
-- exactly if it had.
pub call-kept : {s : State} (t : State) (c : Option Pending) → IsSound s → Keeps s.tables t.tables → KeepsLetGo s.tables t.tables c
    → ((r : ℕ) → names r c ≡ true → (record_at s.tables r).live ≡ true → (record_at t.tables r).live ≡ true)
    → ((r : ℕ) → names r c ≡ true → (record_at s.tables r).live ≡ true → hidden t.calls r ≡ hidden s.calls r)
    → ((i : ℕ) (x : Handle) → borrows_it i c ≡ true → handle_at s i ≡ Some x → handle_at t i ≡ Some x) → ((r : ℕ) → c ≡ Some (Release r)
    → holders (reading t) (record_at s.tables r).block ≡ holders (reading s) (record_at s.tables r).block) → FitsCall s c → FitsCall t c
call-kept t None k e gone live hid stays held f = f
call-kept {s} t (Some (Loaded part w)) k e gone live hid stays held f = record {
  view = f.view;
  shares = shares-kept s t part f.view (stays part.handle f.view (eq-eqb part.handle part.handle refl)) f.shares;
  block = f.block;
  promised = promised-kept s.tables t.tables f.view w f.block e
      (owner-kept _ _ s.calls f.view e (fits-at s _ f.view k f.shares.at)) f.promised;
}
call-kept {s} t (Some (Ready part w r)) k e gone live hid stays held f = record {
  view = f.view;
  shares = shares-kept s t part f.view (stays part.handle f.view (eq-eqb part.handle part.handle refl)) f.shares;
  block = f.block;
  promised = promised-kept s.tables t.tables f.view w f.block e
      (owner-kept _ _ s.calls f.view e (fits-at s _ f.view k f.shares.at)) f.promised;
  live = live r (eq-eqb r r refl) f.live;
  same = e.records r f.live ∙ f.same;
}
call-kept {s} t (Some (Add part r)) k e gone live hid stays held f =
    record {
      view = f.view;
      shares = shares-kept s t part f.view
          (stays part.handle f.view (eq-eqb part.handle part.handle refl)) f.shares;
      word = f.word;
    }
call-kept t (Some (Subtract r)) k e gone live hid stays held (l, z) = (live r (eq-eqb r r refl) l, hid r (eq-eqb r r refl) l ∙ z)
call-kept t (Some (Release r)) k e gone live hid stays held f =
    record {
      live = live r (eq-eqb r r refl) f.live;
      shown = hid r (eq-eqb r r refl) f.live ∙ f.shown;
      alone = rw (e.records r f.live, gone r refl f.live) (held r refl ∙ f.alone);
    }

-- where no handle that is lent changes, and what calls name and hold stays, each call fits as before
pub calls-fit-kept : {s : State} (t : State) → IsSound s → t.calls ≡ s.calls → Keeps s.tables t.tables
    → ((p r : ℕ) → p < length s.calls → names r (call_at s p) ≡ true → (record_at s.tables r).live ≡ true
    → (record_at t.tables r).live ≡ true)
    → ((i : ℕ) (x : Handle) → is_lent i s.calls ≡ true → handle_at s i ≡ Some x → handle_at t i ≡ Some x)
    → All (KeepsLetGo s.tables t.tables) s.calls
    → ((p r : ℕ) → p < length s.calls → call_at s p ≡ Some (Release r)
    → holders (reading t) (record_at s.tables r).block ≡ holders (reading s) (record_at s.tables r).block) → All (FitsCall t) s.calls
calls-fit-kept {s} t k same e live at a n = All-from_get_or (FitsCall t) s.calls None
    (λ p h. call-kept t (call_at s p) k e (a p None h) (λ r m l. live p r h m l) (λ r _ _. rw same refl)
    (λ i x b. at i x (list_any_at (borrows_it i) s.calls p None h b)) (λ r i. n p r h i) (k.calls_fit p None h))

-- calls fit if the holders of blocks stay
pub calls-kept : {s : State} (t : State) → IsSound s → t.calls ≡ s.calls → Keeps s.tables t.tables
    → ((r : ℕ) → (record_at s.tables r).live ≡ true → (record_at t.tables r).live ≡ true)
    → ((i : ℕ) (x : Handle) → is_lent i s.calls ≡ true → handle_at s i ≡ Some x → handle_at t i ≡ Some x)
    → All (KeepsLetGo s.tables t.tables) s.calls
    → ((b : ℕ) → b < length s.tables.blocks → holders (reading t) b ≡ holders (reading s) b) → All (FitsCall t) s.calls
calls-kept {s} t k same e live at a n = calls-fit-kept t k same e (λ _ r _ _ t. live r t) at a
    (λ p r h i. n (record_at s.tables r).block (let g = rw i at (k.calls_fit p None h) in (k.counted r g.live).known))

-- a call that fits is read alike by tables that keep what it speaks of, if it has let go as before
pub call-read-kept : (s : State) (k : Tables) (c : Option Pending) → Keeps s.tables k → KeepsLetGo s.tables k c → FitsCall s c
    → read_call k c ≡ read_call s.tables c
call-read-kept s k (Some (Subtract r)) e a f = rw (e.records r f.0) refl
call-read-kept s k (Some (Release r)) e a f = rw (e.records r f.live, a r refl f.live) refl
call-read-kept s k c e a f = refl

-- calls that fit are read alike by tables that keep what they speak of, where each that frees a live record has let go as before
pub calls-read-kept : (s : State) (k : Tables) (cs : List (Option Pending)) → Keeps s.tables k → All (KeepsLetGo s.tables k) cs
    → All (FitsCall s) cs
    → map (read_call k) cs ≡ map (read_call s.tables) cs
calls-read-kept s k [] e a f = refl
calls-read-kept s k (c ∷ cs) e a f = rw (
  call-read-kept s k c e (All-head (KeepsLetGo s.tables k) c cs a) (All-head (FitsCall s) c cs f),
  calls-read-kept s k cs e (All-tail (KeepsLetGo s.tables k) c cs a) (All-tail (FitsCall s) c cs f),
) refl

-- a call that fits releases the same block by tables that keep what it speaks of
pub release-kept : (s : State) (k : Tables) (b : ℕ) (c : Option Pending) → Keeps s.tables k → FitsCall s c
    → releases k b c ≡ releases s.tables b c
release-kept s k b (Some (Release r)) e f = rw (e.records r f.live) refl
release-kept s k b c e f = refl

-- another call for a thread: where it fits, and each other call fits as it did, all fit
pub calls-fit-set : (s t : State) (p : ℕ) (c : Option Pending) → p < length s.calls → FitsCall t c
    → ((i : ℕ) → i ≢ p → i < length s.calls → FitsCall s (call_at s i) → FitsCall t (call_at s i)) → All (FitsCall s) s.calls
    → All (FitsCall t) (set s.calls p c)
calls-fit-set s t p c l f others k = All-from_get_or (FitsCall t) (set s.calls p c) None (λ i li.
    let lo : i < length s.calls = (let z = rw length-set at li in z) in
    elim (eqb_tells i p) [
      | inl z ↦ rw (z.1, get_or-set_same s.calls p c None l) f
      | inr z ↦ rw (get_or-set_other s.calls p i c None z.1) (others i z.1 lo (k i None lo))
    ])

-- another handle under a number: where it fits, and each other one fits as it did, all fit
pub handles-fit-set : (g : Tables) (calls : List (Option Pending)) (hs : List (Option Handle)) (h : ℕ) (o : Option Handle) → h < length hs
    → Fits g calls o
    → ((i : ℕ) → i ≢ h → i < length hs → Fits g calls (get_or hs i None)) → All (Fits g calls) (set hs h o)
handles-fit-set g calls hs h o l f others = All-from_get_or (Fits g calls) (set hs h o) None (λ i li. elim (eqb_tells i h) [
  | inl z ↦ rw (z.1, get_or-set_same hs h o None l) f
  | inr z ↦ rw (get_or-set_other hs h i o None z.1) (others i z.1 (rw length-set at li))
])
