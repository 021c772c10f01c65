-- Tables that keep what handles and calls speak of leave readings, counts, holders and users as they were; and blocks
-- by their bases.
use Rattle.iobufs_owner.proofs.Base.Known.{false, hidden, readies, ◌≤◌, ◌<◌, get_or, set, State, holders, users, reading, releases, holds, drops, still_holds, ◌≡◌, ◌≢◌, ℕ, ◌+◌, ◌==◌, Bool, true, cond, List, [], ◌∷◌, ◌++◌, length, map, ap, refl, arith, All, Option, Some, None, option_map, length-append, All-head, All-tail, get_or_append_left, Tables, block_with, tally, read_handle, Fits, alone, describes, Block, Handle, Pending, eq-eqb, ne_eqb, IsSound, ◌∙◌, FitsCall}
use Rattle.iobufs_owner.proofs.Base.Kept.{Keeps, owner-kept, KeepsLetGo, call-read-kept, release-kept}
use Rattle.iobufs_owner.proofs.Base.Counts.{count-append, count-set, held_by, still_by, drops_by, holders-as, users-as}

pub read-kept : (g k : Tables) (calls : List (Option Pending)) (o : Option Handle) → Keeps g k → Fits g calls o
    → read_handle k o ≡ read_handle g o
read-kept g k calls None e f = refl
read-kept g k calls (Some x) e f = rw (owner-kept g k calls x e f) refl

-- handles that fit are read alike by tables that keep what they speak of
pub handles-kept : (g k : Tables) (calls : List (Option Pending)) (hs : List (Option Handle)) → Keeps g k → All (Fits g calls) hs
    → map (read_handle k) hs ≡ map (read_handle g) hs
handles-kept g k calls [] e f = refl
handles-kept g k calls (o ∷ hs) e f =
    rw (read-kept g k calls o e (All-head (Fits g calls) o hs f), handles-kept g k calls hs e (All-tail (Fits g calls) o hs f)) refl

-- as many elements of a list pass another test that agrees on those that fit
tally-kept : {X : Type 0} (P : X → Type 0) (p q : X → Bool) (xs : List X) → ((x : X) → P x → p x ≡ q x) → All P xs → tally p xs ≡ tally q xs
tally-kept P p q [] e f = refl
tally-kept P p q (x ∷ xs) e f = rw (e x (All-head P x xs f), tally-kept P p q xs e (All-tail P x xs f)) refl

-- ---- the first block with a base
found-step : (v : Bool) (o p : Option ℕ) (b : ℕ) → ((c : ℕ) → o ≡ Some c → p ≡ Some c)
    → cond v (Some 0) (option_map (λ i. i + 1) o) ≡ Some b
    → cond v (Some 0) (option_map (λ i. i + 1) p) ≡ Some b
found-step true o p b h e = e
found-step false None p b h e = absurd (cc)
found-step false (Some c) p b h e = rw (h c refl) e

pub with-append : (base b : ℕ) (bs cs : List Block) → block_with base bs ≡ Some b → block_with base (bs ++ cs) ≡ Some b
with-append base b [] cs e = absurd (cc)
with-append base b (x ∷ bs) cs e = found-step (x.base == base) (block_with base bs) (block_with base (bs ++ cs)) b
    (λ c i. with-append base c bs cs i) e

-- a block after others, none of which has its base, is the first one with it
pub with-fresh : (base : ℕ) (bs : List Block) (c : Block) → c.base ≡ base → All (λ (x : Block). x.base ≢ base) bs
    → block_with base (bs ++ c ∷ []) ≡ Some (length bs)
with-fresh base [] c e h = rw (eq-eqb c.base base e) refl
with-fresh base (x ∷ bs) c e h = rw (
  ne_eqb x.base base (All-head (λ (x : Block). x.base ≢ base) x bs h),
  with-fresh base bs c e (All-tail (λ (x : Block). x.base ≢ base) x bs h),
) (ap Some (omega arith))

-- one block more
abbrev pub grown : Tables → Block → Tables
grown g b = record g { blocks = g.blocks ++ b ∷ [] }

-- tables with a block more keep what live handles and calls speak of
pub grown-keeps : (g : Tables) (b : Block) → Keeps g (grown g b)
grown-keeps g b = record {
  align_bits = refl;
  tail_bits = refl;
  size_bits = refl;
  longer = rw length-append (omega arith);
  blocks = λ c h. get_or_append_left g.blocks (b ∷ []) _ c h;
  with' = λ base c e. with-append base c g.blocks (b ∷ []) e;
  records = λ r e. refl;
}

-- ---- one handle and one call in the place of others

-- a list with `n` in the place of `o`, where `None` stands for no entry
abbrev pub Swaps : {X : Type 0} → (xs ys : List (Option X)) → (o n : Option X) → Type 0
Swaps {X} xs ys o n = (p : Option X → Bool) → p None ≡ false → tally p ys + cond (p o) 1 0 ≡ tally p xs + cond (p n) 1 0

-- the list stays
pub swaps-none : {X : Type 0} (xs : List (Option X)) → Swaps xs xs None None
swaps-none xs p e = refl

-- another entry under a number
pub swaps-set : {X : Type 0} (xs : List (Option X)) {o : Option X} (i : ℕ) (n : Option X) → get_or xs i None ≡ o → i < length xs
    → Swaps xs (set xs i n) o n
swaps-set xs i n at l p e = rw (← at) (count-set p xs i n None l)

-- an entry more
pub swaps-push : {X : Type 0} (xs : List (Option X)) (n : Option X) → Swaps xs (xs ++ n ∷ []) None n
swaps-push xs n p e = rw e (omega (arith, count-append p xs n))

-- state t counts what s counts, with the handle o' in the place of o and the call c' in the place of c
pub record Swapped (s t : State) (o o' : Option Handle) (c c' : Option Pending) : Type 0 where
  pub holders : (b : ℕ) → holders (reading t) b + cond (held_by t.tables b o) 1 0 + cond (still_by t.tables b c) 1 0
      ≡ holders (reading s) b + cond (held_by t.tables b o') 1 0 + cond (still_by t.tables b c') 1 0
  pub users : (b : ℕ) → users (reading t) b + cond (held_by t.tables b o) 1 0 + cond (drops_by t.tables b c) 1 0
      ≡ users (reading s) b + cond (held_by t.tables b o') 1 0 + cond (drops_by t.tables b c') 1 0
  pub alone : (b : ℕ) → tally (alone t.tables b) t.handles + cond (alone t.tables b o) 1 0
      ≡ tally (alone s.tables b) s.handles + cond (alone t.tables b o') 1 0
  pub describes : (b : ℕ) → tally (describes t.tables b) t.handles + cond (describes t.tables b o) 1 0
      ≡ tally (describes s.tables b) s.handles + cond (describes t.tables b o') 1 0
  pub releases : (b : ℕ) → tally (releases t.tables b) t.calls + cond (releases t.tables b c) 1 0
      ≡ tally (releases s.tables b) s.calls + cond (releases t.tables b c') 1 0
  pub hidden : (r : ℕ) → hidden t.calls r + cond (readies r c) 1 0 ≡ hidden s.calls r + cond (readies r c') 1 0
  pub longer : length s.tables.blocks ≤ length t.tables.blocks

-- so it is from a sound machine, where t's tables keep what handles and calls speak of, and each drop has let go as before
pub swapped : {s t : State} {o o' : Option Handle} {c c' : Option Pending} → IsSound s → Keeps s.tables t.tables
    → All (KeepsLetGo s.tables t.tables) s.calls → Swaps s.handles t.handles o o' → Swaps s.calls t.calls c c' → Swapped s t o o' c c'
swapped {s} {t} {o} {o'} {c} {c'} k e gone hs cs =
    let g : Tables = s.tables in
    let u : Tables = t.tables in
    let handles : (p q : Option Handle → Bool) → ((o : Option Handle) → Fits g s.calls o → p o ≡ q o) → p None ≡ false
    → tally p t.handles + cond (p o) 1 0 ≡ tally q s.handles + cond (p o') 1 0 =
    λ p q same n. hs p n ∙ ap (λ m. m + cond (p o') 1 0) (tally-kept (Fits g s.calls) p q s.handles same k.fit) in
    let calls : (p q : Option Pending → Bool) → ((c : Option Pending) → KeepsLetGo g u c × FitsCall s c → p c ≡ q c) → p None ≡ false
    → tally p t.calls + cond (p c) 1 0 ≡ tally q s.calls + cond (p c') 1 0 =
    λ p q same n. cs p n ∙ ap (λ m. m + cond (p c') 1 0)
    (tally-kept (λ c. KeepsLetGo g u c × FitsCall s c) p q s.calls same (λ i d l. (gone i d l, k.calls_fit i d l))) in
    let held = λ (b : ℕ). handles (held_by u b) (held_by g b) (λ o f. ap (holds b) (read-kept g u s.calls o e f)) refl in
    record {
      holders = λ b. let d = calls (still_by u b) (still_by g b) (λ c f. ap (still_holds b) (call-read-kept s u c e f.0 f.1)) refl in
          omega (arith, holders-as s b, holders-as t b, held b, d);
      users = λ b. let d = calls (drops_by u b) (drops_by g b) (λ c f. ap (drops b) (call-read-kept s u c e f.0 f.1)) refl in
          omega (arith, users-as s b, users-as t b, held b, d);
      alone = λ b. handles (alone u b) (alone g b) (λ o. elim o as (λ o. Fits g s.calls o → alone u b o ≡ alone g b o)
          [ None ↦ λ f. refl | Some x ↦ λ f. rw (owner-kept g u s.calls x e f) refl ]) refl;
      describes = λ b. handles (describes u b) (describes g b) (λ o. elim o as (λ o. Fits g s.calls o → describes u b o ≡ describes g b o)
          [ None ↦ λ f. refl | Some x ↦ λ f. rw (owner-kept g u s.calls x e f) refl ]) refl;
      releases = λ b. calls (releases u b) (releases g b) (λ c f. release-kept s u b c e f.1) refl;
      hidden = λ r. cs (readies r) refl;
      longer = e.longer;
    }
