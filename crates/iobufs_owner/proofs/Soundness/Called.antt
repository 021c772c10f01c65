-- A thread's call becomes another one; neither is a drop, and neither has made a record.
use Rattle.iobufs_owner.proofs.Base.{◌≡◌, ℕ, ◌<◌, false, length, set, sym, ◌∙◌, refl, arith, Option, Some, None, length-set, State, Tables, record_at, call_at, holders, still_holds, drops, reading, read_call, IsSound, FitsCall, hidden, readies, releases, called, Share, Pending, Loaded, Add, keeps-self, call-kept, calls-fit-set, all-fit-on, sound-same, Swapped, swapped, swaps-none, swaps-set}

-- calls that count for nothing
pub record IsQuiet (s : State) (c : Option Pending) : Type 0 where
  pub still : (b : ℕ) → still_holds b (read_call s.tables c) ≡ false
  pub drops : (b : ℕ) → drops b (read_call s.tables c) ≡ false
  pub readies : (q : ℕ) → readies q c ≡ false
  pub releases : (b : ℕ) → releases s.tables b c ≡ false

-- where there is no call, nothing is held, dropped or released by it, and it has made no record
pub quiet-none : (s : State) → IsQuiet s None
quiet-none s = record { still = λ b. refl; drops = λ b. refl; readies = λ q. refl; releases = λ b. refl }

-- a clone or slice that has loaded a descriptor holds, drops and releases no block, and has made no record
pub quiet-loaded : (s : State) (k : Share) (w : ℕ) → IsQuiet s (Some (Loaded k w))
quiet-loaded s k w = record { still = λ b. refl; drops = λ b. refl; readies = λ q. refl; releases = λ b. refl }

-- a clone or slice that is to be counted holds, drops and releases no block, and has made no record that isn't shown
pub quiet-add : (s : State) (k : Share) (r : ℕ) → IsQuiet s (Some (Add k r))
quiet-add s k r = record { still = λ b. refl; drops = λ b. refl; readies = λ q. refl; releases = λ b. refl }

-- another call of a thread keeps the machine sound, where it fits and both it and the one before it count for nothing
pub sound-called : (s : State) (p : ℕ) (c : Option Pending) → IsSound s → p < length s.calls → IsQuiet s (call_at s p) → IsQuiet s c
    → FitsCall s c
    → IsSound (called s p c)
sound-called s p c k l q r f =
    let g : Tables = s.tables in
    let next : State = called s p c in
    let w : Swapped s next None None (call_at s p) c =
    swapped k (keeps-self g) (λ i d l q j t. refl) (swaps-none _) (swaps-set _ p c refl l) in
    let hm : (b : ℕ) → holders (reading next) b ≡ holders (reading s) b =
    λ b. let z = rw (q.still b, r.still b) at (w.holders b) in omega (arith, z) in
    let hid : (n : ℕ) → hidden (set s.calls p c) n ≡ hidden s.calls n =
    λ n. let z = rw (q.readies n, r.readies n) at (w.hidden n) in omega (arith, z) in
    sound-same s _ _ _ _ k (rw length-set k.size)
    (all-fit-on (set s.calls p c) s.handles (keeps-self g) (λ _ n x _ _ f. (f.live, hid n ∙ f.shown)) k.fit)
    ((
    let kept : (o : Option Pending) → FitsCall s o → FitsCall next o =
    λ o. call-kept next o k (keeps-self g) (λ q j t. refl) (λ n _ t. t) (λ n _ _. hid n) (λ _ _ _ a. a) (λ n _. hm (record_at g n).block) in
    calls-fit-set s next p c l (kept c f) (λ i _ _. kept (call_at s i)) k.calls_fit))
    (λ b. let z = rw (r.releases b) at (w.releases b) in omega (arith, z, k.one_release b)) hm
    (λ b. let z = rw (q.drops b, r.drops b) at (w.users b) in omega (arith, z))
    (λ n t. rw (hid n) (k.counted n t))
    (λ n m a b u v e. k.one_record n m a b (sym (hid n) ∙ u) (sym (hid m) ∙ v) e)
    (λ b t. k.sole b t) k.record_log
