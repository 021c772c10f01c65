-- A clone or slice that has loaded a descriptor fits; one that counts its view and ends keeps the machine sound.
use Rattle.iobufs_owner.proofs.Base.{◌≡◌, inl, ℕ, ◌+◌, ◌^◌, ◌<◌, ◌≤◌, length, sym, ◌∙◌, ap, subst, Option, Some, None, State, record_at, handle_at, call_at, IsSound, FitsCall, Shares, IsDescribed, with_count, called, with_handle, part, Handle, Share, Pending, Loaded, Add, Word, Descriptor, Counted, at-some, described-at, call-fits}
use Rattle.iobufs_owner.proofs.Soundness.AddHolder.{sound-added}
use Rattle.iobufs_owner.proofs.Soundness.Called.{IsQuiet, quiet-none, quiet-add, sound-called}
use Rattle.iobufs_owner.proofs.Soundness.Won.{some-same}

-- a loaded descriptor speaks of the block of its handle
pub loaded-fits : (s : State) (k : Share) (x : Handle) (w : ℕ) → IsSound s → Shares s k x → x.word ≡ Descriptor w
    → FitsCall s (Some (Loaded k w))
loaded-fits s k x w i sh xw =
    let d = described-at s k.handle x w i sh.at xw in
    let e : record x { word = Descriptor w } ≡ x = ap (λ (v : Word). record x { word = v }) (sym xw) in
    record {
      view = x;
      shares = sh;
      block = d.block;
      promised = record {
        log = d.log;
        tail = d.tail;
        says = subst (λ (y : Handle). IsDescribed s.tables y w d.block d.log d.tail) (sym e) d.says;
        owner = d.says.owner;
        now' = inl xw;
      };
    }

-- a finished addition
pub sound-added-call : (s : State) (p r : ℕ) (k : Share) (x : Handle) → IsSound s → call_at s p ≡ Some (Add k r)
    → handle_at s k.handle ≡ Some x
    → (record_at s.tables r).count ≤ s.ceiling → length s.handles < 2 ^ 32
    → IsSound (with_handle (called (with_count s r ((record_at s.tables r).count + 1)) p None) (part x k.lo k.hi (Counted r)))
sound-added-call s p r k x i at h low few =
    let a = call-fits s p (Add k r) i at in
    let yx : a.view ≡ x = some-same a.view x (sym a.shares.at ∙ h) in
    let sh : Shares s k x = subst (λ (y : Handle). Shares s k y) yx a.shares in
    let xw : x.word ≡ Counted r = subst (λ (y : Handle). y.word ≡ Counted r) yx a.word in
    let one = sound-added s r k x i sh xw low few in
    let s1 : State = with_handle (with_count s r ((record_at s.tables r).count + 1)) (part x k.lo k.hi (Counted r)) in
    sound-called s1 p None one (at-some s.calls p (Add k r) at) (subst (λ (c : Option Pending). IsQuiet s1 c) (sym at) (quiet-add s1 k r))
    (quiet-none s1) tt
