-- Properties of a handle that a call may have (`lend_of`), and when a changed handle holds the block that it held.
use Rattle.iobufs_owner.proofs.Base.Known.{◌≡◌, ℕ, Bool, true, false, Option, Some, None, Ok, ap, refl, Handle, Kind, View, Mut, Word, Empty, Descriptor, Counted, State, Tables, owner_of, owner_by, base_by, block_with, handle_at, lend_of, is_lent, Lends, same_kind, asked, lend_any_of, arith}

-- kinds that the test finds alike are the same
pub same-kind : (a b : Kind) → same_kind a b ≡ true → a ≡ b
same-kind View View e = refl
same-kind View Mut e = absurd (cc)
same-kind Mut View e = absurd (cc)
same-kind Mut Mut e = refl

-- an element that `asked` returns is the one under the number, passes the test and isn't borrowed
pub asked-ok : {X : Type 0} (test : X → Bool) (b : Bool) (o : Option X) (x : X) → asked test b o ≡ Ok x
    → (o ≡ Some x) × (test x ≡ true) × (b ≡ false)
asked-ok test b None x e = absurd (cc)
asked-ok test b (Some y) x e = grind (arith, e)

-- a handle that a call may have is the one under the number, is of the kind, and is borrowed by no call
pub lend-tells : (s : State) (h : ℕ) (kind : Kind) (x : Handle) → lend_of s h kind ≡ Ok x → Lends s h kind x
lend-tells s h kind x e =
    let a = asked-ok (λ (x : Handle). same_kind x.kind kind) (is_lent h s.calls) (handle_at s h) x e in
    record { at = a.0; kind_is = same-kind x.kind kind a.1; free = a.2 }

-- a handle of either kind that a call may have alone is the one under the number, and is borrowed by no call
pub any-tells : (s : State) (h : ℕ) (x : Handle) → lend_any_of s h ≡ Ok x → Lends s h x.kind x
any-tells s h x e =
    let a = asked-ok (λ (x : Handle). true) (is_lent h s.calls) (handle_at s h) x e in
    record { at = a.0; kind_is = refl; free = a.2 }

-- a handle with the same word and the same base under each descriptor holds the same
pub owner-same : (g : Tables) (x y : Handle) → y.word ≡ x.word → ((w : ℕ) → base_by g y w ≡ base_by g x w) → owner_of g y ≡ owner_of g x
unfolding owner_of
owner-same g x y e b =
    let by : (v : Word) → owner_by g y v ≡ owner_by g x v =
    λ v. elim v as (λ v. owner_by g y v ≡ owner_by g x v)
    [ Empty ↦ refl | Descriptor w ↦ ap (λ n. block_with n g.blocks) (b w) | Counted r ↦ refl ] in
    rw e (by x.word)
