-- Which handle a call may have, or the first cause against it.
--     borrows_it, is_lent                             an unfinished clone or slice has the handle; one of the calls
--                                                     has
--     Calling, handle_of, lends                       the calls, and of how many handles borrowers are counted; the
--                                                     handle that a call borrows; and whether it is this one
--     lend_of, lend_any_of                            a handle that a call must have alone: of a kind, and of any
--     lend_owning_of, lend_owning_view_of             a handle that holds a block and that a call must have alone;
--                                                     and such a view
--     lend_view_of                                    a view to be shared, which others may borrow meanwhile
--     is_empty                                        the word of a handle without block
--     Lends                                           a handle of that number and kind, borrowed by none
use Rattle.std.specs.Prelude.{◌≡◌, ℕ, ◌==◌, ◌&&◌, not, Bool, true, false, List, Option, None, Some, Result}
use Rattle.std.specs.List.{list_any}
use Rattle.iobufs_owner.specs.Types.{Handle, Kind, View, Word, Empty, Pending, Loaded, Ready, Add, Refusal}
use Rattle.iobufs_owner.specs.Kinds.{same_kind, asked}
use Rattle.iobufs_owner.specs.State.{State, handle_at}

abbrev pub borrows_it : ℕ → Option Pending → Bool
borrows_it h (Some (Loaded k w)) = k.handle == h
borrows_it h (Some (Ready k w r)) = k.handle == h
borrows_it h (Some (Add k r)) = k.handle == h
borrows_it h call = false

-- the machine's calls, with the number of handles whose borrowers are counted
pub record Calling : Type 0 where
  pub items : List (Option Pending)
  pub handles : ℕ

-- the handle that a call borrows
abbrev pub handle_of : Option Pending → Option ℕ
handle_of (Some (Loaded k w)) = Some k.handle
handle_of (Some (Ready k w r)) = Some k.handle
handle_of (Some (Add k r)) = Some k.handle
handle_of call = None

abbrev pub lends : ℕ → Option ℕ → Bool
lends h None = false
lends h (Some k) = k == h

-- whether one of the calls borrows the handle
abbrev pub is_lent : ℕ → List (Option Pending) → Bool
is_lent h calls = list_any (borrows_it h) calls

-- the handle, for a call that must have it alone, or the lowest cause against it
abbrev pub lend_of : State → ℕ → Kind → Result Handle Refusal
lend_of s h kind = asked (λ x. same_kind x.kind kind) (is_lent h s.calls) (handle_at s h)

-- the handle of either kind, or the first cause against it
abbrev pub lend_any_of : State → ℕ → Result Handle Refusal
lend_any_of s h = asked (λ x. true) (is_lent h s.calls) (handle_at s h)

abbrev pub is_empty : Word → Bool
is_empty Empty = true
is_empty word = false

-- the handle that has a block, or the first cause against it
abbrev pub lend_owning_of : State → ℕ → Result Handle Refusal
lend_owning_of s h = asked (λ x. not (is_empty x.word)) (is_lent h s.calls) (handle_at s h)

-- the view that has a block, or the first cause against it
abbrev pub lend_owning_view_of : State → ℕ → Result Handle Refusal
lend_owning_view_of s h = asked (λ x. same_kind x.kind View && not (is_empty x.word)) (is_lent h s.calls) (handle_at s h)

-- the view, for a call that shares it
abbrev pub lend_view_of : State → ℕ → Result Handle Refusal
lend_view_of s h = asked (λ x. same_kind x.kind View) false (handle_at s h)

-- a handle that may be had alone
pub record Lends (s : State) (h : ℕ) (kind : Kind) (x : Handle) : Type 0 where
  pub at : handle_at s h ≡ Some x
  pub kind_is : x.kind ≡ kind
  pub free : is_lent h s.calls ≡ false
