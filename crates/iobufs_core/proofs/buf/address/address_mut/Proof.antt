-- `address_mut` makes a pointer of a mutable slice's, and leaves the bytes.
use Rattle.std.proofs.Common.{ℕ, [], ◌∷◌, List, length, refl, MutBor}
use seplogic.Ra.Ura.{Ura}
use mir.Syntax.{named}
use mir.Val.{Val, vptr}
use base.Logic.{SProp, emp, ent, fst∗, via}
use base.Fml.{Lft, GName, Share, ftrue, flft, fobs, fbor}
use prog.Memory.{Memory}
use prog.Routine.{Routine}
use prog.Wp.{Calls, Loops, WpFn, Tables}
use types.Logic.{Logic}
use contract.Monad.{Fun}
use contract.Running.{tables, tables_of}
use sound.WpLaws.{WpFn-mono}
use types.Kit.{‵, ◌⊛◌, ⋆, ◌$◌, ◌∵◌, !, qed, by, move, keep, drop, split, join, fsplit, fjoin, feq_i, suffices, frame, done}
use types.Part.{whole, sub}
use types.Run.{stop, fld, addr, hop, from, returns, enter}
use types.ByLocal.{alloc_all, pass_all, free_all, look_at, look_in_at, sets}
use denote.RattleType.{owns}
use denote.RawPtr.{block_ptr}
use denote.Slice.{MutSlice, Room, slice_val, mut_slice_vals, mut_slice_Tells, mut_slice_at, coded_holeys, heres}
use denote.Lend.{Held}
use denote.Shadow.{pure_i}
use denote.Builtin.{u8}
use denote.Signature.{plain}
use denote.Steps.{nothing}
use denote.Triple.Clauses.{Clauses}
use denote.Triple.Entry.{on_entry}
use denote.Triple.Spec.{Meets, triple_of}
use denote.Triple.Table.{entered}
use denote.Triple.Walked.{says, Stays, stay_slice, walk_of, ends_at, walked, Goes-slice, walk_Meets}
use Rattle.iobufs_core.specs.contracts.buf.address.address_mut as F
use Rattle.iobufs_core.specs.contracts.buf.address.address_mut.Key.{name}
use Rattle.iobufs_core.proofs.buf.address.address_mut.Statement.{statement}
use Rattle.iobufs_core.proofs.buf.address.address_mut.Code as code

abbrev stayed : Stays F.ended.signature.params F.ended.kept
stayed = (stay_slice (0 ∷ []) tt (plain (λ _. u8)), tt)

module _ {M : Type 1} {𝓤 : Ura M} (𝓛 : Logic 𝓤) (at_mem : Memory → SProp 𝓤) (run : Routine → Fun 𝓤) where
  open 𝓛 use {H}

  abbrev clauses : Clauses 𝓤 F.ended
  clauses = F.clauses 𝓛 at_mem run

  -- the slice is lent for κ, lies at the offset o of the block b, is named γ and holds xs
  module _ (κ : Lft) (q : Share) (b o : ℕ) (γ : GName) (xs : List ℕ) where
    abbrev lent : MutBor (List ℕ)
    lent = record { ref_ptr = (b, o); ghost_name = γ; now = xs }

    abbrev words : List Val × Unit {0}
    words = (mut_slice_vals lent, tt)

    abbrev bound : (walk_of 𝓛 F.ended stayed clauses).Ghost
    bound = (((κ, tt), (q, tt), tt, (lent, tt), words), tt)

    abbrev Post : Val → SProp 𝓤
    Post = (walk_of 𝓛 F.ended stayed clauses).post bound

    exits : Room u8 (length xs)
        → ent 𝓤
        (⋆ 𝓛 (‵ (fobs γ ((coded_holeys u8).code (heres u8 xs))) ∷ ‵ (fbor κ (Held u8 (length xs) b o γ)) ∷ ‵ (flft κ q) ∷ []))
        (Post (vptr b o))
    exits room =
        qed 𝓛 (‵ (fobs γ ((coded_holeys u8).code (heres u8 xs))) ∷ ‵ (fbor κ (Held u8 (length xs) b o γ)) ∷ ‵ (flft κ q) ∷ []) ∵
        suffices ! _ (ends_at 𝓛 F.ended stayed clauses bound (vptr b o) (block_ptr b o) (xs, tt) (refl, tt)) $ says ! ((λ e. cc), refl) $
        nothing ! $ move ! (3 ∷ 0 ∷ []) $ join ! $ frame ! $ fjoin ! $
        pure_i ! (mut_slice_at u8 lent (mut_slice_vals lent)) (tt, (tt, tt)) (refl, room) $ fjoin ! $
        nothing ! $ move ! (1 ∷ 0 ∷ []) $ fjoin ! $
        feq_i ! (List Val) (vptr b o ∷ []) (vptr b o ∷ []) refl $ move ! (1 ∷ 0 ∷ []) $ done !

    module _ (C : Calls 𝓤 H) (Λ : Loops 𝓤 H) where
      walk : Room u8 (length xs)
          → ent 𝓤 (on_entry 𝓛 F.signature (κ, tt) (q, tt) (lent, tt) words)
          (WpFn 𝓤 H C Λ code.function (slice_val (b, o) (length xs) ∷ []) Post)
      walk room =
          qed 𝓛 ((‵ (flft κ q) ⊛ ‵ ftrue) ∷ ‵ (owns (MutSlice (named 0) κ u8 ∷ []) (lent, tt) words) ∷ []) ∵
          enter ! C Λ code.function (slice_val (b, o) (length xs) ∷ []) _ $
          alloc_all ! (λ l. pass_all ! refl ((tt, (tt, (record { fits = room.0 }, tt))), tt) $
          move ! (1 ∷ []) $ fsplit ! $ fsplit ! $ drop ! $ fsplit ! $ move ! (3 ∷ []) $ split ! $ move ! (2 ∷ 3 ∷ 0 ∷ []) $
          sets ! (addr ! (from ! (fld ! refl (hop ! (look_in_at ! 1 (sub ! 0 refl (whole !))) (stop !))))) refl (tt, tt) $
          returns ! (look_at ! 0 refl) $ free_all ! refl $ keep ! (0 ∷ 1 ∷ 2 ∷ []) $ by ! (exits room))

  meets : (𝓣 : Tables 𝓤 H) → Meets 𝓛 F.signature (WpFn 𝓤 H 𝓣.C 𝓣.Λ code.function) (F.spec 𝓛 at_mem run)
  meets 𝓣 =
      walk_Meets 𝓛 F.ended stayed (Goes-slice 𝓛 1 0 tt (plain (λ _. u8)), tt)
      clauses (WpFn 𝓤 H 𝓣.C 𝓣.Λ code.function) (WpFn-mono 𝓤 H 𝓛.laws 𝓣 code.function)
      (walked 𝓛 F.ended stayed clauses (WpFn 𝓤 H 𝓣.C 𝓣.Λ code.function)
      (λ κs. (mut_slice_vals, tt)) (λ κs. (mut_slice_Tells (named 0) κs.0 u8, tt))
      (λ κs qs bounds a g are.
      let entry = on_entry 𝓛 F.signature κs qs a (mut_slice_vals a.0, tt) in
      via 𝓤 entry (fst∗ 𝓤 entry (emp 𝓤)) (walk κs.0 qs.0 a.0.ref_ptr.0 a.0.ref_ptr.1 a.0.ghost_name a.0.now 𝓣.C 𝓣.Λ are.0.0.1)))

pub address_mut_spec : {M : Type 1} → statement M
unfolding tables_of
address_mut_spec 𝓤 𝓛 𝓜 𝓡 wired =
    entered 𝓤 𝓛.H (triple_of 𝓛 F.signature (F.spec 𝓛 𝓜.mem 𝓡.returns))
    (tables 𝓤 𝓛.H 𝓜 𝓡 𝓡.env).C (tables 𝓤 𝓛.H 𝓜 𝓡 𝓡.env).Λ name code.function (code.unfolded 𝓤 𝓛.H 𝓜 𝓡 wired)
    (meets 𝓛 𝓜.mem 𝓡.returns (tables_of 𝓤 𝓛.H 𝓜 (tables 𝓤 𝓛.H 𝓜 𝓡 𝓡.env)))
