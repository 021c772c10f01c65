-- Lemmas that the handles' proofs share: `get` lends the buffer at the place, and the place follows it; a handle may go to another
-- thread, as its buffer may. The handles differ in the buffer's type V and in the record D of their fields.
use Rattle.std.proofs.Common.{◌≡◌, ℕ, List, [], ◌∷◌, ◌++◌, refl, sym, subst, ◌∙◌}
use seplogic.Ra.Ura.{Ura}
use base.Fraction.{full_share}
use base.Stored.{Coded}
use mir.Syntax.{Sym, Ty, Fn, Callee, named, local, value_local, ty_ptr, ty_ref, mut, erased, block, seq, assign, place, rv_opd, copy, deref, field, addr_of, return}
use mir.Val.{Val, vptr, vstruct, of_list}
use base.Logic.{SProp, ent, sep, never, id⊢}
use base.Fml.{Lft, GName, Share, ftrue, fsep, flft}
use types.Logic.{Logic, sem}
use types.Kit.{‵, raw, ◌⊛◌, some, later, at_ret, ◌$◌, ◌∵◌, !, qed, move, keep, drop, split, split3, join, fsplit, fsplit3, fjoin, fpick, fpack, pick, group, rewrite, feq_i, feq_l, use1, await, suffices, frame, done}
use types.Part.{whole, sub, look_in}
use types.Run.{stop, fld, load, addr, of_opd, first, blocks, exec, returns, enter}
use types.ByLocal.{alloc_all, pass_all, free_all, look_at, get, through, sets, sets_last, env}
use contract.Running.{Running, MachineTables, tables}
use contract.Fact.{fact}
use prog.Model.{Model}
use prog.Wp.{Closed}
use denote.Exit.{no, Exit, unchanged, leaves, hidden, under}
use denote.RattleType.{RattleType, Valss, owns}
use denote.Memory.{lone, part_at, mem, cell_at, part_of}
use denote.Signature.{Signature, types_at, plain}
use denote.Builtin.{One, RefMutOf, RawPtr}
use denote.RawPtr.{Ptr, block_ptr, ptr_val, lies_at, in_a_block, null_ptr}
use denote.Ref.{MutRef, mut_vals, mut_Tells}
use denote.Steps.{nothing, opens}
use denote.Struct.Struct.{within, exits_of}
use denote.Struct.Field.{RawPtr-field}
use denote.Struct.Record.{Record, Also, Done}
use denote.Struct.Owning.{Owning, owning, row, shape, fields, to}
use denote.Follow.{follows, lends_Part}
use denote.Triple.Clauses.{Clauses, Ended, closing}
use denote.Triple.Spec.{Meets}
use denote.Triple.Walked.{says, Stays, stay_dropped, walk_of, ends_at, Goes-spent_ref}
use Rattle.std.proofs.alloc.Shapes.{after}
use Rattle.std.proofs.raw_atomic.Walks.{proved}
use Rattle.std.specs.Borrow.{Lends}
use denote.Param.Send.{IsSend, Quiet, part_keyless, owning_send, struct_send, sendable}
use base.Shift.{Keyless}

-- a value's exit is quiet if that of its fields is
quiet : {D X : Type 0} (to : D → X) (e : Exit X) → Quiet e → Quiet (hidden (under to e))
quiet to unchanged q = λ x w. tt
quiet to (leaves L l S s r₀) q = λ d. q (to d)

-- the memory of a value may go to another thread if the value may
lies : (V : RattleType) → IsSend V → (p : Ptr) (x : V.Denot) → Keyless (lies_at V full_share p x)
lies V s (block_ptr b o) x = part_keyless V s full_share x b o
lies V s null_ptr x = tt

module _ (V : RattleType) (name : Sym) (D : Type 0) (at : D → Ptr) (value : D → V.Denot) (make : Ptr → V.Denot → D)
    (eta : (d : D) → make (at d) (value d) ≡ d) (at-make : (p : Ptr) (v : V.Denot) → at (make p v) ≡ p)
    (value-make : (p : Ptr) (v : V.Denot) → value (make p v) ≡ v)
    (codes : (v : Ptr × Unit {0}) → Coded (Also V.Denot (λ _. Done))) (one : One V.mir) where
  abbrev pub struct : Record
  struct = record {
    name = name;
    args = [];
    types = [];
    parts = RawPtr-field ∷ [];
    D = D;
    as_values = λ d. (at d, tt);
    Ghost = λ v. Also V.Denot (λ _. Done);
    ghosts = λ d. (value d, tt);
    make = λ v g. make v.0 g.0;
    eta = eta;
    beta = λ v g. λ i. (at-make v.0 g.0 i, tt);
  }

  abbrev pub the_type : Owning
  the_type = owning struct codes (λ d. lies_at V full_share (at d) (value d))

  abbrev pub Row : RattleType
  Row = row the_type

  -- a handle may go to another thread if its buffer may
  pub sends : IsSend V → IsSend Row
  sends s =
      let pointer : IsSend RawPtr = search sendable in
      owning_send the_type (pointer, tt) (λ d. lies V s (at d) (value d)) (λ k. quiet (to the_type) (exits_of k (fields the_type))
      ((struct_send (shape the_type) (pointer, tt)).leaving k))

  abbrev pub signature : Signature
  signature = record {
    lifetimes = 1;
    outlives = [];
    params = RefMutOf (0 ∷ []) tt (plain (λ κs. Row)) (λ κs. tt) ∷ [];
    result = RefMutOf (0 ∷ []) tt (plain (λ κs. V)) (λ κs. one);
  }

  abbrev pub ended : Ended
  ended = record { signature = signature; kept = (no, tt) }

  abbrev pub getter : Ty → Ty → Ty → Fn
  getter a b c = record {
    lifetimes = 1;
    outlives = [];
    ty_params = [];
    givens = 0;
    params = 1;
    locals = local (ty_ref (named 0) mut a) value_local ∷ local (ty_ref (named 0) mut b) value_local ∷ local
        (ty_ref erased mut c) value_local ∷
        local ty_ptr value_local ∷ local ty_ptr value_local ∷ [];
    body = seq (block (seq (assign (place 3 []) (rv_opd (copy (place 1 (deref (lone Row.mir) ∷ field 0 ∷ [])))))
        (seq (assign (place 4 []) (rv_opd (copy (place 3 []))))
        (assign (place 2 []) (addr_of (place 4 (deref (lone V.mir) ∷ []))))))) (seq (assign (place 0 []) (rv_opd
        (copy (place 2 [])))) return);
  }

  abbrev word : ℕ → ℕ → Val
  word b o = vstruct (of_list (vptr b o ∷ []))

  abbrev with : D → V.Denot → D
  with d w = make (at d) w

  module _ {M : Type 1} {𝓤 : Ura M} (𝓛 : Logic 𝓤) where
    abbrev pub clauses : Clauses 𝓤 ended
    clauses κs args = record {
      ghost = Unit {0};
      requires = λ g. sem 𝓛 ftrue;
      ensures = λ g result end. sep 𝓤 (sem 𝓛 (Lends Row V args.0 result (with args.0.now))) (fact 𝓤 (result.now ≡ value args.0.now));
    }

    module _ (d : D) (rb ro b o : ℕ) where
      back : at d ≡ block_ptr b o → (w : V.Denot)
          → ent 𝓤 (sep 𝓤 (sem 𝓛 ((mem V).own_at w b o)) (sem 𝓛 (cell_at full_share Row.mir (word b o ∷ []) rb ro)))
          (sem 𝓛 ((mem Row).own_at (with d w) rb ro))
      unfolding part_of
      back e w =
          let p : Ptr = at (with d w) in let so : block_ptr b o ≡ p = sym (at-make (at d) w ∙ e) in
          qed 𝓛 (‵ (part_at V full_share w b o) ∷ ‵ (cell_at full_share Row.mir (word b o ∷ []) rb ro) ∷ []) ∵
          rewrite ! 0 (λ (p : Ptr). ‵ (lies_at V full_share p w)) so refl $
          rewrite ! 0 (λ (v : V.Denot). ‵ (lies_at V full_share p v)) (sym (value-make (at d) w)) refl $
          nothing ! $ feq_i ! (List Val) (vptr b o ∷ []) (ptr_val p ∷ []) (λ i. ptr_val (so i) ∷ []) $ fjoin ! $
          feq_i ! (List Val) (word b o ∷ []) (word b o ∷ []) refl $ fjoin ! $
          fpack ! (Valss (RawPtr ∷ [])) (within (shape the_type) (p, tt) (word b o ∷ [])) (vptr b o ∷ [], tt) $ fjoin ! $
          move ! (1 ∷ 0 ∷ []) $ fjoin ! $
          fpack ! (List Val) (λ us. fsep (cell_at full_share Row.mir us rb ro) (Row.own_val (with d w) us)) (word b o ∷ []) $ done !

  module _ {M : Type 1} {𝓤 : Ura M} (𝓛 : Logic 𝓤) (𝓜 : Model 𝓤 𝓛.H) (𝓡 : Running 𝓤 𝓛.H 𝓜) where
    abbrev 𝓣 : MachineTables 𝓤 𝓛.H 𝓜
    𝓣 = tables 𝓤 𝓛.H 𝓜 𝓡 𝓡.env

    pub lends : (k : Callee) (x y z : Ty) → Closed 𝓤 𝓛.H 𝓣.C 𝓣.Λ k (getter x y z) → Meets 𝓛 signature (𝓣.C k) (closing 𝓛 ended (clauses 𝓛))
    lends k x y z closed =
        let c = clauses 𝓛 in let fn : Fn = getter x y z in
        let self = RefMutOf (0 ∷ []) tt (plain (λ _. Row))
        (λ _. tt) in let hs : Stays ended.signature.params ended.kept = (stay_dropped self no, tt) in
        proved 𝓛 ended hs c 𝓜 𝓡 (Goes-spent_ref 𝓛 1 (0 ∷ []) tt (plain (λ _. Row)), tt) k fn closed
        (λ κs. (mut_vals, tt)) (λ κs. (mut_Tells (named 0) κs.0 Row, tt)) (λ κs qs bounds a gh are.
        let rb : ℕ = a.0.ref_ptr.0 in let ro : ℕ = a.0.ref_ptr.1 in let κ : Lft = κs.0 in let q : Share = qs.0 in
        let d : Row.Denot = a.0.now in let γ : GName = a.0.ghost_name in
        let at_entry : (walk_of 𝓛 ended hs c).Ghost = ((κs, qs, bounds, a, (vptr rb ro ∷ [], tt)), gh) in
        let Post : Val → SProp 𝓤 = (walk_of 𝓛 ended hs c).post at_entry in
        qed 𝓛 (((‵ (flft κ q) ⊛ ‵ ftrue) ⊛ ‵ (owns (types_at ended.signature.params κs) a at_entry.0.4)) ∷ raw ((c κs a).requires gh) ∷
        []) ∵
        split ! $ split ! $ move ! (2 ∷ []) $ fsplit ! $ fsplit3 ! $ keep ! (1 ∷ 2 ∷ 4 ∷ []) $
        enter ! 𝓣.C 𝓣.Λ fn (vptr rb ro ∷ []) Post $ alloc_all ! (λ l. pass_all ! refl ((tt, tt), tt) $ let Ev = env fn.locals l in
        opens ! tt Row {h = d} rb ro (λ vs. move ! (1 ∷ []) $ fsplit ! $ fpick !
        (λ vss. fsplit ! $ feq_l ! (λ ev. fsplit ! $ feq_l ! (λ ep. drop ! $
        in_a_block ! (at d) (λ p. lies_at V full_share p (value d)) (id⊢ 𝓤 (never 𝓤)) (λ b o e.
        let ws : vs ≡ word b o ∷ [] = subst (λ (p : Ptr). vs ≡ vstruct (of_list (ptr_val p ∷ [])) ∷ []) e
        (subst (λ (ps : List Val). vs ≡ vstruct (of_list
        (ps ++ [])) ∷ []) ep ev) in
        rewrite ! 1 (λ (us : List Val). ‵ (cell_at full_share Row.mir us rb ro)) ws refl $ first ! $ blocks ! $
        sets ! (of_opd ! (load ! (through ! refl (fld ! refl (stop !))) (look_in ! 1 (sub ! 0 refl (whole !))))) refl (tt, tt) $
        sets ! (of_opd ! (get ! refl)) refl (tt, tt) $ sets_last ! (addr ! (through ! refl (stop !))) refl (tt, tt) $
        exec ! 𝓣.C 𝓣.Λ Ev (after 1 fn.body) (at_ret Ev Post) $ sets ! (of_opd ! (get ! refl)) refl (tt, tt) $
        move ! (2 ∷ 3 ∷ 4 ∷ 0 ∷ 1 ∷ []) $ group ! 5 $
        use1 𝓛 (later (some (λ (δ : GName). ‵ ((MutRef (named 0) κ V).own_val (record { ref_ptr = (b, o); ghost_name = δ; now = value d })
        (vptr b o ∷ []))
        ⊛ ‵ (flft κ q) ⊛ ‵ (follows Row V γ δ (with d)))))
        (lends_Part 𝓛 Row V (with d) (named 0) κ q rb ro b o γ (sem 𝓛 (cell_at full_share Row.mir (word b o ∷ []) rb ro))
        (back 𝓛 d rb ro b o e)
        (Row.coded.code d) (Row.coded.code d) (value d)) $ await ! tt $ pick ! (λ δ. split3 ! $
        returns ! (look_at ! 0 refl) $ free_all ! refl $ keep ! (0 ∷ 1 ∷ 2 ∷ []) $
        suffices ! _ (ends_at 𝓛 ended hs c at_entry (vptr b o) (record { ref_ptr = (b, o); ghost_name = δ; now = value d }) (tt, tt)
        (tt, tt)) $
        nothing ! $ nothing ! $ fjoin ! $ join ! $ nothing ! $ move !
        (2 ∷ 0 ∷ []) $ join ! $ join ! $ frame ! $ says ! refl $ done !))))))))
