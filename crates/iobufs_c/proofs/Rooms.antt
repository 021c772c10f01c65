-- `init` of each handle writes an empty buffer into the room.
use Rattle.std.proofs.Common.{◌≡◌, List, [], ◌∷◌, ◌++◌, refl, subst}
use seplogic.Ra.Ura.{Ura}
use base.Fraction.{full_share}
use mir.Syntax.{Ty, Fn, Callee, local, value_local, ty_ptr, seq, assign, place, rv_opd, copy, deref, return, ty_unit, call, opd_unit}
use mir.Val.{Val, vcons, vnil, vptr, vstruct, vunit}
use base.Logic.{SProp, ent, sep, never, id⊢, emp, via, snd∗, ex_e, never_e}
use base.Fml.{ftrue, froom}
use types.Logic.{Logic, sem}
use types.Kit.{‵, raw, ◌⊛◌, some, later, ◌$◌, ◌∵◌, !, qed, move, drop, split, join, fjoin, fsplit, pick, rewrite, feq_i, use1, await, suffices, done, use0, use2}
use types.Run.{stop, of_opd, returns, enter, init, unit_lit, and_then, no_more, assigns}
use types.ByLocal.{alloc_all, pass_all, free_all, look_at, get, through, sets, lands_as}
use contract.Running.{Running, MachineTables, tables}
use contract.Fact.{fact}
use prog.Model.{Model}
use prog.Wp.{Closed, WpFn}
use denote.Exit.{yes}
use denote.RattleType.{RattleType, owns}
use denote.Memory.{lone, part_at}
use denote.Signature.{plain}
use denote.Builtin.{RawPtr, unit}
use denote.RawPtr.{Ptr, block_ptr, lies_at, null_ptr, rawptr_vals, rawptr_Tells, room_at}
use denote.Steps.{nothing, peeks, heard}
use denote.Triple.Clauses.{Clauses, Ended, closing, ensured, lasts}
use denote.Triple.Spec.{Meets, triple_of}
use denote.Triple.Walked.{Stays, walk_of, ends_at, stay_dropped, stay_none, Goes-dropped, Goes-none}
use Rattle.std.proofs.raw_atomic.Walks.{proved}
use denote.Laws.{Tells}
use denote.Struct.Laws.{tells}
use Rattle.std.specs.contracts.alloc.Global.{the_row as Z, the_type}
use Rattle.std.proofs.alloc.Global.TheLaws.{the_laws}
use denote.Laws.{Is, shows, Typed}
use denote.Param.Laws.{Laws}
use denote.Triple.Entry.{on_entry}
use denote.Triple.Call.{calls_at}
use borrow.Table.OneValue.{part_in}
use sound.WpLaws.{FmC}
use denote.Triple.Table.{framed}

-- the allocator, as the machine passes it
abbrev heap_val : Val
heap_val = vstruct (vcons (vstruct (vcons vunit vnil)) vnil)

heap_tells : Tells Z (Is Z) (λ _. heap_val ∷ [])
heap_tells = tells the_type the_laws

module _ (V : RattleType) (laws : Laws V) (default : V.Denot) where
  -- what makes the buffer that `init` writes
  abbrev pub made : Ended
  made = record {
    signature = record { lifetimes = 0; outlives = []; params = plain (λ κs. Z) ∷ []; result = plain (λ κs. V) };
    kept = (yes, tt);
  }

  abbrev pub inited : Ended
  inited = record {
    signature = record {
      lifetimes = 0;
      outlives = [];
      params = plain (λ κs. Z) ∷ plain (λ κs. RawPtr) ∷ [];
      result = plain
          (λ κs. unit);
    };
    kept = (yes, (yes, tt));
  }

  abbrev pub initer : Callee → Fn
  initer k = record {
    lifetimes = 0;
    outlives = [];
    ty_params = [];
    givens = 0;
    params = 2;
    locals = local ty_unit value_local ∷ local (lone Z.mir) value_local ∷ local ty_ptr value_local ∷ local ty_ptr value_local
        ∷ local (lone V.mir) value_local ∷ [];
    body = seq (assign (place 3 []) (rv_opd (copy (place 2 [])))) (seq (call k (copy (place 1 []) ∷ []) (place 4 []))
        (seq (assign (place 3 (deref (lone V.mir) ∷ [])) (rv_opd (copy (place 4 []))))
        (seq (assign (place 0 []) (rv_opd opd_unit)) return)));
  }

  abbrev stays : Stays inited.signature.params inited.kept
  stays = (stay_dropped (plain (λ _. Z)) yes, (stay_none (λ _. RawPtr) yes, tt))

  module _ {M : Type 1} {𝓤 : Ura M} (𝓛 : Logic 𝓤) where
    abbrev pub makes : Clauses 𝓤 made
    makes κs args = record { ghost = Unit {0}; requires = λ g. sem 𝓛 ftrue; ensures = λ g result end. fact 𝓤 (result ≡ default) }

    abbrev pub writes : Clauses 𝓤 inited
    writes κs args = record {
      ghost = Unit {0};
      requires = λ g. sem 𝓛 (room_at V args.1.0);
      ensures = λ g result end. sem 𝓛 (lies_at V full_share args.1.0 default);
    }

  module _ {M : Type 1} {𝓤 : Ura M} (𝓛 : Logic 𝓤) (𝓜 : Model 𝓤 𝓛.H) (𝓡 : Running 𝓤 𝓛.H 𝓜) (of : Callee)
      (met : Meets 𝓛 made.signature (𝓡.run (𝓡.env of)) (closing 𝓛 made (makes 𝓛))) where
    open 𝓛 use {H}

    abbrev 𝓣 : MachineTables 𝓤 H 𝓜
    𝓣 = tables 𝓤 H 𝓜 𝓡 𝓡.env

    abbrev c : Clauses 𝓤 inited
    c = writes 𝓛

    fm : FmC 𝓤 H 𝓛.laws 𝓣.C
    fm f = framed 𝓤 H 𝓜 𝓣 f

    abbrev bound : Z.Denot → Ptr → (walk_of 𝓛 inited stays c).Ghost
    bound h p = ((tt, tt, tt, (h, (p, tt)), (heap_val ∷ [], (rawptr_vals p, tt))), tt)

    abbrev Runs : Z.Denot → Ptr → SProp 𝓤
    Runs h p = WpFn 𝓤 H 𝓣.C 𝓣.Λ (initer of) (heap_val ∷ rawptr_vals p ++ []) ((walk_of 𝓛 inited stays c).post (bound h p))

    abbrev entry : Z.Denot → Ptr → SProp 𝓤
    entry h p = on_entry 𝓛 inited.signature tt tt (h, (p, tt)) (heap_val ∷ [], (rawptr_vals p, tt))

    at_each : (h : Z.Denot) (p : Ptr) → ent 𝓤 (sep 𝓤 (entry h p) (sem 𝓛 (room_at V p))) (Runs h p)
    at_each h (block_ptr b o) =
        let k = triple_of 𝓛 made.signature (closing 𝓛 made (makes 𝓛)) in
        let y : k.Ghost = ((tt, tt, tt, (h, tt), (heap_val ∷ [], tt)), tt) in
        qed 𝓛 ((‵ ftrue ⊛ ‵ (owns (Z ∷ RawPtr ∷ []) (h, (block_ptr b o, tt)) (heap_val ∷ [], (vptr b o ∷ [], tt))))
        ∷ ‵ (froom (lone V.mir) b o) ∷ []) ∵ enter ! 𝓣.C 𝓣.Λ (initer of)
        (heap_val ∷ vptr b o ∷ []) _ $
        alloc_all ! (λ l. pass_all ! refl ((tt, ((tt, tt), tt)), ((tt, tt), tt)) $ sets ! (of_opd ! (get ! refl)) refl (tt, tt) $
        split ! $ move ! (1 ∷ []) $ fsplit ! $ use0 𝓛 (raw (emp 𝓤)) (id⊢ 𝓤 (emp 𝓤)) $ nothing ! $ move ! (2 ∷ 0 ∷ []) $ fjoin ! $
        nothing ! $ join ! $ join ! $ move ! (2 ∷ 1 ∷ []) $ join ! $ move ! (1 ∷ []) $ use1 𝓛 (raw (k.pre y)) (id⊢ 𝓤 (k.pre y)) $
        calls_at ! fm k met y (and_then ! (get ! refl) (no_more !)) (λ v.
        use1 𝓛 (later (some (λ (r : V.Denot). (‵ ftrue ⊛ ‵ (V.own_val r (v ∷ []))) ⊛ raw (ensured 𝓛 made (makes 𝓛) tt (h, tt) tt r))))
        (id⊢ 𝓤 _) $
        await ! tt $ pick ! (λ r.
        split ! $ move ! (1 ∷ []) $ use1 𝓛 (raw (fact 𝓤 (r ≡ default)))
        (ex_e 𝓤 _ (λ ws. snd∗ 𝓤 (sem 𝓛 (lasts made tt (h, tt) ws)) (fact 𝓤 (r ≡ default)))) $
        heard ! (r ≡ default) (λ e.
        split ! $ drop ! $ peeks ! V (Is V) (shows 𝓛 V) r (v ∷ []) (λ is.
        let good = (subst (λ (τs : List Ty). Typed τs (v ∷ [])) laws.one ((laws.lawful 𝓛).typed r (v ∷ []) is)).0 in
        lands_as ! refl refl good $ assigns ! (of_opd ! (get ! refl)) (through ! refl (stop !)) (init ! 2 refl good) $
        sets ! (of_opd ! (unit_lit !)) refl (tt, tt) $ returns ! (look_at ! 0 refl) $ free_all ! refl $
        move ! (2 ∷ 0 ∷ []) $ use2 𝓛 (‵ (part_at V full_share r b o)) (part_in 𝓛 V laws.one full_share r b o v) $
        rewrite ! 0 (λ (x : V.Denot). ‵ (part_at V full_share x b o)) e refl $
        suffices ! _ (ends_at 𝓛 inited stays c (bound h (block_ptr b o)) vunit tt (tt, (tt, tt)) (tt, (tt, tt))) $
        move ! (1 ∷ []) $ split ! $ fjoin ! $ nothing ! $
        feq_i ! (List Val) (vunit ∷ []) (vunit ∷ []) refl $ move ! (2 ∷ 0 ∷ []) $ join ! $ move ! (1 ∷ 0 ∷ []) $ join ! $ done !)))))
    at_each h null_ptr = via 𝓤 (never 𝓤) (snd∗ 𝓤 (entry h null_ptr) (never 𝓤)) (never_e 𝓤 _)

    pub inits : (k : Callee) → Closed 𝓤 H 𝓣.C 𝓣.Λ k (initer of) → Meets 𝓛 inited.signature (𝓣.C k) (closing 𝓛 inited (writes 𝓛))
    inits k closed = proved 𝓛 inited stays c 𝓜 𝓡
        (Goes-dropped 𝓛 0 (plain (λ _. Z)) yes (λ κs x f. refl), (Goes-none 𝓛 0 (λ _. RawPtr) yes (λ κs x f. refl), tt))
        k (initer of) closed (λ κs. ((λ h. heap_val ∷ []), (rawptr_vals, tt))) (λ κs. (heap_tells, (rawptr_Tells, tt)))
        (λ κs qs bounds a gh are. at_each a.0 a.1.0)
