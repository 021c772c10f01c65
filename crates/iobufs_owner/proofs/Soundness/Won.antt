-- A clone or slice wins the race: its record takes the descriptor's place, and counts the handle and the new view.
use Rattle.iobufs_owner.proofs.Base.{◌≡◌, inl, inr, ℕ, ◌+◌, ◌^◌, ◌<◌, ◌≤◌, ◌==◌, cond, List, length, get_or, set, sym, ◌∙◌, ap, subst, refl, arith, All, Option, Some, None, length-set, get_or-set_same, get_or-set_other, set-set, eqb_tells, State, Tables, owner_of, record_at, block_at, handle_at, call_at, holders, users, is_block, reading, IsSound, Fits, FitsCall, Shares, SpeaksOf, hidden, readies, counted, called, edited, with_handle, part, Handle, Share, View, Pending, Loaded, Ready, Add, Subtract, Release, Descriptor, Counted, count-some, owner-kept, shares-kept, promised-kept, handles-fit-set, at-some, owner-counted, ne_eqb, eq-eqb, fits-at, alone-at, live-inside, lies-still, alone-described, describes-few, no_record, record-log-counted, call-fits, fit-on, set-get_or, Swapped, calls-fit-set, swapped, holders-le-users, swaps-set}
use Rattle.iobufs_owner.proofs.Soundness.AddHolder.{sound-added, counted-keeps, counted-let_go, counted-block, counted-live, counted-same, counted-rest}
use Rattle.iobufs_owner.proofs.Soundness.Frame.{block-log-still, sound-framed}

-- ---- the record is published in the place of the descriptor, and counts the handle

-- the handle with the record for a word
abbrev pub by_record : Handle → ℕ → Handle
by_record x r = record x { word = Counted r }

abbrev pub shown : State → ℕ → ℕ → ℕ → Handle → State
shown s p h r x = record s {
  tables = counted s.tables r 1;
  handles = set s.handles h (Some (by_record x r));
  calls = set s.calls p None;
}

-- two values are the same where `Some` of them is
pub some-same : {X : Type 0} (x y : X) → Some x ≡ Some y → x ≡ y
some-same x y e = cc

-- a call's view, and what the call was promised of the block
record IsStillPromised (s : State) (part : Share) (w b : ℕ) : Type 0 where
  pub view : Handle
  pub shares : Shares s part view
  pub promised : SpeaksOf s.tables view w b

-- a record that one call has made and not shown, and that counts two
pub record IsHidden (s : State) (r : ℕ) : Type 0 where
  pub once : hidden s.calls r ≡ 1
  pub two : (record_at s.tables r).count ≡ 2

-- in a sound machine the record of a clone or slice in the race is hidden
pub racing : (s : State) (p r w : ℕ) (part : Share) → IsSound s → call_at s p ≡ Some (Ready part w r) → IsHidden s r
racing s p r w part k at =
    let me = k.counted r (call-fits s p (Ready part w r) k at).live in
    let some = count-some (readies r) s.calls p None (at-some s.calls p (Ready part w r) at) (ap (readies r) at ∙ eq-eqb r r refl) in
    let once : hidden s.calls r ≡ 1 = omega (arith, me.one_maker, some) in
    record { once = once; two = me.fresh once }

share-shown : (s : State) (p h r : ℕ) (x : Handle) (b : ℕ) (part : Share) (z : ℕ) (y : Handle) (d : ℕ) → handle_at s h ≡ Some x
    → h < length s.handles → All (Fits s.tables s.calls) s.handles → owner_of s.tables x ≡ Some b → (record_at s.tables r).block ≡ b
    → Shares s part y → SpeaksOf s.tables y z d → IsStillPromised (shown s p h r x) part z d
share-shown s p h r x b part z y d at l fit o bl sh pr =
    let g : Tables = s.tables in
    let g' : Tables = counted s.tables r 1 in
    let e = counted-keeps g r 1 in
    let q = promised-kept g g' y z d e (owner-kept g g' s.calls y e (rw sh.at at (fit _ None (at-some s.handles _ y sh.at)))) pr in
    elim (eqb_tells part.handle h) [
      | inl i ↦ (let yx : y ≡ x = some-same y x (sym sh.at ∙ ap (λ n. get_or s.handles n None) i.1 ∙ at) in
          let q' : SpeaksOf g' x z d = subst (λ (y : Handle). SpeaksOf g' y z d) yx q in
          let sh' : Shares s part x = subst (λ (y : Handle). Shares s part y) yx sh in
          let u : Handle = by_record x r in record {
            view = u;
            shares = record {
              at = rw i.1 (get_or-set_same s.handles h (Some u) None l);
              view = sh'.view;
              order = sh'.order;
              within = sh'.within;
            };
            promised = record {
              log = q'.log;
              tail = q'.tail;
              says = q'.says;
              owner = owner-counted g' u r refl ∙ ap Some (counted-block g r 1 r ∙ bl) ∙ sym o
                  ∙ subst (λ (y : Handle). owner_of g y ≡ Some d) yx pr.owner;
              now' = inr (r, refl);
            };
          })
      | inr i ↦ record {
        view = y;
        shares = shares-kept s (shown s p h r x) part y
            (λ a. get_or-set_other s.handles h part.handle (Some (by_record x r)) None i.1 ∙ a) sh;
        promised = q;
      }
    ]

-- the call of another thread, where the word of handle h has become a record
call-shown : (s : State) (p h r i : ℕ) (x : Handle) (b : ℕ) (c : Option Pending) → handle_at s h ≡ Some x → (w : ℕ) → x.word ≡ Descriptor w
    → h < length s.handles → All (Fits s.tables s.calls) s.handles → owner_of s.tables x ≡ Some b → (record_at s.tables r).block ≡ b
    → (record_at s.tables r).count ≡ 2 → ((q : ℕ) → hidden (set s.calls p None) q ≤ hidden s.calls q)
    → ((q : ℕ) → holders (reading (shown s p h r x)) q ≡ holders (reading s) q) → FitsCall s c → FitsCall (shown s p h r x) c
call-shown s p h r i x b None at w word l fit o bl two hid n f = tt
call-shown s p h r i x b (Some (Loaded part z)) at w word l fit o bl two hid n f =
    let u = share-shown s p h r x b part z f.view f.block at l fit o bl f.shares f.promised in
    record { view = u.view; shares = u.shares; block = f.block; promised = u.promised }
call-shown s p h r i x b (Some (Ready part z q)) at w word l fit o bl two hid n f =
    let u = share-shown s p h r x b part z f.view f.block at l fit o bl f.shares f.promised in
    record {
      view = u.view;
      shares = u.shares;
      block = f.block;
      promised = u.promised;
      live = counted-live s.tables r 1 q ∙ f.live;
      same = counted-block s.tables r 1 q ∙ f.same;
    }
call-shown s p h r i x b (Some (Add part q)) at w word l fit o bl two hid n f =
    elim (eqb_tells part.handle h) [
      | inl j ↦ absurd (let yx : f.view ≡ x = some-same f.view x (sym f.shares.at ∙ ap (λ n. get_or s.handles n None) j.1 ∙ at) in
          let v = ap (λ (y : Handle). y.word) yx in let yw = f.word in cc)
      | inr j ↦ record {
        view = f.view;
        shares = shares-kept s (shown s p h r x) part f.view
            (λ a. get_or-set_other s.handles h part.handle (Some (by_record x r)) None j.1 ∙ a) f.shares;
        word = f.word;
      }
    ]
call-shown s p h r i x b (Some (Subtract q)) at w word l fit o bl two hid n f =
    (counted-live s.tables r 1 q ∙ f.0, (let z = hid q in let y = f.1 in omega arith))
call-shown s p h r i x b (Some (Release q)) at w word l fit o bl two hid n f =
    record {
      live = counted-live s.tables r 1 q ∙ f.live;
      shown = (let z = hid q in let y = f.shown in omega arith);
      alone = rw (counted-block s.tables r 1 q, counted-let_go s.tables r 1 q (rw two refl), n) f.alone;
    }

pub sound-shown : (s : State) (p r w : ℕ) (part : Share) (x : Handle) → IsSound s → call_at s p ≡ Some (Ready part w r)
    → handle_at s part.handle ≡ Some x → x.word ≡ Descriptor w → IsSound (shown s p part.handle r x)
sound-shown s p r w part x k atp at word =
    let h : ℕ = part.handle in
    let g : Tables = s.tables in
    let g' : Tables = counted s.tables r 1 in
    let y : Handle = by_record x r in
    let next : State = shown s p part.handle r x in
    let lp = at-some s.calls p (Ready part w r) atp in
    let l = at-some s.handles part.handle x at in
    let f = call-fits s p (Ready part w r) k atp in
    let b : ℕ = f.block in
    let yx : f.view ≡ x = some-same f.view x (sym f.shares.at ∙ at) in
    let pr : SpeaksOf g x w b = subst (λ (y : Handle). SpeaksOf g y w b) yx f.promised in
    let view : x.kind ≡ View = subst (λ (y : Handle). y.kind ≡ View) yx f.shares.view in
    let o : owner_of g x ≡ Some b = pr.owner in
    let e = counted-keeps g r 1 in
    let ox : owner_of g' x ≡ Some b = owner-kept g g' s.calls x e (fits-at s h x k at) ∙ o in
    let oy : owner_of g' y ≡ Some b = owner-counted g' y r refl ∙ ap Some (counted-block g r 1 r ∙ f.same) in
    let two = (racing s p r w part k atp).two in
    let c : Option Pending = Some (Ready part w r) in
    let v : Swapped s next (Some x) (Some y) c None =
    swapped k e (λ i d l q j t. counted-let_go g r 1 q (rw two refl)) (swaps-set _ h (Some y) at l) (swaps-set _ p None atp lp) in
    let hm : (d : ℕ) → holders (reading next) d ≡ holders (reading s) d = λ d. let n = rw (ox, oy) at (v.holders d) in omega (arith, n) in
    let hid : (q : ℕ) → hidden (set s.calls p None) q + cond (q == r) 1 0 ≡ hidden s.calls q = λ q. omega (arith, v.hidden q) in
    let less : (q : ℕ) → hidden (set s.calls p None) q ≤ hidden s.calls q = λ q. omega (arith, hid q) in
    let one : holders (reading s) b ≡ 1 = alone-at s h x b k at (alone-described g b x w word ∙ ap (is_block b) o ∙ eq-eqb b b refl) in
    let me = k.counted r f.live in
    let mine : hidden (set s.calls p None) r ≡ 0 = (let z = rw (eq-eqb r r refl) at (hid r) in let m = me.one_maker in omega (arith, z)) in
    let dm = rw (ox, oy, word, eq-eqb b b refl) at (v.describes b) in
    let one' : holders (reading next) b ≡ 1 = hm b ∙ one in
    let some : 0 < users (reading next) b = omega (arith, one', holders-le-users (reading next) b) in
    let here : (record_at g' r).block ≡ b = counted-block g r 1 r ∙ f.same in
    sound-framed r k refl v (λ d ne. (rw ox (ne_eqb d b ne), rw oy (ne_eqb d b ne), refl, refl)) (record {
      size = rw (length-set, length-set, length-set) k.size;
      blocks = k.blocks;
      fit = handles-fit-set g' (set s.calls p None) s.handles h (Some y) l (record {
        live = counted-live g r 1 r ∙ f.live;
        known = rw (counted-block g r 1 r) me.known;
        shown = mine;
        lies = rw (counted-block g r 1 r, f.same) (lies-still (block_at g f.block) (record x { word = Descriptor w })
            (Counted r) x.kind pr.says.lies);
        native = λ m. absurd (let q = sym view ∙ m in cc);
      }) (λ i _ li. fit-on (set s.calls p None) (get_or s.handles i None) e
          (λ z q _ _ f. (counted-live g r 1 q ∙ f.live, (let n = less q in let m = f.shown in omega arith))) (k.fit i None li));
      calls_fit = λ _. calls-fit-set s next p None lp tt
          (λ i _ _ fits. call-shown s p h r i x b (call_at s i) at w word l k.fit o f.same two less hm fits) k.calls_fit;
      kept = λ q _ ne. (counted-rest g r 1 q ne, (let n = rw (ne_eqb q r ne) at (hid q) in omega (arith, n)));
      apart = λ q live ne i. (λ z. let u = rw i at ((k.counted q live).undescribed z) in omega (arith, u, dm), some);
      mine = λ _. record {
        block = here;
        shown = mine;
        counts = counted-same g r 1 (live-inside g.records r f.live) ∙ sym one';
        used = some;
        undescribed = omega (arith, dm, describes-few s b, one);
      };
      known = rw f.same at me.known;
      one_release = omega (arith, v.releases b, k.one_release b);
      sole = λ _. one';
      capped = omega (arith, one');
      block_log = block-log-still b (omega (arith, one, holders-le-users (reading s) b)) some k.block_log;
      record_log = record-log-counted r _ (live-inside g.records r f.live) refl k.record_log;
    })

-- ---- the race is won: one more view, and the record counts both

-- a list in which a place gets what stands there is the same
pub set-get : {X : Type 0} (xs : List X) (i : ℕ) (v d : X) → v ≡ get_or xs i d → set xs i v ≡ xs
set-get xs i v d e = rw e (set-get_or xs i d)

-- a count that is 2 stays so, written as 1 and as one more
twice : (g : Tables) (r : ℕ) → r < length g.records → (record_at g r).count ≡ 2
    → counted (counted g r 1) r ((record_at (counted g r 1) r).count + 1) ≡ g
twice g r l two =
    let e = set-get g.records r (record { count = 2; block = (record_at g r).block; live = (record_at g r).live }) no_record
    (ap (λ (n : ℕ). record { count = n; block = (record_at g r).block; live = (record_at g r).live }) (sym two)) in
    rw (counted-same g r 1 l, counted-block g r 1 r, counted-live g r 1 r, set-set, e) refl

-- a clone or slice whose view has the loaded descriptor still puts its record there and makes one more view by it, where
-- there were fewer than 2^32 handles: the machine stays sound
pub sound-won : (s : State) (p r w : ℕ) (k : Share) (x : Handle) → IsSound s → call_at s p ≡ Some (Ready k w r)
    → handle_at s k.handle ≡ Some x
    → x.word ≡ Descriptor w → length s.handles < 2 ^ 32
    → IsSound (with_handle (called (edited s k.handle (by_record x r)) p None) (part x k.lo k.hi (Counted r)))
sound-won s p r w part' x k at atx xw few =
    let g : Tables = s.tables in
    let f = call-fits s p (Ready part' w r) k at in
    let yx : f.view ≡ x = some-same f.view x (sym f.shares.at ∙ atx) in
    let sh : Shares s part' x = subst (λ (y : Handle). Shares s part' y) yx f.shares in
    let inside = live-inside g.records r f.live in
    let one = sound-shown s p r w part' x k at atx xw in
    let s1 : State = shown s p part'.handle r x in
    let sh1 : Shares s1 part' (by_record x r) = record {
      at = get_or-set_same s.handles part'.handle (Some (by_record x r)) None (at-some s.handles part'.handle x atx);
      view = sh.view;
      order = sh.order;
      within = sh.within;
    } in
    let count1 : (record_at s1.tables r).count ≡ 1 = counted-same g r 1 inside in
    rw (twice s.tables r inside (racing s p r w part' k at).two) at
    (sound-added s1 r part' (by_record x r) one sh1 refl (omega (arith, count1)) (rw length-set few))
