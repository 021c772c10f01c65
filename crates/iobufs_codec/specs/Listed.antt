-- Lists of values: a varint count, and then each value in order.
--     list_written, list_items             the encoding of a list: its count and then each value; and in items
--     AreFound                             these values follow the first bytes, in order
--     IsListFound                          a count in the range is there, followed by that many values
--     IsOneFault                           of n values, all before one are there, and it has this fault
--     IsListFault                          why no list is decoded: no count in the range, a fault of a value, or a
--                                          failed allocation
--     AreSame                              as many values, and each is equal
--     list_form                            the form of a list, from the form of its values
use Rattle.std.proofs.Common.{◌≡◌, ◌⊎◌, inl, inr, ℕ, zero, suc, ◌+◌, ◌^◌, ◌<◌, true, Ok, Err, List, [], ◌∷◌, ◌++◌, length, take, drop, ap, sym, subst, ◌∙◌, refl, arith, append_assoc}
use Rattle.std.specs.List.{All, flat_map}
use Rattle.std.proofs.lemmas.List.{append_cancel_left, drop-drop}
use Rattle.std.proofs.lemmas.List.Elements.{All-cons, All-head, All-nil, All-tail}
use Rattle.iobufs_core.specs.Items.{PutOrPush, put_item, items_bytes}
use Rattle.iobufs_core.specs.MarkedText.{MarkedText}
use Rattle.iobufs_core.specs.Ranges.{in_range}
use Rattle.iobufs_core.specs.SeveralLaws.{joins_two}
use Rattle.iobufs_core.specs.Spelled.{spell_begins}
use Rattle.iobufs_core.specs.Spelling.{spell}
use Rattle.iobufs_core.specs.Wire.{IsLengthRead}
use Rattle.iobufs_core.specs.declared.codec.base.RangeCfg.{RangeCfg}
use Rattle.iobufs_codec.specs.declared.fault.Fault.{Fault}
use Rattle.iobufs_codec.specs.Form.{IsForm, IsCodecFault, IsPairFault, no_memory}
use Rattle.iobufs_codec.specs.Forms.{behind_first, found_or_memory, found_same, length_form, read_back, two_bytes}

-- the number of values as a varint, and then each value
abbrev pub list_written : {Value : Type 0} → (Value → List ℕ) → List Value → List ℕ
list_written written values = spell (length values) ++ flat_map written values

-- the puts and pushes that write a list
abbrev pub list_items : {Value : Type 0} → (Value → List PutOrPush) → List Value → List PutOrPush
list_items items values = put_item (spell (length values)) ∷ flat_map items values

-- each value follows the one before it, the first after `skip` bytes
abbrev pub AreFound : {Value Cfg : Type 0} → (Value → List ℕ) → (MarkedText → ℕ → Cfg → Value → Type 0) → MarkedText → ℕ → Cfg → List Value
    → Type 0
AreFound written is_found text skip cfg [] = Unit {0}
AreFound written is_found text skip cfg (x ∷ xs) = is_found text skip cfg x
    × AreFound written is_found text (skip + length (written x)) cfg xs

-- a number in the range is there, and that many values follow it
abbrev pub IsListFound : {Value Cfg : Type 0} → (Value → List ℕ) → (MarkedText → ℕ → Cfg → Value → Type 0) → MarkedText → ℕ → RangeCfg × Cfg
    → List Value
    → Type 0
IsListFound written is_found text skip cfg values = IsLengthRead (drop skip text.bytes) cfg.0 (Ok (length values))
    × AreFound written is_found text (skip + length (spell (length values))) cfg.1 values

-- one of the next `n` values has this fault, and those before it are there
abbrev pub IsOneFault : {Value Cfg : Type 0} → (Value → List ℕ) → (MarkedText → ℕ → Cfg → Value → Type 0)
    → (MarkedText → ℕ → Cfg → Fault → Type 0)
    → ℕ → MarkedText → ℕ → Cfg → Fault → Type 0
IsOneFault written is_found is_fault zero text skip cfg fault = ⊥
IsOneFault written is_found is_fault (suc n) text skip cfg fault =
    IsPairFault written is_found is_fault (λ t k f. IsOneFault written is_found is_fault n t k cfg f) text skip cfg fault

-- no number in the range is there; or a value after it has this fault, or an allocation for one or more values failed
abbrev pub IsListFault : {Value Cfg : Type 0} → (Value → List ℕ) → (MarkedText → ℕ → Cfg → Value → Type 0)
    → (MarkedText → ℕ → Cfg → Fault → Type 0)
    → MarkedText → ℕ → RangeCfg × Cfg → Fault → Type 0
IsListFault written is_found is_fault text skip cfg fault = IsCodecFault
    (λ error. IsLengthRead (drop skip text.bytes) cfg.0 (Err error)) fault
    ⊎ ((n : ℕ) × IsLengthRead (drop skip text.bytes) cfg.0 (Ok n)
    × (IsOneFault written is_found is_fault n text (skip + length (spell n)) cfg.1 fault ⊎ ((fault ≡ no_memory) × (0 < n))))

-- as many values, and each is that of the other list
abbrev pub AreSame : {Value : Type 0} → (Value → Value → Type 0) → List Value → List Value → Type 0
AreSame same [] [] = Unit {0}
AreSame same [] (y ∷ ys) = ⊥
AreSame same (x ∷ xs) [] = ⊥
AreSame same (x ∷ xs) (y ∷ ys) = same x y × AreSame same xs ys

-- ---- the items of a list join to what is written of it

pub joins_each : {Value : Type 0} (written : Value → List ℕ) (items : Value → List PutOrPush)
    → ((value : Value) → items_bytes (items value) ≡ written value)
    → (values : List Value) → items_bytes (flat_map items values) ≡ flat_map written values
joins_each written items joins [] = refl
joins_each written items joins (x ∷ xs) =
    joins_two (items x) (flat_map items xs) (written x) (flat_map written xs) (joins x) (joins_each written items joins xs)

pub joins_list : {Value : Type 0} (written : Value → List ℕ) (items : Value → List PutOrPush)
    → ((value : Value) → items_bytes (items value) ≡ written value)
    → (values : List Value) → items_bytes (list_items items values) ≡ list_written written values
joins_list written items joins values = ap (λ zs. spell (length values) ++ zs) (joins_each written items joins values)

-- ---- values in order

same_count : {A : Type 0} (s : A → A → Type 0) (xs ys : List A) → AreSame s xs ys → length xs ≡ length ys
same_count s [] [] h = refl
same_count s [] (y ∷ ys) h = absurd h
same_count s (x ∷ xs) [] h = absurd h
same_count s (x ∷ xs) (y ∷ ys) h = ap suc (same_count s xs ys h.1)

same_each : {A : Type 0} (w : A → List ℕ) (s : A → A → Type 0) → ((x y : A) → s x y → w x ≡ w y) → (xs ys : List A) → AreSame s xs ys
    → flat_map w xs ≡ flat_map w ys
same_each w s one [] [] h = refl
same_each w s one [] (y ∷ ys) h = absurd h
same_each w s one (x ∷ xs) [] h = absurd h
same_each w s one (x ∷ xs) (y ∷ ys) h = ap (λ zs. zs ++ flat_map w xs) (one x y h.0) ∙ ap (λ zs. w y ++ zs) (same_each w s one xs ys h.1)

each_front : {A C : Type 0} {w : A → List ℕ} {s : A → A → Type 0} {ok : C → A → Type 0} {found : MarkedText → ℕ → C → A → Type 0}
    {fault : MarkedText → ℕ → C → Fault → Type 0} → IsForm A C w s ok found fault → (xs ys : List A) (cfg other : C) (u v : List ℕ)
    → length xs ≡ length ys → All (ok cfg) xs → All (ok other) ys → flat_map w xs ++ u ≡ flat_map w ys ++ v → AreSame s xs ys
each_front form [] [] cfg other u v n p q e = tt
each_front form [] (y ∷ ys) cfg other u v n p q e = absurd (omega (arith, n))
each_front form (x ∷ xs) [] cfg other u v n p q e = absurd (omega (arith, n))
each_front {w = w} {ok = ok} form (x ∷ xs) (y ∷ ys) cfg other u v n p q e =
    let whole : w x ++ (flat_map w xs ++ u) ≡ w y ++ (flat_map w ys ++ v) =
    sym (append_assoc (w x) (flat_map w xs) u) ∙ e ∙ append_assoc (w y) (flat_map w ys) v in
    let first = form.no_front x y cfg other (flat_map w xs ++ u) (flat_map w ys ++ v) (All-head (ok cfg) x xs p)
    (All-head (ok other) y ys q) whole in
    let rest = append_cancel_left (w x) (flat_map w xs ++ u) (flat_map w ys ++ v)
    (whole ∙ ap (λ zs. zs ++ (flat_map w ys ++ v)) (sym (form.same_written x y first))) in
    (first, each_front form xs ys cfg other u v (omega (arith, n)) (All-tail (ok cfg) x xs p) (All-tail (ok other) y ys q) rest)

each_found : {A C : Type 0} {w : A → List ℕ} {s : A → A → Type 0} {ok : C → A → Type 0} {found : MarkedText → ℕ → C → A → Type 0}
    {fault : MarkedText → ℕ → C → Fault → Type 0} → IsForm A C w s ok found fault → (xs : List A) (cfg : C) (text : MarkedText) (skip : ℕ)
    → AreFound w found text skip cfg xs → All (ok cfg) xs × (take (length (flat_map w xs)) (drop skip text.bytes) ≡ flat_map w xs)
each_found {ok = ok} form [] cfg text skip h = (All-nil (ok cfg), refl)
each_found {w = w} {ok = ok} form (x ∷ xs) cfg text skip h =
    let (in', front) = form.found_written x cfg text skip h.0 in
    let (in'', front') = each_found form xs cfg text (skip + length (w x)) h.1 in (
      All-cons (ok cfg) x xs in' in'',
      two_bytes (drop skip text.bytes) (w x) (flat_map w xs) front
          (ap (take (length (flat_map w xs))) (drop-drop (length (w x)) skip text.bytes) ∙ front'),
    )

each_refused : {A C : Type 0} {w : A → List ℕ} {s : A → A → Type 0} {ok : C → A → Type 0} {found : MarkedText → ℕ → C → A → Type 0}
    {fault : MarkedText → ℕ → C → Fault → Type 0} → IsForm A C w s ok found fault
    → (xs : List A) (cfg : C) (text : MarkedText) (skip : ℕ) (rest : List ℕ) (f : Fault)
    → All (ok cfg) xs → drop skip text.bytes ≡ flat_map w xs ++ rest → IsOneFault w found fault (length xs) text skip cfg f → f ≡ no_memory
each_refused form [] cfg text skip rest f p e h = absurd h
each_refused {w = w} {ok = ok} form (x ∷ xs) cfg text skip rest f p e h =
    let whole : drop skip text.bytes ≡ w x ++ (flat_map w xs ++ rest) = e ∙ append_assoc (w x) (flat_map w xs) rest in
    elim h [
      | inl first ↦ form.refuses x cfg text skip (flat_map w xs ++ rest) f (All-head (ok cfg) x xs p) whole first
      | inr (y, is, second) ↦
          each_refused form xs cfg text (skip + length (w y)) rest f (All-tail (ok cfg) x xs p)
          (behind_first form x y cfg text skip (flat_map w xs ++ rest) (All-head (ok cfg) x xs p) whole is) second
    ]

each_faults : {A C : Type 0} {w : A → List ℕ} {s : A → A → Type 0} {ok : C → A → Type 0} {found : MarkedText → ℕ → C → A → Type 0}
    {fault : MarkedText → ℕ → C → Fault → Type 0} → IsForm A C w s ok found fault
    → (n : ℕ) (t u : MarkedText) (skip : ℕ) (cfg : C) (e f : Fault) → t.bytes ≡ u.bytes
    → IsOneFault w found fault n t skip cfg e → IsOneFault w found fault n u skip cfg f → (e ≡ f) ⊎ ((e ≡ no_memory) ⊎ (f ≡ no_memory))
each_faults form zero t u skip cfg e f is p q = absurd p
each_faults {w = w} {found = found} {fault = fault} form (suc n) t u skip cfg e f is p q =
    elim p [
      | inl first ↦ elim q [
        | inl other ↦ form.one_fault t u skip cfg e f is first other
        | inr (y, is_there, second) ↦ inr (inl (found_or_memory form y cfg u t skip e (sym is) is_there first))
      ]
      | inr (x, is_there, second) ↦ elim q [
        | inl other ↦ inr (inr (found_or_memory form x cfg t u skip f is is_there other))
        | inr (y, is_there', second') ↦
            let len : length (w x) ≡ length (w y) = ap length
            (form.same_written x y (found_same form x y cfg t u skip is is_there is_there')) in
            each_faults form n t u (skip + length (w x)) cfg e f is second
            (subst (λ k. IsOneFault w found fault n u (skip + k) cfg f) (sym len) second')
      ]
    ]

-- ---- after their count

list_refused : {A C : Type 0} {w : A → List ℕ} {s : A → A → Type 0} {ok : C → A → Type 0} {found : MarkedText → ℕ → C → A → Type 0}
    {fault : MarkedText → ℕ → C → Fault → Type 0} → IsForm A C w s ok found fault
    → (xs : List A) (cfg : RangeCfg × C) (text : MarkedText) (skip : ℕ) (rest : List ℕ) (f : Fault)
    → (length xs < 2 ^ 64) × (in_range cfg.0 (length xs) ≡ true) → All (ok cfg.1) xs → drop skip text.bytes ≡ list_written w xs ++ rest
    → IsListFault w found fault text skip cfg f → f ≡ no_memory
list_refused {w = w} {found = found} {fault = fault} form xs cfg text skip rest f long p e h =
    let k = length xs in
    let whole : drop skip text.bytes ≡ spell k ++ (flat_map w xs ++ rest) = e ∙ append_assoc (spell k) (flat_map w xs) rest in
    elim h [
      | inl first ↦ length_form.refuses k cfg.0 text skip (flat_map w xs ++ rest) f long whole first
      | inr (n, read, second) ↦
          let is : k ≡ n = read_back length_form k n cfg.0 text skip (flat_map w xs ++ rest) long whole read in
          elim second [
            | inl one ↦
                each_refused form xs cfg.1 text (skip + length (spell n)) rest f p
                (behind_first length_form k n cfg.0 text skip (flat_map w xs ++ rest) long whole read)
                (subst (λ m. IsOneFault w found fault m text (skip + length (spell n)) cfg.1 f) (sym is) one)
            | inr memory ↦ memory.0
          ]
    ]

list_faults : {A C : Type 0} {w : A → List ℕ} {s : A → A → Type 0} {ok : C → A → Type 0} {found : MarkedText → ℕ → C → A → Type 0}
    {fault : MarkedText → ℕ → C → Fault → Type 0} → IsForm A C w s ok found fault
    → (t u : MarkedText) (skip : ℕ) (cfg : RangeCfg × C) (e f : Fault) → t.bytes ≡ u.bytes
    → IsListFault w found fault t skip cfg e → IsListFault w found fault u skip cfg f → (e ≡ f) ⊎ ((e ≡ no_memory) ⊎ (f ≡ no_memory))
list_faults {w = w} {found = found} {fault = fault} form t u skip cfg e f is p q =
    elim p [
      | inl first ↦ elim q [
        | inl other ↦ length_form.one_fault t u skip cfg.0 e f is first other
        | inr (n, read, second) ↦ inr (inl (found_or_memory length_form n cfg.0 u t skip e (sym is) read first))
      ]
      | inr (m, read, second) ↦ elim q [
        | inl other ↦ inr (inr (found_or_memory length_form m cfg.0 t u skip f is read other))
        | inr (n, read', second') ↦
            let same : m ≡ n = found_same length_form m n cfg.0 t u skip is read read' in
            elim second [
              | inr memory ↦ inr (inl memory.0)
              | inl one ↦ elim second' [
                | inr memory ↦ inr (inr memory.0)
                | inl one' ↦
                    each_faults form m t u (skip + length (spell m)) cfg.1 e f is one
                    (subst (λ k. IsOneFault w found fault k u (skip + length (spell k)) cfg.1 f) (sym same) one')
              ]
            ]
      ]
    ]

pub list_form : {A C : Type 0} {w : A → List ℕ} {s : A → A → Type 0} {ok : C → A → Type 0} {found : MarkedText → ℕ → C → A → Type 0}
    {fault : MarkedText → ℕ → C → Fault → Type 0} → IsForm A C w s ok found fault
    → IsForm (List A) (RangeCfg × C) (list_written w) (AreSame s)
    (λ cfg xs. ((length xs < 2 ^ 64) × (in_range cfg.0 (length xs) ≡ true)) × All (ok cfg.1) xs) (IsListFound w found)
    (IsListFault w found fault)
list_form {w = w} {s = s} {ok = ok} form = record {
  same_written = λ xs ys h. ap (λ n. spell n ++ flat_map w xs) (same_count s xs ys h)
      ∙ ap (λ zs. spell (length ys) ++ zs) (same_each w s form.same_written xs ys h);
  no_front = λ xs ys cfg other u v p q e.
      let m = length xs in
      let n = length ys in
      let whole : spell m ++ (flat_map w xs ++ u) ≡ spell n ++ (flat_map w ys ++ v) =
      sym (append_assoc (spell m) (flat_map w xs) u) ∙ e ∙ append_assoc (spell n) (flat_map w ys) v in
      let same : m ≡ n = spell_begins m n (flat_map w xs ++ u) (flat_map w ys ++ v) p.0.0 q.0.0 whole in
      let rest = append_cancel_left (spell m) (flat_map w xs ++ u) (flat_map w ys ++ v)
      (whole ∙ ap (λ k. spell k ++ (flat_map w ys ++ v)) (sym same)) in
      each_front form xs ys cfg.1 other.1 u v same p.1 q.1 rest;
  found_written = λ xs cfg text skip h.
      let (long, front) = length_form.found_written (length xs) cfg.0 text skip h.0 in
      let (all, front') = each_found form xs cfg.1 text (skip + length (spell (length xs))) h.1 in (
        (long, all),
        two_bytes (drop skip text.bytes) (spell (length xs)) (flat_map w xs) front
            (ap (take (length (flat_map w xs))) (drop-drop (length (spell (length xs))) skip text.bytes) ∙ front'),
      );
  refuses = λ xs cfg text skip rest f p e h. list_refused form xs cfg text skip rest f p.0 p.1 e h;
  one_fault = λ t u skip cfg e f is p q. list_faults form t u skip cfg e f is p q;
}
