-- A byte for the kind followed by a value, and a value of one of two kinds: the first byte determines which. Impls cite the
-- lemmas, so they are in `specs/`.
--     IsTagAt                                the first of these bytes is of the kind, or of another
--     IsNoKind                                  no byte is there
--     IsKindFound, IsKindFault               the byte of a kind followed by a value; why it isn't decoded
--     either_written, either_items,          the encoding of a value of one of two kinds, and which are equal
--     IsSameEither
--     IsEitherAdmitted, IsEitherFound,       which are admitted and decoded: one of the second kind only if its byte
--     IsEitherFault                          isn't of the first; and why none is decoded
--     kind_form, either_form                 their forms, from the forms of the values
--     kind_first, either_first               the first byte of an encoding determines the kind
--     joins_either                           the items of a value of one of two kinds join to what is written of it
use Rattle.std.proofs.Common.{◌≡◌, ◌⊎◌, inl, inr, ℕ, ◌+◌, Bool, true, false, ◌||◌, nat_eq, List, [], ◌∷◌, ◌++◌, length, take, drop, ap, sym, ◌∙◌, refl, arith}
use Rattle.std.proofs.lemmas.Bool.Decides.{nat_tests}
use Rattle.std.proofs.lemmas.Grind.{common_steps}
use Rattle.std.proofs.lemmas.List.{drop-drop}
use Rattle.iobufs_core.specs.Items.{PutOrPush, items_bytes}
use Rattle.iobufs_core.specs.MarkedText.{MarkedText}
use Rattle.iobufs_core.specs.declared.codec.base.Error.TheVariants.{EndOfBuffer}
use Rattle.iobufs_codec.specs.declared.fault.Fault.{Fault}
use Rattle.iobufs_codec.specs.declared.fault.Fault.TheVariants.{Codec, InvalidEnum}
use Rattle.iobufs_codec.specs.declared.kinds.Either.{Either}
use Rattle.iobufs_codec.specs.declared.kinds.Either.TheVariants.{First, Second}
use Rattle.iobufs_codec.specs.Form.{IsForm, IsByteAt, no_memory}
use Rattle.iobufs_codec.specs.Forms.{behind_byte, no_first, tails, two_bytes, two_firsts, whole_by}

-- the first byte is a tag of the kind (`true`), or of another (`false`)
pub record IsTagAt (is_tag : ℕ → Bool) (told : Bool) (bytes : List ℕ) : Type 0 where
  pub tag : ℕ
  pub at : take 1 bytes ≡ tag ∷ []
  pub tells : is_tag tag ≡ told

abbrev pub IsNoKind : MarkedText → ℕ → Fault → Type 0
IsNoKind text skip fault = (fault ≡ Codec EndOfBuffer) × (drop skip text.bytes ≡ [])

abbrev pub IsKindFound : {Value Cfg : Type 0} → ℕ → (MarkedText → ℕ → Cfg → Value → Type 0) → MarkedText → ℕ → Cfg → Value → Type 0
IsKindFound tag is_found text skip cfg value = IsByteAt text skip tag × is_found text (skip + 1) cfg value

abbrev pub IsKindFault : {Cfg : Type 0} → ℕ → (MarkedText → ℕ → Cfg → Fault → Type 0) → MarkedText → ℕ → Cfg → Fault → Type 0
IsKindFault tag is_fault text skip cfg fault =
    IsNoKind text skip fault
    ⊎ (((other : ℕ) × IsByteAt text skip other × (nat_eq other tag ≡ false) × (fault ≡ InvalidEnum other))
    ⊎ (IsByteAt text skip tag × is_fault text (skip + 1) cfg fault))

abbrev pub either_written : {A B : Type 0} → (A → List ℕ) → (B → List ℕ) → Either A B → List ℕ
either_written first second (First x) = first x
either_written first second (Second y) = second y

abbrev pub either_items : {A B : Type 0} → (A → List PutOrPush) → (B → List PutOrPush) → Either A B → List PutOrPush
either_items first second (First x) = first x
either_items first second (Second y) = second y

abbrev pub IsSameEither : {A B : Type 0} → (A → A → Type 0) → (B → B → Type 0) → Either A B → Either A B → Type 0
IsSameEither first second (First x) (First y) = first x y
IsSameEither first second (First x) (Second y) = ⊥
IsSameEither first second (Second x) (First y) = ⊥
IsSameEither first second (Second x) (Second y) = second x y

abbrev pub IsEitherAdmitted : {A B C D : Type 0} → (ℕ → Bool) → (B → List ℕ) → (C → A → Type 0) → (D → B → Type 0) → C × D → Either A B
    → Type 0
IsEitherAdmitted is_tag written first second cfg (First x) = first cfg.0 x
IsEitherAdmitted is_tag written first second cfg (Second y) = second cfg.1 y × IsTagAt is_tag false (written y)

abbrev pub IsEitherFound : {A B C D : Type 0} → (ℕ → Bool) → (MarkedText → ℕ → C → A → Type 0) → (MarkedText → ℕ → D → B → Type 0)
    → MarkedText → ℕ → C × D → Either A B → Type 0
IsEitherFound is_tag first second text skip cfg (First x) = first text skip cfg.0 x
IsEitherFound is_tag first second text skip cfg (Second y) = IsTagAt is_tag false (drop skip text.bytes) × second text skip cfg.1 y

abbrev pub IsEitherFault : {C D : Type 0} → (ℕ → Bool) → (MarkedText → ℕ → C → Fault → Type 0) → (MarkedText → ℕ → D → Fault → Type 0)
    → MarkedText → ℕ → C × D → Fault → Type 0
IsEitherFault is_tag first second text skip cfg fault =
    IsNoKind text skip fault
    ⊎ ((IsTagAt is_tag true (drop skip text.bytes) × first text skip cfg.0 fault)
    ⊎ (IsTagAt is_tag false (drop skip text.bytes) × second text skip cfg.1 fault))

-- ---- the first byte

begins_on : (xs ys : List ℕ) (b : ℕ) → take 1 xs ≡ b ∷ [] → take 1 (xs ++ ys) ≡ b ∷ []
begins_on [] ys b e = absurd (no_first [] b e refl)
begins_on (x ∷ xs) ys b e = e

-- appended bytes don't change the kind that the first byte determines
first_on : (is_tag : ℕ → Bool) (told : Bool) (xs ys : List ℕ) → IsTagAt is_tag told xs → IsTagAt is_tag told (xs ++ ys)
first_on is_tag told xs ys f = record { tag = f.tag; at = begins_on xs ys f.tag f.at; tells = f.tells }

-- the first of equal bytes determines one kind
one_kind : (is_tag : ℕ → Bool) (xs ys : List ℕ) → xs ≡ ys → IsTagAt is_tag true xs → IsTagAt is_tag false ys → ⊥
one_kind is_tag xs ys e p q =
    let same : p.tag ≡ q.tag = two_firsts ys p.tag q.tag (ap (take 1) (sym e) ∙ p.at) q.at in
    let both : true ≡ false = sym p.tells ∙ ap is_tag same ∙ q.tells in cc

eq_self : (n : ℕ) → nat_eq n n ≡ true
eq_self n = grind (arith, nat_tests, common_steps)

or_true : (b : Bool) → b || true ≡ true
or_true true = refl
or_true false = refl

not_end : (is_tag : ℕ → Bool) (told : Bool) (xs : List ℕ) → IsTagAt is_tag told xs → xs ≡ [] → ⊥
not_end is_tag told xs f e = no_first xs f.tag f.at e

-- ---- a value after the byte of its kind

-- a tag and any bytes after it begin with the tag
pub kind_first : (tag : ℕ) (bytes : List ℕ) → IsTagAt (λ byte. nat_eq byte tag) true (tag ∷ bytes)
kind_first tag bytes = record { tag = tag; at = refl; tells = eq_self tag }

-- a byte that is no tag of the kind is not the tag
not_tag : (text : MarkedText) (skip tag other : ℕ) → IsByteAt text skip tag → IsByteAt text skip other → nat_eq other tag ≡ false → ⊥
not_tag text skip tag other p q e =
    let same : other ≡ tag = two_firsts (drop skip text.bytes) other tag q p in
    let both : true ≡ false = sym (eq_self tag) ∙ ap (λ byte. nat_eq byte tag) (sym same) ∙ e in cc

kind_refused : {A C : Type 0} {w : A → List ℕ} {s : A → A → Type 0} {ok : C → A → Type 0} {found : MarkedText → ℕ → C → A → Type 0}
    {fault : MarkedText → ℕ → C → Fault → Type 0} → (tag : ℕ) → IsForm A C w s ok found fault
    → (x : A) (cfg : C) (text : MarkedText) (skip : ℕ) (rest : List ℕ) (f : Fault)
    → ok cfg x → drop skip text.bytes ≡ (tag ∷ w x) ++ rest → IsKindFault tag fault text skip cfg f → f ≡ no_memory
kind_refused {w = w} tag form x cfg text skip rest f p e h =
    elim h [
      | inl ended ↦ absurd (no_first (drop skip text.bytes) tag (ap (take 1) e) ended.1)
      | inr more ↦ elim more [
        | inl (other, at, apart, is) ↦ absurd (not_tag text skip tag other (ap (take 1) e) at apart)
        | inr (at, inside) ↦ form.refuses x cfg text (skip + 1) rest f p (behind_byte text skip tag (w x ++ rest) e) inside
      ]
    ]

kind_faults : {A C : Type 0} {w : A → List ℕ} {s : A → A → Type 0} {ok : C → A → Type 0} {found : MarkedText → ℕ → C → A → Type 0}
    {fault : MarkedText → ℕ → C → Fault → Type 0} → (tag : ℕ) → IsForm A C w s ok found fault
    → (t u : MarkedText) (skip : ℕ) (cfg : C) (e f : Fault) → t.bytes ≡ u.bytes
    → IsKindFault tag fault t skip cfg e → IsKindFault tag fault u skip cfg f → (e ≡ f) ⊎ ((e ≡ no_memory) ⊎ (f ≡ no_memory))
kind_faults tag form t u skip cfg e f is p q =
    let one : drop skip t.bytes ≡ drop skip u.bytes = ap (drop skip) is in
    elim p [
      | inl ended ↦ elim q [
        | inl too ↦ inl (ended.0 ∙ sym too.0)
        | inr more ↦ elim more [
          | inl (other, at, apart, told) ↦ absurd (no_first (drop skip u.bytes) other at (sym one ∙ ended.1))
          | inr (at, inside) ↦ absurd (no_first (drop skip u.bytes) tag at (sym one ∙ ended.1))
        ]
      ]
      | inr more ↦ elim more [
        | inl (other, at, apart, told) ↦ elim q [
          | inl too ↦ absurd (no_first (drop skip t.bytes) other at (one ∙ too.1))
          | inr more' ↦ elim more' [
            | inl (other', at', apart', told') ↦
                inl (told ∙ ap InvalidEnum (two_firsts (drop skip u.bytes) other other' (ap (take 1) (sym one) ∙ at) at') ∙ sym told')
            | inr (at', inside') ↦ absurd (not_tag u skip tag other at' (ap (take 1) (sym one) ∙ at) apart)
          ]
        ]
        | inr (at, inside) ↦ elim q [
          | inl too ↦ absurd (no_first (drop skip t.bytes) tag at (one ∙ too.1))
          | inr more' ↦ elim more' [
            | inl (other', at', apart', told') ↦ absurd (not_tag t skip tag other' at (ap (take 1) one ∙ at') apart')
            | inr (at', inside') ↦ form.one_fault t u (skip + 1) cfg e f is inside inside'
          ]
        ]
      ]
    ]

pub kind_form : {A C : Type 0} {w : A → List ℕ} {s : A → A → Type 0} {ok : C → A → Type 0} {found : MarkedText → ℕ → C → A → Type 0}
    {fault : MarkedText → ℕ → C → Fault → Type 0} → (tag : ℕ) → IsForm A C w s ok found fault
    → IsForm A C (λ x. tag ∷ w x) s ok (IsKindFound tag found) (IsKindFault tag fault)
kind_form {w = w} tag form = record {
  same_written = λ x y h. ap (λ zs. tag ∷ zs) (form.same_written x y h);
  no_front = λ x y cfg other u v p q e. form.no_front x y cfg other u v p q (tails tag tag (w x ++ u) (w y ++ v) e);
  found_written = λ x cfg text skip h.
      let (in', front) = form.found_written x cfg text (skip + 1) h.1 in
      (in', two_bytes (drop skip text.bytes) (tag ∷ []) (w x) h.0 (ap (take (length (w x))) (drop-drop 1 skip text.bytes) ∙ front));
  refuses = λ x cfg text skip rest f p e h. kind_refused tag form x cfg text skip rest f p e h;
  one_fault = λ t u skip cfg e f is p q. kind_faults tag form t u skip cfg e f is p q;
}

-- ---- a value of one kind or another

-- the items of a value of one kind or another join to what is written of it
pub joins_either : {A B : Type 0} (wa : A → List ℕ) (ia : A → List PutOrPush) → ((x : A) → items_bytes (ia x) ≡ wa x)
    → (wb : B → List ℕ) (ib : B → List PutOrPush) → ((y : B) → items_bytes (ib y) ≡ wb y)
    → (value : Either A B) → items_bytes (either_items ia ib value) ≡ either_written wa wb value
joins_either wa ia first wb ib second (First x) = first x
joins_either wa ia first wb ib second (Second y) = second y

first_or : (p q : ℕ → Bool) (bytes : List ℕ) → IsTagAt p true bytes → IsTagAt (λ byte. p byte || q byte) true bytes
first_or p q bytes f = record { tag = f.tag; at = f.at; tells = ap (λ told. told || q f.tag) f.tells }

or_first : (p q : ℕ → Bool) (bytes : List ℕ) → IsTagAt q true bytes → IsTagAt (λ byte. p byte || q byte) true bytes
or_first p q bytes f = record { tag = f.tag; at = f.at; tells = ap (λ told. p f.tag || told) f.tells ∙ or_true (p f.tag) }

-- the first byte of a value tells its kind, and so that it is of one of the two
pub either_first : {A B : Type 0} {wa : A → List ℕ} {wb : B → List ℕ} {p q : ℕ → Bool} → ((x : A) → IsTagAt p true (wa x))
    → ((y : B) → IsTagAt q true (wb y))
    → (value : Either A B) → IsTagAt (λ byte. p byte || q byte) true (either_written wa wb value)
either_first {wa = wa} {p = p} {q = q} first second (First x) = first_or p q (wa x) (first x)
either_first {wb = wb} {p = p} {q = q} first second (Second y) = or_first p q (wb y) (second y)

either_same : {A B : Type 0} (wa : A → List ℕ) (wb : B → List ℕ) (sa : A → A → Type 0) (sb : B → B → Type 0)
    → ((x y : A) → sa x y → wa x ≡ wa y) → ((x y : B) → sb x y → wb x ≡ wb y)
    → (x y : Either A B) → IsSameEither sa sb x y → either_written wa wb x ≡ either_written wa wb y
either_same wa wb sa sb first second (First x) (First y) h = first x y h
either_same wa wb sa sb first second (First x) (Second y) h = absurd h
either_same wa wb sa sb first second (Second x) (First y) h = absurd h
either_same wa wb sa sb first second (Second x) (Second y) h = second x y h

either_front : {A B C D : Type 0} {p : ℕ → Bool}
    {wa : A → List ℕ} {sa : A → A → Type 0} {oka : C → A → Type 0} {fa : MarkedText → ℕ → C → A → Type 0}
    {ea : MarkedText → ℕ → C → Fault → Type 0}
    {wb : B → List ℕ} {sb : B → B → Type 0} {okb : D → B → Type 0} {fb : MarkedText → ℕ → D → B → Type 0}
    {eb : MarkedText → ℕ → D → Fault → Type 0}
    → IsForm A C wa sa oka fa ea → ((x : A) → IsTagAt p true (wa x)) → IsForm B D wb sb okb fb eb
    → (x y : Either A B) (cfg other : C × D) (u v : List ℕ) → IsEitherAdmitted p wb oka okb cfg x → IsEitherAdmitted p wb oka okb other y
    → either_written wa wb x ++ u ≡ either_written wa wb y ++ v → IsSameEither sa sb x y
either_front a begins b (First x) (First y) cfg other u v ok ok' e = a.no_front x y cfg.0 other.0 u v ok ok' e
either_front {p = p} {wa = wa} {wb = wb} a begins b (First x) (Second y) cfg other u v ok ok' e =
    absurd (one_kind p (wa x ++ u) (wb y ++ v) e (first_on p true (wa x) u (begins x)) (first_on p false (wb y) v ok'.1))
either_front {p = p} {wa = wa} {wb = wb} a begins b (Second x) (First y) cfg other u v ok ok' e =
    absurd (one_kind p (wa y ++ v) (wb x ++ u) (sym e) (first_on p true (wa y) v (begins y)) (first_on p false (wb x) u ok.1))
either_front a begins b (Second x) (Second y) cfg other u v ok ok' e = b.no_front x y cfg.1 other.1 u v ok.0 ok'.0 e

-- the byte before a text is the first of the value that stands there
first_there : (p q : ℕ → Bool) (d w : List ℕ) → take (length w) d ≡ w → IsTagAt q true w → IsTagAt p false d → IsTagAt p false w
first_there p q d w front begins f =
    let whole : d ≡ w ++ drop (length w) d = whole_by w d front in
    let same : f.tag ≡ begins.tag = two_firsts d f.tag begins.tag f.at
    (ap (take 1) whole ∙ begins_on w (drop (length w) d) begins.tag begins.at) in
    record { tag = begins.tag; at = begins.at; tells = ap p (sym same) ∙ f.tells }

either_found : {A B C D : Type 0} {p q : ℕ → Bool}
    {wa : A → List ℕ} {sa : A → A → Type 0} {oka : C → A → Type 0} {fa : MarkedText → ℕ → C → A → Type 0}
    {ea : MarkedText → ℕ → C → Fault → Type 0}
    {wb : B → List ℕ} {sb : B → B → Type 0} {okb : D → B → Type 0} {fb : MarkedText → ℕ → D → B → Type 0}
    {eb : MarkedText → ℕ → D → Fault → Type 0}
    → IsForm A C wa sa oka fa ea → ((x : A) → IsTagAt p true (wa x)) → IsForm B D wb sb okb fb eb → ((y : B) → IsTagAt q true (wb y))
    → (x : Either A B) (cfg : C × D) (text : MarkedText) (skip : ℕ) → IsEitherFound p fa fb text skip cfg x
    → IsEitherAdmitted p wb oka okb cfg x × (take (length (either_written wa wb x)) (drop skip text.bytes) ≡ either_written wa wb x)
either_found a begins b begins' (First x) cfg text skip h = a.found_written x cfg.0 text skip h
either_found {p = p} {q = q} {wb = wb} a begins b begins' (Second y) cfg text skip h =
    let (in', front) = b.found_written y cfg.1 text skip h.1 in
    ((in', first_there p q (drop skip text.bytes) (wb y) front (begins' y) h.0), front)

either_refused : {A B C D : Type 0} {p : ℕ → Bool}
    {wa : A → List ℕ} {sa : A → A → Type 0} {oka : C → A → Type 0} {fa : MarkedText → ℕ → C → A → Type 0}
    {ea : MarkedText → ℕ → C → Fault → Type 0}
    {wb : B → List ℕ} {sb : B → B → Type 0} {okb : D → B → Type 0} {fb : MarkedText → ℕ → D → B → Type 0}
    {eb : MarkedText → ℕ → D → Fault → Type 0}
    → IsForm A C wa sa oka fa ea → ((x : A) → IsTagAt p true (wa x)) → IsForm B D wb sb okb fb eb
    → (x : Either A B) (cfg : C × D) (text : MarkedText) (skip : ℕ) (rest : List ℕ) (f : Fault) → IsEitherAdmitted p wb oka okb cfg x
    → drop skip text.bytes ≡ either_written wa wb x ++ rest → IsEitherFault p ea eb text skip cfg f → f ≡ no_memory
either_refused {p = p} {wa = wa} a begins b (First x) cfg text skip rest f ok e h =
    let d = drop skip text.bytes in
    let there : IsTagAt p true (wa x ++ rest) = first_on p true (wa x) rest (begins x) in
    elim h [
      | inl ended ↦ absurd (not_end p true (wa x ++ rest) there (sym e ∙ ended.1))
      | inr more ↦ elim more [
        | inl first ↦ a.refuses x cfg.0 text skip rest f ok e first.1
        | inr second ↦ absurd (one_kind p (wa x ++ rest) d (sym e) there second.0)
      ]
    ]
either_refused {p = p} {wb = wb} a begins b (Second y) cfg text skip rest f ok e h =
    let d = drop skip text.bytes in
    let there : IsTagAt p false (wb y ++ rest) = first_on p false (wb y) rest ok.1 in
    elim h [
      | inl ended ↦ absurd (not_end p false (wb y ++ rest) there (sym e ∙ ended.1))
      | inr more ↦ elim more [
        | inl first ↦ absurd (one_kind p d (wb y ++ rest) e first.0 there)
        | inr second ↦ b.refuses y cfg.1 text skip rest f ok.0 e second.1
      ]
    ]

either_faults : {A B C D : Type 0} {p : ℕ → Bool}
    {wa : A → List ℕ} {sa : A → A → Type 0} {oka : C → A → Type 0} {fa : MarkedText → ℕ → C → A → Type 0}
    {ea : MarkedText → ℕ → C → Fault → Type 0}
    {wb : B → List ℕ} {sb : B → B → Type 0} {okb : D → B → Type 0} {fb : MarkedText → ℕ → D → B → Type 0}
    {eb : MarkedText → ℕ → D → Fault → Type 0}
    → IsForm A C wa sa oka fa ea → ((x : A) → IsTagAt p true (wa x)) → IsForm B D wb sb okb fb eb
    → (t u : MarkedText) (skip : ℕ) (cfg : C × D) (e f : Fault) → t.bytes ≡ u.bytes
    → IsEitherFault p ea eb t skip cfg e → IsEitherFault p ea eb u skip cfg f → (e ≡ f) ⊎ ((e ≡ no_memory) ⊎ (f ≡ no_memory))
either_faults {p = p} a begins b t u skip cfg e f is g h =
    let one : drop skip t.bytes ≡ drop skip u.bytes = ap (drop skip) is in
    elim g [
      | inl ended ↦ elim h [
        | inl too ↦ inl (ended.0 ∙ sym too.0)
        | inr more ↦ elim more [
          | inl first ↦ absurd (not_end p true (drop skip u.bytes) first.0 (sym one ∙ ended.1))
          | inr second ↦ absurd (not_end p false (drop skip u.bytes) second.0 (sym one ∙ ended.1))
        ]
      ]
      | inr more ↦ elim more [
        | inl first ↦ elim h [
          | inl too ↦ absurd (not_end p true (drop skip t.bytes) first.0 (one ∙ too.1))
          | inr more' ↦ elim more' [
            | inl first' ↦ a.one_fault t u skip cfg.0 e f is first.1 first'.1
            | inr second' ↦ absurd (one_kind p (drop skip t.bytes) (drop skip u.bytes) one first.0 second'.0)
          ]
        ]
        | inr second ↦ elim h [
          | inl too ↦ absurd (not_end p false (drop skip t.bytes) second.0 (one ∙ too.1))
          | inr more' ↦ elim more' [
            | inl first' ↦ absurd (one_kind p (drop skip u.bytes) (drop skip t.bytes) (sym one) first'.0 second.0)
            | inr second' ↦ b.one_fault t u skip cfg.1 e f is second.1 second'.1
          ]
        ]
      ]
    ]

pub either_form : {A B C D : Type 0} {p q : ℕ → Bool}
    {wa : A → List ℕ} {sa : A → A → Type 0} {oka : C → A → Type 0} {fa : MarkedText → ℕ → C → A → Type 0}
    {ea : MarkedText → ℕ → C → Fault → Type 0}
    {wb : B → List ℕ} {sb : B → B → Type 0} {okb : D → B → Type 0} {fb : MarkedText → ℕ → D → B → Type 0}
    {eb : MarkedText → ℕ → D → Fault → Type 0}
    → IsForm A C wa sa oka fa ea → ((x : A) → IsTagAt p true (wa x)) → IsForm B D wb sb okb fb eb → ((y : B) → IsTagAt q true (wb y))
    → IsForm (Either A B) (C × D) (either_written wa wb) (IsSameEither sa sb) (IsEitherAdmitted p wb oka okb) (IsEitherFound p fa fb)
    (IsEitherFault p ea eb)
either_form {wa = wa} {sa = sa} {wb = wb} {sb = sb} a begins b begins' = record {
  same_written = either_same wa wb sa sb a.same_written b.same_written;
  no_front = λ x y cfg other u v ok ok' e. either_front a begins b x y cfg other u v ok ok' e;
  found_written = λ x cfg text skip h. either_found a begins b begins' x cfg text skip h;
  refuses = λ x cfg text skip rest f ok e h. either_refused a begins b x cfg text skip rest f ok e h;
  one_fault = λ t u skip cfg e f is g h. either_faults a begins b t u skip cfg e f is g h;
}
