-- How many parts at the front have no spare capacity, after each call on parts.
use Rattle.iobufs.proofs.Text.{HaveNoSpare, IsParts, List, Part, [], ap, append-nil, arith, cond_both, drop, get_or, length, nat_lt, part_capacity, part_drained, part_put, parts_drained, parts_fill, parts_or_default, parts_overwritten, parts_shared_out, refl, same_part, set, subst, suc, sym, take, with_capacity, zero, ℕ, ◌++◌, ◌+◌, ◌-◌, ◌<◌, ◌∙◌, ◌∷◌, ◌≡◌, ◌≤◌}
use Rattle.iobufs.proofs.Parts.PartRuns.{drained-parts}

-- one more, if the next part has none
pub full-next : (n : ℕ) (parts : List Part) (p : Part) → HaveNoSpare n parts → n < length parts → p ≡ get_or parts n p → p.spare ≡ 0
    → HaveNoSpare (suc n) parts
full-next zero [] p full inside is none = absurd (omega arith)
full-next zero (q ∷ parts) p full inside is none = (ap (λ (x : Part). x.spare) (sym is) ∙ none, tt)
full-next (suc n) [] p full inside is none = absurd (omega arith)
full-next (suc n) (q ∷ parts) p full inside is none = (full.0, full-next n parts p full.1 (omega arith) is none)

-- one more, if the next part is put back without
pub full-set : (n : ℕ) (parts : List Part) (q : Part) → HaveNoSpare n parts → n < length parts → q.spare ≡ 0
    → HaveNoSpare (suc n) (set parts n q)
full-set zero [] q full inside none = absurd (omega arith)
full-set zero (p ∷ parts) q full inside none = (none, tt)
full-set (suc n) [] q full inside none = absurd full
full-set (suc n) (p ∷ parts) q full inside none = (full.0, full-set n parts q full.1 (omega arith) none)

-- as many, if the next part is changed
pub full-before : (n : ℕ) (parts : List Part) (q : Part) → HaveNoSpare n parts → HaveNoSpare n (set parts n q)
full-before zero parts q full = tt
full-before (suc n) [] q full = absurd full
full-before (suc n) (p ∷ parts) q full = (full.0, full-before n parts q full.1)

-- more parts after them leave them full
pub full-push : (n : ℕ) (parts more : List Part) → HaveNoSpare n parts → HaveNoSpare n (parts ++ more)
full-push zero parts more full = tt
full-push (suc n) [] more full = absurd full
full-push (suc n) (p ∷ parts) more full = (full.0, full-push n parts more full.1)

-- bytes are filled in after those that have none
pub fill-after : (n : ℕ) (parts : List Part) (w : List ℕ) → HaveNoSpare n parts
    → parts_fill parts w ≡ take n parts ++ parts_fill (drop n parts) w
fill-after zero parts w full = refl
fill-after (suc n) [] w full = absurd full
fill-after (suc n) (p ∷ parts) w full =
    let same = same_part (part_put p (take p.spare w)) p (ap (λ k. p.filled ++ take k w) full.0 ∙ append-nil p.filled)
    (omega (arith, full.0)) in
    λ i. same i ∷ (ap (λ k. parts_fill parts (drop k w)) full.0 ∙ fill-after n parts w full.1) i

-- filling leaves them full
pub full-fill : (n : ℕ) (parts : List Part) (w : List ℕ) → HaveNoSpare n parts → HaveNoSpare n (parts_fill parts w)
full-fill zero parts w full = tt
full-fill (suc n) [] w full = absurd full
full-fill (suc n) (p ∷ parts) w full = (omega (arith, full.0), full-fill n parts (drop p.spare w) full.1)

-- bytes written over those that are filled leave them full
pub full-overwritten : (n : ℕ) (parts : List Part) (w : List ℕ) → HaveNoSpare n parts → HaveNoSpare n (parts_overwritten parts w)
full-overwritten zero parts w full = tt
full-overwritten (suc n) [] w full = absurd full
full-overwritten (suc n) (p ∷ parts) w full = (full.0, full-overwritten n parts (drop (length p.filled) w) full.1)

pub full-within : (n : ℕ) (parts : List Part) → HaveNoSpare n parts → n ≤ length parts
full-within zero parts full = omega arith
full-within (suc n) [] full = absurd full
full-within (suc n) (p ∷ parts) full = omega (arith, full-within n parts full.1)

-- the parts that can hold a byte without the first m bytes
abbrev able_left : List Part → ℕ → List Part
able_left parts m = with_capacity (parts_shared_out parts m)

fewer : (parts : List Part) (m : ℕ) → length (able_left parts m) ≤ length parts
fewer [] m = omega arith
fewer (p ∷ parts) m =
    let left = able_left parts (m - length p.filled) in
    let few = fewer parts (m - length p.filled) in
    cond_both (nat_lt 0 (part_capacity (part_drained p m))) (part_drained p m ∷ left) left (λ ps. length ps ≤ length (p ∷ parts))
    (λ _. omega (arith, few)) (λ _. omega (arith, few))

-- of the first n, at least k are left if no more than n - k parts go
full-left : (k n m : ℕ) (parts : List Part) → k + length parts ≤ n + length (able_left parts m) → HaveNoSpare n parts
    → HaveNoSpare k (able_left parts m)
full-left zero n m parts few full = tt
full-left (suc k) n m [] few full = absurd (omega (arith, few, full-within n [] full))
full-left (suc k) zero m (p ∷ parts) few full = absurd (omega (arith, few, fewer (p ∷ parts) m))
full-left (suc k) (suc n) m (p ∷ parts) few full =
    let rest = m - length p.filled in
    let left = able_left parts rest in
    cond_both (nat_lt 0 (part_capacity (part_drained p m))) (part_drained p m ∷ left) left
    (λ ps. suc k + length (p ∷ parts) ≤ suc n + length ps → HaveNoSpare (suc k) ps)
    (λ _ few. (full.0, full-left k n rest parts (omega (arith, few)) full.1))
    (λ _ few. full-left (suc k) n rest parts (omega (arith, few)) full.1) few

-- draining leaves no more parts than there are
pub fewer-drained : (parts : List Part) (m : ℕ) → IsParts parts → length (parts_drained parts m) ≤ length parts
fewer-drained parts m are =
    omega (arith, ap (λ (ps : List Part). length ps) (drained-parts parts m are), fewer parts m, count (able_left parts m), are.some)
  where
    count : (able : List Part) → length (parts_or_default able) ≡ length able + (1 - length able)
    count [] = refl
    count (p ∷ able) = omega arith

-- if n - k parts go, the first k that draining leaves have none
pub full-drained : (k n m : ℕ) (parts : List Part) → HaveNoSpare n parts → IsParts parts
    → k ≡ n - (length parts - length (parts_drained parts m))
    → HaveNoSpare k (parts_drained parts m)
full-drained k n m parts full are is =
    let drained = drained-parts parts m are in
    subst (λ ps. HaveNoSpare k ps) (sym drained) (of_able k (able_left parts m) (cc) (λ few. full-left k n m parts few full))
  where
    of_able : (k : ℕ) (able : List Part) → k ≡ n - (length parts - length (parts_or_default able))
        → (k + length parts ≤ n + length able → HaveNoSpare k able) → HaveNoSpare k (parts_or_default able)
    of_able zero able gone held = tt
    of_able (suc zero) [] gone held = (refl, tt)
    of_able (suc (suc k)) [] gone held = absurd (omega (arith, gone, full-within n parts full))
    of_able (suc k) (p ∷ able) gone held = held (omega (arith, gone))

pub ruleset filling = (fill-after)
