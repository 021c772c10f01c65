-- Parts that are strung together one by one: which are kept, and why the last one is refused.
use Rattle.iobufs.proofs.Text.{HaveCapacity, IsParts, IsRowRefusedAt, List, Memory, Part, TooLong, [], ap, arith, by_lt, cond-false, cond-true, empty_part, kept_parts, le-ltb, length, length-append, lt-ltb, nat_lt, nil_from_length, part_capacity, part_drained, parts_capacity, parts_drained, parts_or_default, parts_shared_out, refl, same_part, sum_by-cons, sum_by_push, sym, with_capacity, ℕ, ◌++◌, ◌+◌, ◌<◌, ◌^◌, ◌∙◌, ◌∷◌, ◌≡◌, ◌≤◌}
use Rattle.iobufs.proofs.Parts.DrainShapes.{able-both, able-with_capacity, capacity-with_capacity, drained-several, with_capacity-all, with_capacity-push}

-- where there is a part, no other has to represent them
pub default-some : (parts : List Part) → 0 < length parts → parts_or_default parts ≡ parts
default-some [] some = absurd (omega arith)
default-some (p ∷ parts) some = refl

-- parts that can all hold a byte are all kept
pub kept-all : (parts : List Part) → HaveCapacity parts → 0 < length parts → parts ≡ kept_parts parts
kept-all parts able some = sym (ap parts_or_default (with_capacity-all parts able) ∙ default-some parts some)

-- parts are all kept
pub kept-same : (parts : List Part) → 0 < length parts → (1 < length parts → HaveCapacity parts) → parts ≡ kept_parts parts
kept-same [] some able = absurd (omega arith)
kept-same (p ∷ []) some able =
    by_lt 0 (part_capacity p) (λ more. kept-all (p ∷ []) (more, tt) (omega arith))
    (λ none. cc (same_part p (empty_part 0) (nil_from_length p.filled (omega arith)) (omega arith)))
kept-same (p ∷ q ∷ parts) some able = kept-all (p ∷ q ∷ parts) (able (omega arith)) (omega arith)

-- those that are kept are parts
pub parts-kept : (parts : List Part) → parts_capacity parts < 2 ^ 64 → IsParts (kept_parts parts)
parts-kept parts fits = of_able (with_capacity parts) (able-with_capacity parts) (omega (arith, capacity-with_capacity parts))
  where
    of_able : (able : List Part) → HaveCapacity able → parts_capacity able < 2 ^ 64 → IsParts (parts_or_default able)
    of_able [] h fits = record { some = omega arith; have_capacity = λ more. absurd (omega arith); fits = omega arith }
    of_able (p ∷ able) h fits = record { some = omega arith; have_capacity = λ more. h; fits = fits }

-- parts that lose bytes are those of them that are kept then
pub drained-parts : (parts : List Part) (n : ℕ) → IsParts parts → parts_drained parts n ≡ kept_parts (parts_shared_out parts n)
drained-parts [] n are = absurd (omega (arith, are.some))
drained-parts (p ∷ []) n are = kept-same (part_drained p n ∷ []) (omega arith) (λ more. absurd (omega arith))
drained-parts (p ∷ q ∷ parts) n are = drained-several (p ∷ q ∷ parts) n (omega arith) (are.have_capacity (omega arith))

-- one that can't hold a byte makes way
pub kept-first : (first p : Part) → part_capacity first ≡ 0 → 0 < part_capacity p → p ∷ [] ≡ kept_parts (first ∷ p ∷ [])
kept-first first p none more =
    kept-all (p ∷ []) (more, tt) (omega arith)
    ∙ ap parts_or_default
    (sym (cond-false (nat_lt 0 (part_capacity first)) (first ∷ with_capacity (p ∷ [])) (with_capacity (p ∷ []))
    (le-ltb 0 (part_capacity first) (omega arith))))

-- two parts
pub kept-two : (p q : Part) → 0 < part_capacity p → 0 < part_capacity q → p ∷ q ∷ [] ≡ kept_parts (p ∷ q ∷ [])
kept-two p q first second = kept-all (p ∷ q ∷ []) (first, (second, tt)) (omega arith)

-- one part more than two or more
pub parts-push : (parts : List Part) (p : Part) → IsParts parts → 1 < length parts → 0 < part_capacity p
    → parts_capacity parts + part_capacity p < 2 ^ 64
    → IsParts (parts ++ p ∷ [])
parts-push parts p are several more fits = record {
  some = omega (arith, length-append parts (p ∷ []));
  have_capacity = λ _. able-both parts (p ∷ []) (are.have_capacity several) (more, tt);
  fits = omega (arith, sum_by_push part_capacity parts p);
}

-- a function that is equal on no part and on the default part is equal on parts, and on those with the default part for none
pub of_default : {A : Type 0} (f : List Part → A) → f (empty_part 0 ∷ []) ≡ f [] → (parts : List Part)
    → f (parts_or_default parts) ≡ f parts
of_default f same [] = same
of_default f same (p ∷ parts) = refl

-- the capacity of the parts that are kept
pub capacity-kept : (parts : List Part) → parts_capacity (kept_parts parts) ≡ parts_capacity parts
capacity-kept parts = of_default parts_capacity refl (with_capacity parts) ∙ capacity-with_capacity parts

-- one more part beside those that are kept
pub kept-more : (parts : List Part) (p : Part) → 0 < part_capacity p
    → kept_parts (kept_parts parts ++ p ∷ []) ≡ kept_parts (parts ++ p ∷ [])
kept-more parts p more = ap parts_or_default (beside (with_capacity parts) (able-with_capacity parts)
    ∙ sym (with_capacity-push parts p more))
  where
    beside : (parts : List Part) → HaveCapacity parts → with_capacity (parts_or_default parts ++ p ∷ []) ≡ parts ++ p ∷ []
    beside [] able = with_capacity-push [] p more
    beside (q ∷ parts) able = with_capacity-push (q ∷ parts) p more ∙ ap (λ ps. ps ++ p ∷ []) (with_capacity-all (q ∷ parts) able)

-- where parts that can hold a byte are kept, they are some, and have capacity
pub able-some : (parts : List Part) → 1 < length (kept_parts parts)
    → (length (with_capacity parts) ≡ length (kept_parts parts)) × (0 < parts_capacity parts)
able-some parts more = of_able (with_capacity parts) (able-with_capacity parts) (capacity-with_capacity parts) more
  where
    of_able : (able : List Part) → HaveCapacity able → parts_capacity able ≡ parts_capacity parts → 1 < length (parts_or_default able)
        → (length able ≡ length (parts_or_default able)) × (0 < parts_capacity parts)
    of_able [] h sum more = absurd (omega (arith, more))
    of_able (p ∷ able) h sum more = (refl, omega (arith, h.0, sum, sum_by-cons part_capacity p able))

-- the part that takes the capacity past the largest number, and one for which there was no memory
pub refused-long : (front : List Part) (last : Part) → parts_capacity front < 2 ^ 64 → part_capacity last < 2 ^ 64
    → 2 ^ 64 ≤ parts_capacity front + part_capacity last → IsRowRefusedAt (front ++ last ∷ []) TooLong
refused-long front last fits last_fits long =
    let sum = sum_by_push part_capacity front last in
    record {
      front = front;
      last = last;
      parts_are = refl;
      some = omega arith;
      fits = fits;
      more = omega arith;
      told = sym (cond-false (nat_lt (parts_capacity (front ++ last ∷ [])) (2 ^ 64)) Memory TooLong
          (le-ltb (parts_capacity (front ++ last ∷ [])) (2 ^ 64) (omega arith)));
    }

-- a last part with capacity, after others with some, was refused for a failed allocation where the capacity of all fits a number
pub refused-short : (front : List Part) (last : Part) → 0 < parts_capacity front → 0 < part_capacity last
    → parts_capacity front + part_capacity last < 2 ^ 64 → IsRowRefusedAt (front ++ last ∷ []) Memory
refused-short front last some more short =
    let sum = sum_by_push part_capacity front last in
    record {
      front = front;
      last = last;
      parts_are = refl;
      some = some;
      fits = omega arith;
      more = more;
      told = sym (cond-true (nat_lt (parts_capacity (front ++ last ∷ [])) (2 ^ 64)) Memory TooLong
          (lt-ltb (parts_capacity (front ++ last ∷ [])) (2 ^ 64) (omega arith)));
    }

pub ruleset growing = (kept-first, kept-two, parts-push)
