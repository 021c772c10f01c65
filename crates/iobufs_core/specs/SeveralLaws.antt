-- The encodings of several values in order, and of a value that may be missing.
--     joins_two                         the items of both join to what is written of both
--     inline_append, pushed_append,     of two lists of items, as many bytes are inline, and pushed, as of each; and
--     inline_few                        no more inline than there are
--     joins-option                      the items of a tag and a value join to what is written of them
--     begun_first, begun_second         a write that failed in the first value, or in the second
use Rattle.std.proofs.Common.{◌≡◌, ℕ, ◌+◌, ◌≤◌, List, [], ◌∷◌, ◌++◌, length, ap, sym, ◌∙◌, refl, arith, append_assoc, length-append}
use Rattle.std.proofs.Common.{Option, Some, None}
use Rattle.iobufs_core.specs.WireLaws.{joins-put}
use Rattle.iobufs_core.specs.Wire.{option_written, option_items}
use Rattle.iobufs_core.specs.Items.{PutOrPush, put_item, push_item, item_bytes, items_bytes, items_inline, items_pushed, IsBegun}

joins_append : (xs ys : List PutOrPush) → items_bytes (xs ++ ys) ≡ items_bytes xs ++ items_bytes ys
joins_append [] ys = refl
joins_append (x ∷ xs) ys = ap (λ zs. item_bytes x ++ zs) (joins_append xs ys)
    ∙ sym (append_assoc (item_bytes x) (items_bytes xs) (items_bytes ys))

pub joins_two : (xs ys : List PutOrPush) (u v : List ℕ) → items_bytes xs ≡ u → items_bytes ys ≡ v → items_bytes (xs ++ ys) ≡ u ++ v
joins_two xs ys u v p q = joins_append xs ys ∙ ap (λ zs. zs ++ items_bytes ys) p ∙ ap (λ zs. u ++ zs) q

pub inline_append : (xs ys : List PutOrPush) → items_inline (xs ++ ys) ≡ items_inline xs + items_inline ys
inline_append [] ys = omega arith
inline_append (x ∷ xs) ys = let more = inline_append xs ys in omega (arith, more)

pub pushed_append : (xs ys : List PutOrPush) → items_pushed (xs ++ ys) ≡ items_pushed xs + items_pushed ys
pushed_append [] ys = omega arith
pushed_append (x ∷ xs) ys = let more = pushed_append xs ys in omega (arith, more)

pub inline_few : (xs : List PutOrPush) → items_inline xs ≤ length (items_bytes xs)
inline_few [] = omega arith
inline_few (put_item bytes ∷ xs) = let more = inline_few xs in let len = length-append bytes (items_bytes xs) in omega (arith, more, len)
inline_few (push_item view ∷ xs) = let more = inline_few xs in let len = length-append view.bytes (items_bytes xs) in omega
    (arith, more, len)

pub begun_first : (old new u v : List ℕ) → IsBegun old u new → IsBegun old (u ++ v) new
begun_first old new u v b =
    record { front = b.front; back = b.back ++ v; whole = sym (append_assoc b.front b.back v) ∙ ap (λ zs. zs ++ v) b.whole; left = b.left }

pub begun_second : (old mid new u v : List ℕ) → mid ≡ old ++ u → IsBegun mid v new → IsBegun old (u ++ v) new
begun_second old mid new u v e b = record {
  front = u ++ b.front;
  back = b.back;
  whole = append_assoc u b.front b.back ∙ ap (λ zs. u ++ zs) b.whole;
  left = b.left ∙ ap (λ zs. zs ++ b.front) e ∙ append_assoc old u b.front;
}

pub joins-option : {Value : Type 0} (written : Value → List ℕ) (items : Value → List PutOrPush)
    → ((value : Value) → items_bytes (items value) ≡ written value)
    → (value : Option Value) → items_bytes (option_items items value) ≡ option_written written value
joins-option written items joins None = joins-put (0 ∷ [])
joins-option written items joins (Some value) = ap (λ zs. 1 ∷ zs) (joins value)
