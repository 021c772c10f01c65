-- Pieces that are shown one after the other.
use Rattle.std.proofs.Common.{◌≡◌, ℕ, ◌+◌, ◌<◌, ◌≤◌, ◌⊎◌, inl, inr, arith, length, get_or, None, take_all, length-append, List, [], ◌∷◌, ◌++◌, map, take, ap, sym, ◌∙◌, Some}
use Rattle.std.specs.Prelude.{slice_get}
use Rattle.std.proofs.lemmas.List.{take_more, map-append}
use Rattle.std.proofs.lemmas.Option.{slice_get_within, get_or_from_slice_get, slice_get_cases}
use Rattle.iobufs_run.specs.declared.command.Piece.{Piece}
use Rattle.iobufs_run.specs.Slots.{shown_piece}

-- elements are shown, each as f says, and one more
pub shown_more : {X : Type 0} (f : X → List ℕ × ℕ) (xs : List X) (i : ℕ) (x : X) (pieces more : List Piece) (piece : Piece)
    → i ≡ length pieces
    → Some x ≡ slice_get xs i → more ≡ pieces ++ piece ∷ [] → shown_piece piece ≡ f x
    → map shown_piece pieces ≡ map f (take (length pieces) xs)
    → map shown_piece more ≡ map f (take (length more) xs)
shown_more f xs i x pieces more piece count at is shown so_far =
    let within = slice_get_within xs i x (sym at) in
    let here = get_or_from_slice_get xs i x x (sym at) in
    let next : take (i + 1) xs ≡ take i xs ++ x ∷ [] = take_more xs i x within ∙ ap (λ y. take i xs ++ y ∷ []) here in
    let longer : length more ≡ i + 1 = omega (arith, ap (λ (l : List Piece). length l) is, length-append pieces (piece ∷ []), count) in
    ap (map shown_piece) is ∙ map-append shown_piece pieces (piece ∷ [])
    ∙ ap (λ ys. ys ++ shown_piece piece ∷ []) (so_far ∙ ap (λ n. map f (take n xs)) (sym count))
    ∙ ap (λ p. map f (take i xs) ++ p ∷ []) shown
    ∙ sym (map-append f (take i xs) (x ∷ [])) ∙ ap (map f) (sym next ∙ ap (λ n. take n xs) (sym longer))

-- all are shown where none is left
pub shown_all : {X : Type 0} (f : X → List ℕ × ℕ) (xs : List X) (i : ℕ) (pieces : List Piece) → i ≡ length pieces → None ≡ slice_get xs i
    → map shown_piece pieces ≡ map f (take (length pieces) xs) → map shown_piece pieces ≡ map f xs
shown_all {X = X} f xs i pieces count none so_far = so_far ∙ ap (map f) (take_all (length pieces) xs (past (slice_get_cases xs i).1))
  where
    past : ((x : X) × (i < length xs) × (slice_get xs i ≡ Some x) × (get_or xs i x ≡ x))
        ⊎ ((length xs ≤ i) × (slice_get xs i ≡ None)) → length xs ≤ length pieces
    past (inl inside) = cc (none ∙ inside.2)
    past (inr behind) = omega (arith, count, behind.0)
