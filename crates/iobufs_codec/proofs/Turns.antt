-- A turn of a walk over a list, of whose values each is written as a list.
--     Turn, turn    the value at a place: what is written of all is what is written before it, of it and behind it
use Rattle.std.proofs.Common.{◌≡◌, ℕ, zero, suc, ◌+◌, ◌<◌, List, [], ◌∷◌, ◌++◌, length, take, drop, get_or, ap, ◌∙◌, arith, append-nil}
use Rattle.std.specs.List.{flat_map}
use Rattle.std.proofs.lemmas.List.{take_more}
use Rattle.std.proofs.lemmas.List.Concat.{flat_map-append}

pub record Turn {A B : Type 0} (f : A → List B) (xs : List A) (i : ℕ) (x : A) : Type 0 where
  pub whole : flat_map f xs ≡ flat_map f (take i xs) ++ (f x ++ flat_map f (drop (suc i) xs))
  pub more : flat_map f (take (i + 1) xs) ≡ flat_map f (take i xs) ++ f x

parted : {A : Type 0} (xs : List A) (i : ℕ) (x : A) → i < length xs → get_or xs i x ≡ x → xs ≡ take i xs ++ x ∷ drop (suc i) xs
parted [] i x inside at = absurd (omega (arith, inside))
parted (y ∷ ys) zero x inside at = ap (λ z. z ∷ ys) at
parted (y ∷ ys) (suc i) x inside at = ap (λ zs. y ∷ zs) (parted ys i x (omega (arith, inside)) at)

-- the value at a place below the length
pub turn : {A B : Type 0} (f : A → List B) (xs : List A) (i : ℕ) (x : A) → i < length xs → get_or xs i x ≡ x → Turn f xs i x
turn f xs i x inside at = record {
  whole = ap (flat_map f) (parted xs i x inside at) ∙ flat_map-append f (take i xs) (x ∷ drop (suc i) xs);
  more = ap (flat_map f) (take_more xs i x inside ∙ ap (λ y. take i xs ++ y ∷ []) at) ∙ flat_map-append f (take i xs) (x ∷ [])
      ∙ ap (λ ys. flat_map f (take i xs) ++ ys) (append-nil (f x));
}
