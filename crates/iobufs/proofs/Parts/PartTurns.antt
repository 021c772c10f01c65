-- One turn of a loop that goes over parts by index, front to back.
use Rattle.iobufs.proofs.Text.{HaveNoSpare, List, Part, [], ap, append_assoc, arith, drop, drop-set-lt, drop_all, drop_more, fill-nil, get_or, length, part_put, parts_fill, refl, set, sym, take, take-append-drop, take_all, take_more_set, ℕ, ◌++◌, ◌+◌, ◌<◌, ◌∙◌, ◌∷◌, ◌≡◌, ◌≤◌}
use Rattle.iobufs.proofs.Parts.FullLaws.{fill-after}

-- f works on one part after the other, and carries s along; the part at i was x and is y
pub turn : {S : Type 0} (f : List Part → S → List Part) (g : Part → S → Part) (h : Part → S → S)
    → ((p : Part) (ps : List Part) (s : S) → f (p ∷ ps) s ≡ g p s ∷ f ps (h p s))
    → (all now : List Part) (i : ℕ) (x y : Part) (s s' : S) → i < length now → x ≡ get_or now i x → y ≡ g x s → s' ≡ h x s
    → all ≡ take i now ++ f (drop i now) s → all ≡ take (i + 1) (set now i y) ++ f (drop (i + 1) (set now i y)) s'
turn f g h step all now i x y s s' l e q r so_far =
    let front : take (i + 1) (set now i y) ≡ take i now ++ y ∷ [] = take_more_set now i y l in
    let rest : drop (i + 1) (set now i y) ≡ drop (i + 1) now = drop-set-lt (i + 1) now i y (omega arith) in
    let here : drop i now ≡ x ∷ drop (i + 1) now = drop_more now i x l ∙ ap (λ p. p ∷ drop (i + 1) now) (sym e) in
    cc (step x (drop (i + 1) now) s, append_assoc (take i now) (y ∷ []) (f (drop (i + 1) now) s'))

-- the part takes what fits of the bytes w, and w' is left of them
pub fill-turn : (all now : List Part) (i : ℕ) (x y : Part) (w w' : List ℕ) → i < length now → x ≡ get_or now i x
    → y ≡ part_put x (take x.spare w) → w' ≡ drop x.spare w
    → all ≡ take i now ++ parts_fill (drop i now) w → all ≡ take (i + 1) (set now i y) ++ parts_fill (drop (i + 1) (set now i y)) w'
fill-turn = turn parts_fill (λ p bytes. part_put p (take p.spare bytes)) (λ p bytes. drop p.spare bytes) (λ p ps bytes. refl)

-- nothing is left to fill in
pub fill-done : (all now : List Part) (i : ℕ) → all ≡ take i now ++ parts_fill (drop i now) [] → now ≡ all
fill-done all now i so_far = sym (so_far ∙ ap (λ ps. take i now ++ ps) (fill-nil (drop i now)) ∙ take-append-drop i now)

-- bytes that fit the part after the first n, which have no spare capacity, are put into it alone
pub fill-inside : (n : ℕ) (parts : List Part) (x : Part) (w : List ℕ) → HaveNoSpare n parts → n < length parts → x ≡ get_or parts n x
    → length w ≤ x.spare → set parts n (part_put x w) ≡ parts_fill parts w
fill-inside n parts x w full inside is fits =
    let y = part_put x w in
    fill-done (parts_fill parts w) (set parts n y) (n + 1)
    (fill-turn (parts_fill parts w) parts n x y w [] inside is (ap (part_put x) (sym (take_all x.spare w fits)))
    (sym (drop_all x.spare w fits)) (fill-after n parts w full))
