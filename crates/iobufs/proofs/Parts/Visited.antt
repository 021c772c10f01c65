-- Chunks that a function changes in place: of one part, of a row of them, and of parts in order.
use Rattle.iobufs.proofs.Text.{AreBehind, List, Part, [], ap, arith, drop, drop-append-le, drop_at, folds-append, in_order, length, length-append, length-drop, map-append, parts_filled, parts_overwritten, part_overwritten, refl, sym, take, take-append-le, take_all, ℕ, ◌++◌, ◌<◌, ◌∙◌, ◌∷◌, ◌≡◌, ◌≤◌}
use Rattle.iobufs.specs.Visiting.{IsVisited}
use Rattle.std.specs.Borrow.{MutBor}
use Rattle.std.specs.Fn.{Called, CalledAtMut, Mut}
use Rattle.iobufs.proofs.Parts.OrderLaws.{chunks-order, filled-both, filled-order, overwritten-both, overwritten-empty, overwritten-order}
use Rattle.iobufs.proofs.Parts.PartChunks.{chunks-both, chunks-empty, chunks-full, filled-one}
use Rattle.iobufs.proofs.Parts.PartLaws.{same-overwritten}

-- bytes written over others are as many
overwritten-length : (ps : List Part) (w : List ℕ) → length (parts_filled (parts_overwritten ps w)) ≡ length (parts_filled ps)
overwritten-length [] w = refl
overwritten-length (p ∷ ps) w =
    let n = length p.filled in
    let q = part_overwritten p (take n w) in
    omega (
      arith,
      (same-overwritten (p ∷ []) w).0,
      overwritten-length ps (drop n w),
      length-append p.filled (parts_filled ps),
      length-append q.filled (parts_filled (parts_overwritten ps (drop n w))),
    )

-- as many bytes as there are, and further ones, are written over them
overwritten-front : (ps : List Part) (u v : List ℕ) → length u ≡ length (parts_filled ps)
    → parts_overwritten ps (u ++ v) ≡ parts_overwritten ps u
overwritten-front [] u v same = refl
overwritten-front (p ∷ ps) u v same =
    let n = length p.filled in
    let both = length-append p.filled (parts_filled ps) in
    let fits : n ≤ length u = omega (arith, both, same) in
    let first = take-append-le n u v fits in
    let rest = drop-append-le n u v fits in
    let more = overwritten-front ps (drop n u) v (omega (arith, both, same, length-drop n u)) in
    λ i. part_overwritten p (first i) ∷ (ap (parts_overwritten ps) rest ∙ more) i

-- a call at a `&mut`, which leaves what it made there
pub called-mut : {F A R : Type 0} (g : Mut F (MutBor A × Unit {0}) (R × (MutBor A × Unit {0}))) {f f' : F} {y y' : MutBor A} {r : R}
    → Called g f (y, tt) (r, (y', tt)) f' → CalledAtMut g f y.now r f' y'.now
called-mut g {y = y} {y' = y'} called = record { shown = y; shows = refl; left = y'; called = called; leaves = refl }

module _ {F : Type 0} (call : F → List ℕ → F → List ℕ → Type 0) where
  -- no parts
  pub visited-none : (f : F) → IsVisited call f [] f []
  visited-none f = record { turns = []; before = refl; after = refl; calls = refl; kept = refl }

  -- a part without bytes
  pub visited-empty : (f : F) (p : Part) → length p.filled ≡ 0 → IsVisited call f (p ∷ []) f (p ∷ [])
  visited-empty f p none = record {
    turns = [];
    before = chunks-empty p [] none;
    after = chunks-empty p [] none;
    calls = refl;
    kept = sym (overwritten-empty (p ∷ []) (parts_filled (p ∷ [])) (ap length (filled-one p) ∙ none));
  }

  -- a part that holds bytes
  pub visited-one : (f g : F) (p q : Part) (made : List ℕ) → 0 < length p.filled → length made ≡ length p.filled
      → call f p.filled g made → q ≡ part_overwritten p made → IsVisited call f (p ∷ []) g (q ∷ [])
  visited-one f g p q made some same called is =
      let n = length p.filled in
      let whole : take n made ≡ made = take_all n made (omega arith) in
      let bytes : q.filled ≡ made = ap (λ (r : Part). r.filled) is ∙ take-append-le n made (drop (length made) p.filled) (omega arith)
      ∙ whole in
      let all : take n (parts_filled (q ∷ [])) ≡ made = ap (take n) (filled-one q ∙ bytes) ∙ whole in record {
        turns = (p.filled, made) ∷ [];
        before = chunks-full p [] some;
        after = chunks-full q [] (omega (arith, some, same, ap (λ (w : List ℕ). length w) bytes)) ∙ ap (λ (w : List ℕ). w ∷ []) bytes;
        calls = (g, called, refl);
        kept = ap (λ (r : Part). r ∷ []) is ∙ ap (λ (w : List ℕ). part_overwritten p w ∷ []) (sym all);
      }

  -- a row, and then another one
  pub visited-both : (f g h : F) (ps psn qs qsn : List Part) → IsVisited call f ps g psn → IsVisited call g qs h qsn
      → IsVisited call f (ps ++ qs) h (psn ++ qsn)
  visited-both f g h ps psn qs qsn a b =
      let u = parts_filled psn in
      let v = parts_filled qsn in
      let same : length u ≡ length (parts_filled ps) = ap (λ (rs : List Part). length (parts_filled rs)) a.kept ∙ overwritten-length ps u in
      let rest : drop (length (parts_filled ps)) (u ++ v) ≡ v = drop_at u v (length (parts_filled ps)) same in record {
        turns = a.turns ++ b.turns;
        before = chunks-both ps qs ∙ (λ i. a.before i ++ b.before i) ∙ sym (map-append (λ (t : List ℕ × List ℕ). t.0) a.turns b.turns);
        after = chunks-both psn qsn ∙ (λ i. a.after i ++ b.after i) ∙ sym (map-append (λ (t : List ℕ × List ℕ). t.1) a.turns b.turns);
        calls = folds-append _ f a.turns g b.turns h a.calls b.calls;
        kept = (λ i. (a.kept ∙ sym (overwritten-front ps u v same)) i ++ (b.kept ∙ ap (parts_overwritten qs) (sym rest)) i)
            ∙ sym (overwritten-both ps qs (u ++ v)) ∙ ap (parts_overwritten (ps ++ qs)) (sym (filled-both psn qsn));
      }

  -- parts in order, of a row that was visited
  pub visited-order : (f g : F) (row new : List Part) (used : ℕ) → AreBehind row used → IsVisited call f row g new
      → IsVisited call f (in_order row used) g (in_order new used)
  visited-order f g row new used behind a =
      let over = overwritten-order row new used (parts_filled new) behind a.kept in record {
        turns = a.turns;
        before = sym (chunks-order row used behind) ∙ a.before;
        after = sym (chunks-order new used over.1) ∙ a.after;
        calls = a.calls;
        kept = over.0 ∙ ap (parts_overwritten (in_order row used)) (filled-order new used over.1);
      }

pub ruleset visiting = (visited-none)
