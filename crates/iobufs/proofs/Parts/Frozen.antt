-- The text that parts freeze to.
use Rattle.iobufs.proofs.Text.{List, MarkedText, Part, [], ap, arith, common_steps, eq-eqb, fold, length, length-append, map, nat_tests, of_view, part_capacity, part_frozen, parts_filled, parts_frozen, refl, text_append, ◌∙◌, ◌∷◌, ◌≡◌, ◌≤◌}
use Rattle.iobufs.proofs.Building.{len-append}

pub frozen-one : (p : Part) → parts_frozen (p ∷ []) ≡ of_view (part_frozen p)
frozen-one p = grind (arith, nat_tests, common_steps)

-- a part is frozen with at most as many bytes as it has capacity
pub frozen-len : (p : Part) → length (part_frozen p).bytes ≤ part_capacity p
frozen-len p = grind (arith, nat_tests, common_steps)

-- parts that hold no bytes add nothing
pub frozen-none : (text : MarkedText) (parts : List Part) → length (parts_filled parts) ≡ 0
    → fold text_append text (map part_frozen parts) ≡ text
frozen-none text [] none = refl
frozen-none text (p ∷ ps) none =
    let n = length-append p.filled (parts_filled ps) in
    ap (λ (t : MarkedText). fold text_append t (map part_frozen ps)) (rw (eq-eqb (length p.filled) 0 (omega arith)) refl)
    ∙ frozen-none text ps (omega arith)

pub ruleset freezing = (frozen-one, frozen-len, len-append)
