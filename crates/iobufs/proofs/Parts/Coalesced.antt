-- The buffer that several coalesce to.
use Rattle.iobufs.proofs.Text.{List, None, Part, [], none-some, parts_coalesced, parts_filled, refl, single_part, sym, ◌∷◌, ◌≡◌}

-- where no part is the only one, they become one of their bytes, with no room after them
pub coalesced-several : (parts : List Part) → single_part parts ≡ None
    → parts_coalesced parts ≡ record { filled = parts_filled parts; spare = 0 }
coalesced-several [] h = refl
coalesced-several (p ∷ []) h = absurd (none-some p (sym h))
coalesced-several (p ∷ q ∷ parts) h = refl

pub ruleset coalescing = (coalesced-several)
