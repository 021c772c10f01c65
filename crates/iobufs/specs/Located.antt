-- Where an offset is among the keys of a marked text: 0 and its cuts.
--     keys                       the offsets where chunks begin
--     keys_upto, greatest_key    how many of them are at most p, and the last of these: the start of the chunk that
--                                contains p
use Rattle.std.specs.Prelude.{ℕ, nat_le, List, ◌∷◌, length, map, filter}
use Rattle.iobufs_core.specs.MarkedText.{MarkedText, key_upto}

abbrev pub keys : MarkedText → List ℕ
keys text = 0 ∷ map (λ cut. cut.0) text.cuts

-- how many keys are at most p, and the greatest of these
abbrev pub keys_upto : MarkedText → ℕ → ℕ
keys_upto text p = length (filter (λ key. nat_le key p) (keys text))

abbrev pub greatest_key : MarkedText → ℕ → ℕ
greatest_key text p = (key_upto (0, text.mark) text.cuts p).0
