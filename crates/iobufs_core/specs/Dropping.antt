-- How bytes at the front of a reader are dropped.
--     Dropping       n bytes dropped, `by_advance`, which keeps the mark of an only chunk that is drained, or
--                    `by_copy`
--     dropped        the reader after a list of these
--     dropped_len    how many bytes they take away
use Rattle.std.specs.Prelude.{ℕ, ◌+◌, List, [], ◌∷◌}

-- by one `advance`, or by one copy of them
pub data Dropping : Type 0 where
  by_advance : ℕ → Dropping
  by_copy : ℕ → Dropping

-- the reader after these, in order, given the reader after an `advance` and after a copy
abbrev pub dropped : {Reader : Type 0} → (Reader → ℕ → Reader) → (Reader → ℕ → Reader) → Reader → List Dropping → Reader
dropped advanced copied reader [] = reader
dropped advanced copied reader (by_advance n ∷ more) = dropped advanced copied (advanced reader n) more
dropped advanced copied reader (by_copy n ∷ more) = dropped advanced copied (copied reader n) more

-- how many bytes these drop
abbrev pub dropped_len : List Dropping → ℕ
dropped_len [] = 0
dropped_len (by_advance n ∷ more) = n + dropped_len more
dropped_len (by_copy n ∷ more) = n + dropped_len more
