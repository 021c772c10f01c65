-- How much of a line is still to be read.
--     bytes_left     the bytes after the last word, and one more; 0 at the end of the line
use Rattle.std.specs.Prelude.{ℕ, suc, List, length, Option, Some, None}
use Rattle.std.specs.Borrow.{Bor}

abbrev pub bytes_left : Option (Bor (List ℕ)) → ℕ
bytes_left None = 0
bytes_left (Some rest) = suc (length rest.now)
