-- Laws of a value, for bytes that begin with it.
--     behind_written    once a value is read, the bytes after it are left
use Rattle.std.proofs.Common.{◌≡◌, ℕ, List, ◌++◌, length, ap, ◌∙◌}
use Rattle.iobufs_core.specs.CodecLaws.{left_behind}
use Rattle.iobufs_core.specs.Dropping.{Dropping, dropped, dropped_len}
use Rattle.iobufs_core.specs.MarkedText.{MarkedText, text_advanced, text_rest}

-- reading leaves the bytes after the value that was written
pub behind_written : {Value : Type 0} (written : Value → List ℕ) (dropping : Value → List Dropping) (text left : MarkedText)
    (value read : Value)
    (rest : List ℕ)
    → text.bytes ≡ written value ++ rest
    → left ≡ dropped text_advanced text_rest text (dropping read) → written value ≡ written read
    → dropped_len (dropping read) ≡ length (written read) → left.bytes ≡ rest
behind_written written dropping text left value read rest e behind same len =
    left_behind text left (dropping read) (written read) rest (e ∙ ap (λ w. w ++ rest) same) behind len
