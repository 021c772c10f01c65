-- Bytes on their way to a writer, and from a reader.
--     IsSent      a writer took a prefix of the bytes, after what it held, and the rest is left
--     IsStored    bytes that a reader gave fill the spare capacity
--     text_after  the `IoBufs` that several advances leave
--     IsRestOf    some advances lead from the old `IoBufs` to the new one
use Rattle.std.specs.Prelude.{◌≡◌, ℕ, Option, List, [], ◌∷◌, ◌++◌}
use Rattle.std.specs.Io.KnownBytes.{Appends, Consumes}
use Rattle.iobufs_core.specs.MarkedText.{MarkedText, text_advanced}
use Rattle.iobufs_core.specs.Part.{Part}
use Rattle.iobufs.specs.Laws.Filling.{AreFilled}

-- a prefix went from the bytes to a writer, after what that held, and the rest is left
pub record IsSent (held holds : Option (List ℕ)) (text rest : List ℕ) : Type 0 where
  pub front : List ℕ
  pub whole : text ≡ front ++ rest
  pub grew : Appends held holds front

-- bytes that a reader gave fill the spare capacity of buffers
pub record IsStored (had has : Option (List ℕ)) (old new : List Part) : Type 0 where
  pub read : List ℕ
  pub gave : Consumes had has read
  pub filled : AreFilled old read new

-- an `IoBufs` after advances by several counts, the last first
abbrev pub text_after : MarkedText → List ℕ → MarkedText
text_after text [] = text
text_after text (n ∷ before) = text_advanced (text_after text before) n

-- some advances lead from the old `IoBufs` to the new one
pub record IsRestOf (old new : MarkedText) : Type 0 where
  pub counts : List ℕ
  pub left : new ≡ text_after old counts
