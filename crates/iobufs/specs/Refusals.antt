-- How a view is added to an `IoBufs`, and why views were not joined.
--     Adds           it was added, or is handed back and nothing changed: the bytes are more than a number counts
--                    (`TooLong`), or an allocation failed
--     IsRefusedAt    with the last view, the bytes are more than a number counts (`TooLong`), or an allocation failed
use Rattle.std.specs.Prelude.{◌≡◌, ◌+◌, ◌<◌, ◌^◌, nat_lt, if◌then◌else◌, Result, Ok, Err, List, [], ◌∷◌, ◌++◌, length}
use Rattle.iobufs_core.specs.View.{View}
use Rattle.iobufs_core.specs.MarkedText.{MarkedText, joined, text_len}
use Rattle.iobufs_core.specs.declared.codec.base.BufError.{BufError}
use Rattle.iobufs_core.specs.declared.codec.base.BufError.TheVariants.{Memory, TooLong}
use Rattle.iobufs_core.specs.declared.codec.base.Refused.{Refused}

-- a view was added, which gives this; or it is handed back, and all stays: its bytes and those there are too many, or an allocation failed
abbrev pub Adds : MarkedText → MarkedText → View → Result (Unit {0}) (Refused View) → MarkedText → Type 0
Adds added old view (Ok done) new = (new ≡ added) × (text_len old + length view.bytes < 2 ^ 64)
Adds added old view (Err refused) new = (new ≡ old) × (refused.value ≡ view)
    × (refused.cause ≡ (if nat_lt (text_len old + length view.bytes) (2 ^ 64) then Memory else TooLong))

-- the last view was refused: it has bytes, and so have those before it, joined; with it these are too many, or an allocation failed
pub record IsRefusedAt (views : List View) (cause : BufError) : Type 0 where
  pub front : List View
  pub last : View
  pub views_are : views ≡ front ++ last ∷ []
  pub some : 0 < text_len (joined front)
  pub fits : text_len (joined front) < 2 ^ 64
  pub more : 0 < length last.bytes
  pub told : cause ≡ (if nat_lt (text_len (joined views)) (2 ^ 64) then Memory else TooLong)
