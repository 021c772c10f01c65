-- The invariant of the fields of an `IoBufs`.
--     text_of    the marked text that the fields represent
--     IsKept     native storage reaches to each chunk's end
use Rattle.iobufs_core.specs.MarkedText.{MarkedText}
use Rattle.iobufs.specs.Inside.Pieces.{of_pieces, AreViews}
use Rattle.iobufs.specs.declared.bufs.IoBufs.TheInside.{Inside}

abbrev pub text_of : Inside → MarkedText
text_of s = of_pieces s.pieces

abbrev pub IsKept : Inside → Type 0
IsKept s = AreViews s.pieces
