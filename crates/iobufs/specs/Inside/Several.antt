-- One chunk or several, as a list of views.
--     views       the one chunk, or those of the row
--     IsPieced    a row has chunks, and none is empty
use Rattle.std.specs.Prelude.{◌<◌, List, [], ◌∷◌, length}
use Rattle.iobufs_core.specs.View.{View}
use Rattle.iobufs.specs.Inside.Pieces.{AreFull}
use Rattle.iobufs.specs.declared.bufs.pieces.Form.{Form}
use Rattle.iobufs.specs.declared.bufs.pieces.Form.TheVariants.{One, Many}

abbrev pub views : Form → List View
views (One view) = view ∷ []
views (Many row) = row.views

-- a row has chunks, and none is empty
abbrev pub IsPieced : Form → Type 0
IsPieced (One view) = Unit {0}
IsPieced (Many row) = (0 < length row.views) × AreFull row.views
