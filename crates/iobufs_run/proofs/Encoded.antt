-- A view as it is encoded.
use Rattle.std.proofs.Common.{◌≡◌, ◌^◌, ◌<◌, length, ap, arith}
use Rattle.iobufs_core.specs.Spelled.{length-spell}
use Rattle.iobufs_core.specs.Spelling.{spell}
use Rattle.iobufs_core.specs.View.{View}
use Rattle.iobufs_core.specs.Items.{items_inline}
use Rattle.iobufs_core.specs.Wire.{view_items}
use Rattle.iobufs.specs.Building.{building_after, empty_building, finished}
use Rattle.iobufs_run.specs.Slots.{view_encoded}

inline-view : (view : View) → items_inline (view_items view) ≡ length (spell (length view.bytes))
inline-view view = omega arith

pub encoded-inline : (view : View) → finished (building_after (empty_building (items_inline (view_items view)))
    (view_items view)) ≡ view_encoded view
encoded-inline view = ap (λ n. finished (building_after (empty_building n) (view_items view))) (inline-view view)

pub inline-small : (view : View) → items_inline (view_items view) < 2 ^ 63
inline-small view = let short = length-spell (length view.bytes) in omega arith

pub ruleset encoding = (encoded-inline, inline-small)
