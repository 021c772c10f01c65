-- How the code keeps buffers, as a list of parts.
--     shape_parts, shape_single    one buffer or a deque, as a list; and the only one, if it is kept by itself
--     IsShape                      a deque has two buffers or more, if no bytes were taken
use Rattle.std.specs.Prelude.{◌<◌, Option, None, Some, List, [], ◌∷◌, length}
use Rattle.iobufs_core.specs.Part.{Part}
use Rattle.iobufs.specs.declared.bufs_mut.Shape.{Shape}
use Rattle.iobufs.specs.declared.bufs_mut.Shape.TheVariants.{One, Many}

abbrev pub shape_parts : Shape → List Part
shape_parts (One part) = part ∷ []
shape_parts (Many row) = row

-- the part that is kept beside no others
abbrev pub shape_single : Shape → Option Part
shape_single (One part) = Some part
shape_single (Many row) = None

-- a row has two parts or more
abbrev pub IsShape : Shape → Type 0
IsShape (One part) = Unit {0}
IsShape (Many row) = 1 < length row
