-- The values of a chunk deque, of a deque in the making, and of a search among ends.
--     ViewRow          views in order, and the capacity for views
--     Segment, SegmentRow    a `gap` for bytes to come or a `standing` view; several in order, and the capacity for
--                      segments
--     Sought           a search under way: ends, the offset that it looks for, and how many ends it has looked at
use Rattle.std.specs.Prelude.{ℕ, List}
use Rattle.iobufs_core.specs.View.{View}

-- views in order, and how many fit
pub record ViewRow : Type 0 where
  pub views : List View
  pub room : ℕ

-- an entry of a deque in the making: a number of bytes that are to come, or a view
pub data Segment : Type 0 where
  gap : ℕ → Segment
  standing : View → Segment

-- segments in order, and how many fit
pub record SegmentRow : Type 0 where
  pub segments : List Segment
  pub room : ℕ

-- rising ends, a place below the last of them, and how many ends were looked at
pub record Sought : Type 0 where
  pub ends : List ℕ
  pub place : ℕ
  pub probed : ℕ
