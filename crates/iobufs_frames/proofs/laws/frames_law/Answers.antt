use Rattle.std.proofs.Common.{ℕ}
use Rattle.iobufs_core.specs.View.{View}
use Rattle.iobufs_frames.specs.Frames.{has_bytes, is_any, is_body, is_whole}
use Rattle.iobufs_frames.proofs.FrameFacts.{begins_open, stays_bad}
use Rattle.iobufs_frames.proofs.FrameLaws.{bare_prefixed, first_of_read, first_of_next, framed, one_reading}
use Rattle.iobufs_frames.proofs.laws.frames_law.Goals as goal

pub returns-clause-one : goal.returns-clause-one
returns-clause-one c = one_reading

pub returns-clause-some : goal.returns-clause-some
returns-clause-some c = framed

pub returns-clause-first : goal.returns-clause-first
returns-clause-first c = first_of_next View is_body has_bytes

pub returns-clause-read : goal.returns-clause-read
returns-clause-read c = first_of_read View is_body has_bytes

pub returns-clause-begun : goal.returns-clause-begun
returns-clause-begun c = begins_open

pub returns-clause-bad : goal.returns-clause-bad
returns-clause-bad c = stays_bad

pub returns-clause-whole : goal.returns-clause-whole
returns-clause-whole c = λ layout. first_of_next (ℕ × View) (is_whole layout (λ (view : View). view.bytes)) is_any layout

pub returns-clause-bare : goal.returns-clause-bare
returns-clause-bare c = bare_prefixed
