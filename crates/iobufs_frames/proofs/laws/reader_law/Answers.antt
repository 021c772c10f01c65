use Rattle.std.proofs.Common.{ℕ}
use Rattle.iobufs_core.specs.View.{View}
use Rattle.iobufs_frames.specs.Frames.{has_bytes, is_any, is_body, is_whole}
use Rattle.iobufs_frames.specs.Receiving.{is_bytes_view}
use Rattle.iobufs_frames.proofs.StreamLaws.{first_of_all}
use Rattle.iobufs_frames.proofs.laws.reader_law.Goals as goal

pub returns-clause-body : goal.returns-clause-body
returns-clause-body g c = first_of_all is_body has_bytes is_bytes_view g.R.Read.remaining

pub returns-clause-whole : goal.returns-clause-whole
returns-clause-whole g c = λ old. first_of_all (is_whole old.held.layout (λ (view : View). view.bytes)) is_any
    (λ (whole : ℕ × View). is_bytes_view whole.1) g.R.Read.remaining old
