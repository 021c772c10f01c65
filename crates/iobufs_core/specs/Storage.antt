-- The view that a storage represents.
--     stored_view    the bytes that a storage keeps, with the mark of its kind
use Rattle.iobufs_core.specs.View.{View, static_mark, bytes_mark, native_mark}
use Rattle.iobufs_core.specs.declared.buf.held.Storage.{Storage}
use Rattle.iobufs_core.specs.declared.buf.held.Storage.TheVariants.{Static, Shared, Native}

abbrev pub stored_view : Storage → View
stored_view (Static text) = record { bytes = text.now; mark = static_mark }
stored_view (Shared bytes) = record { bytes = bytes; mark = bytes_mark }
stored_view (Native text) = record { bytes = text.bytes; mark = native_mark text.room }
