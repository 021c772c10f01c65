-- How an error of a buffer is reported by a reader or a writer.
--     error_of    the codec error for an error of a buffer: each of the three has its own name
use Rattle.iobufs_core.specs.declared.codec.base.BufError.{BufError}
use Rattle.iobufs_core.specs.declared.codec.base.BufError.TheVariants as cause
use Rattle.iobufs_core.specs.declared.codec.base.Error.{Error}
use Rattle.iobufs_core.specs.declared.codec.base.Error.TheVariants as error

abbrev pub error_of : BufError → Error
error_of cause.Memory = error.Memory
error_of cause.BadLayout = error.BadLayout
error_of cause.TooLong = error.TooLong
