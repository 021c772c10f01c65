-- How an error of a buffer or of reading is reported by a command.
--     refusal_of       a buffer's error, as the refusal of the same name
--     codec_refusal    a fault of reading, as that fault; but a failed allocation as `Memory`
use Rattle.iobufs_core.specs.declared.codec.base.BufError.{BufError}
use Rattle.iobufs_core.specs.declared.codec.base.BufError.TheVariants as cause
use Rattle.iobufs_core.specs.declared.codec.base.Error.{Error}
use Rattle.iobufs_core.specs.declared.codec.base.Error.TheVariants as fault
use Rattle.iobufs_run.specs.declared.command.Refusal.{Refusal}
use Rattle.iobufs_run.specs.declared.command.Refusal.TheVariants as refusal

abbrev pub refusal_of : BufError → Refusal
refusal_of cause.Memory = refusal.Memory
refusal_of cause.BadLayout = refusal.BadLayout
refusal_of cause.TooLong = refusal.TooLong

abbrev pub codec_refusal : Error → Refusal
codec_refusal fault.Memory = refusal.Memory
codec_refusal error = refusal.Codec error
