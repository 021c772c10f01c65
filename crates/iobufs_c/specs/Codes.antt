-- The numbers of what calls answer.
--     code_of                  a status as the header numbers it
--     of_buf_error, of_error   the status of a refusal, and of an error of reading
--     IsDoneUnless             done, unless there is this cause
--     IsReadCode               what reading a length answers
--     IsViewReadCode           what reading a view answers
use Rattle.std.specs.Prelude.{◌≡◌, ◌⊎◌, ℕ}
use Rattle.iobufs_c.specs.declared.status.Status.{Status}
use Rattle.iobufs_c.specs.declared.status.Status.TheVariants.{Done, Memory, BadLayout, TooLong, OutOfRange, EndOfBuffer, InvalidVarint, InvalidLength, Declined, BadKind}
use Rattle.iobufs_core.specs.declared.codec.base.BufError.{BufError}
use Rattle.iobufs_core.specs.declared.codec.base.BufError.TheVariants as cause
use Rattle.iobufs_core.specs.declared.codec.base.Error.{Error}
use Rattle.iobufs_core.specs.declared.codec.base.Error.TheVariants as error

-- as the header numbers them
abbrev pub code_of : Status → ℕ
code_of Done = 0
code_of Memory = 1
code_of BadLayout = 2
code_of TooLong = 3
code_of OutOfRange = 4
code_of EndOfBuffer = 5
code_of InvalidVarint = 6
code_of InvalidLength = 7
code_of Declined = 8
code_of BadKind = 9

-- the status of a refusal
abbrev pub of_buf_error : BufError → Status
of_buf_error cause.Memory = Memory
of_buf_error cause.BadLayout = BadLayout
of_buf_error cause.TooLong = TooLong

-- the status of an error of reading
abbrev pub of_error : Error → Status
of_error error.EndOfBuffer = EndOfBuffer
of_error error.InvalidVarint = InvalidVarint
of_error (error.InvalidLength n) = InvalidLength
of_error error.Memory = Memory
of_error error.BadLayout = BadLayout
of_error error.TooLong = TooLong

-- done, unless there is this cause
abbrev pub IsDoneUnless : ℕ → Status → Type 0
IsDoneUnless code status = (code ≡ 0) ⊎ (code ≡ code_of status)

-- the status of reading a length, which doesn't allocate
abbrev pub IsReadCode : ℕ → Type 0
IsReadCode code = (code ≡ 0) ⊎ (code ≡ code_of EndOfBuffer) ⊎ (code ≡ code_of InvalidVarint) ⊎ (code ≡ code_of InvalidLength)

-- the status of reading a view, which may allocate
abbrev pub IsViewReadCode : ℕ → Type 0
IsViewReadCode code = IsReadCode code ⊎ (code ≡ code_of Memory)
