-- Bodies of HTTP messages.
--     TakesChunk    bytes were taken from the front, or there are none; an error takes none
--     StepsChunk    one poll of a body gives the next chunk, of at least a byte
use Rattle.std.specs.Prelude.{◌≡◌, ℕ, ◌<◌, List, [], ◌++◌, Option, None, Some, Result, Ok, Err, length}
use Rattle.futures.specs.declared.task.Poll.{Poll}
use Rattle.futures.specs.declared.task.Poll.TheVariants.{Ready, Pending}
use Rattle.http_body.specs.declared.frame.Frame.{Frame}
use Rattle.http_body.specs.Frame.{data_frame}
use Rattle.iobufs_core.specs.declared.codec.base.BufError.{BufError}
use Rattle.iobufs_core.specs.declared.codec.base.BufError.TheVariants.{Memory}
use Rattle.iobufs_examples.specs.declared.web.ChunkBody.{ChunkBody}

-- bytes were taken from the front, or there are none; an error takes none
abbrev pub TakesChunk : List ℕ → Option (Result (List ℕ) BufError) → List ℕ → Type 0
TakesChunk old (Some (Ok chunk)) new = (0 < length chunk) × (old ≡ chunk ++ new)
TakesChunk old (Some (Err cause)) new = (cause ≡ Memory) × (new ≡ old)
TakesChunk old None new = (old ≡ []) × (new ≡ old)

-- one poll of a body gives the next chunk
abbrev pub StepsChunk : ChunkBody → Poll (Option (Result (Frame (List ℕ)) BufError)) → ChunkBody → Type 0
StepsChunk old (Ready (Some (Ok frame))) new = (chunk : List ℕ) × (frame ≡ data_frame chunk)
    × TakesChunk old.text.bytes (Some (Ok chunk)) new.text.bytes
StepsChunk old (Ready (Some (Err cause))) new = TakesChunk old.text.bytes (Some (Err cause)) new.text.bytes
StepsChunk old (Ready None) new = TakesChunk old.text.bytes None new.text.bytes
StepsChunk old Pending new = ⊥
