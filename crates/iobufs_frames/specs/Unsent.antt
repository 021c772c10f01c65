-- An unsent frame, as contracts see it.
--     UnsentBytes    what is left of its header and of its body, and the bytes of both
--     unsent_nothing no frame
--     unsent_frame   a frame of which nothing was sent
--     unsent_rest    what is left of them after their first bytes; a body of which all went shares no block
--     rest_after     so if copies of other frames follow it
--     unsent_after,  what several counts of bytes leave; some bytes went, a few at a time
--     IsAdvanced
--     CanBeCopied    a body that may be copied: one chunk of at most 256 bytes
--     IsFront        the first bytes
--     frames_bytes   the bytes of several frames, in order
--     ArePassed      the first frames went, and some bytes of the next, a few at a time
use Rattle.std.specs.Prelude.{◌≡◌, ℕ, ◌-◌, ◌≤◌, true, min, List, [], ◌∷◌, ◌++◌, length, drop}
use Rattle.std.specs.List.{flat_map}
use Rattle.iobufs_core.specs.MarkedText.{MarkedText, default_text, is_single, text_rest}
use Rattle.iobufs_frames.specs.Frames.{Parts, frame_written, header_written}
use Rattle.iobufs_frames.specs.declared.lengths.Layout.{Layout}

-- the unsent end of a frame's header, its unsent body, and the bytes of both, and of the copies after it
pub record UnsentBytes : Type 0 where
  pub head : List ℕ
  pub body : MarkedText
  pub bytes : List ℕ

-- nothing
abbrev pub unsent_nothing : UnsentBytes
unsent_nothing = record { head = []; body = default_text; bytes = [] }

-- a whole frame
abbrev pub unsent_frame : Layout → List ℕ → List ℕ → MarkedText → UnsentBytes
unsent_frame layout before after body =
    let frame : Parts = record { before = before; after = after; body = body.bytes } in record {
      head = header_written layout frame;
      body = body;
      bytes = frame_written layout frame;
    }

-- the unsent bytes after the first n of them
abbrev pub unsent_rest : UnsentBytes → ℕ → UnsentBytes
unsent_rest unsent n = record {
  head = drop n unsent.head;
  body = text_rest unsent.body (n - length unsent.head);
  bytes = drop n unsent.bytes;
}

-- so if other frames follow it, of which some bytes may go too
abbrev pub rest_after : UnsentBytes → ℕ → UnsentBytes
rest_after unsent n = record {
  head = drop n unsent.head;
  body = text_rest unsent.body (min (n - length unsent.head) (length unsent.body.bytes));
  bytes = drop n unsent.bytes;
}

-- so after several counts in turn, the last first
abbrev pub unsent_after : UnsentBytes → List ℕ → UnsentBytes
unsent_after unsent [] = unsent
unsent_after unsent (n ∷ before) = rest_after (unsent_after unsent before) n

-- some bytes went, a few at a time
abbrev pub IsAdvanced : UnsentBytes → UnsentBytes → Type 0
IsAdvanced old new = (counts : List ℕ) × (new ≡ unsent_after old counts)

-- a body of one chunk and at most 256 bytes
abbrev pub CanBeCopied : MarkedText → Type 0
CanBeCopied body = (is_single body ≡ true) × (length body.bytes ≤ 256)

-- the first of these bytes
abbrev pub IsFront : List ℕ → List ℕ → Type 0
IsFront front text = (rest : List ℕ) × (text ≡ front ++ rest)

-- the bytes of several frames, in order
abbrev pub frames_bytes : List UnsentBytes → List ℕ
frames_bytes frames = flat_map (λ frame. frame.bytes) frames

-- the first frames went, and some bytes of the next, a few at a time; `more` are the frames after it
pub record ArePassed (frames : List UnsentBytes) (rest : UnsentBytes) (more : List UnsentBytes) : Type 0 where
  pub gone : List UnsentBytes
  pub first : UnsentBytes
  pub whole : frames ≡ gone ++ first ∷ more
  pub advanced : IsAdvanced first rest
