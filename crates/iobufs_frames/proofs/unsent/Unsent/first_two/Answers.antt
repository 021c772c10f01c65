use Rattle.std.proofs.Common.{◌≡◌, ◌∙◌, ◌++◌, ap, append_assoc, drop, length, sym, take-append-drop}
use Rattle.iobufs_frames.specs.Unsent.{UnsentBytes}
use Rattle.iobufs_frames.proofs.unsent.Unsent.first_two.Goals as goal

pub returns : goal.returns
returns c =
    let head = c.as_slice.result.now in
    let chunk = c.chunk.result.now in
    let body = c.self.inside.body.bytes in
    let behind = drop (length chunk) body in
    let whole : chunk ++ behind ≡ body = ap (λ w. w ++ behind) c.chunk.ensures.front.front ∙ take-append-drop (length chunk) body in (
      behind,
      sym (ap (λ (u : UnsentBytes). u.bytes) c.self.view_is) ∙ ap (λ w. w ++ body) (sym c.as_slice.ensures)
          ∙ ap (λ w. head ++ w) (sym whole) ∙ sym (append_assoc head chunk behind),
    )
