use Rattle.std.proofs.Common.{◌≡◌, ◌∙◌, [], ◌++◌, ap, append_assoc, arith, drop, length, length-append, sym}
use Rattle.std.proofs.lemmas.List.{append-nil, nil_from_length}
use Rattle.iobufs_frames.specs.Unsent.{UnsentBytes}
use Rattle.iobufs_frames.proofs.rest.Rest.first_three.Goals as goal

pub returns-then-head-chunk : goal.returns-then-head-chunk
returns-then-head-chunk c =
    let head = c.first_two.result.0.now in
    let chunk = c.first_two.result.1.now in
    let copies = drop c.self.inside.sent c.self.inside.tail.items in
    let (behind, is) = c.first_two.ensures in (
      behind ++ copies,
      sym (ap (λ (u : UnsentBytes). u.bytes) c.self.view_is) ∙ ap (λ w. w ++ copies) is ∙ append_assoc (head ++ chunk) behind copies
          ∙ ap (λ w. (head ++ w) ++ (behind ++ copies)) (sym (append-nil chunk)),
    )

pub returns : goal.returns
returns c =
    let head = c.first_two.result.0.now in
    let chunk = c.first_two.result.1.now in
    let copies = drop c.self.inside.sent c.self.inside.tail.items in
    let (behind, is) = c.first_two.ensures in
    let none : behind ≡ [] = nil_from_length behind (omega (
      arith,
      c.if-head-chunk.false,
      c.len.ensures.value,
      ap length is,
      length-append (head ++ chunk) behind,
      length-append head chunk,
    )) in (
      [],
      sym (ap (λ (u : UnsentBytes). u.bytes) c.self.view_is) ∙ ap (λ w. w ++ copies) is
          ∙ ap (λ w. ((head ++ chunk) ++ w) ++ copies) none ∙ ap (λ w. w ++ copies) (append-nil (head ++ chunk))
          ∙ append_assoc head chunk copies ∙ ap (λ w. head ++ (chunk ++ w)) (sym c.unsent_copies.ensures)
          ∙ sym (append-nil (head ++ (chunk ++ c.unsent_copies.result.now))),
    )
