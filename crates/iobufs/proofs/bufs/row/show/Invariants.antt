use Rattle.iobufs.proofs.Text.{CalledAt, FoldsTo, Entry, always_mut, map, take}
use Rattle.iobufs.proofs.bufs.row.show.Given as goal

-- the closure was called on the chunks so far
abbrev pub invariant-loop-piece : goal.invariant-loop-piece
invariant-loop-piece g l =
    always_mut g.F.FnMut l.visit
    × FoldsTo (λ before chunk after. CalledAt g.F.FnMut before chunk tt after) l.initial.visit
    (map (λ (piece : Entry). piece.view.bytes) (take l.piece-index l.entries)) l.visit
