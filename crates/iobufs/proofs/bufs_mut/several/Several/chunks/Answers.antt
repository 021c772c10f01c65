use Rattle.iobufs.proofs.Text.{Bor, List, Part, [], ap, append-nil, arith, deque_iter_rest, length, map, map-append, nil_from_length, parts_chunks, sym, take, take-nil, vec_len, ℕ, ◌++◌, ◌-◌, ◌<◌, ◌∙◌, ◌∷◌, ◌≡◌}
use Rattle.iobufs.proofs.Parts.{chunk-turn, chunks-full, chunks-order}
use Rattle.iobufs.proofs.bufs_mut.several.Several.chunks.Goals as goal
use Rattle.iobufs.proofs.bufs_mut.several.Several.chunks.Goals.{in-None, in-Some+then-len-max}

pub loop-part-init : goal.loop-part-init
loop-part-init c =
    let s = c.self.inside in
    let shown = chunks-order s.row.items s.used c.self.invariant.behind ∙ ap parts_chunks c.self.view_is in
    let none : vec_len c.new-chunks.result ≡ 0 = c.new-chunks.ensures.len in
    let left : c.args.max ≡ c.args.max - vec_len c.new-chunks.result = omega (arith, none) in
    record {
      few = omega (arith, none);
      so_far = cc (c.into_iter-part-iterator.ensures.into_iter_gives.0, c.new-chunks.ensures.items);
    }

pub loop-part-preserved : goal.loop-part-preserved
loop-part-preserved c =
    let l = c.loop-part in
    let now = λ (chunk : Bor (List ℕ)). chunk.now in
    let chunks = map now l.chunks.items in
    let left = c.args.max - vec_len l.chunks in
    let part = c.in-Some.part.now in
    let rest = deque_iter_rest c.next.new.self in
    let some : 0 < length part.filled = grind arith in
    let fewer : left - 1 ≡ c.args.max - vec_len c.push.new.self = omega (arith, c.in_ok-push.ensures.len) in
    let pushed : chunks ++ part.filled ∷ [] ≡ map now c.push.new.self.items =
    ap (λ t. chunks ++ t ∷ []) (sym c.as_ref.ensures) ∙ sym (map-append now l.chunks.items (c.as_ref.result ∷ []))
    ∙ ap (map now) (sym c.in_ok-push.ensures.items) in
    record {
      few = omega (arith, c.in_ok-push.ensures.len);
      so_far = l.invariant.so_far ∙ ap (λ ps. chunks ++ take left (parts_chunks ps)) c.in-Some.ensures.steps
          ∙ ap (λ texts. chunks ++ take left texts) (chunks-full part rest some)
          ∙ chunk-turn chunks (parts_chunks rest) part.filled left (omega arith)
          ∙ (λ i. pushed i ++ take (fewer i) (parts_chunks rest));
    }

pub returns : goal.returns
returns c =
    let l = c.loop-part in
    let chunks = map (λ chunk. chunk.now) l.chunks.items in
    let shown = λ (k : ℕ) (ps : List Part). chunks ++ take k (parts_chunks ps) in
    let left = c.args.max - vec_len l.chunks in
    elim c.match-next.branch [
      | in-None w ↦
          let none : deque_iter_rest l.part-iterator ≡ [] = nil_from_length _ w.in-None.ensures.steps.0 in
          sym (l.invariant.so_far ∙ ap (shown left) none ∙ ap (λ texts. chunks ++ texts) (take-nil left) ∙ append-nil chunks)
      | in-Some+then-len-max w ↦
          let done : left ≡ 0 = omega (arith, w.len.ensures, w.if-len-max.true) in
          sym (l.invariant.so_far ∙ ap (λ k. shown k (deque_iter_rest l.part-iterator)) done ∙ append-nil chunks)
    ]
