use Rattle.std.proofs.Common.{◌≡◌, ◌≤◌, ◌<◌, ◌-◌, ◌++◌, ◌+◌, arith, ap, sym, drop, length, length-append, length-drop, length-take, map, take, ◌∙◌}
use Rattle.std.proofs.lemmas.List.{drop_all, drop-drop, map-append, take_all}
use Rattle.iobufs_core.specs.MarkedText.{text_chunks}
use Rattle.iobufs_c.proofs.Chunks.{filled_both, left_both, take_both}
use Rattle.iobufs_c.proofs.text.fill_chunks.Goals as goal

pub returns-clause-count : goal.returns-clause-count
returns-clause-count c =
    let front = c.chunk_slices_from-front.result.0 in let behind = c.chunk_slices_from-front.result.1 in
    let xs = c.fill_run-count.new.out in let n = c.fill_run-count.result in
    let all = ap length (c.chunk_slices_from-front.ensures) in
    omega (
      arith,
      all,
      length-append front behind,
      length-drop c.args.first (text_chunks c.args.text.now),
      c.fill_run-count.ensures.count,
      c.fill_run.ensures.count,
      length-take (length xs - n) (drop n xs),
      length-drop n xs,
      c.fill_run-count.auto.out,
    )

pub returns-clause-lengths : goal.returns-clause-lengths
returns-clause-lengths c =
    let front = c.chunk_slices_from-front.result.0 in let behind = c.chunk_slices_from-front.result.1 in
    let xs = c.fill_run-count.new.out in let ys = c.fill_run.new.out in
    let n = c.fill_run-count.result in let m = c.fill_run.result in
    let several = c.chunk_slices_from-front.ensures in
    let room : n ≤ length xs = omega (arith, c.fill_run-count.ensures.count, c.fill_run-count.auto.out) in
    let size = length-take (length xs - n) (drop n xs) in
    let full : n < length front → m ≡ 0 = λ less. omega (
      arith,
      less,
      c.fill_run-count.ensures.count,
      c.fill_run.ensures.count,
      size,
      length-drop n xs,
      c.fill_run-count.auto.out,
    ) in
    ap (map (λ chunk. chunk.len)) (filled_both xs ys _ n m room (drop_all (length xs - n) (drop n xs) (omega (arith, length-drop n xs))))
    ∙ map-append (λ chunk. chunk.len) (take n xs) (take m ys)
    ∙ ap (λ more. more ++ map (λ chunk. chunk.len) (take m ys)) c.fill_run-count.ensures.lengths
    ∙ ap (λ more. map length (take n front) ++ more) c.fill_run.ensures.lengths ∙ sym (map-append length (take n front) (take m behind))
    ∙ ap (map length) (sym (take_both front behind n m (omega (arith, c.fill_run-count.ensures.count)) full))
    ∙ ap (λ chunks. map length (take (n + m) chunks)) several

pub returns-clause-rest : goal.returns-clause-rest
returns-clause-rest c =
    let xs = c.fill_run-count.new.out in let ys = c.fill_run.new.out in let n = c.fill_run-count.result in let m = c.fill_run.result in
    let room : n ≤ length xs = omega (arith, c.fill_run-count.ensures.count, c.fill_run-count.auto.out) in
    let whole = take_all (length xs - n) (drop n xs) (omega (arith, length-drop n xs)) in
    left_both xs ys _ n m room (drop_all (length xs - n) (drop n xs) (omega (arith, length-drop n xs))) ∙ c.fill_run.ensures.rest
    ∙ ap (drop m) whole ∙ ap (drop m) c.fill_run-count.ensures.rest ∙ drop-drop m n c.args.out.now
