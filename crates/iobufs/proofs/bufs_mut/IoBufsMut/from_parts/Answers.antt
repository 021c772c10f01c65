use Rattle.iobufs.proofs.Text.{IsRowRefusedAt, List, Part, [], ap, arith, by_lt, err_from_is_err_and, false≢true, kept_parts, length, part_capacity, parts_capacity, refl, run_to_end, run_to_item, shape_parts, subst, sum_by_push, sym, ◌++◌, ◌∙◌, ◌<◌, ◌∷◌}
use Rattle.iobufs.proofs.Parts.{able-some, capacity-kept, kept-more, refused-long, refused-short}
use Rattle.iobufs.proofs.bufs_mut.IoBufsMut.from_parts.Goals as goal

pub returns-then-capacity-left-clause-err : goal.returns-then-capacity-left-clause-err
returns-then-capacity-left-clause-err g c =
    let l = c.loop-part in
    let part = c.in-Some.part in (
      run_to_item g.I.Iterator.next_gives _ l.yielded l.yielded_by part c.in-Some.ensures.steps,
      refl,
      refused-long l.yielded part (omega arith) (omega arith) (omega arith),
    )

pub with_part-requires-clause-fits : goal.with_part-requires-clause-fits
with_part-requires-clause-fits g c =
    let l = c.loop-part in
    omega (
      arith,
      ap parts_capacity l.invariant.kept
          ∙ capacity-kept l.yielded,
      l.invariant.sum,
      c.capacity-capacity.ensures,
      c.if-capacity-left.false,
    )

pub returns-in_err-shape-clause-err : goal.returns-in_err-shape-clause-err
returns-in_err-shape-clause-err g c =
    let l = c.loop-part in
    let part = c.in-Some.part in
    let kept = l.invariant.kept in
    let some : 0 < parts_capacity l.yielded =
    by_lt 0 (parts_capacity l.yielded) (λ more. more) (λ none.
    by_lt (length (shape_parts l.shape)) 2
    (λ one. absurd (false≢true (c.in_err-shape.ensures.first one (ap parts_capacity kept ∙ capacity-kept l.yielded ∙ omega arith))))
    (λ two. (able-some l.yielded (omega (arith, ap (λ (ps : List Part). length ps) kept, two))).1)) in
    let (error, told, cause) = err_from_is_err_and c.from_residual.result c.from_residual.ensures.1 in
    rw (told, cause) (
      run_to_item g.I.Iterator.next_gives _ l.yielded l.yielded_by part c.in-Some.ensures.steps,
      refl,
      subst (IsRowRefusedAt (l.yielded ++ part ∷ [])) (sym c.in_err-shape.ensures.memory)
          (refused-short l.yielded part some (omega arith) (omega arith)),
    )

pub loop-part-preserved-then-capacity-gt0 : goal.loop-part-preserved-then-capacity-gt0
loop-part-preserved-then-capacity-gt0 g c =
    let l = c.loop-part in
    let part = c.in-Some.part in
    record {
      sum = omega (arith, sum_by_push part_capacity l.yielded part);
      built = c.in_ok-shape.ensures.built;
      kept = c.in_ok-shape.ensures.parts ∙ ap (λ ps. kept_parts (ps ++ part ∷ [])) l.invariant.kept
          ∙ kept-more l.yielded part (omega arith);
    }

pub returns-clause-ok : goal.returns-clause-ok
returns-clause-ok g c =
    let l = c.loop-part in
    let sum = l.invariant.sum in (
      run_to_end g.I.Iterator.next_gives _ l.yielded l.yielded_by c.in_default.ensures.steps,
      refl,
      refl,
      (omega arith, l.invariant.kept),
    )
