use Rattle.std.proofs.Common.{ap, arith, length, List, ℕ, rules, subst, sym, ◌++◌, ◌+◌, ◌<◌, ◌∙◌, ◌≡◌, length-append}
use Rattle.iobufs_frames.specs.Prefixes.{prefix_limit, prefix_written}
use Rattle.iobufs_frames.proofs.lengths.Layout.header_of.Goals as goal

pub returns-then-n-len : goal.returns-then-n-len
returns-then-n-len c has =
    let layout = c.args.self in
    let w = prefix_written layout.prefix in
    let v = c.in_ok-value.value in
    let number : v ≡ c.args.n + layout.counts = omega (arith, c.in_ok-value.ensures) in
    omega (
      arith,
      c.if-n-len.true,
      c.len.ensures.value,
      ap (λ (xs : List ℕ). length xs) c.header-head.ensures,
      length-append c.args.before.now (w v ++ c.args.after.now),
      length-append (w v) c.args.after.now,
      ap (λ k. length (w k)) number,
      has.sized,
      has.before_fits,
      has.after_fits,
    )

pub returns : goal.returns
returns c =
    let layout = c.args.self in
    let w = prefix_written layout.prefix in
    let v = c.in_ok-value.value in
    let number : v ≡ c.args.n + layout.counts = omega (arith, c.in_ok-value.ensures) in
    let before : length c.args.before.now ≡ layout.before = search rules in
    let after : length c.args.after.now ≡ layout.after = search rules in
    let small : v < prefix_limit layout.prefix = search rules in (
      record {
        before_fits = before;
        after_fits = after;
        few = omega (arith, c.if-before-after-gt-MOST.false, before, after);
        small = subst (λ k. k < prefix_limit layout.prefix) number small;
        sized = omega (
          arith,
          c.if-n-len.false,
          c.len.ensures.value,
          ap (λ (xs : List ℕ). length xs) c.header-head.ensures,
          length-append c.args.before.now (w v ++ c.args.after.now),
          length-append (w v) c.args.after.now,
          ap (λ k. length (w k)) number,
          before,
          after,
          c.ranges.n.fits,
        );
      },
      λ body long. c.header-head.ensures
          ∙ ap (λ k. c.args.before.now ++ (w k ++ c.args.after.now)) (number ∙ ap (λ m. m + layout.counts) (sym long)),
    )
