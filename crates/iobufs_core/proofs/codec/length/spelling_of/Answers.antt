use Rattle.std.proofs.Common.{◌+◌, ◌/◌, ◌%◌, ◌<◌, ◌++◌, ◌∷◌, [], length, take, arith, ap, sym, refl, ◌∙◌, append_assoc}
use Rattle.std.proofs.lemmas.List.{take_more_set}
use Rattle.std.proofs.lemmas.Grind.{common_steps}
use Rattle.iobufs_core.specs.Spelling.{spell}
use Rattle.iobufs_core.specs.Spelled.{spell-more, spell-last, length-spell}
use Rattle.iobufs_core.proofs.codec.length.spelling_of.Goals as goal

pub loop-rest-init : goal.loop-rest-init
loop-rest-init c = let few = length-spell c.args.n in record { so_far = refl; size = refl; inside = omega arith; sum = omega arith }

pub bounds-bytes-len : goal.bounds-bytes-len
bounds-bytes-len c =
    let less = ap length (spell-more c.loop-rest.rest c.loop-rest-test.true (omega arith)) in
    let inside = c.loop-rest.invariant.inside in omega arith

pub loop-rest-preserved : goal.loop-rest-preserved
loop-rest-preserved c =
    let rest = c.loop-rest.rest in
    let bytes = c.loop-rest.bytes in
    let len = c.loop-rest.len in
    let more = spell-more rest c.loop-rest-test.true (omega arith) in
    let less = ap length more in
    let size = c.loop-rest.invariant.size in
    let inside = c.loop-rest.invariant.inside in
    let room : len < length bytes = omega arith in
    let next = take_more_set bytes len (128 + rest % 128) room in record {
      so_far =
          ap (λ xs. xs ++ spell (rest / 128)) next
          ∙ append_assoc (take len bytes) ((128 + rest % 128) ∷ []) (spell (rest / 128))
          ∙ ap (λ xs. take len bytes ++ xs) (sym more)
          ∙ c.loop-rest.invariant.so_far;
      size = grind (arith, common_steps, size);
      inside = omega arith;
      sum = omega (arith, c.loop-rest.invariant.sum);
    }

pub bounds-bytes-len-2 : goal.bounds-bytes-len-2
bounds-bytes-len-2 c =
    let last = ap length (spell-last c.loop-rest.rest (omega arith)) in
    let inside = c.loop-rest.invariant.inside in omega arith

pub returns-clause-len : goal.returns-clause-len
returns-clause-len c =
    let last = ap length (spell-last c.loop-rest.rest (omega arith)) in
    let sum = c.loop-rest.invariant.sum in omega arith

pub returns-clause-few : goal.returns-clause-few
returns-clause-few c =
    let last = ap length (spell-last c.loop-rest.rest (omega arith)) in
    let inside = c.loop-rest.invariant.inside in omega arith

pub returns-clause-bytes : goal.returns-clause-bytes
returns-clause-bytes c =
    let rest = c.loop-rest.rest in
    let bytes = c.loop-rest.bytes in
    let last = spell-last rest (omega arith) in
    let less = ap length last in
    let size = c.loop-rest.invariant.size in
    let inside = c.loop-rest.invariant.inside in
    let room : c.loop-rest.len < length bytes = omega arith in
    take_more_set bytes c.loop-rest.len rest room ∙ ap (λ xs. take c.loop-rest.len bytes ++ xs) (sym last) ∙ c.loop-rest.invariant.so_far
