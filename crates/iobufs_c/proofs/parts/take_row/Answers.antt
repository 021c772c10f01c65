use Rattle.std.proofs.Common.{◌∷◌, [], ◌++◌, arith, ap, sym, refl, ◌∙◌, slice_index_or}
use Rattle.std.proofs.lemmas.Grind.{common_steps}
use Rattle.iobufs_core.specs.Part.{empty_part}
use Rattle.iobufs_c.specs.declared.part.PartAt.{PartAt}
use Rattle.iobufs_c.proofs.Chunks.{place_kept, places_same, rest_more, taken_more, value_next}
use Rattle.iobufs_c.proofs.parts.take_row.Goals as goal

pub loop-i-preserved : goal.loop-i-preserved
loop-i-preserved c =
    let inv = c.loop-i.invariant in
    let i = c.loop-i.i in
    let old = c.args.places.now in
    let place = c.index-places-i.result in
    let part = c.replace-part.result in
    let at = ap (λ (there : PartAt). there.value) (sym (place_kept c.loop-i.places old i place inv.rest)) ∙ sym c.get.ensures.value
    ∙ sym c.replace-part.ensures.value in
    let emptied : PartAt = record { at = (slice_index_or c.loop-i.places i place).at; value = c.replace-part.new.dest } in
    let pushed = rw c.unwrap.ensures at c.push.ensures.items in record {
      size = grind (arith, common_steps, inv.size);
      row = pushed ∙ ap (λ row. row ++ part ∷ []) inv.row
          ∙ value_next (λ place. place.value) old i place part c.loop-i-test.true at;
      taken = taken_more (λ place. place.value) c.loop-i.places i emptied (empty_part 0)
          (omega (arith, inv.size, c.loop-i-test.true)) (c.replace-part.ensures.after ∙ c.new.ensures) inv.taken;
      rest = rest_more c.loop-i.places old i emptied (omega arith) inv.rest;
      at = places_same (λ place. place.at) c.loop-i.places i emptied place refl ∙ inv.at;
      few = grind (arith, common_steps, pushed, inv.few);
      room = grind (arith, common_steps, inv.room, c.push.ensures);
    }
