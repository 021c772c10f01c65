use Rattle.iobufs.proofs.Text.{arith, empty_part, get_or_read, le-ltb, length, lt-ltb, sym}
use Rattle.iobufs.proofs.Parts.{first-set}
use Rattle.iobufs.proofs.bufs_mut.several.shorten.Goals as goal

pub returns-then-n-len-clause-drained : goal.returns-then-n-len-clause-drained
returns-then-n-len-clause-drained c =
    let part = c.index_mut-part in
    λ _. first-set c.args.row.now.items part.result.now c.advance.new.self c.args.n c.requires part.ensures.value c.advance.ensures

pub returns-then-n-len-clause-tells : goal.returns-then-n-len-clause-tells
returns-then-n-len-clause-tells c =
    let part = c.index_mut-part in
    let first = get_or_read c.args.row.now.items 0 part.result.now (omega (arith, c.requires)) part.ensures.value (empty_part 0) in
    rw (← first) (sym (lt-ltb c.args.n (length part.result.now.filled) (omega arith)))

pub returns-clause-tells : goal.returns-clause-tells
returns-clause-tells c =
    let part = c.index_mut-part in
    let first = get_or_read c.args.row.now.items 0 part.result.now (omega (arith, c.requires)) part.ensures.value (empty_part 0) in
    rw (← first) (sym (le-ltb c.args.n (length part.result.now.filled) (omega arith)))
