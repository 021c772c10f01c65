use Rattle.iobufs_owner.proofs.Base.{sym, ◌∙◌, refl, arith, word_of, one_shl, and_mask, unpack-log, unpack-tail, unpack-size, log-small, word-log, word-tail}
use Rattle.iobufs_owner.proofs.format.Format.unpack.Goals as goal

pub overflow_shl-result : goal.overflow_shl-result
overflow_shl-result c =
    let f = c.args.self.now in
    let w = c.requires in
    rw (one_shl f.align_bits 64 (omega arith), w.is, unpack-log f.align_bits f.tail_bits w.size w.log w.tail w.room.log_fits) w.small

pub returns-clause-inverse : goal.returns-clause-inverse
returns-clause-inverse c = λ size log tail room is.
    let f = c.args.self.now in
    let e1 = one_shl f.align_bits 64 (omega arith) in
    let e2 = one_shl f.tail_bits 64 (omega arith) in
    let l = unpack-log f.align_bits f.tail_bits size log tail room.log_fits in
    let small = log-small f.align_bits f.tail_bits f.size_bits c.args.word size log tail c.requires room is in (
      rw is (unpack-size f.align_bits f.tail_bits size log tail room.log_fits room.tail_fits),
      rw (e1, is, l) (one_shl log 64 small),
      rw (e2, is) (unpack-tail f.align_bits f.tail_bits size log tail room.log_fits room.tail_fits),
    )

pub returns-clause-align : goal.returns-clause-align
returns-clause-align c =
    let f = c.args.self.now in
    let w = c.requires in
    let e1 = one_shl f.align_bits 64 (omega arith) in
    let l = word-log f.align_bits f.tail_bits f.size_bits c.args.word w.size w.log w.tail w.room w.is in
    rw (e1, and_mask, l) (one_shl w.log 64 w.small)

pub returns-clause-tail : goal.returns-clause-tail
returns-clause-tail c =
    let f = c.args.self.now in
    let w = c.requires in
    let e2 = one_shl f.tail_bits 64 (omega arith) in
    rw (e2, w.is) (unpack-tail f.align_bits f.tail_bits w.size w.log w.tail w.room.log_fits w.room.tail_fits
    ∙ sym (word-tail f.align_bits f.tail_bits f.size_bits
    (word_of f.align_bits f.tail_bits w.size w.log w.tail) w.size w.log w.tail w.room refl))
