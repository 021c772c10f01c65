use Rattle.std.proofs.Common.{[], ◌∙◌, sym, append-nil, arith}
use Rattle.iobufs_core.proofs.CallerFacts.{read_back_is, read_back_unless}
use Rattle.iobufs_core.specs.Wire.{bytes_written}
use Rattle.iobufs_examples.proofs.frame.echo.Goals as goal

pub returns : goal.returns
returns c =
    let body = c.args.body.now.bytes in
    let back = c.read_frame.ensures.back body [] (let same = c.len.ensures.value in omega arith)
    (c.in_ok-text.ensures.bytes ∙ sym (append-nil (bytes_written body))) in
    record {
      bytes = read_back_is body [] _ c.read_frame.result back;
      memory = λ small. read_back_unless body
          [] _ c.read_frame.result back;
    }
