use Rattle.iobufs.proofs.Text.{[], ap, arith, coalesced-one, false≢true, is_single, is_single-of_pieces, len-of_pieces, of_pieces, only-view, several-more, sym, text_len, ◌∙◌}
use Rattle.iobufs.proofs.bufs.IoBufs.coalesce.Goals as goal

pub returns-in-One-clause-ok : goal.returns-in-One-clause-ok
returns-in-One-clause-ok c = coalesced-one c.in-One.piece _ (ap of_pieces c.in-One.ensures.views ∙ c.self.view_is)

pub returns-in-One-clause-bad_layout : goal.returns-in-One-clause-bad_layout
returns-in-One-clause-bad_layout c = λ several _.
    let single = sym (ap is_single (ap of_pieces c.in-One.ensures.views ∙ c.self.view_is)) ∙ is_single-of_pieces c.in-One.piece [] in
    absurd (false≢true (sym several ∙ single))

pub returns-in-Many-clause-single : goal.returns-in-Many-clause-single
returns-in-Many-clause-single c = λ single.
    let one = (only-view c.in-Many.row.views _ (ap of_pieces c.in-Many.ensures.views ∙ c.self.view_is) single).0 in
    c.gathered.ensures.single (omega (arith, one, c.in-Many.ensures.pieced.0))

pub returns-in-Many-clause-bad_layout : goal.returns-in-Many-clause-bad_layout
returns-in-Many-clause-bad_layout c = λ several long.
    let seen = ap of_pieces c.in-Many.ensures.views ∙ c.self.view_is in
    c.gathered.ensures.bad_layout (several-more c.in-Many.row.views _ seen c.in-Many.ensures.pieced.0 several)
    (omega (arith, long, len-of_pieces c.in-Many.row.views, ap text_len seen))

pub returns-in-Many-clause-memory : goal.returns-in-Many-clause-memory
returns-in-Many-clause-memory c = λ l.
    let seen = ap of_pieces c.in-Many.ensures.views ∙ c.self.view_is in
    c.gathered.ensures.memory (omega (arith, l, len-of_pieces c.in-Many.row.views, ap text_len seen))
