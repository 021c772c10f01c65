-- Lemmas for callers, over bytes alone, and the rulesets that give them to a proof.
--     reading                        bytes after their length: what is read and what is left are the input, and what
--                                    was written is read back; what a copy or an advance leaves, and the front of a
--                                    split
--     writing                        how long what is written is, and how many of its bytes are inline
--     several_writes                 several writes in order, and an error in their middle
--     one_front                      two inputs that begin with a body each, and are equal, have the same body
--     read_in_range, read_at_most    the length of what was read is in the range, and no more than its end
--     the rest                       what the rulesets cite
use Rattle.std.specs.Prelude.{◌≡◌, ℕ, ◌+◌, ◌^◌, ◌<◌, ◌≤◌, true, Result, Ok, Err, IfOk, IsOkUnless, OnErr, List, [], ◌∷◌, ◌++◌, length, take, drop}
use Rattle.std.proofs.Common.{arith, ap, sym, ◌∙◌, append_assoc, length-append, length-take, take-append-drop}
use Rattle.std.proofs.Math.Seq.{take-append_seam}
use Rattle.std.proofs.lemmas.Bool.Decides.{nat_tests}
use Rattle.std.proofs.lemmas.Grind.{common_steps}
use Rattle.std.proofs.lemmas.List.{drop_all, append_cancel_left, nil_from_length, take_all}
use Rattle.iobufs_core.specs.Items.{PutOrPush, put_item, push_item, items_bytes, items_inline, IsBegun}
use Rattle.iobufs_core.proofs.LayoutLaws.{good_layout}
use Rattle.iobufs_core.specs.MarkedText.{MarkedText, text_advanced, text_left, text_rest, text_split_front}
use Rattle.iobufs_core.specs.Part.{Part, part_frozen}
use Rattle.iobufs_core.specs.Ranges.{in_range}
use Rattle.iobufs_core.specs.ReadBack.{AreReadBack}
use Rattle.iobufs_core.specs.ReadBytes.{IsThere, bytes-advanced, bytes-rest, bytes-taken_view, view_there}
use Rattle.iobufs_core.specs.ReadLaws.{number_fault, view_back}
use Rattle.iobufs_core.specs.Spelled.{length-spell, spell_begins}
use Rattle.iobufs_core.specs.Spelling.{spell}
use Rattle.iobufs_core.specs.View.{View, static_mark, view_between}
use Rattle.iobufs_core.specs.Wire.{IsNumberRead, IsViewRead, bytes_written, view_items, view_written}
use Rattle.iobufs_core.specs.WireLaws.{joins-view}
use Rattle.iobufs_core.specs.declared.codec.base.Error.{Error}
use Rattle.iobufs_core.specs.declared.codec.base.Error.TheVariants.{Memory}
use Rattle.iobufs_core.specs.declared.codec.base.RangeCfg.{RangeCfg}

-- ---- reading

-- the front that a split answers
pub bytes-split_front : (text : MarkedText) (at : ℕ) → at ≤ length text.bytes → (text_split_front text at).bytes ≡ take at text.bytes
unfolding text_left
bytes-split_front text at h = grind (arith, nat_tests, common_steps, take_all)

-- the input was the encoding of the view that is read, followed by the rest
pub read_and_left : (text rest : MarkedText) (range : RangeCfg) (result : Result View Error) → IsViewRead text range result
    → IfOk result (λ view. rest ≡ text_rest text (length (view_written view)))
    → IfOk result (λ view. text.bytes ≡ view_written view ++ rest.bytes)
read_and_left text rest range (Ok view) (n, (((small, at), inside), long), is) left =
    let there = view_there text n view at long is in
    there.whole ∙ ap (λ xs. view_written view ++ xs)
    (sym (ap (λ (t : MarkedText). t.bytes) left ∙ bytes-rest text (length (view_written view)) there.within))
read_and_left text rest range (Err error) is left = tt

-- its length is in the range
pub read_in_range : (text : MarkedText) (range : RangeCfg) (result : Result View Error) → IsViewRead text range result
    → IfOk result (λ view. (length view.bytes < 2 ^ 64) × (in_range range (length view.bytes) ≡ true))
read_in_range text range (Ok view) (n, (((small, at), inside), long), is) =
    let there = view_there text n view at long is in
    (omega (arith, there.long, small), ap (in_range range) there.long ∙ inside)
read_in_range text range (Err error) is = tt

high_end : (range : RangeCfg) (n : ℕ) → in_range range n ≡ true → n ≤ range.hi
high_end range n h = grind (arith, nat_tests)

-- no more bytes are read than the range's end
pub read_at_most : (text : MarkedText) (range : RangeCfg) (result : Result View Error) → IsViewRead text range result
    → IfOk result (λ view. length view.bytes ≤ range.hi)
read_at_most text range (Ok view) is = high_end range (length view.bytes) (read_in_range text range (Ok view) is).1
read_at_most text range (Err error) is = tt

-- written bytes, in the range, are read back
pub written_read_back : (text left : MarkedText) (range : RangeCfg) (result : Result View Error) (body rest : List ℕ)
    → IsViewRead text range result
    → IfOk result (λ view. left ≡ text_rest text (length (view_written view)))
    → length body < 2 ^ 64 → in_range range (length body) ≡ true → text.bytes ≡ bytes_written body ++ rest
    → AreReadBack body rest left.bytes result
written_read_back text left range (Ok view) body rest is behind small inside e =
    let same : body ≡ view.bytes = view_back (record { bytes = body; mark = static_mark }) range text rest (Ok view) small inside e is in
    let whole = read_and_left text left range (Ok view) is behind in
    (sym same, append_cancel_left (view_written view) left.bytes rest (sym whole ∙ e ∙ ap (λ xs. bytes_written xs ++ rest) same))
written_read_back text left range (Err error) body rest is behind small inside e =
    view_back (record { bytes = body; mark = static_mark }) range text rest (Err error) small inside e is

-- the bytes that were written are read
pub read_back_is : (body rest left : List ℕ) (result : Result View Error) → AreReadBack body rest left result
    → IfOk result (λ view. view.bytes ≡ body)
read_back_is body rest left (Ok view) is = is.0
read_back_is body rest left (Err error) is = tt

-- only an allocation can fail
pub read_back_unless : (body rest left : List ℕ) (result : Result View Error) → AreReadBack body rest left result → IsOkUnless result Memory
read_back_unless body rest left (Ok view) is = tt
read_back_unless body rest left (Err error) is = is

-- one body is at the front, and one text after it
pub one_front : (a b x y : List ℕ) → length a < 2 ^ 64 → length b < 2 ^ 64 → bytes_written a ++ x ≡ bytes_written b ++ y → (a ≡ b) × (x ≡ y)
one_front a b x y small least e =
    let whole : spell (length a) ++ (a ++ x) ≡ spell (length b) ++ (b ++ y) =
    sym (append_assoc (spell (length a)) a x) ∙ e ∙ append_assoc (spell (length b)) b y in
    let long : length a ≡ length b = spell_begins (length a) (length b) (a ++ x) (b ++ y) small least whole in
    let tail : a ++ x ≡ b ++ y = append_cancel_left (spell (length a)) (a ++ x) (b ++ y)
    (whole ∙ ap (λ n. spell n ++ (b ++ y)) (sym long)) in
    let same : a ≡ b = sym (take-append_seam a x) ∙ ap (take (length a)) tail ∙ ap (λ n. take n (b ++ y)) long ∙ take-append_seam b y in
    (same, append_cancel_left a x y (tail ∙ ap (λ w. w ++ y) (sym same)))

-- the input was the encoding of the number that is read, followed by the rest
pub number_and_left : (written : ℕ → List ℕ) (size : ℕ) (text rest : MarkedText) (result : Result ℕ Error)
    → IsNumberRead written size text.bytes result
    → IfOk result (λ n. rest ≡ text_advanced text size) → IfOk result (λ n. text.bytes ≡ written n ++ rest.bytes)
number_and_left written size text rest (Ok n) read left =
    let behind : rest.bytes ≡ drop size text.bytes = ap (λ (t : MarkedText). t.bytes) left ∙ bytes-advanced text size read.long in
    sym (take-append-drop size text.bytes) ∙ ap (λ xs. xs ++ drop size text.bytes) (sym read.is) ∙ ap (λ xs. written n ++ xs) (sym behind)
number_and_left written size text rest (Err error) is left = tt

-- ---- writing

-- bytes after their length are at most ten more
pub length-bytes_written : (bytes : List ℕ) → length (bytes_written bytes) ≤ 10 + length bytes
length-bytes_written bytes = omega (arith, length-spell (length bytes), length-append (spell (length bytes)) bytes)

-- no more bytes are inline than are written
pub inline-most : (items : List PutOrPush) → items_inline items ≤ length (items_bytes items)
inline-most [] = omega arith
inline-most (put_item bytes ∷ items) = let ih = inline-most items in omega (arith, ih, length-append bytes (items_bytes items))
inline-most (push_item view ∷ items) = let ih = inline-most items in omega (arith, ih, length-append view.bytes (items_bytes items))

-- of a view that is the spelling of its length
pub inline-view : (view : View) → items_inline (view_items view) ≤ 10
inline-view view = omega (arith, length-spell (length view.bytes))

-- the bytes of a part are those of the view that it freezes to
pub bytes-part_frozen : (part : Part) → (part_frozen part).bytes ≡ part.filled
bytes-part_frozen part = grind (arith, nat_tests, common_steps, nil_from_length)

-- the bytes of a slice are those of its range
pub bytes-view_between : (view : View) (from to : ℕ) → from ≤ to → to ≤ length view.bytes
    → (view_between view from to).bytes ≡ drop from (take to view.bytes)
bytes-view_between view from to order within = grind (arith, nat_tests, common_steps, length-take, drop_all)

-- after a first text, a beginning of a second one is a beginning of both and of all that follows
pub begun_behind : (old first second behind middle new : List ℕ) → middle ≡ old ++ first → IsBegun middle second new
    → IsBegun old (first ++ (second ++ behind)) new
begun_behind old first second behind middle new put begun =
    let front = begun.front in
    let back = begun.back in record {
      front = first ++ front;
      back = back ++ behind;
      whole =
          append_assoc first front (back ++ behind)
          ∙ ap (λ xs. first ++ xs) (sym (append_assoc front back behind) ∙ ap (λ xs. xs ++ behind) begun.whole);
      left = begun.left ∙ ap (λ xs. xs ++ front) put ∙ append_assoc old first front;
    }

-- a proposition that holds anyway holds if a call fails
pub on_err_always : {T E P : Type 0} (result : Result T E) → P → OnErr result P
on_err_always (Ok value) p = tt
on_err_always (Err error) p = p

pub ruleset reading = (
  read_and_left,
  read_at_most,
  written_read_back,
  read_back_is,
  read_back_unless,
  number_and_left,
  number_fault,
  bytes-rest,
  bytes-advanced,
  bytes-split_front,
  bytes-taken_view,
)

pub ruleset writing = (length-bytes_written, length-spell, inline-view, inline-most, joins-view, bytes-part_frozen, good_layout)

pub ruleset several_writes = (begun_behind, on_err_always)
