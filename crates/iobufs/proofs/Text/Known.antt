-- Names that proofs cite from std, from other crates and from `specs/`; and a split into two cases.
pub use Rattle.std.proofs.Common.{All, Bool, Bor, Err, IfOk, IfSome, IsErrAnd, IsOkUnless, List, None, Ok, Option, Result, Some, []}
pub use Rattle.std.proofs.Common.{add-one, ap, append-nil, append_assoc, arith, cond, deque_capacity, deque_len, drop, drop-cons, false}
pub use Rattle.std.proofs.Common.{filter, fold, get_or, if◌then◌else◌, inl, inr, length, length-append, length-drop, length-take}
pub use Rattle.std.proofs.Common.{length-take-le, map, min, nat_eq, nat_le, nat_lt, not, of_calls, refl, replicate, rules, set, slice_set}
pub use Rattle.std.proofs.Common.{subst, suc, sym, take, take-append-drop, take_all, tests, true, vec_len, zero, zero-add, ℕ, ⊎_elim, ◌%◌}
pub use Rattle.std.proofs.Common.{◌&&◌, ◌*◌, ◌++◌, ◌+◌, ◌-◌, ◌/◌, ◌<◌, ◌==◌, ◌^◌, ◌∙◌, ◌∷◌, ◌≡◌, ◌≢◌, ◌≤◌}
pub use Rattle.std.proofs.KnownBytes.{Appends-trans, Consumes-trans, Keeps-refl, Keeps-trans}
pub use Rattle.std.proofs.Math.Bool.{and-false}
pub use Rattle.std.proofs.Math.Nat.{pos_of_ne-zero}
pub use Rattle.std.proofs.Math.Seq.{drop-nil, take-add, take-append_seam, take-nil}
pub use Rattle.std.proofs.iter.runs.Made.{run, to_end, to_item}
pub use Rattle.std.proofs.lemmas.Bool.{cases_lt, cases_order, cond-false, cond-true, cond_both, eq-eqb, eqb-true, false≢true, le-leb}
pub use Rattle.std.proofs.lemmas.Bool.{le-ltb, lt-leb, lt-ltb, ltb-false, ltb-true, true≢false}
pub use Rattle.std.proofs.lemmas.Bool.Decides.{nat_tests, same_from_decides}
pub use Rattle.std.proofs.lemmas.Fn.{called_at}
pub use Rattle.std.proofs.lemmas.Grind.{common_steps}
pub use Rattle.std.proofs.lemmas.List.{append_cancel_left, drop-append-le, drop-drop, drop-replicate, drop-set-lt, drop-take, drop_all}
pub use Rattle.std.proofs.lemmas.List.{drop_at, drop_more, get_or-drop, get_or_read, length-map, length-replicate, map-append, map_more}
pub use Rattle.std.proofs.lemmas.List.{nil_from_length, take-append-le, take_at, take_more, take_more_set}
pub use Rattle.std.proofs.lemmas.List.Concat.{flat_map-append}
pub use Rattle.std.proofs.lemmas.List.Elements.{filter-append}
pub use Rattle.std.proofs.lemmas.List.Folds.{flat_map-map}
pub use Rattle.std.proofs.lemmas.List.Sums.{fold-append, sum_by-append, sum_by-cons, sum_by_push}
pub use Rattle.std.proofs.lemmas.Nat.{mul-le, pow-add, pow_below}
pub use Rattle.std.proofs.lemmas.Option.{get_or_from_slice_get, none-some, slice_get_within}
pub use Rattle.std.proofs.lemmas.Result.{err_from_is_err_and}
pub use Rattle.std.proofs.lemmas.Slice.{take-put_mid}
pub use Rattle.std.specs.Cmp.Lexicographic.{bytes_decides, pointwise}
pub use Rattle.std.specs.Fn.{CalledAt}
pub use Rattle.std.specs.Io.{WritesAtMost}
pub use Rattle.std.specs.Io.KnownBytes.{Appends, Consumes, Keeps, WriteAppends}
pub use Rattle.std.specs.Iterator.{Yields}
pub use Rattle.std.specs.Iterator.Runs.{Run}
pub use Rattle.std.specs.List.{FoldsTo, flat_map, list_any, slice_get, sum_by}
pub use Rattle.std.specs.Option.{is_some, option_map, option_to_list}
pub use Rattle.std.specs.Prelude.{MatchOption, slice_index_or, ◌⊎◌}
pub use Rattle.std.specs.Result.{OnErr, OnOk}
pub use Rattle.std.specs.VecDeque.Iter.{deque_iter_rest}
pub use Rattle.std.specs.declared.ops.Bound.TheVariants.{Excluded, Included}
pub use Rattle.iobufs_core.proofs.CallerFacts.{bytes-part_frozen}
pub use Rattle.iobufs_core.proofs.Chunked.{length-text_chunks}
pub use Rattle.iobufs_core.proofs.LayoutLaws.{bad_layout_one, good_layout, large_layout}
pub use Rattle.iobufs_core.specs.Chunks.{IsChunkOf, first_chunk, full_chunks, is_full}
pub use Rattle.iobufs_core.specs.Items.{PutOrPush, items_bytes, items_inline, items_pushed, push_item, put_item}
pub use Rattle.iobufs_core.specs.MarkedText.{AreCuts, IsMarked, MarkedText, chunk_count, cut_up, default_text, is_single, joined, key_upto}
pub use Rattle.iobufs_core.specs.MarkedText.{mark_past, moved_down, moved_up, of_view, text_advanced, text_append, text_coalesced, text_len}
pub use Rattle.iobufs_core.specs.MarkedText.{text_prepend, text_rest, text_split_front}
unfoldable pub use Rattle.iobufs_core.specs.MarkedText.{taken_view, text_chunks, text_glue, text_left, text_right}
pub use Rattle.iobufs_core.specs.Part.{Part, empty_part, part_capacity, part_drained, part_frozen, part_overwritten, part_put}
pub use Rattle.iobufs_core.specs.Part.{part_with_len}
pub use Rattle.iobufs_core.specs.ReadBytes.{bytes-advanced, bytes-rest}
pub use Rattle.iobufs_core.specs.View.{IsFreelyShared, IsView, Mark, ReachesEnd, View, bytes_mark, default_view, mark_after, native_mark}
pub use Rattle.iobufs_core.specs.View.{static_mark, view_advanced, view_front, view_of_bytes, view_rest, view_slice, view_split_front}
pub use Rattle.iobufs_core.specs.declared.codec.base.BufError.{BufError}
pub use Rattle.iobufs_core.specs.declared.codec.base.BufError.TheVariants.{Memory, TooLong}
pub use borrow.Rule.Slice.PartMut.{put_mid, same_len_mid}
pub use denote.Param.Always.{always_mut}
pub use Rattle.iobufs.specs.Building.{AreInTurn, Building, IsBuilding, building_after, building_bytes, building_items, building_push}
pub use Rattle.iobufs.specs.Building.{building_put, building_room, empty_building, finished, inline_run, room_for_pushes, views_from}
pub use Rattle.iobufs.specs.Inside.Ends.{AreEnds, IsRow, IsSearch, cut_piece, ends_from, from_base, shortened, views_in}
pub use Rattle.iobufs.specs.Inside.Gaps.{AreSegments, filled, gap_len, gaps_len, segment_len, segment_of, segments_in, segments_pushed}
pub use Rattle.iobufs.specs.Inside.Gaps.{stood_len}
pub use Rattle.iobufs.specs.Inside.Kept.{text_of}
pub use Rattle.iobufs.specs.Inside.PartOrder.{AreBehind, AreKept, HaveNoSpare, first_drained, in_order}
pub use Rattle.iobufs.specs.Inside.PartShape.{IsShape, shape_parts}
pub use Rattle.iobufs.specs.Inside.PartSums.{AreSummed}
pub use Rattle.iobufs.specs.Inside.Pieces.{AreFull, AreViews, IsChunkPlace, IsPieces, advanced_pieces, behind_first, bytes_behind}
pub use Rattle.iobufs.specs.Inside.Pieces.{left_pieces, piece_at, piece_start, pieces_bytes, rest_pieces, right_pieces, view_len}
unfoldable pub use Rattle.iobufs.specs.Inside.Pieces.{of_pieces}
pub use Rattle.iobufs.specs.Inside.RowValues.{Segment, SegmentRow, ViewRow, gap, standing}
pub use Rattle.iobufs.specs.Inside.Several.{IsPieced, views}
pub use Rattle.iobufs.specs.Laws.Draining.{filled-drained, filled-kept_parts}
pub use Rattle.iobufs.specs.Laws.Filling.{AreFilled, drop_past, fill-nil, filled_composes, filled_lessens, filled_nothing, same_part}
pub use Rattle.iobufs.specs.Laws.Filling.{spare-fill, take_both, take_past}
pub use Rattle.iobufs.specs.Laws.Reading.{joined-chunks}
pub use Rattle.iobufs.specs.Located.{greatest_key, keys_upto}
pub use Rattle.iobufs.specs.PartLimits.{IsRowRefusedAt}
pub use Rattle.iobufs.specs.Parts.{HaveCapacity, IsParts, kept_parts, parts_capacity, parts_chunks, parts_coalesced, parts_drained}
pub use Rattle.iobufs.specs.Parts.{parts_fill, parts_filled, parts_frozen, parts_or_default, parts_overwritten, parts_shared_out}
pub use Rattle.iobufs.specs.Parts.{parts_spare, parts_with_len, single_part, with_capacity}
pub use Rattle.iobufs.specs.Refusals.{IsRefusedAt}
pub use Rattle.iobufs.specs.Search.{IsFirstPast, IsRising}
pub use Rattle.iobufs.specs.Sending.{IsRestOf, IsSent, IsStored}
pub use Rattle.iobufs.specs.contracts.bufs_mut.IoBufsMut.{the_view}
pub use Rattle.iobufs.specs.declared.bufs.IoBufs.TheInside.{Inside}
pub use Rattle.iobufs.specs.declared.bufs.pieces.Form.{Form}
pub use Rattle.iobufs.specs.declared.bufs.row.Entry.{Entry}
pub use Rattle.iobufs.specs.declared.bufs.search.Located.{Located}
pub use Rattle.iobufs.specs.Inside.Pushes.{building_from, items_front}
pub use Rattle.iobufs.specs.Laws.Building.{bytes-built, items_bytes-append, items_inline-append, items_pushed-append, push-none, push-some}
pub use Rattle.iobufs.specs.Laws.Building.{put_nothing, run-bytes, run-inline, run-pushed}

-- two cases of a number against another
pub by_lt : {A : Type 0} (m n : ℕ) → (m < n → A) → (n ≤ m → A) → A
by_lt m n less more = ⊎_elim less more (cases_lt m n)
