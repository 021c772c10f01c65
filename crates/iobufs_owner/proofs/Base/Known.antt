-- Names that proofs cite from std and from `specs/`.
pub use Rattle.std.proofs.Common.{All, Bool, Err, IsSome, List, MatchBool, MatchOption, None, Ok, Option, Result, Some, SomeIff, [], add-one, ap, arith}
pub use Rattle.std.proofs.Common.{bit_and, bit_or, cond, false, get_or, inl, inr, length, length-append, map, nat_eq, nat_lt, not, option_map, refl}
pub use Rattle.std.proofs.Common.{replicate, rules, set, subst, suc, sym, take, true, unwrap_or, vec_len, zero, ℕ, ◌%◌, ◌&&◌, ◌*◌, ◌++◌, ◌+◌, ◌-◌, ◌/◌, ◌<◌}
pub use Rattle.std.proofs.Common.{◌==◌, ◌^◌, ◌||◌, ◌↔◌, ◌∙◌, ◌∷◌, ◌≡◌, ◌≢◌, ◌≤◌, ◌⊎◌}
pub use Rattle.std.proofs.Math.ListN.{get_or-map as get_or-read, length-set}
pub use Rattle.std.proofs.Math.Nat.{div-eq_of_lt, mod-eq_of_lt}
pub use Rattle.std.proofs.Math.Seq.{get_or-append_seam, map-set_same, set-append_seam}
pub use Rattle.std.proofs.lemmas.Bool.{and_parts, and_right, cases_Bool, eq-eqb, eqb-true, false_from_ne_true, le-ltb, lt-ltb, ltb-false, ltb-true, ne_eqb}
pub use Rattle.std.proofs.lemmas.Bool.{not-true, or_cases, or_left, or_parts, or_right}
pub use Rattle.std.proofs.lemmas.Bool.Decides.{eqb_tells, leb_tells, nat_tests}
pub use Rattle.std.proofs.lemmas.Grind.{common_steps}
pub use Rattle.std.proofs.lemmas.List.{append-nil, append_assoc, ext_get_or, get_or-map, get_or-set_other, get_or-set_same, get_or_append_left, get_or_past}
pub use Rattle.std.proofs.lemmas.List.{length-map, length-replicate, map-append, map-set, set-append_left, set-get_or, set-set, take_more}
pub use Rattle.std.proofs.lemmas.List.Folds.{list_any-append, list_any_at, list_any_none}
pub use Rattle.std.proofs.lemmas.List.Elements.{All-cons, All-from_get_or, All-from_recursion, All-get_or, All-head, All-nil, All-push, All-replicate}
pub use Rattle.std.proofs.lemmas.List.Elements.{All-set, All-tail, All-weaker}
pub use Rattle.std.proofs.lemmas.Nat.{and_mask, mod_below, mod_low, mul-add-lt, one_shl, or_shifted, pow-add, pow_pos, shl_whole, shr-shr, shr_high, shr_split}
pub use Rattle.std.proofs.lemmas.Nat.Bits.{bit_at-pow_other, bit_at-trailing_zeros}
pub use Rattle.std.specs.Int.{Width, next_multiple_of, trailing_zeros}
pub use Rattle.std.specs.List.{AllByRecursion}
pub use Rattle.std.specs.Prelude.{is_some, vec_capacity}
pub use Rattle.std.specs.Result.{result_unwrap_or}
pub use mir.Syntax.{w64}
pub use mir.Val.{bits}
pub use Rattle.iobufs_owner.specs.Causes.{IsBeside, IsCaused, alone_of, any_of, capacity, capacity_in, cause_at, cause_begun, cause_gone, cause_if, cause_of}
pub use Rattle.iobufs_owner.specs.Causes.{cause_or, is_over, is_over_at, may_take, owning_of, owning_view_of, split_cause, view_of}
pub use Rattle.iobufs_owner.specs.Changes.{Outcome, block_freed, both_freed, called, counted, detached_handle, done, edited, made, next_record, on_lent, part}
pub use Rattle.iobufs_owner.specs.Changes.{record_freed, refused, replaced, state_without, tables_without, unfinished_call, with_block, with_count}
pub use Rattle.iobufs_owner.specs.Changes.{with_handle, with_record}
pub use Rattle.iobufs_owner.specs.Growing.{GrowingRuns, IsMove}
pub use Rattle.iobufs_owner.specs.Inside.{IsReady, seen_of, state_of}
pub use Rattle.iobufs_owner.specs.Kinds.{asked, is_mut, same_kind}
pub use Rattle.iobufs_owner.specs.Lending.{Lends, borrows_it, is_empty, is_lent, lend_any_of, lend_of, lend_owning_of, lend_owning_view_of, lend_view_of}
pub use Rattle.iobufs_owner.specs.LongCalls.{after_count, ended, loaded_block, ready_of, shared}
pub use Rattle.iobufs_owner.specs.Moves.{IsCarriedOut, Moves, Took, WantsRoom, begun, gone_on, moved, moved_at}
pub use Rattle.iobufs_owner.specs.Places.{Apart, ApartFrom, IsGoodPlace, IsPlace, is_good_place, is_place, is_taken, log_of}
unfoldable pub use Rattle.iobufs_owner.specs.Places.{is_power_below, log_below}
pub use Rattle.iobufs_owner.specs.Promises.{IsExclusive, IsFreed, IsOver, Promises}
pub use Rattle.iobufs_owner.specs.Reading.{has_let_go, is_freed, read_call, read_handle, read_held, reading, same_freed}
pub use Rattle.iobufs_owner.specs.Reserved.{RoomFor, blocks_of, limit, new_blocks}
pub use Rattle.iobufs_owner.specs.Runs.{EndsInFour, IsStep, Runs, ends_call, taken_after, taken_of}
pub use Rattle.iobufs_owner.specs.ShortCalls.{CanDescribe, IsLoose, advanced, declined, demote_counted, described, described_of, first_handle, fits_in}
pub use Rattle.iobufs_owner.specs.ShortCalls.{frozen, is_unique, made_block, may_demote, placed, promoted, recorded_of, tail_of, thawed, whole_view}
pub use Rattle.iobufs_owner.specs.Sound.{ArePlaced, DescribesBlock, Fits, FitsCall, FitsRecord, FitsRecordAt, FitsWord, HoldsNothing, IsAdding, IsCounted}
pub use Rattle.iobufs_owner.specs.Sound.{IsDescribed, IsInSize, IsLoading, IsRacing, IsSound, IsTripleOf, LeavesBehind, LiesIn, LogsBlocks, LogsRecords}
pub use Rattle.iobufs_owner.specs.Sound.{Shares, SpeaksOf, alone, describes, hidden, is_dead, is_descriptor, is_logged, readies, releases}
pub use Rattle.iobufs_owner.specs.State.{IsBeginning, KeepsLogs, KeepsRoom, Seen, State, Tables, base_by, block_at, block_with, call_at, end_of, fresh}
pub use Rattle.iobufs_owner.specs.State.{handle_at, owned_by, owner_by, record_at, recovered, retailed, size_in, tail_in, triple}
unfoldable pub use Rattle.iobufs_owner.specs.State.{owner_of}
pub use Rattle.iobufs_owner.specs.Steps.{ActsAt, Declines, Denied, GoesOn, GoesOnWithin, GrantedNoRoom, Makes, MayRecover, NoRoom, OnHeld, Refuses, ShareIs}
pub use Rattle.iobufs_owner.specs.Steps.{SharesOn, Steps, block_more, call_set, external_block, free_in, free_of, held_gone, held_more, held_set}
pub use Rattle.iobufs_owner.specs.Steps.{native_block, part_of, refused_at}
unfoldable pub use Rattle.iobufs_owner.specs.Steps.{Begins, Goes}
pub use Rattle.iobufs_owner.specs.Tells.{CountsTaken, IsSole, TellsUnique}
pub use Rattle.iobufs_owner.specs.Types.{Act, Add, Advance, BadPlace, Begin, Block, Borrowed, Busy, Call, Ceiling, Clone, Counted, Declined, Demote}
pub use Rattle.iobufs_owner.specs.Types.{Descriptor, Done, Drop, Empty, External, Freed, Freeze, Full, Go, Handle, Idle, IsUnique, Kind, Loaded, Made, Memory}
pub use Rattle.iobufs_owner.specs.Types.{More, Mut, New, OutOfRange, Pending, Put, Ready, Record, Refusal, Refused, Release, Reply, Room, Share, Slice}
pub use Rattle.iobufs_owner.specs.Types.{SplitTo, Static, Step, Subtract, TryIntoMut, Unique, View, Word, WrongKind}
pub use Rattle.iobufs_owner.specs.Word.{HasRoom, IsPowerOfTwo, IsWord, fits, log_of_word, size_of_word, tail_of_word, word_with_tail}
unfoldable pub use Rattle.iobufs_owner.specs.Word.{word_of}
pub use Rattle.iobufs_owner.specs.World.{Dropping, LiveHandle, Sharing, Unfinished, World, borrows, drops, going_at, held_at, holds, is_block, is_shared}
pub use Rattle.iobufs_owner.specs.World.{still_holds, tally}
unfoldable pub use Rattle.iobufs_owner.specs.World.{holders, users}
