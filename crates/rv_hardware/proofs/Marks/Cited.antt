-- What other proofs cite of turns, of what always holds and of marks, passed on from one place. Declares nothing.
pub use Rattle.rv_hardware.proofs.Turns.Cited.{with_entries, longest_access, longest_execution, longest_write_back}
pub use Rattle.rv_hardware.proofs.Turns.Cited.{access_cost-most, access_cost-least, IsReady, ready-parts, IsKeptByIssue}
pub use Rattle.rv_hardware.proofs.Turns.Cited.{starts-keep, issue_turn-keeps, issue_kind-keeps, issue-by, issue-keeps}
pub use Rattle.rv_hardware.proofs.Turns.Cited.{with_mended, IsMadeByBroadcast, IsKeptByBroadcast, sends-makes}
pub use Rattle.rv_hardware.proofs.Turns.Cited.{mends-makes, broadcast_turn-keeps, broadcast-keeps, IsKeptByDispatch}
pub use Rattle.rv_hardware.proofs.Turns.Cited.{dispatch_turns-keep, dispatch-keeps, IsKeptByDrain, drain-keeps}
pub use Rattle.rv_hardware.proofs.Turns.Cited.{SameButPort, drain-same, IsKeptByCommit, commit-keeps, execute-keeps}
pub use Rattle.rv_hardware.proofs.Turns.Cited.{phases-keep, SameAs, same-kept, fetch-cases, IsNew, starts, IssueTurn}
pub use Rattle.rv_hardware.proofs.Turns.Cited.{no_unit, none_ready, issue_turn_is, access_keeps, message_at}
pub use Rattle.rv_hardware.proofs.Turns.Cited.{started_entries, HasRun, Sends, BroadcastTurn, no_result, sends, mends}
pub use Rattle.rv_hardware.proofs.Turns.Cited.{broadcast_turn_is, sent_entries, mended_entries, dispatches}
pub use Rattle.rv_hardware.proofs.Turns.Cited.{has_full_queue, waits, WaitsFor, for_serial, for_buffer, for_station}
pub use Rattle.rv_hardware.proofs.Turns.Cited.{for_queue, DispatchTurn, buffer_empty, dispatch_turn_is, retires}
pub use Rattle.rv_hardware.proofs.Turns.Cited.{executes, Head, written_back, executed, retired_with}
pub use Rattle.rv_hardware.proofs.Turns.Cited.{retired_and_flushed, head_retired_entries, unfinished, traps, CommitTurn}
pub use Rattle.rv_hardware.proofs.Turns.Cited.{drained_none}
pub use Rattle.rv_hardware.proofs.Turns.Cited.{no_head, stale_head, fence_waits, fence_writes, fence_retires}
pub use Rattle.rv_hardware.proofs.Turns.Cited.{serial_faults, retires_last, commit_turn_is}
pub use Rattle.rv_hardware.proofs.Always.Sizes.{HasShape, HasSizes, sizes-kept}
pub use Rattle.rv_hardware.proofs.Always.Sets.{HasRoom, write_back_time-most, clean-after, room-kept}
pub use Rattle.rv_hardware.proofs.Always.Queue.{CanDrain, IsQueue, HasQueue, queue_of_all}
pub use Rattle.rv_hardware.proofs.Always.Entries.{IsShaped, Shaped, message_at_end}
pub use Rattle.rv_hardware.proofs.Always.Executions.{EndsBy, Ending, AreEnding}
pub use Rattle.rv_hardware.proofs.Always.Units.{HoldsUntil, AreHeld}
pub use Rattle.rv_hardware.proofs.Always.Stores.{instructions_of, store_count}
pub use Rattle.rv_hardware.proofs.Always.Serial.{AreSerialLast, alone, older_plain, cut_serial}
pub use Rattle.rv_hardware.proofs.Always.Halted.{words_of, HaltsAfter, runs-empty, IsHalted, halted-kept}
pub use Rattle.rv_hardware.proofs.Always.Sound.{IsBounded, sound-cycle, sound}
pub use Rattle.rv_hardware.proofs.Marks.List.{marks, older_marks, Start, Mark, start_of_execution}
pub use Rattle.rv_hardware.proofs.Marks.List.{broadcast_of_execution}
pub use Rattle.rv_hardware.proofs.Marks.List.{mark_of_row, start_of_issue, start_of_stage, broadcast_of_stage}
pub use Rattle.rv_hardware.proofs.Marks.List.{mark_of_entry, mark_of_fetched, marks_in, until, start_until, at_end}
pub use Rattle.rv_hardware.proofs.Marks.List.{was_fetched, as_of, Extends, marks_append, rows_append, as_of-cons}
pub use Rattle.rv_hardware.proofs.Marks.List.{until_by, until_now, start_until_now, marks_at_entry}
pub use Rattle.rv_hardware.proofs.Marks.Advance.{IsBefore, writes_mark, IsKnownMark, OperandsKnown, IsSentIfReady}
pub use Rattle.rv_hardware.proofs.Marks.Advance.{is_in_flight_mark, is_stationed_mark, Starts, IsSent, Advances}
pub use Rattle.rv_hardware.proofs.Marks.Advance.{mark_retires, mark_starts, mark_is_sent, mark_enters, Kept}
pub use Rattle.rv_hardware.proofs.Marks.Advance.{advances_agree, each_is_kept, after_is_kept}
pub use Rattle.rv_hardware.proofs.Marks.Evidence.{last_from-append, last_from-Each, entries_sent, rows_sent}
pub use Rattle.rv_hardware.proofs.Marks.Sound.{SoundStage, SoundEntry, SoundFetched, kind_is_plain, serial_has_no_kind}
pub use Rattle.rv_hardware.proofs.Marks.Sound.{is_of_kind_is, some_kind, row_decodes, positive_cost}
pub use Rattle.rv_hardware.proofs.Marks.Row.{SoundRow, row_at, MayRetire, may_retire_serial, may_retire_finished}
pub use Rattle.rv_hardware.proofs.Marks.Row.{retiring_is_one}
pub use Rattle.rv_hardware.proofs.Marks.Basics.{is_waiting_is, finished_mark, dispatched_mark}
pub use Rattle.rv_hardware.proofs.Marks.Phases.{Goes, Commits, commit_turn_keeps, Issues, start_is, issue_turn_keeps}
pub use Rattle.rv_hardware.proofs.Marks.Phases.{issue_kind_keeps, Broadcasts, send_is, broadcast_turn_keeps}
pub use Rattle.rv_hardware.proofs.Marks.Phases.{broadcast_keeps, dispatch_keeps, before_broadcast, before_dispatch}
pub use Rattle.rv_hardware.proofs.Marks.Phases.{with_marks}
pub use Rattle.rv_hardware.proofs.Marks.History.{committing, drained, issued_all, sent_all, dispatching, Passed, begin}
pub use Rattle.rv_hardware.proofs.Marks.History.{cycle_passes, History, began, went_on, history_is_legal, Anything}
pub use Rattle.rv_hardware.proofs.Marks.History.{anything_is_kept, history_is_sound, history_passes, is_buffered_mark}
pub use Rattle.rv_hardware.proofs.Marks.History.{KeptMarks, buffered_words, new_words, marks_of_history}
pub use Rattle.rv_hardware.proofs.Marks.History.{reachable_has_history}
pub use Rattle.rv_hardware.proofs.Marks.Past.{as_of_now, marks_settled, rows_obey, rows_obey_after}
pub use Rattle.rv_hardware.proofs.Marks.Order.{IsDispatchedFirst, history_is_orderly}
pub use Rattle.rv_hardware.proofs.Marks.Counted.{count-as_of, Shows, fails_later, counted_law, after_law, after_count}
pub use Rattle.rv_hardware.proofs.Marks.Widths.{is_at, count_marks, count_in_flight}
pub use Rattle.rv_hardware.proofs.Marks.Pairs.{row_pairs, rows_start_after, writer_serialises, Older, two_after}
pub use Rattle.rv_hardware.proofs.Marks.Pairs.{rows_are_older}
pub use Rattle.rv_hardware.proofs.Marks.Keeps.{InCommit, commit_turns_keep, InCycle, starts_in_cycle, IsKeptInCycle}
pub use Rattle.rv_hardware.proofs.Marks.Keeps.{in_cycle}
