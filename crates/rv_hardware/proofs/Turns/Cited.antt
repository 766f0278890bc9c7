-- What other proofs cite of the turns, passed on from one place. Declares nothing.
pub use Rattle.rv_hardware.proofs.Turns.Forms.{with_entries, longest_access, longest_execution, longest_write_back}
pub use Rattle.rv_hardware.proofs.Turns.Forms.{IsResultOfWord}
pub use Rattle.rv_hardware.proofs.Turns.Costs.{access_cost-most, access_cost-least}
pub use Rattle.rv_hardware.proofs.Turns.KeptByIssue.{IsReady, ready-parts, IsKeptByIssue, KeepsStarts, starts-keep}
pub use Rattle.rv_hardware.proofs.Turns.KeptByIssue.{issue_turn-keeps, issue_kind-keeps, issue-by, issue-keeps}
pub use Rattle.rv_hardware.proofs.Turns.KeptByBroadcast.{with_mended, IsMadeByBroadcast, IsKeptByBroadcast, sends-makes}
pub use Rattle.rv_hardware.proofs.Turns.KeptByBroadcast.{mends-makes, broadcast_turn-keeps, broadcast-keeps}
pub use Rattle.rv_hardware.proofs.Turns.KeptByDispatch.{IsKeptByDispatch, dispatch_turns-keep, dispatch-keeps}
pub use Rattle.rv_hardware.proofs.Turns.KeptByDrain.{IsKeptByDrain, drain-keeps, SameButPort, drain-same}
pub use Rattle.rv_hardware.proofs.Turns.KeptByCommit.{IsKeptByCommit, commit_outcome-keeps, unless-keeps, commit-keeps}
pub use Rattle.rv_hardware.proofs.Turns.Changes.{all_squashed, head_retires, cache_written, store_drained, store_drains}
pub use Rattle.rv_hardware.proofs.Turns.Changes.{load_accesses, one_starts, one_sent, one_mended, one_enters}
pub use Rattle.rv_hardware.proofs.Turns.Changes.{IsKeptByChanges}
pub use Rattle.rv_hardware.proofs.Turns.KeptByCycle.{IsKept, phases-kept, execute-keeps, phases-keep, SameAs, same-kept}
pub use Rattle.rv_hardware.proofs.Turns.KeptByCycle.{cycle-keeps}
pub use Rattle.rv_hardware.proofs.Turns.Fetch.{fetch-cases, IsNew, FetchPhase, fetch_phase}
pub use Rattle.rv_hardware.proofs.Turns.Issue.{starts, IssueTurn, no_unit, none_ready, issue_turn_is, access_keeps}
pub use Rattle.rv_hardware.proofs.Turns.Issue.{message_at, started_entries}
pub use Rattle.rv_hardware.proofs.Turns.Broadcast.{HasRun, Sends, BroadcastTurn, no_result, sends, mends}
pub use Rattle.rv_hardware.proofs.Turns.Broadcast.{broadcast_turn_is, sent_entries, mended_entries}
pub use Rattle.rv_hardware.proofs.Turns.Dispatch.{dispatches, is_any_serialising, has_full_queue, WaitsForNothing}
pub use Rattle.rv_hardware.proofs.Turns.Dispatch.{waits, WaitsFor, for_serial, for_buffer, for_station, for_queue}
pub use Rattle.rv_hardware.proofs.Turns.Dispatch.{DispatchTurn, buffer_empty, dispatch_turn_is}
pub use Rattle.rv_hardware.proofs.Turns.Commit.{retires, executes, Head, written_back, executed, retired_with}
pub use Rattle.rv_hardware.proofs.Turns.Commit.{retired_and_flushed, head_retired_entries, unfinished, traps}
pub use Rattle.rv_hardware.proofs.Turns.Commit.{CommitTurn, drained_none, no_head, stale_head, fence_waits}
pub use Rattle.rv_hardware.proofs.Turns.Commit.{fence_writes}
pub use Rattle.rv_hardware.proofs.Turns.Commit.{fence_retires, serial_faults, retires_last, commit_turn_is}
