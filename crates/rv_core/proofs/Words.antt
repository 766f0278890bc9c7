-- The words that most proofs cite, passed on from one place. Declares nothing.
pub use Rattle.rv_hardware.proofs.Words.{◌≡◌, ℕ, zero, suc, ◌+◌, ◌-◌, ◌*◌, ◌%◌, ◌^◌, ◌<◌, ◌≤◌, max, Bool, true, false}
pub use Rattle.rv_hardware.proofs.Words.{cond, not, ◌&&◌, ◌||◌, ◌≢◌, ◌⊎◌, List, [], ◌∷◌, ◌++◌, map, length, take, drop}
pub use Rattle.rv_hardware.proofs.Words.{replicate, ℤ, is_some, IfSome, if◌then◌else◌, nat_eq, nat_lt, nat_le, ◌==◌}
pub use Rattle.rv_hardware.proofs.Words.{slice_get, slice_index, slice_index_or, slice_range, Some, None, All, filter}
pub use Rattle.rv_hardware.proofs.Words.{Option, option_map, AllPairs, option_and_then, nat_cmp, unwrap_or, sym, refl}
pub use Rattle.rv_hardware.proofs.Words.{ap, ◌∙◌, subst, inl, inr, true≢false, append_assoc, append-nil, arith}
pub use Rattle.rv_hardware.proofs.Words.{length-append, length-set, get_or-set_other, get_or-set_same, le-ltb, lt-ltb}
pub use Rattle.rv_hardware.proofs.Words.{eq-eqb, ne_eqb, eqb-true, le-leb, leb-false, leb-true, and_from, and_parts}
pub use Rattle.rv_hardware.proofs.Words.{and_right, cases_Bool, cases_eq, cases_lt, cond-false, cond-true, eqb-false}
pub use Rattle.rv_hardware.proofs.Words.{false≢true, lt-leb, or_parts, length-replicate, map-append, All-append}
pub use Rattle.rv_hardware.proofs.Words.{All-cons, All-head, All-tail, filter-append, AllPairs-cons, list_all, list_any}
pub use Rattle.rv_hardware.proofs.Words.{option_or, is_same-own, lines_at, bytes_of_number, number_of, IsLegal}
pub use Rattle.rv_hardware.proofs.Words.{is_branch_or_jump, is_load, is_of_kind, is_serialising, is_store, is_target}
pub use Rattle.rv_hardware.proofs.Words.{kind_of_word, sources_of_word, target_of_word, sources_of, target_of, written}
pub use Rattle.rv_hardware.proofs.Words.{bytes_of, is_sign_extended, width_of, at_kind, for_each, is_same, with_kind}
pub use Rattle.rv_hardware.proofs.Words.{modulo_word, pc_plus_4, sum, Message, StoreAccess, Cause, Fault, Instr, Auipc}
pub use Rattle.rv_hardware.proofs.Words.{Csr, Ebreak, Ecall, FenceI, Jal, Jalr, Load, Lui, Mret, Op, OpImmediate, Shift}
pub use Rattle.rv_hardware.proofs.Words.{Issue, Arrival, Lines, Kind, LoadForm, Width, PerKind, CacheValues, Values}
pub use Rattle.rv_hardware.proofs.Words.{instruction_of, overwritten, Layout, Memory, is_aligned, is_in_ram}
pub use Rattle.rv_hardware.proofs.Words.{is_writable, number_at, word_of, due, Effect, Faults, Retires, effect}
pub use Rattle.rv_hardware.proofs.Words.{extended, goes_to, loads, stores, State, register_of, with_register, Stop}
pub use Rattle.rv_hardware.proofs.Words.{get_or-overwritten_above, get_or-overwritten_below, get_or-overwritten_in}
pub use Rattle.rv_hardware.proofs.Words.{length-overwritten, Contents, IsAligned, access_cost, accessed_sets}
pub use Rattle.rv_hardware.proofs.Words.{cost_of_access, CacheLine, forwarded, oldest_to_drain, with_oldest_draining}
pub use Rattle.rv_hardware.proofs.Words.{without_drained, youngest_byte, access_to_drain, byte_of_state, draining}
pub use Rattle.rv_hardware.proofs.Words.{is_committed, is_committed_state, is_draining, is_known as is_known_store}
pub use Rattle.rv_hardware.proofs.Words.{written_at, Store, Committed, Draining, Speculative, StoreState, Faulted}
pub use Rattle.rv_hardware.proofs.Words.{Filled, Pool as UnitPool, is_free, finished, predicting, started}
pub use Rattle.rv_hardware.proofs.Words.{ReorderBuffer, after_head, changed, entries_below, head_retired, pushed}
pub use Rattle.rv_hardware.proofs.Words.{with_entry, Entry, Stage, Finished, Running, Waiting, Answers, FetchBuffer}
pub use Rattle.rv_hardware.proofs.Words.{FetchesInto, FetchStop, Fetched, broadcast, broadcast_oldest, broadcast_result}
pub use Rattle.rv_hardware.proofs.Words.{broadcast_turn, has_result, is_mispredicted, mends_early, result_at}
pub use Rattle.rv_hardware.proofs.Words.{with_broadcast, with_recovery, Committing, commit, commit_turn, commit_turn_of}
pub use Rattle.rv_hardware.proofs.Words.{commit_unless, execute_head, fence_instructions, finish_broadcast, head_turn}
pub use Rattle.rv_hardware.proofs.Words.{is_drained, stop_of, with_write_back, write_back_time, IsCycle, any_prediction}
pub use Rattle.rv_hardware.proofs.Words.{commit_with, execute, with_lines, Dispatching, dispatch, dispatch_turn}
pub use Rattle.rv_hardware.proofs.Words.{entry_of_fetched, has_full_stations, is_stationed, reason_of, stage_by}
pub use Rattle.rv_hardware.proofs.Words.{stall_of, end_drain, start_drain, with_drained, OnlyLastStops, Hardware}
pub use Rattle.rv_hardware.proofs.Words.{IsTrueStop, broadcast_of, is_known_from, is_waiting, bytes_after}
pub use Rattle.rv_hardware.proofs.Words.{registers_after, store_of_broadcast, store_of_message, stores_of, with_value}
pub use Rattle.rv_hardware.proofs.Words.{FromCache, FromStores, Path, Without, cost_of, has_operands, has_port}
pub use Rattle.rv_hardware.proofs.Words.{is_ready as is_ready_entry, issue_kind, issue_oldest, issue_turn, issued}
pub use Rattle.rv_hardware.proofs.Words.{may_load, oldest, oldest_from, path, path_of as path_of_word, with_access}
pub use Rattle.rv_hardware.proofs.Words.{with_start, Ends, GoesOn, Turn, followed_by, repeated, Report, memory_at_reset}
pub use Rattle.rv_hardware.proofs.Words.{reset_hardware, effect_message, fault_message, result_in, result_of_word}
pub use Rattle.rv_hardware.proofs.Words.{committed_store, row_of, with_result, written_of, IsStop, NoneStops, Reachable}
pub use Rattle.rv_hardware.proofs.Words.{at_reset, busy_of, by_cycle, counted_stall, is_silent, longest_gap_from}
pub use Rattle.rv_hardware.proofs.Words.{stalls_from, stalls_of, steps_of, layout_of, seen, state_after, stores_after}
pub use Rattle.rv_hardware.proofs.Words.{flushed, redirected, is_breakpoint_cause, pc_of, All-Each, All-right}
pub use Rattle.rv_hardware.proofs.Words.{Each-weaker, Leads, turns_within}
pub use Rattle.std.proofs.Common.{Err, IfOk, IsSome, IsTrue, MatchResult, Ok, Result, find, vec_capacity}
pub use Rattle.std.proofs.Math.Bool.{and-true, or-false, or-true}
pub use Rattle.std.proofs.Math.Nat.{le-max_left, le-max_right, max-eq_right, max-le}
pub use Rattle.std.proofs.lemmas.List.{drop-replicate, drop_more, get_or_append_left}
pub use Rattle.std.proofs.lemmas.List.Edits.{get_or-between, length-between}
pub use Rattle.std.proofs.lemmas.List.Elements.{All-drop, All-push}
pub use Rattle.std.proofs.lemmas.List.Quantifiers.{all_pairs_push}
pub use Rattle.std.proofs.lemmas.List.Sums.{count_by-le-length, sum_by-append}
pub use Rattle.std.proofs.lemmas.Option.{slice_get-get_or, slice_get_past}
pub use Rattle.std.specs.List.{fold, sum_by}
pub use Rattle.std.specs.Option.{option_copied}
pub use Rattle.rv_isa.specs.Description.{IsLegalCost}
pub use Rattle.rv_isa.specs.Numbered.{AreBelow, below}
pub use Rattle.rv_isa.specs.Operands.{kind_of}
pub use Rattle.rv_isa.specs.PerKind.{by_kind}
pub use Rattle.rv_isa.specs.declared.operations.Kind.TheVariants.{Alu, Div, Mem, Mul}
pub use Rattle.rv_isa.specs.declared.operations.Width.TheVariants.{Byte, Half, Word}
pub use Rattle.rv_isa.specs.declared.values.KindValues.{KindValues}
pub use Rattle.rv_isa.proofs.Numbered.{AreBelow-append, AreBelow-head, AreBelow-push, AreBelow-tail, AreBelow-weaken}
pub use Rattle.rv_isa.proofs.Numbered.{below-all, below-append, below-goes, below-none, below-split}
pub use Rattle.rv_isa.proofs.WithKind.{at_kind-by_kind, by_kind-same, with_kind-back, with_kind-by_kind}
pub use Rattle.rv_memory.specs.Memory.{byte_seen}
pub use Rattle.rv_memory.specs.Stale.{StaleWords, is_covered}
pub use Rattle.rv_arch.specs.Effect.{writes}
pub use Rattle.rv_arch.specs.declared.outcome.Stop.TheVariants.{Exhausted, Limit, Stale}
pub use Rattle.rv_cache.specs.Cache.{IsAccess, IsCached, seen_after}
pub use Rattle.rv_cache.proofs.Divided.{base_divides, line_divides}
pub use Rattle.rv_stores.specs.Queue.{CanEnter, Queue, first_unknown, is_oldest_draining, older_than}
pub use Rattle.rv_stores.specs.Queue.{with_oldest_retired}
pub use Rattle.rv_stores.specs.Store.{answered}
pub use Rattle.rv_stations.specs.Pool.{Pool, empty_pool, issued as taken_from, squashed as squashed_pool, with_waiting}
pub use Rattle.rv_stations.specs.Pool.{woken_pool}
pub use Rattle.rv_stations.specs.Waiting.{has_value, is_ready as is_ready_station, oldest_ready, ready_of, ready_with}
pub use Rattle.rv_stations.specs.Waiting.{without_oldest_ready, woken, woken_operand}
pub use Rattle.rv_stations.specs.declared.waiting.Operand.{Operand}
pub use Rattle.rv_stations.specs.declared.waiting.Operand.TheVariants.{Tag, Value}
pub use Rattle.rv_stations.specs.declared.waiting.Ready.{Ready}
pub use Rattle.rv_stations.specs.declared.waiting.Waiting.{Waiting as Station}
pub use Rattle.rv_units.specs.Bus.{Pending, empty_bus, granted_one, holds, is_ready as is_ready_result, placed, seq_of}
pub use Rattle.rv_units.specs.Bus.{squashed as squashed_bus, without_first_ready}
pub use Rattle.rv_units.specs.Pool.{started as started_unit}
pub use Rattle.rv_units.specs.declared.bus.PendingResult.{PendingResult}
pub use Rattle.rv_rename.specs.Renaming.{CanCheckpoint, CanDefine, Checkpoint, Renaming, checkpoint_without_oldest}
pub use Rattle.rv_rename.specs.Renaming.{cleared, empty, producers_at, restored, retired, without_checkpoint}
pub use Rattle.rv_rename.specs.Renaming.{without_oldest, youngest}
pub use Rattle.rv_rename.specs.declared.producer.Producer.{Producer}
pub use Rattle.rv_rob.specs.ReorderBuffer.{cut_from, entry_of, next_number}
pub use Rattle.rv_front.specs.Guide.{AreTaught, Guide, after_lesson}
pub use Rattle.rv_front.specs.Lesson.{Lesson}
pub use Rattle.rv_hardware.specs.Broadcast.{broadcast_entry}
pub use Rattle.rv_hardware.specs.Guided.{GuidedCycles, GuidedHardware, IsGuidedCycle, cycled as guided_cycled}
pub use Rattle.rv_hardware.specs.Guided.{ended as guided_ended, guided}
pub use Rattle.rv_hardware.specs.History.{History, Moment, cycled, ended, reports_of}
pub use Rattle.rv_hardware.specs.InFlight.{is_known}
pub use Rattle.rv_hardware.specs.Issue.{path_of_load}
pub use Rattle.rv_hardware.specs.Lessons.{first_pc, lesson_of, lessons_of}
pub use Rattle.rv_hardware.specs.declared.report.Stall.{Stall}
pub use Rattle.rv_hardware.specs.declared.report.StallCounts.{StallCounts}
pub use Rattle.rv_hardware.specs.declared.step.Step.{Step}
pub use Rattle.rv_core.specs.Access.{IsAfter, IsOverRam, LieIn, LiesIn, cache_after, defined_path, load_path, path_cost}
pub use Rattle.rv_core.specs.Access.{port_after}
pub use Rattle.rv_core.specs.Entering.{are_full_for, with_instruction, with_jump, with_station, with_store, with_target}
pub use Rattle.rv_core.specs.Execution.{Reads, is_operation, operand_value}
pub use Rattle.rv_core.specs.HeadTurn.{IsHead, IsKept, IsTurn, and_step, committing, instruction_of_access}
pub use Rattle.rv_core.specs.HeadTurn.{lessons_left, role_of, stop_after, stop_with, turn_ended, turn_left}
pub use Rattle.rv_core.specs.Load.{bytes_over, goes, is_forwarded, is_known_before, load_fault, may_go, needs_port}
pub use Rattle.rv_core.specs.Load.{path_of, path_unless, store_fault}
pub use Rattle.rv_core.specs.Parts.{IsSound, hardware_of}
pub use Rattle.rv_watch.specs.Progress.{IsBounded, IsCommitStop, IsNextCycle}
pub use Rattle.rv_watch.specs.Progress.{last_stall_of, progress_after, progress_of}
pub use Rattle.rv_watch.specs.Progress.{silence_after, silence_from}
pub use Rattle.rv_core.specs.Reached.{IsBegun}
pub use Rattle.rv_core.specs.Retiring.{registers_with, with_commit, without_target}
pub use Rattle.rv_core.specs.RunDone.{IsCutShort, IsDone, IsOutcome, IsRun, KeepsPromise}
pub use Rattle.rv_core.specs.RunDone.{reported, reported_so_far, reported_with}
pub use Rattle.rv_core.specs.Soundness.{AreSoundEntries, AreSoundStores, IsDecoded, IsDescribedCache, IsLegalAccess}
pub use Rattle.rv_core.specs.Soundness.{IsLegalWrite, IsRetiredStore, IsSoundEntry, IsSoundHardware, message_of}
pub use Rattle.rv_core.specs.Ties.{AreTied, bus_of, checkpoints_of, operand_of, pending_from, pending_of, pool_of_kind}
pub use Rattle.rv_core.specs.Ties.{producer_of, producers_of, producers_with, renaming_of, stations_of, waiting_at}
pub use Rattle.rv_core.specs.Ties.{waiting_from, waiting_of}
pub use Rattle.rv_watch.specs.Queue.{queue_of}
pub use Rattle.rv_watch.specs.Registers.{RegisterStatus, operand_by, status_after, status_with, values_in}
pub use Rattle.rv_core.specs.Reported.{dispatch_left, dispatching, report_of_cycle, report_with}
pub use Rattle.rv_core.specs.Turns.{turn_of}
pub use Rattle.rv_watch.specs.Watching.{HaveFewSteps, IsEnd, IsShown, IsWatchedRun, Sight, Watched, watched}
pub use Rattle.rv_core.specs.declared.errors.OutOfMemory.{OutOfMemory}
pub use Rattle.rv_core.specs.declared.head.CsrAccess.{CsrAccess}
pub use Rattle.rv_core.specs.declared.head.HeadTurn.{HeadTurn}
pub use Rattle.rv_core.specs.declared.head.Role.TheVariants.{WaitsForResult}
pub use Rattle.rv_core.specs.declared.outcome.Outcome.{Outcome}
pub use Rattle.rv_watch.specs.declared.progress.Progress.{Progress}
pub use Rattle.rv_core.specs.declared.parts.Parts.TheInside.{Inside}
