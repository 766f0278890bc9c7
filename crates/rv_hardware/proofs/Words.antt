-- The words that most proofs cite, passed on from one place. Declares nothing.
pub use Rattle.std.proofs.Common.{◌≡◌, ℕ, zero, suc, ◌+◌, ◌-◌, ◌*◌, ◌/◌, ◌%◌, ◌^◌, ◌<◌, ◌≤◌, min, max, Bool, true}
pub use Rattle.std.proofs.Common.{false, cond, not, ◌&&◌, ◌||◌, ◌≢◌, ◌⊎◌, ◌↔◌, List, [], ◌∷◌, ◌++◌, map, length, take}
pub use Rattle.std.proofs.Common.{drop, replicate, ℤ, is_some, is_none, IfSome, if◌then◌else◌, nat_eq, nat_lt, nat_le}
pub use Rattle.std.proofs.Common.{◌==◌, slice_get, slice_index, slice_index_or, slice_set, slice_range, Some, None}
pub use Rattle.std.proofs.Common.{MatchBool, All, count_by, filter, Option, MatchOption, option_map, AllPairs}
pub use Rattle.std.proofs.Common.{option_and_then, nat_cmp, unwrap_or, sym, refl, ap, ◌∙◌, subst, ap₂, inl, inr, ⊎_elim}
pub use Rattle.std.proofs.Common.{true≢false, append_assoc, append-nil, arith, length-append, length-drop, length-set}
pub use Rattle.std.proofs.Common.{length-take, get_or-drop, take_all, get_or-set_other, get_or-take, get_or-set_same}
pub use Rattle.std.proofs.Common.{ext_get_or, ltb-false, ltb-true, le-ltb, lt-ltb, eq-eqb, ne_eqb, eqb-true, le-leb}
pub use Rattle.std.proofs.Common.{leb-false, leb-true}
pub use Rattle.std.proofs.Math.Nat.{mul-le-mul_right}
pub use Rattle.std.proofs.lemmas.Bool.{and_from, and_left, and_parts, and_right, cases_Bool, cases_eq, cases_lt}
pub use Rattle.std.proofs.lemmas.Bool.{cond-false, cond-true, eqb-false, false≢true, lt-leb, or_from, or_left, or_parts}
pub use Rattle.std.proofs.lemmas.Bool.{or_right}
pub use Rattle.std.proofs.lemmas.Bool.Decides.{nat_tests}
pub use Rattle.std.proofs.lemmas.List.{append_cancel_left, drop_all, get_or_past, length-map, length-replicate}
pub use Rattle.std.proofs.lemmas.List.{map-append, set_past}
pub use Rattle.std.proofs.lemmas.List.Elements.{All-append, All-cons, All-head, All-nil, All-tail, All-weaker}
pub use Rattle.std.proofs.lemmas.List.Elements.{filter-append}
pub use Rattle.std.proofs.lemmas.List.Folds.{list_all-append, list_any-append}
pub use Rattle.std.proofs.lemmas.List.Kept.{AllPairs-cons}
pub use Rattle.std.proofs.lemmas.List.Sums.{length-filter}
pub use Rattle.std.specs.List.{list_all, list_any, range_with_len}
pub use Rattle.std.specs.Option.{option_or}
pub use Rattle.rv_isa.proofs.WithKind.{at_kind-for_each, is_same-own, is_same-true, with_kind-each, with_kind-other}
pub use Rattle.rv_isa.proofs.WithKind.{with_kind-own}
pub use Rattle.rv_isa.specs.Arrivals.{lines_at, no_lines}
pub use Rattle.rv_isa.specs.Bytes.{bytes_of_number, number_of}
pub use Rattle.rv_isa.specs.Cause.{code_of}
pub use Rattle.rv_isa.specs.Comparison.{holds}
pub use Rattle.rv_isa.specs.Description.{IsLegal, gap_bound_of, greatest_access, greatest_latency}
pub use Rattle.rv_isa.specs.Instruction.{is_branch_or_jump, is_fence_i, is_load, is_of_kind, is_serialising, is_store}
pub use Rattle.rv_isa.specs.Instruction.{is_target, kind_of_word, sources_of_word, target_of_word}
pub use Rattle.rv_isa.specs.Operands.{sources_of, target_of, written}
pub use Rattle.rv_isa.specs.Operation.{bytes_of, immediate_operation, is_sign_extended, shift_operation, width_of}
pub use Rattle.rv_isa.specs.PerKind.{at_kind, for_each, is_same, with_kind}
pub use Rattle.rv_isa.specs.Word.{modulo_word, pc_plus, pc_plus_4, sum}
pub use Rattle.rv_isa.specs.declared.broadcast.Message.{Message}
pub use Rattle.rv_isa.specs.declared.broadcast.StoreAccess.{StoreAccess}
pub use Rattle.rv_isa.specs.declared.causes.Cause.{Cause}
pub use Rattle.rv_isa.specs.declared.causes.Cause.TheVariants.{InstructionAddressMisaligned, LoadAccessFault}
pub use Rattle.rv_isa.specs.declared.causes.Cause.TheVariants.{LoadAddressMisaligned, StoreAccessFault}
pub use Rattle.rv_isa.specs.declared.causes.Cause.TheVariants.{StoreAddressMisaligned}
pub use Rattle.rv_isa.specs.declared.causes.Fault.{Fault}
pub use Rattle.rv_isa.specs.declared.instructions.Instr.{Instr}
pub use Rattle.rv_isa.specs.declared.instructions.Instr.TheVariants.{Auipc, Branch, Csr, Ebreak, Ecall, FenceI, Jal}
pub use Rattle.rv_isa.specs.declared.instructions.Instr.TheVariants.{Jalr, Load, Lui, Mret, Op, OpImmediate, Shift}
pub use Rattle.rv_isa.specs.declared.issues.Issue.{Issue}
pub use Rattle.rv_isa.specs.declared.lines.Arrival.{Arrival}
pub use Rattle.rv_isa.specs.declared.lines.Lines.{Lines}
pub use Rattle.rv_isa.specs.declared.operations.Kind.{Kind}
pub use Rattle.rv_isa.specs.declared.operations.LoadForm.{LoadForm}
pub use Rattle.rv_isa.specs.declared.operations.Width.{Width}
pub use Rattle.rv_isa.specs.declared.per_kind.PerKind.{PerKind}
pub use Rattle.rv_isa.specs.declared.values.CacheValues.{CacheValues}
pub use Rattle.rv_isa.specs.declared.values.Recovery.TheVariants.{Commit, Early}
pub use Rattle.rv_isa.specs.declared.values.Values.{Values}
pub use Rattle.rv_decode.specs.Decodes.{Decodes, instruction_of}
pub use Rattle.rv_memory.specs.Bytes.{overwritten}
pub use Rattle.rv_memory.specs.Memory.{Layout, Memory, fetched_word, is_aligned, is_in_ram, is_writable, number_at}
pub use Rattle.rv_memory.specs.Memory.{word_of}
pub use Rattle.rv_arch.proofs.Steps.{faulted_at, illegal_at, retired_at}
pub use Rattle.rv_arch.specs.Csr.{Kept, access, access_csr, does_write, is_read_only, new_value, value_of}
pub use Rattle.rv_arch.specs.Due.{due}
pub use Rattle.rv_arch.specs.Effect.{Effect, Faults, Retires, accesses, branches, effect, extended, goes_to, jumps}
pub use Rattle.rv_arch.specs.Effect.{loads, operand_of, stores}
pub use Rattle.rv_arch.specs.Reset.{reset}
pub use Rattle.rv_arch.specs.Run.{Run, is_stale, stepped}
pub use Rattle.rv_arch.specs.State.{State, register_of, with_register, write_of}
pub use Rattle.rv_arch.specs.Step.{IsFetched, interrupted, stale, trap_taken, unfetched, word_at_pc}
pub use Rattle.rv_arch.specs.Trap.{handler_of, interrupt_cause}
pub use Rattle.rv_arch.specs.declared.outcome.Stop.{Stop}
pub use Rattle.rv_cache.proofs.Steps.{consistent_after, consistent_cleaned, consistent_new, consistent_written}
pub use Rattle.rv_cache.proofs.Steps.{dirty_after_access, memory_written}
pub use Rattle.rv_cache.proofs.Written.{get_or-overwritten_above, get_or-overwritten_below, get_or-overwritten_in}
pub use Rattle.rv_cache.proofs.Written.{length-overwritten}
pub use Rattle.rv_cache.specs.Cache.{Contents, IsAligned, access_cost, accessed_sets, cost_of_access, evicted}
pub use Rattle.rv_cache.specs.Cache.{eviction_cost, line_of, memory_after, memory_written_back, set_of}
pub use Rattle.rv_cache.specs.Consistent.{IsConsistent}
pub use Rattle.rv_cache.specs.Line.{cleaned, dirty_count, dirty_total, is_held}
pub use Rattle.rv_cache.specs.WriteBack.{Each, offset_of, victim_written}
pub use Rattle.rv_cache.specs.declared.line.CacheLine.{CacheLine}
pub use Rattle.rv_stores.specs.Queue.{forwarded, forwarded_byte, oldest_to_drain, with_oldest_draining, without_drained}
pub use Rattle.rv_stores.specs.Queue.{youngest_byte}
pub use Rattle.rv_stores.specs.Store.{access_to_drain, byte_of_state, draining, is_committed, is_committed_state}
pub use Rattle.rv_stores.specs.Store.{is_draining, is_draining_state, is_known, is_known_state, state_to_drain}
pub use Rattle.rv_stores.specs.Store.{written_at}
pub use Rattle.rv_stores.specs.declared.store.Store.{Store}
pub use Rattle.rv_stores.specs.declared.store.StorePhase.TheVariants.{Committed, Draining, Speculative}
pub use Rattle.rv_stores.specs.declared.store.StoreState.{StoreState}
pub use Rattle.rv_stores.specs.declared.store.StoreState.TheVariants.{Faulted, Filled}
pub use Rattle.rv_units.specs.Pool.{Pool, free_pool, held_for, holding, holds_unit, is_free}
pub use Rattle.rv_rob.specs.Entry.{finished, issue_of, predicting, started}
pub use Rattle.rv_rob.specs.ReorderBuffer.{ReorderBuffer, after_head, changed, entries_below, head_retired, pushed}
pub use Rattle.rv_rob.specs.ReorderBuffer.{with_entry}
pub use Rattle.rv_rob.specs.declared.entry.Entry.{Entry}
pub use Rattle.rv_rob.specs.declared.entry.Stage.{Stage}
pub use Rattle.rv_rob.specs.declared.entry.Stage.TheVariants.{Finished, Running, Waiting}
pub use Rattle.rv_front.specs.FetchBuffer.{Answers, EndsFor, FetchBuffer, Fetches, FetchesInto, IsFetchedAt, is_halted}
pub use Rattle.rv_front.specs.FetchBuffer.{stop_after, stop_for}
pub use Rattle.rv_front.specs.declared.fetched.FetchStop.{FetchStop}
pub use Rattle.rv_front.specs.declared.fetched.FetchStop.TheVariants.{Halted, Prediction, Room}
pub use Rattle.rv_front.specs.declared.fetched.Fetched.{Fetched}
pub use Rattle.rv_hardware.specs.Broadcast.{broadcast, broadcast_oldest, broadcast_result, broadcast_turn, has_result}
pub use Rattle.rv_hardware.specs.Broadcast.{is_mispredicted, mends_early, result_at, with_broadcast, with_recovery}
pub use Rattle.rv_hardware.specs.Commit.{Committing, commit, commit_turn, commit_turn_of, commit_unless, execute_head}
pub use Rattle.rv_hardware.specs.Commit.{fence_instructions, finish_broadcast, finish_head, head_turn, is_drained}
pub use Rattle.rv_hardware.specs.Commit.{retire, stop_of, take_effect, with_fault, with_write_back, write_back_time}
pub use Rattle.rv_hardware.specs.Cycle.{IsCycle, any_prediction, commit_with, execute, with_lines}
pub use Rattle.rv_hardware.specs.Dispatch.{Dispatching, dispatch, dispatch_turn, dispatch_turn_of, dispatch_unless}
pub use Rattle.rv_hardware.specs.Dispatch.{entry_of_fetched, has_full_stations, is_stationed, reason_of, stage_by}
pub use Rattle.rv_hardware.specs.Dispatch.{stall_of, with_dispatched}
pub use Rattle.rv_hardware.specs.Drain.{drain, end_drain, start_drain, with_drained}
pub use Rattle.rv_hardware.specs.Gap.{AreSilent, NoSilence, OnlyLastStops}
pub use Rattle.rv_hardware.specs.Hardware.{Hardware}
pub use Rattle.rv_hardware.specs.Headline.{ComesBefore, EndAtBreakpoints, EndAtTraps, IsTrueCycle, IsTrueRun}
pub use Rattle.rv_hardware.specs.Headline.{IsTrueStop, Lead, nowhere, onwards, reference_step}
pub use Rattle.rv_hardware.specs.InFlight.{broadcast_of, is_known_from, is_waiting, bytes_after, registers_after}
pub use Rattle.rv_hardware.specs.InFlight.{store_of_broadcast, store_of_message, stores_of, with_store, with_value}
pub use Rattle.rv_hardware.specs.InFlight.{writes}
pub use Rattle.rv_hardware.specs.Issue.{FromCache, FromStores, Path, Without, cost_of, has_operands, has_port, is_ready}
pub use Rattle.rv_hardware.specs.Issue.{issue, issue_kind, issue_oldest, issue_turn, issued, may_load, oldest}
pub use Rattle.rv_hardware.specs.Issue.{oldest_from, path, path_of, with_access, with_start}
pub use Rattle.rv_hardware.specs.Laws.{AreApartAtPort, AreCounted, DoesNotWait, EachProducer, FitUnits, HasCost}
pub use Rattle.rv_hardware.specs.Laws.{HasOperandsIn, HasOrderedStamps, IsBetween, IsBroadcastFirst, IsCost}
pub use Rattle.rv_hardware.specs.Laws.{IsFetchedAhead}
pub use Rattle.rv_hardware.specs.Laws.{IsFetchedAfter, IsFetchedSince, IsFirst, IsKnownBefore, IsLoadCost}
pub use Rattle.rv_hardware.specs.Laws.{IsNextWord}
pub use Rattle.rv_hardware.specs.Laws.{IsTrappedSoon, IssuesWithOperands, LacksRoom, Laws, LeaveNoUnitIdle}
pub use Rattle.rv_hardware.specs.Laws.{FencesAfterStore, LeavesNoBusIdle, LeavesNoUnitIdle, LoadsAfterStore}
pub use Rattle.rv_hardware.specs.Laws.{NeverMoreThan}
pub use Rattle.rv_hardware.specs.Laws.{TakesDueInterrupts, WaitsForBus, WaitsForRoom, WaitsForUnits, dispatch_cycles}
pub use Rattle.rv_hardware.specs.Laws.{is_pipelined, stall_cycles, stations_of, units_of}
pub use Rattle.rv_hardware.specs.Repeated.{Ends, GoesOn, Turn, followed_by, repeated}
pub use Rattle.rv_hardware.specs.Report.{Report, counted}
pub use Rattle.rv_hardware.specs.Reset.{IsLoadable, memory_at_reset, reset_hardware}
pub use Rattle.rv_hardware.specs.Result.{access_of, effect_message, fault_message, result_in, result_of_word}
pub use Rattle.rv_hardware.specs.Result.{value_written}
pub use Rattle.rv_hardware.specs.Retirement.{committed_store, execution_of, row_of, stale_after, with_result}
pub use Rattle.rv_hardware.specs.Retirement.{written_of}
pub use Rattle.rv_hardware.specs.Run.{Cycles, EndsWith, IsStop, NoneStops, Reachable, at_reset, busy_of, by_cycle}
pub use Rattle.rv_hardware.specs.Run.{counted_stall, cycled, ended, is_silent, longest_gap_from, longest_gap_of}
pub use Rattle.rv_hardware.specs.Run.{stalls_from, stalls_of, steps_of}
pub use Rattle.rv_hardware.specs.Seen.{layout_of, seen, state_after, stores_after, with_state}
pub use Rattle.rv_hardware.specs.Squash.{flushed, redirected, with_trap}
pub use Rattle.rv_hardware.specs.Stamps.{EachAfter, EachNext, flushes, instruction_of_row, is_broadcast_in}
pub use Rattle.rv_hardware.specs.Stamps.{is_buffered_in, is_dispatched_in, is_executing_in, is_fetched_in}
pub use Rattle.rv_hardware.specs.Stamps.{is_in_flight_in, is_issued_in, is_load_row, is_queued_in, is_row_of_kind}
pub use Rattle.rv_hardware.specs.Stamps.{is_stationed_in, is_fence_i_row, is_store_row, last_from, last_that}
pub use Rattle.rv_hardware.specs.Stamps.{needs_no_unit, passes}
pub use Rattle.rv_hardware.specs.Stamps.{producer_among, rows_of, sources_of_row, steps_below, steps_in, uses_port}
pub use Rattle.rv_hardware.specs.Stamps.{writes_register}
pub use Rattle.rv_hardware.specs.Step.{is_breakpoint, is_breakpoint_cause, is_interrupt, is_retirement, pc_of, stamp_of}
pub use Rattle.rv_hardware.specs.declared.report.Stall.{Stall}
pub use Rattle.rv_hardware.specs.declared.step.Execution.{Execution}
pub use Rattle.rv_hardware.specs.declared.step.Row.{Row}
pub use Rattle.rv_hardware.specs.declared.step.Step.{Step}
pub use Rattle.rv_hardware.specs.declared.step.Step.TheVariants.{Interrupt, Retired, Trap}
pub use Rattle.rv_hardware.proofs.Tests.{by_test, and_first, and_second, not_both, never_both}
pub use Rattle.rv_hardware.proofs.Each.{each_moves, each_image, each_then, All-Each, Each-All, All-right, Each-append}
pub use Rattle.rv_hardware.proofs.Each.{Each-left, Each-right, Each-push}
pub use Rattle.rv_hardware.proofs.Each.{Each-change, Each-set, Each-place, Each-weaker, Each-all, Each-both, Each-map}
pub use Rattle.rv_hardware.proofs.Each.{Each-images, Each-unmap, Each-filter, map-change}
pub use Rattle.rv_hardware.proofs.Lists.{pair_moves, after_moves, EveryPair, EveryAfter, count, Beginning}
pub use Rattle.rv_hardware.proofs.Lists.{AllPairs-EveryPair, Across}
pub use Rattle.rv_hardware.proofs.Lists.{EveryPair-append, EveryPair-left, EveryPair-right, EveryPair-across}
pub use Rattle.rv_hardware.proofs.Lists.{EveryPair-weaker, EveryPair-map, EveryPair-unmap, EveryPair-set}
pub use Rattle.rv_hardware.proofs.Lists.{count-count_by, count-append, count-none, count-yes, count-map, count-le}
pub use Rattle.rv_hardware.proofs.Lists.{count-length, count-set-same, count-set-more, count-set-grows}
pub use Rattle.rv_hardware.proofs.Lists.{count-set-one_more, count-set-less, count-push, count-push-no, count-push-most}
pub use Rattle.rv_hardware.proofs.Lists.{count-left, Beginning-self, Beginning-trans, Beginning-count, EveryAfter-left}
pub use Rattle.rv_hardware.proofs.Lists.{EveryAfter-append, EveryAfter-right, Beginning-EveryAfter, EveryAfter-moved}
pub use Rattle.rv_hardware.proofs.Lists.{EveryAfter-all, EveryAfter-set, EveryAfter-at, EachAfter-EveryAfter}
pub use Rattle.rv_hardware.proofs.Lists.{EveryAfter-unmap, EveryAfter-weaker, EveryAfter-both, EveryPair-EveryAfter}
pub use Rattle.rv_hardware.proofs.Lists.{EveryAfter-EveryPair}
pub use Rattle.rv_hardware.proofs.Repeated.{Leads, Leaves, leads_both, left_by_the_rest, turns_within, left_by_turns}
pub use Rattle.rv_hardware.proofs.Repeated.{kept_by_turns, always}
