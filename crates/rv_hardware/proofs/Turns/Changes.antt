-- One view of what the phases of a cycle change, one thing after another.
use Rattle.rv_hardware.proofs.Words.{◌≡◌, ℕ, ◌≤◌, true, List, [], ◌∷◌, ◌++◌, nat_le, Some, None, is_of_kind}
use Rattle.rv_hardware.proofs.Words.{kind_of_word, Message, StoreAccess, Lines, Kind, State, oldest_to_drain, finished}
use Rattle.rv_hardware.proofs.Words.{predicting, Entry, Fetched, is_drained, with_write_back, with_lines}
use Rattle.rv_hardware.proofs.Words.{with_dispatched, end_drain, with_drained, Hardware, broadcast_of, is_waiting}
use Rattle.rv_hardware.proofs.Words.{FromCache, is_ready, path, with_access}
use Rattle.rv_hardware.proofs.Turns.Broadcast.{HasRun}
use Rattle.rv_hardware.proofs.Turns.Dispatch.{WaitsForNothing}
use Rattle.rv_hardware.proofs.Turns.Forms.{emptied, longest_execution, with_entries, with_started, without_head}
use Rattle.rv_hardware.proofs.Turns.Forms.{IsResultOfWord}
use Rattle.rv_hardware.proofs.Turns.KeptByBroadcast.{with_mended}

-- new line levels, and what the commit, drain, issue, broadcast and dispatch phases do at one time
pub data Change (h : Hardware) : Hardware → Type 0 where
  new_levels : (levels : Lines) → Change h (with_lines levels h)
  all_squashed : (s : State) (retired : ℕ) → Change h (emptied s retired h)
  head_retires : (e : Entry) (es : List Entry) (s : State) (message : Message) → h.rob.entries ≡ e ∷ es →
      broadcast_of e.stage ≡ Some message → message.fault ≡ None → Change h (without_head s message.store es h)
  cache_written : is_drained h ≡ true → Change h (with_write_back h)
  store_drained : nat_le h.port_free h.cycle ≡ true → Change h (end_drain h)
  store_drains : (access : StoreAccess) → nat_le h.port_free h.cycle ≡ true →
      oldest_to_drain h.committed ≡ Some access → Change h (with_drained access h)
  load_accesses : (k : Kind) (older younger : List Entry) (e : Entry) (address : ℕ) →
      h.rob.entries ≡ older ++ e ∷ younger → is_ready h k older e ≡ true → path h older e ≡ FromCache address →
      Change h (with_access (FromCache address) h)
  one_starts : (k : Kind) (older younger : List Entry) (e : Entry) (cost : ℕ) (message : Message) →
      h.rob.entries ≡ older ++ e ∷ younger → is_waiting e.stage ≡ true →
      is_of_kind k (kind_of_word e.instruction) ≡ true → IsResultOfWord e.word e.instruction message →
      cost ≤ longest_execution h → Change h (with_started k cost message older e younger h)
  one_sent : (older younger : List Entry) (e : Entry) (message : Message) → h.rob.entries ≡ older ++ e ∷ younger →
      HasRun h.cycle e.stage message → Change h (with_entries (older ++ finished message h.cycle e ∷ younger) h)
  one_mended : (older younger : List Entry) (e : Entry) (next : ℕ) → h.rob.entries ≡ older ++ e ∷ younger →
      Change h (with_mended next (older ++ predicting next e ∷ []) h)
  one_enters : (f : Fetched) (rest : List Fetched) → h.front.entries ≡ f ∷ rest → WaitsForNothing h f →
      Change h (with_dispatched f rest h)

-- each change keeps the property
abbrev pub IsKeptByChanges : (Hardware → Type 0) → Type 0
IsKeptByChanges P = (h g : Hardware) → Change h g → P h → P g
