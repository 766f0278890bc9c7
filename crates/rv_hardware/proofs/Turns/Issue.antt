-- A turn of the issue phase finds no free unit, nothing that is ready, or the oldest that is, which starts.
use Rattle.rv_hardware.proofs.Words.{◌≡◌, Bool, true, false, cond, List, [], ◌∷◌, ◌++◌, Some, None, Option, refl}
use Rattle.rv_hardware.proofs.Words.{at_kind, Message, Kind, is_free, started, Entry, Hardware, Path, cost_of, is_ready}
use Rattle.rv_hardware.proofs.Words.{issue_oldest, issue_turn, issued, oldest, path, with_access, Ends, GoesOn, Turn}
use Rattle.rv_hardware.proofs.Words.{result_of_word, layout_of, state_after, EveryAfter, arith}
use Rattle.rv_hardware.proofs.Oldest.{Finds, oldest_finds, with_entry-at}

-- no unit is free, no instruction is ready, or the oldest ready one starts
pub data IssueTurn (kind : Kind) (h : Hardware) : Turn Hardware → Type 0 where
  no_unit : is_free h.cycle (at_kind kind h.units) ≡ false → IssueTurn kind h (Ends h)
  none_ready : EveryAfter (λ before e. is_ready h kind before e ≡ false) [] h.rob.entries → IssueTurn kind h (Ends h)
  starts : (older younger : List Entry) (e : Entry) → h.rob.entries ≡ older ++ e ∷ younger →
      is_ready h kind older e ≡ true → EveryAfter (λ before x. is_ready h kind before x ≡ false) [] older →
      is_free h.cycle (at_kind kind h.units) ≡ true → IssueTurn kind h (GoesOn (issued kind h older e))

found_turn : (kind : Kind) (h : Hardware) (found : Option (List Entry × Entry)) →
    Finds (is_ready h kind) h.rob.entries found → is_free h.cycle (at_kind kind h.units) ≡ true →
    IssueTurn kind h (issue_oldest kind h found)
found_turn kind h None finds free = none_ready finds
found_turn kind h (Some found) finds free = starts found.0 finds.0 found.1 finds.1 finds.2 finds.3 free

turn_by : (kind : Kind) (h : Hardware) (free : Bool) → is_free h.cycle (at_kind kind h.units) ≡ free →
    IssueTurn kind h (cond free (issue_oldest kind h (oldest (is_ready h kind) h.rob.entries)) (Ends h))
turn_by kind h true is =
    found_turn kind h (oldest (is_ready h kind) h.rob.entries) (oldest_finds (is_ready h kind) h.rob.entries) is
turn_by kind h false is = no_unit is

-- what the definition's turn of the issue phase leaves is one of these outcomes
pub issue_turn_is : (kind : Kind) (h : Hardware) → IssueTurn kind h (issue_turn kind h)
issue_turn_is kind h = turn_by kind h (is_free h.cycle (at_kind kind h.units)) refl

-- an access to the cache leaves the rest
pub record SameBesideCache (g h : Hardware) : Type 0 where
  pub values : g.values ≡ h.values
  pub rob : g.rob ≡ h.rob
  pub front : g.front ≡ h.front
  pub units : g.units ≡ h.units
  pub cycle : g.cycle ≡ h.cycle
  pub committed : g.committed ≡ h.committed
  pub cache_values : g.cache.values ≡ h.cache.values
  pub stale : g.stale ≡ h.stale

-- a load's access to the cache changes the cache and the port alone
pub access_keeps : (p : Path) (h : Hardware) → SameBesideCache (with_access p h) h
access_keeps p h = grind arith

-- what an instruction gives that starts
abbrev pub message_at : Hardware → List Entry → Entry → Message
message_at h older e = result_of_word (layout_of h.values) (state_after h older e.pc) h.lines e.word e.instruction

-- the entry that starts is the one that changes
pub started_entries : (kind : Kind) (h : Hardware) (older younger : List Entry) (e : Entry) →
    h.rob.entries ≡ older ++ e ∷ younger →
    (issued kind h older e).rob.entries ≡
    older ++ started (record { cycle = h.cycle; cost = cost_of h kind (path h older e) })
    (message_at h older e) e ∷ younger
started_entries kind h older younger e given = grind (arith, access_keeps, with_entry-at)
