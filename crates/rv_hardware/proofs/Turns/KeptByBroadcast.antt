-- The broadcast phase keeps what a result on the bus and the mending of a wrong prediction keep.
use Rattle.rv_hardware.proofs.Words.{◌≡◌, ℕ, ◌+◌, List, [], ◌∷◌, ◌++◌, length, sym, refl, subst, Message, Issue}
use Rattle.rv_hardware.proofs.Words.{finished, predicting, Entry, broadcast, broadcast_turn, with_broadcast}
use Rattle.rv_hardware.proofs.Words.{with_recovery, Hardware, Turn, redirected, Leaves, kept_by_turns, arith}
use Rattle.rv_hardware.proofs.Turns.Broadcast.{BroadcastTurn, Sends, HasRun, broadcast_turn_is, sent_entries}
use Rattle.rv_hardware.proofs.Turns.Broadcast.{mended_entries}
use Rattle.rv_hardware.proofs.Turns.Forms.{with_entries}

-- only what is older than an instruction, and the instruction, are in flight, and fetch begins anew at a pc
abbrev pub with_mended : ℕ → List Entry → Hardware → Hardware
with_mended next es h = record h { rob = record h.rob { entries = es }; front = redirected next h.front }

-- what holds once the result of an instruction was broadcast, and is kept where a wrong prediction is mended
module _ (P : Hardware → List Entry → Entry → Type 0) (Q : Hardware → Type 0) where
  -- a result on the bus leads from P to Q, and the mending of a wrong prediction keeps Q
  pub record IsMadeByBroadcast : Type 0 where
    pub broadcasts : (h : Hardware) (older younger : List Entry) (e : Entry) (message : Message) → P h older e →
        h.rob.entries ≡ older ++ e ∷ younger → HasRun h.cycle e.stage message →
        Q (with_entries (older ++ finished message h.cycle e ∷ younger) h)
    pub mends : (h : Hardware) (older younger : List Entry) (e : Entry) (next : ℕ) → Q h →
        h.rob.entries ≡ older ++ e ∷ younger → Q (with_mended next (older ++ predicting next e ∷ []) h)

-- a result on the bus and the mending of a wrong prediction keep the property
abbrev pub IsKeptByBroadcast : (Hardware → Type 0) → Type 0
IsKeptByBroadcast P = IsMadeByBroadcast (λ h older e. P h) P

module _ {P : Hardware → List Entry → Entry → Type 0} {Q : Hardware → Type 0} (made : IsMadeByBroadcast P Q) where
  module _ {h : Hardware} {older younger : List Entry} {e : Entry} {issue : Issue} {message : Message}
      (sent : Sends h older younger e issue message) (holds : P h older e) where
    abbrev seq : ℕ
    seq = h.rob.retired + length older

    known : Q (with_entries (older ++ finished message h.cycle e ∷ younger) h)
    known = made.broadcasts h older younger e message holds sent.place
        (record { issue = issue; runs = sent.runs; over = sent.over })

    -- a result on the bus leads from P to Q
    pub sends-makes : Q (with_broadcast seq message h)
    sends-makes = subst (λ es. Q (with_entries es h)) (sym (sent_entries h older younger e message sent.place)) known

    -- and so does one that early recovery mends
    pub mends-makes : Q (with_recovery seq message (with_broadcast seq message h))
    mends-makes =
        let over : Entry = finished message h.cycle e in
        subst (λ es. Q (with_mended message.next_pc es h)) (sym (mended_entries h older younger e message sent.place))
        (made.mends (with_entries (older ++ over ∷ younger) h) older younger over message.next_pc known refl)

module _ {P : Hardware → Type 0} (kept : IsKeptByBroadcast P) where
  turn-keeps : {h : Hardware} {t : Turn Hardware} → BroadcastTurn h t → P h → Leaves P t
  turn-keeps given holds = grind (arith, sends-makes, mends-makes)

  -- so a turn of the broadcast phase keeps it
  pub broadcast_turn-keeps : (h : Hardware) → P h → Leaves P (broadcast_turn h)
  broadcast_turn-keeps h holds = turn-keeps (broadcast_turn_is h) holds

  -- and so the broadcast phase does
  pub broadcast-keeps : (h : Hardware) → P h → P (broadcast h)
  broadcast-keeps h holds = kept_by_turns P broadcast_turn broadcast_turn-keeps h.values.bus_width h holds
