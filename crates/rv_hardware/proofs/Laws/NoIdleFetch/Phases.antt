-- In each phase instructions and words only go on, or what is younger is squashed and fetch begins anew.
use Rattle.rv_hardware.proofs.Words.{◌≡◌, ℕ, ◌+◌, Bool, true, false, ◌⊎◌, List, [], ◌∷◌, ◌++◌, length, Some, None}
use Rattle.rv_hardware.proofs.Words.{Option, nat_cmp, sym, refl, ap, ◌∙◌, inl, inr, append_assoc, arith, length-append}
use Rattle.rv_hardware.proofs.Words.{length-map, Kind, Early, Values, finished, predicting, Entry, Fetched, broadcast}
use Rattle.rv_hardware.proofs.Words.{broadcast_turn, is_mispredicted, mends_early, Committing, commit_turn}
use Rattle.rv_hardware.proofs.Words.{commit_unless, dispatch, entry_of_fetched, drain, Hardware, issue, Turn, rows_of}
use Rattle.rv_hardware.proofs.Words.{Step, Retired, and_first, Leads, left_by_turns, kept_by_turns}
use Rattle.std.specs.FinSet as set
use Rattle.rv_isa.specs.declared.values.Recovery.{Recovery}
use Rattle.rv_hardware.proofs.Marks.Cited.{IsKeptByDispatch, dispatch-keeps, IsKeptByDrain, drain-keeps, IsKeptByIssue}
use Rattle.rv_hardware.proofs.Marks.Cited.{issue-keeps, finished_mark, BroadcastTurn, no_result, sends, mends}
use Rattle.rv_hardware.proofs.Marks.Cited.{broadcast_turn_is, sent_entries, mended_entries, CommitTurn, commit_turn_is}
use Rattle.rv_hardware.proofs.Marks.Cited.{head_retired_entries, Mark, marks_in, broadcast_of_stage, rows_append}
use Rattle.rv_hardware.proofs.Marks.Cited.{row_at}

-- how many instructions retired, are in flight and were fetched
abbrev pub size : List Step → Hardware → ℕ
size steps h = length (rows_of steps) + (length h.rob.entries + length h.front.entries)

-- there is a mark for each row, each instruction in flight and each fetched word
pub size_of_marks : (steps : List Step) (h : Hardware) → length (marks_in steps h) ≡ size steps h
size_of_marks steps h = grind (arith, length-append, length-map)

-- nothing was squashed
abbrev pub Uncut : ℕ → Bool → List Step → Hardware → Type 0
Uncut n halted steps h = (size steps h ≡ n) × (h.front.halted ≡ halted)

-- everything was
abbrev pub Emptied : Hardware → Type 0
Emptied h = (h.rob.entries ≡ []) × (h.front.entries ≡ []) × (h.front.halted ≡ false)

-- what is younger than a result of this cycle was
pub record Mended (v : Values) (now : ℕ) (h : Hardware) : Type 0 where
  pub older : List Entry
  pub last : Entry
  pub entries : h.rob.entries ≡ older ++ last ∷ []
  pub words : h.front.entries ≡ []
  pub runs : h.front.halted ≡ false
  pub early : v.recovery ≡ Early
  pub sent : broadcast_of_stage last.stage ≡ Some now

not_empty : {P : Type 0} {X : Type 0} (x : X) (xs : List X) → x ∷ xs ≡ [] → P
not_empty x xs is = absurd (cc)

not_empty_at : {P : Type 0} {X : Type 0} (older younger : List X) (x : X) → older ++ x ∷ younger ≡ [] → P
not_empty_at [] younger x is = absurd (cc)
not_empty_at (y ∷ ys) younger x is = absurd (cc)

module _ (n : ℕ) (halted : Bool) where
  -- all went on, or nothing is in flight
  abbrev pub WholeOrNone : List Step → Hardware → Type 0
  WholeOrNone steps h = Uncut n halted steps h ⊎ Emptied h

  module _ (earlier : List Step) (is_stale : set.FinSet nat_cmp → ℕ → Bool) where
    abbrev Committed : Committing → Type 0
    Committed c = WholeOrNone (earlier ++ c.steps) c.hardware

    one_row : (c : Committing) (e : Entry) (written : Option (ℕ × ℕ)) →
        length (rows_of (earlier ++ (c.steps ++ Retired (row_at e written c.hardware.cycle) ∷ []))) ≡
        length (rows_of (earlier ++ c.steps)) + 1
    one_row c e written = grind (arith, append_assoc, rows_append, length-append)

    commit_goes : {c : Committing} {t : Turn Committing} → CommitTurn is_stale c t → Committed c →
        Leads Committed Committed t
    commit_goes given p = grind (arith, one_row, head_retired_entries, not_empty)

    -- the commit phase squashes nothing, or everything
    pub commit_goes_by : (o : Option ℕ) (h : Hardware) → WholeOrNone (earlier ++ []) h →
        Committed (commit_unless is_stale o h)
    commit_goes_by (Some code) h p = inr (refl, refl, refl)
    commit_goes_by None h p =
        kept_by_turns Committed (commit_turn is_stale)
        (λ c q. commit_goes (commit_turn_is is_stale c) q) h.values.commit_width
        (record { hardware = h; steps = []; stop = None }) p

  module _ (v : Values) (now : ℕ) (steps : List Step) where
    drain_goes : IsKeptByDrain (WholeOrNone steps)
    drain_goes = record { leaves = λ h p idle. p; drains = λ h access p idle is. p }

    starts_goes : (h : Hardware) (older younger : List Entry) (e x : Entry) → h.rob.entries ≡ older ++ e ∷ younger →
        WholeOrNone steps h →
        (length (rows_of steps) + (length (older ++ x ∷ younger) + length h.front.entries) ≡ n) ×
        (h.front.halted ≡ halted)
    starts_goes h older younger e x split (inl p) =
        (omega (arith, p.0, ap length split, length-append older (e ∷ younger), length-append older (x ∷ younger)), p.1)
    starts_goes h older younger e x split (inr p) = not_empty_at older younger e (sym split ∙ p.0)

    issue_goes : (k : Kind) → IsKeptByIssue (WholeOrNone steps) k
    issue_goes k = grind (arith, starts_goes)

    -- early recovery may squash
    abbrev pub LeftByBroadcast : Hardware → Type 0
    LeftByBroadcast h = WholeOrNone steps h ⊎ Mended v now h

    abbrev Sending : Hardware → Type 0
    Sending h = (h.cycle ≡ now) × (h.values ≡ v) × WholeOrNone steps h

    is_early : (r : Recovery) → mends_early r ≡ true → r ≡ Early
    is_early r is = grind arith

    broadcast_leads : {h : Hardware} {t : Turn Hardware} → BroadcastTurn h t → Sending h →
        Leads Sending LeftByBroadcast t
    broadcast_leads (no_result none) p = inl p.2
    broadcast_leads {h} (sends older younger e issue message sent late) p =
        let more = starts_goes h older younger e (finished message h.cycle e) sent.place p.2 in
        let entries = sent_entries h older younger e message sent.place in
        (p.0, p.1, inl (omega (arith, more.0, ap length entries), more.1))
    broadcast_leads {h} (mends older younger e issue message sent early) p =
        inr (record {
          older = older;
          last = predicting message.next_pc (finished message h.cycle e);
          entries = mended_entries h older younger e message sent.place;
          words = refl;
          runs = refl;
          early = ap (λ (w : Values). w.recovery) (sym p.1) ∙
              is_early h.values.recovery (and_first (mends_early h.values.recovery) (is_mispredicted e message) early);
          sent = ap (λ (m : Mark). m.broadcast) (finished_mark h.cycle e sent.runs) ∙ ap Some p.0;
        })

    broadcast_goes : (h : Hardware) → Sending h → LeftByBroadcast (broadcast h)
    broadcast_goes h p =
        left_by_turns broadcast_turn (λ g q. broadcast_leads (broadcast_turn_is g) q)
        (λ g q. inl q.2) h.values.bus_width h p

    no_words : {P : Type 0} (h : Hardware) (f : Fetched) (fs : List Fetched) → h.front.entries ≡ f ∷ fs →
        h.front.entries ≡ [] → P
    no_words h f fs first none = not_empty f fs (sym first ∙ none)

    dispatch_left : (h : Hardware) (f : Fetched) (fs : List Fetched) → h.front.entries ≡ f ∷ fs → LeftByBroadcast h →
        (length (rows_of steps) + (length (h.rob.entries ++ entry_of_fetched h f ∷ []) + length fs) ≡ n) ×
        (h.front.halted ≡ halted)
    dispatch_left h f fs first given = grind (arith, length-append, no_words)

    dispatch_goes : IsKeptByDispatch LeftByBroadcast
    dispatch_goes = record { dispatches = λ h f fs p first none. inl (inl (dispatch_left h f fs first p)) }

    -- the drain and the issue phase squash nothing
    pub drain_and_issue : (h : Hardware) → WholeOrNone steps h → WholeOrNone steps (issue (drain h))
    drain_and_issue h p = issue-keeps (WholeOrNone steps) issue_goes (drain h) (drain-keeps drain_goes h p)

    -- the broadcast and the dispatch phase squash nothing but what early recovery does
    pub broadcast_and_dispatch : (h : Hardware) → h.cycle ≡ now → h.values ≡ v → WholeOrNone steps h →
        LeftByBroadcast (dispatch (broadcast h)).hardware
    broadcast_and_dispatch h cycle values p =
        dispatch-keeps dispatch_goes (broadcast h) (broadcast_goes h (cycle, values, p))
