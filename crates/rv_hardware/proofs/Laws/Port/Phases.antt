-- Through every phase the port is busy until each load that uses the cache is over, and one begins when all others are.
use Rattle.rv_hardware.proofs.Words.{◌≡◌, ℕ, ◌+◌, ◌<◌, ◌≤◌, Bool, true, false, not, ◌&&◌, ◌⊎◌, List, [], ◌∷◌, ◌++◌}
use Rattle.rv_hardware.proofs.Words.{IfSome, nat_le, None, Option, sym, refl, ap, ◌∙◌, subst, inl, inr, true≢false}
use Rattle.rv_hardware.proofs.Words.{append_assoc, arith, leb-true, IsLegal, Instr, Kind, Values, Each, finished}
use Rattle.rv_hardware.proofs.Words.{predicting, started, Entry, with_write_back, with_drained, Hardware, cost_of}
use Rattle.rv_hardware.proofs.Words.{issued, path, with_access, and_first, and_second, Each-left}
use Rattle.rv_hardware.proofs.Words.{Each-right, Each-set, Each-place, Each-weaker, Each-both, EveryPair}
use Rattle.rv_hardware.proofs.Words.{EveryPair-append, EveryPair-left, EveryPair-right, EveryPair-across, EveryPair-set}
use Rattle.rv_hardware.proofs.Words.{each_then, pair_moves, each_moves}
use Rattle.rv_hardware.proofs.Marks.Cited.{with_entries, IsKeptByBroadcast, with_mended, IsKeptByCommit}
use Rattle.rv_hardware.proofs.Marks.Cited.{IsKeptByDispatch, IsKeptByDrain, IsReady, ready-parts, InCycle}
use Rattle.rv_hardware.proofs.Marks.Cited.{IsKeptInCycle, finished_mark, dispatched_mark, message_at, started_entries}
use Rattle.rv_hardware.proofs.Marks.Cited.{Mark, Start, mark_of_entry, start_of_issue, positive_cost}
use Rattle.rv_hardware.proofs.Laws.Port.Loads.{uses_cache, WhereUsed, OverBy, OneAtATime, path_of_user, has_its_port}
use Rattle.rv_hardware.proofs.Laws.Port.Loads.{port_grows}

-- the port is busy until it is over
abbrev pub Tied : Values → ℕ → Mark → Type 0
Tied v c m = WhereUsed v m (λ s. (s.cycle + s.cost ≤ c) × (0 < s.cost))

-- of instructions in flight: it is so of each, and no two of them use the cache at one time
abbrev pub AreTied : Values → ℕ → List Entry → Type 0
AreTied v c = Each (λ e. Tied v c (mark_of_entry e))

abbrev pub AreApart : Values → ℕ → List Entry → Type 0
AreApart v now = EveryPair (λ a b. OneAtATime v now (mark_of_entry a) (mark_of_entry b))

-- the port is busy until each load that uses the cache is over, and none began before another was
pub record PortOk (v : Values) (now : ℕ) (h : Hardware) : Type 0 where
  pub tie : AreTied v h.port_free h.rob.entries
  pub pairs : AreApart v now h.rob.entries

used_weaker : (v : Values) (i : Option Instr) (o : Option Start) {P Q : Start → Type 0} → ((s : Start) → P s → Q s) →
    IfSome o (λ s. uses_cache v i s ≡ true → P s) → IfSome o (λ s. uses_cache v i s ≡ true → Q s)
used_weaker v i o f h = grind arith

tied_later : (v : Values) (c d : ℕ) (m : Mark) → c ≤ d → Tied v c m → Tied v d m
tied_later v c d m le h = used_weaker v m.instruction m.start (λ s k. (omega (arith, k.0, le), k.1)) h

tied_over : (v : Values) (c d : ℕ) (m : Mark) → c ≤ d → Tied v c m → OverBy v d m
tied_over v c d m le h = used_weaker v m.instruction m.start (λ s k. omega (arith, k.0, le)) h

-- the same entries, or fewer

pub port_same : {v : Values} {now : ℕ} (g : Hardware) {h : Hardware} → g.rob.entries ≡ h.rob.entries →
    h.port_free ≤ g.port_free → PortOk v now h → PortOk v now g
port_same g given le ok = grind (arith, Each-weaker, tied_later)

-- where the port is found idle, it is free by now
pub drained_idle : (a : Bool) (h : Hardware) → (a && nat_le h.port_free h.cycle) ≡ true → h.port_free ≤ h.cycle
drained_idle a h is = leb-true h.port_free h.cycle (and_second a (nat_le h.port_free h.cycle) is)

port_commit : (v : Values) (now : ℕ) → IsKeptByCommit (PortOk v now)
port_commit v now = record {
  empties = λ h s retired ok. record { tie = tt; pairs = tt };
  retires = λ h e es s message ok split known faultless. record {
    tie = (subst (AreTied v h.port_free) split ok.tie).1;
    pairs = (subst (AreApart v now) split ok.pairs).1;
  };
  writes_back =
      λ h ok drained. let le = drained_idle _ h drained in port_same (with_write_back h) refl (omega (arith, le)) ok;
}

port_drain : (v : Values) (now : ℕ) → IsKeptByDrain (PortOk v now)
port_drain v now = record {
  leaves = λ h ok idle. record { tie = ok.tie; pairs = ok.pairs };
  drains = λ h access ok idle is.
      let le = leb-true h.port_free h.cycle idle in port_same (with_drained access h) refl (omega (arith, le)) ok;
}

-- issue

-- one that begins, beside one that is over where it uses the cache
pair_with_new : (v : Values) (now : ℕ) (a x : Mark) → Tied v now a ⊎ (WhereUsed v x (λ t. ⊥)) → OneAtATime v now a x
pair_with_new v now a x (inl over) = grind (arith, used_weaker, tied_over)
pair_with_new v now a x (inr none) = grind (arith, used_weaker)

pub turned : (v : Values) (now : ℕ) (a b : Mark) → OneAtATime v now a b → OneAtATime v now b a
turned v now a b p = (p.1, p.0)

module _ {v : Values} (legal : IsLegal v) (now : ℕ) where
  module _ {k : Kind} {h : Hardware} {older : List Entry} (younger : List Entry) {e : Entry}
      (at : h.rob.entries ≡ older ++ e ∷ younger) (ready : IsReady h k older e)
      (p : InCycle v now h × PortOk v now h) where
    abbrev new_start : Start
    new_start = start_of_issue (record { cycle = h.cycle; cost = cost_of h k (path h older e) }) (message_at h older e)

    abbrev new_entry : Entry
    new_entry = started (record { cycle = h.cycle; cost = cost_of h k (path h older e) }) (message_at h older e) e

    abbrev new_port : ℕ
    new_port = (with_access (path h older e) h).port_free

    abbrev IsBesideNew : Entry → Type 0
    IsBesideNew z = OneAtATime v now (mark_of_entry z) (mark_of_entry new_entry)

    not_true : (b : Bool) → not b ≡ true → b ≡ false
    not_true b is = grind arith

    -- where it uses the cache, the port was idle and is busy with it
    by_cache : uses_cache v e.instruction (new_start) ≡ true →
        (h.port_free ≤ h.cycle) × (h.cycle + cost_of h k (path h older e) ≤ new_port)
    by_cache used = grind (arith, and_second, not_true, and_first, path_of_user, has_its_port, leb-true)

    grows : h.port_free ≤ new_port
    grows = port_grows h (path h older e) (has_its_port h older e ready.loads)

    others : (xs : List Entry) → AreTied v h.port_free xs → Each IsBesideNew xs
    others xs tie = by_use (uses_cache v e.instruction (new_start)) refl
      where
        by_use : (b : Bool) → uses_cache v e.instruction (new_start) ≡ b → Each IsBesideNew xs
        by_use true used =
            Each-weaker _ _
            (λ z k. pair_with_new v now (mark_of_entry z) (mark_of_entry new_entry)
            (inl (tied_later v h.port_free now (mark_of_entry z)
            (let idle = (by_cache used).0 in omega (arith, idle, p.0.1)) k)))
            xs tie
        by_use false used =
            each_then (λ z k.
            pair_with_new v now (mark_of_entry z) (mark_of_entry new_entry)
            (inr (λ is. absurd (true≢false (sym is ∙ used))))) _
            tie

    pub started_port : PortOk v now (issued k h older e)
    started_port =
        let tie = subst (AreTied v h.port_free) at p.1.tie in
        let pairs = subst (AreApart v now) at p.1.pairs in
        let olders = Each-left _ older _ tie in
        let youngers = (Each-right _ older _ tie).1 in
        let right = EveryPair-right _ older _ pairs in
        record {
          tie = rw (started_entries k h older younger e at)
              (Each-set _ older younger e _
              (λ used. ((by_cache used).1, positive_cost legal h p.0.0 k (path h older e)))
              (each_then (λ z w. tied_later v h.port_free new_port (mark_of_entry z) grows w) _ tie));
          pairs = rw (started_entries k h older younger e at)
              (EveryPair-append _ older _ (EveryPair-left _ older _ pairs) (
                each_then (λ z w. turned v now (mark_of_entry z) (mark_of_entry new_entry) w) _
                    (others younger youngers),
                right.1,
              )
              (Each-both _ (λ a w n. (n, w.1)) older (EveryPair-across _ older _ pairs) (others older olders)));
        }

-- broadcast and dispatch: what began stays

-- a mark with the same start
same_tied : (v : Values) (c : ℕ) (m n : Mark) → n.instruction ≡ m.instruction → n.start ≡ m.start →
    Tied v c m → Tied v c n
same_tied v c m n instruction start h = rw (instruction, start) h

same_first : (v : Values) (now : ℕ) (m n z : Mark) → n.instruction ≡ m.instruction → n.start ≡ m.start →
    OneAtATime v now m z → OneAtATime v now n z
same_first v now m n z instruction start h = rw (instruction, start) h

same_second : (v : Values) (now : ℕ) (m n z : Mark) → n.instruction ≡ m.instruction → n.start ≡ m.start →
    OneAtATime v now z m → OneAtATime v now z n
same_second v now m n z instruction start h =
    turned v now n z (same_first v now m n z instruction start (turned v now z m h))

module _ {v : Values} {now : ℕ} (g : Hardware) {h : Hardware} (older younger : List Entry) (e x : Entry)
    (at : h.rob.entries ≡ older ++ e ∷ younger)
    (instruction : (mark_of_entry x).instruction ≡ (mark_of_entry e).instruction)
    (start : (mark_of_entry x).start ≡ (mark_of_entry e).start) (port : g.port_free ≡ h.port_free)
    (ok : PortOk v now h) where
  set_tie : AreTied v g.port_free (older ++ x ∷ younger)
  set_tie =
      rw port (let tie = subst (AreTied v h.port_free) at ok.tie in
      Each-set _ older younger e x
      (same_tied v h.port_free (mark_of_entry e) (mark_of_entry x) instruction start (Each-place _ older younger e tie))
      tie)

  set_pairs : AreApart v now (older ++ x ∷ younger)
  set_pairs =
      EveryPair-set _ older younger e x
      (λ z w. same_second v now (mark_of_entry e) (mark_of_entry x) (mark_of_entry z) instruction start w)
      (λ z w. same_first v now (mark_of_entry e) (mark_of_entry x) (mark_of_entry z) instruction start w)
      (subst (AreApart v now) at ok.pairs)

  port_set : g.rob.entries ≡ older ++ x ∷ younger → PortOk v now g
  port_set at' = record { tie = rw at' set_tie; pairs = rw at' set_pairs }

  port_cut : g.rob.entries ≡ older ++ x ∷ [] → PortOk v now g
  port_cut at' = record {
    tie = rw at' (Each-left _ _ younger (rw (append_assoc older (x ∷ []) younger) set_tie));
    pairs = rw at' (EveryPair-left _ _ younger (rw (append_assoc older (x ∷ []) younger) set_pairs));
  }

port_broadcast : (v : Values) (now : ℕ) → IsKeptByBroadcast (PortOk v now)
port_broadcast v now = record {
  broadcasts = λ h older younger e message ok split gives.
      let x : Entry = finished message h.cycle e in
      let same = finished_mark h.cycle e gives.runs in
      port_set (with_entries (older ++ x ∷ younger) h) older younger e x split refl
      (ap (λ (m : Mark). m.start) same) refl ok refl;
  mends = λ h older younger e next ok split.
      let x : Entry = predicting next e in
      port_cut (with_mended next (older ++ x ∷ []) h) older younger e x split refl refl refl ok refl;
}

not_started : (v : Values) (m : Mark) (P : Start → Type 0) → m.start ≡ None → WhereUsed v m P
not_started v m P none = rw none tt

-- a mark that has not started makes a good pair with each
pub new_pair : (v : Values) (now : ℕ) (a n : Mark) → n.start ≡ None → OneAtATime v now a n
new_pair v now a n none = pair_with_new v now a n (inr (not_started v n (λ t. ⊥) none))

port_dispatch : (v : Values) (now : ℕ) → IsKeptByDispatch (PortOk v now)
port_dispatch v now = grind (arith, pair_moves, each_moves, dispatched_mark, not_started, new_pair)

-- each phase of a cycle keeps it
pub port_kept : {v : Values} → IsLegal v → (now : ℕ) → IsKeptInCycle v now (PortOk v now)
port_kept legal now = grind (arith, port_commit, port_drain, started_port, ready-parts, port_broadcast, port_dispatch)
