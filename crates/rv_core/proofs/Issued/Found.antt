-- The instruction that leaves its station is the definition's, with what it reads.
use Rattle.rv_core.proofs.Words.{◌≡◌, ◌+◌, Bool, true, ◌⊎◌, List, [], ◌∷◌, ◌++◌, length, nat_le, Some, None, All}
use Rattle.rv_core.proofs.Words.{Option, option_and_then, sym, refl, ap, ◌∙◌, subst, inl, inr, arith, Message, Issue}
use Rattle.rv_core.proofs.Words.{Kind, started, Entry, is_stationed, Hardware, is_ready_entry, oldest, layout_of}
use Rattle.rv_core.proofs.Words.{state_after, stores_after, Mem, oldest_ready, ready_of, without_oldest_ready, Ready}
use Rattle.rv_core.proofs.Words.{Station, Reads, goes, IsSoundHardware, status_after, values_in, waiting_from}
use Rattle.rv_core.proofs.Words.{waiting_of}
use Rattle.rv_core.proofs.Issued.Operands.{reads, ready_parts, shows_at}
use Rattle.rv_core.proofs.Issued.Ready.{All-left, HasTarget, accesses_agree, operations_agree, passes_by}
use Rattle.rv_core.proofs.Issued.Search.{Agree, Found, NoneFound, search_from}

-- a search that answers nothing found nothing, and takes nothing out

none_found : (test : Station → Bool) (ws : List Station) → option_and_then ready_of (oldest_ready test ws) ≡ None →
    oldest_ready test ws ≡ None
none_found test [] is = refl
none_found test (w ∷ ws) is = grind (arith, none_found test ws)

none_taken : (test : Station → Bool) (ws : List Station) → oldest_ready test ws ≡ None →
    without_oldest_ready test ws ≡ ws
none_taken test [] none = refl
none_taken test (w ∷ ws) none = grind (arith, none_taken test ws)

module _ (h : Hardware) (kind : Kind) where
  -- the test that the definition has in the words of the stations
  abbrev pub test_of : Station → Bool
  test_of = goes kind (layout_of h.values) (stores_after h h.rob.entries) (nat_le h.port_free h.cycle)

  -- the stations of the kind, as the instructions in flight determine them
  abbrev pub stationed_now : List Station
  stationed_now = waiting_from kind (values_in h.registers) h.rob.retired h.rob.entries

  -- an instruction that the definition starts, as it left its station
  pub record Leaving (ready : Ready) : Type 0 where
    pub before : List Entry
    pub entry : Entry
    pub rest : List Entry
    pub split : h.rob.entries ≡ before ++ entry ∷ rest
    pub decoded : entry.instruction ≡ Some ready.instruction
    pub there : is_stationed kind entry ≡ true
    pub number : ready.seq ≡ h.rob.retired + length before
    pub found : oldest (is_ready_entry h kind) h.rob.entries ≡ Some (before, entry)
    pub operands : Reads (state_after h before entry.pc) ready.pc ready.first ready.second ready.instruction
    pub left : (issue : Issue) (message : Message) →
        without_oldest_ready test_of stationed_now
        ≡ waiting_from kind (values_in h.registers) h.rob.retired (before ++ started issue message entry ∷ rest)

  module _ (sound : IsSoundHardware h) where
    targets : All HasTarget h.rob.entries
    targets k d within = (sound.entries.each k d within).target

    agree_of : (k : Kind) → Agree k (values_in h.registers) h.rob.retired h.rob.entries
        (goes k (layout_of h.values) (stores_after h h.rob.entries) (nat_le h.port_free h.cycle)) (is_ready_entry h k)
    agree_of Mem = accesses_agree h sound.registers targets sound.stores.older
    agree_of k = operations_agree h k refl

    searched :
        NoneFound kind (values_in h.registers) h.rob.retired h.rob.entries test_of
        (is_ready_entry h kind) [] h.rob.entries ⊎
        Found kind (values_in h.registers) h.rob.retired h.rob.entries test_of (is_ready_entry h kind) [] h.rob.entries
    searched = search_from kind (values_in h.registers) h.rob.retired h.rob.entries test_of
        (is_ready_entry h kind) [] h.rob.entries refl (agree_of kind) (passes_by h kind)

    -- the first number, as the search counts
    from_first : (es : List Entry) →
        waiting_from kind (values_in h.registers) h.rob.retired es
        ≡ waiting_from kind (values_in h.registers) (h.rob.retired + 0) es
    from_first es = ap (λ n. waiting_from kind (values_in h.registers) n es) (omega arith)

    abbrev Answer : Option Ready → Type 0
    Answer result = result ≡ option_and_then ready_of (oldest_ready test_of stationed_now)

    -- nothing leaves where the definition finds nothing
    pub nothing_leaves : {result : Option Ready} → Answer result → result ≡ None →
        (oldest (is_ready_entry h kind) h.rob.entries ≡ None)
        × (without_oldest_ready test_of stationed_now ≡ stationed_now)
    nothing_leaves answer is =
        let none = none_found test_of stationed_now (sym answer ∙ is) in (
          elim searched [
            | inl n ↦ n.defined
            | inr f ↦ absurd (let found = sym none
                ∙ ap (oldest_ready test_of) (from_first h.rob.entries) ∙ f.searched in cc)
          ],
          none_taken test_of stationed_now none,
        )

    leaves_by : (result : Option Ready) (ready : Ready) → Answer result → result ≡ Some ready →
        NoneFound kind (values_in h.registers) h.rob.retired h.rob.entries test_of
        (is_ready_entry h kind) [] h.rob.entries ⊎
        Found kind (values_in h.registers) h.rob.retired h.rob.entries test_of
        (is_ready_entry h kind) [] h.rob.entries →
        Leaving ready
    leaves_by result ready answer is (inl n) = grind arith
    leaves_by result ready answer is (inr f) =
        let status = status_after (values_in h.registers) h.rob.retired f.prior in
        let place = h.rob.retired + length f.prior in
        let w = waiting_of status place f.entry.pc f.instruction in
        let some : oldest_ready test_of stationed_now ≡ Some w =
        ap (oldest_ready test_of) (from_first h.rob.entries) ∙ f.searched in
        let taken : ready_of w ≡ Some ready = sym (ap (option_and_then ready_of) some) ∙ sym answer ∙ is in
        let parts = ready_parts w w.first w.second ready taken in
        let split : h.rob.entries ≡ f.prior ++ f.entry ∷ f.rest =
        f.split ∙ ap (λ (es : List Entry). es ++ f.entry ∷ f.rest) (sym f.prior_is) in
        let shows = shows_at f.prior h.registers h.rob.retired sound.registers
        (All-left HasTarget f.prior (f.entry ∷ f.rest) (subst (All HasTarget) split targets)) in
        let given =
        reads status place f.entry.pc f.instruction (state_after h f.prior f.entry.pc) ready taken shows refl in
        record {
          before = f.prior;
          entry = f.entry;
          rest = f.rest;
          split = split;
          decoded = f.decoded ∙ ap (λ i. Some i) (sym parts.4);
          there = f.there;
          number = parts.2;
          found = f.defined;
          operands = rw parts.4 given;
          left = λ issue message.
              ap (without_oldest_ready test_of) (from_first h.rob.entries)
              ∙ f.left issue message
              ∙ sym (from_first (f.before ++ started issue message f.entry ∷ f.rest))
              ∙ ap (λ (es : List Entry). waiting_from kind (values_in h.registers) h.rob.retired
              (es ++ started issue message f.entry ∷ f.rest)) (sym f.prior_is);
        }

    -- what leaves is what the definition finds
    pub leaves : {result : Option Ready} {ready : Ready} → Answer result → result ≡ Some ready → Leaving ready
    leaves {result = result} {ready = ready} answer is = leaves_by result ready answer is searched
