-- A station is ready, and passes the code's test, where the definition finds its instruction ready.
use Rattle.rv_core.proofs.Words.{◌≡◌, ℕ, ◌+◌, ◌<◌, Bool, true, false, not, ◌&&◌, ◌||◌, List, ◌∷◌, ◌++◌, length, ℤ}
use Rattle.rv_core.proofs.Words.{IfSome, nat_le, slice_index, Some, All, Option, sym, refl, ap, ◌∙◌, subst, arith}
use Rattle.rv_core.proofs.Words.{and_parts, list_all, is_load, kind_of_word, target_of_word, bytes_of, width_of, sum}
use Rattle.rv_core.proofs.Words.{Instr, Load, Kind, LoadForm, is_known_store, Store, Entry, is_stationed, Hardware}
use Rattle.rv_core.proofs.Words.{registers_after, has_port, is_ready_entry, path_of_word, layout_of, state_after}
use Rattle.rv_core.proofs.Words.{stores_after, AreBelow, kind_of, Mem, first_unknown, older_than, has_value}
use Rattle.rv_core.proofs.Words.{is_ready_station, Operand, Value, Station, path_of_load, is_operation, is_known_before}
use Rattle.rv_core.proofs.Words.{may_go, needs_port, path_of, RegisterStatus, status_after, values_in, waiting_of}
use Rattle.std.proofs.Math.Seq.{take-append_seam}
use Rattle.std.proofs.lemmas.List.Elements.{All-take}
use Rattle.rv_hardware.proofs.Marks.Sound.{is_of_kind_is}
use Rattle.rv_core.proofs.Issued.Operands.{ShowsRegisters, is_known-status, is_ready-known, shows_at}
use Rattle.rv_core.proofs.Issued.Search.{Agree, PassBy}
use Rattle.rv_core.proofs.Issued.Stores.{is_known_before-stores_after, older_than-stores_after}
use Rattle.rv_core.proofs.Loads.Path.{path_is_defined, port_is_defined}

-- what holds of all holds of a beginning
pub All-left : (P : Entry → Type 0) (xs ys : List Entry) → All P (xs ++ ys) → All P xs
All-left P xs ys all = subst (All P) (take-append_seam xs ys) (All-take P (length xs) (xs ++ ys) all)

agree_by : (ready goes operands may stationed : Bool) → ready ≡ operands → stationed ≡ true →
    (ready ≡ true → goes ≡ may) →
    (ready && goes) ≡ ((stationed && operands) && may)
agree_by ready goes operands may stationed r s g = grind arith

-- an instruction that has a station of a kind is of that kind
pub kind_there : (kind : Kind) (e : Entry) → is_stationed kind e ≡ true → kind_of_word e.instruction ≡ Some kind
kind_there kind e is = grind (arith, is_of_kind_is)

-- loads are of the memory's kind
not_load : (kind : Kind) (i : Instr) → is_operation (Some kind) ≡ true → kind_of i ≡ Some kind →
    is_load (Some i) ≡ false
not_load kind i operation is = grind arith

-- an entry's target is a register
abbrev pub HasTarget : Entry → Type 0
HasTarget e = IfSome (target_of_word e.instruction) (λ register. register < 32)

module _ (h : Hardware) where
  abbrev pub status0 : RegisterStatus
  status0 = values_in h.registers

  -- the test of loads and stores
  abbrev pub goes : Station → Bool
  goes w = may_go (layout_of h.values) (stores_after h h.rob.entries) (first_unknown (stores_after h h.rob.entries))
      (nat_le h.port_free h.cycle) w

  -- in the stations of a kind that is no memory unit every ready instruction passes the test
  pub passes_by : (kind : Kind) → PassBy kind status0 h.rob.retired h.rob.entries goes (is_ready_entry h kind)
  passes_by kind older e away = rw away refl

  module _ (older rest : List Entry) (e : Entry) where
    abbrev status : RegisterStatus
    status = status_after status0 h.rob.retired older

    abbrev number : ℕ
    number = h.rob.retired + length older

    abbrev may : Option Instr → Bool
    may word = not (is_load word) ||
        (list_all is_known_store (stores_after h older) && has_port h
        (path_of_word h older (state_after h older e.pc) word))

    agrees : (kind : Kind) (test : Station → Bool) (i : Instr) → e.instruction ≡ Some i → is_stationed kind e ≡ true →
        (is_ready_station (waiting_of status number e.pc i) ≡ true →
        test (waiting_of status number e.pc i) ≡ may (Some i)) →
        (is_ready_station (waiting_of status number e.pc i) && test (waiting_of status number e.pc i))
        ≡ is_ready_entry h kind older e
    agrees kind test i decoded there passes = grind (arith, agree_by, is_ready-known, is_known-status)

    module _ (all : older ++ e ∷ rest ≡ h.rob.entries)
        (retired : AreBelow (λ (s : Store). s.seq) h.rob.retired h.committed)
        (shows : ShowsRegisters status (registers_after h.registers older)) where
      abbrev waiting_stores : List Store
      waiting_stores = stores_after h h.rob.entries

      known : is_known_before (first_unknown waiting_stores) number ≡ list_all is_known_store (stores_after h older)
      known = grind (arith, is_known_before-stores_after)

      before : older_than number waiting_stores ≡ stores_after h older
      before = grind (arith, older_than-stores_after)

      port : (form : LoadForm) (rs1 base offset : ℕ) → status rs1 ≡ Value base →
          (nat_le h.port_free h.cycle || not
          (needs_port (path_of (layout_of h.values) (older_than number waiting_stores) (sum base offset)
          (bytes_of (width_of form)))))
          ≡ has_port h (path_of_load h older (sum (slice_index (registers_after h.registers older) rs1) offset)
          (bytes_of (width_of form)))
      port form rs1 base offset is =
          let count = bytes_of (width_of form) in
          ap (λ ss. nat_le h.port_free h.cycle || not
          (needs_port (path_of (layout_of h.values) ss (sum base offset) count))) before
          ∙ port_is_defined h (sum base offset)
          (path_of (layout_of h.values) (stores_after h older) (sum base offset) count)
          ∙ ap (has_port h) (path_is_defined h older (sum base offset) count)
          ∙ ap (λ b. has_port h (path_of_load h older (sum b offset) count)) (sym (shows rs1 base is))

      load_goes : (form : LoadForm) (rd rs1 : ℕ) (offset : ℤ) (first second : Operand) → status rs1 ≡ first →
          has_value first ≡ true →
          goes (record {
            seq = number;
            pc = e.pc;
            instruction = Load form rd rs1 offset;
            first = first;
            second = second;
          })
          ≡ may (Some (Load form rd rs1 offset))
      load_goes form rd rs1 offset first second is there = grind (arith, known, port)

      all_go : (i : Instr) → is_ready_station (waiting_of status number e.pc i) ≡ true →
          goes (waiting_of status number e.pc i) ≡ may (Some i)
      all_go (Load form rd rs1 offset) ready =
          load_goes form rd rs1 offset (status rs1) (Value 0) refl (and_parts (has_value (status rs1)) true ready).0
      all_go _ ready = refl

  -- an instruction that computes without memory goes when it is ready
  pub operations_agree : (kind : Kind) → is_operation (Some kind) ≡ true →
      Agree kind status0 h.rob.retired h.rob.entries (λ w. true) (is_ready_entry h kind)
  operations_agree kind operation older rest e i all decoded there =
      agrees older rest e kind (λ w. true) i decoded there
      (λ ready. rw (not_load kind i operation (ap kind_of_word (sym decoded) ∙ kind_there kind e there)) refl)

  -- in those of the memory unit it passes the test where the definition finds it ready
  pub accesses_agree : length h.registers ≡ 32 → All HasTarget h.rob.entries →
      AreBelow (λ (s : Store). s.seq) h.rob.retired h.committed →
      Agree Mem status0 h.rob.retired h.rob.entries goes (is_ready_entry h Mem)
  accesses_agree sized targets retired older rest e i all decoded there =
      let shows =
      shows_at older h.registers h.rob.retired sized (All-left HasTarget older (e ∷ rest) (rw all targets)) in
      agrees older rest e Mem goes i decoded there (all_go older rest e all retired shows i)
