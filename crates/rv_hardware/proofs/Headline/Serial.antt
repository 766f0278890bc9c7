-- A serialising instruction takes its effect in the state that programs see.
use Rattle.rv_hardware.proofs.Words.{◌≡◌, ℕ, ◌%◌, Bool, true, List, IfSome, if◌then◌else◌, slice_index_or as get_or}
use Rattle.rv_hardware.proofs.Words.{None, Option, option_map, nat_cmp, sym, refl, ap, ◌∙◌, subst, arith, false≢true}
use Rattle.rv_hardware.proofs.Words.{Csr, FenceI, Mret, Lines, Kept, access_csr, Effect, Faults, Retires, accesses}
use Rattle.rv_hardware.proofs.Words.{effect, State, consistent_cleaned, memory_written, memory_written_back, Each}
use Rattle.rv_hardware.proofs.Words.{Store as QueuedStore, is_drained, with_write_back, Hardware, bytes_after}
use Rattle.rv_hardware.proofs.Words.{layout_of, seen}
use Rattle.rv_hardware.proofs.Turns.Commit.{drained_none}
use Rattle.std.specs.FinSet as set
use Rattle.rv_isa.specs.declared.instructions.CsrSource.{CsrSource}
use Rattle.rv_isa.specs.declared.operations.CsrOp.{CsrOp}
use Rattle.rv_isa.specs.declared.csrs.Csr.{Csr as Register}
use Rattle.rv_isa.specs.declared.csrs.Csr.TheVariants as csr
use Rattle.rv_arch.specs.Csr.{written}
use Rattle.rv_hardware.proofs.Headline.Invariant.{HoldsMemory, IsSound}
use Rattle.rv_hardware.proofs.Headline.Retires.{aligned_next}
use Rattle.rv_hardware.proofs.Headline.Words.{IsRetiredStore, bytes_after-fresh}

-- ---- what the effect of a serialising instruction leaves
pub record IsSerial (h : Hardware) (next : State) : Type 0 where
  pub ram_is : next.ram ≡ (seen h).ram
  pub pc_aligned : next.pc % 4 ≡ 0
  pub mepc_aligned : next.csrs.mepc % 4 ≡ 0
  pub memory : HoldsMemory h.values next.stale h.cache h.committed

-- an effect that leaves RAM as it was, pc and mepc aligned, and the cache with the memory that programs see
abbrev pub IsSerialEffect : Hardware → Effect → Type 0
IsSerialEffect h (Retires register next) = IsSerial h next
IsSerialEffect h (Faults cause value) = Unit {0}

-- mepc is a multiple of 4, whatever is written
mepc_written : (kept : Kept) (register : Register) (word : ℕ) → kept.mepc % 4 ≡ 0 →
    (written kept register word).mepc % 4 ≡ 0
mepc_written kept csr.Mepc word aligned = omega arith
mepc_written kept _ word aligned = aligned

mepc_by : (writes : Bool) (kept new : Kept) → kept.mepc % 4 ≡ 0 → new.mepc % 4 ≡ 0 →
    (if writes then new else kept).mepc % 4 ≡ 0
mepc_by writes kept new aligned given = grind arith

module _ {h : Hardware} (is : IsSound h) where
  csr_done : (rd : ℕ) (word : ℕ) (found : Option (ℕ × Kept)) → IfSome found (λ f. f.1.mepc % 4 ≡ 0) →
      IsSerialEffect h (accesses (seen h) word rd found)
  csr_done rd word found aligned = grind (arith, aligned_next)

  found_aligned : (lines : Lines) (op : CsrOp) (zero_field : Bool) (value : ℕ) (register : Option Register) →
      IfSome (option_map (access_csr h.csrs lines op zero_field value) register) (λ f. f.1.mepc % 4 ≡ 0)
  found_aligned lines op zero_field value register = grind (arith, mepc_by, mepc_written)

  access_by : (b : Bool) (found : Option (ℕ × Kept)) → IfSome found (λ f. f.1.mepc % 4 ≡ 0) →
      IfSome (if b then None else found) (λ f. f.1.mepc % 4 ≡ 0)
  access_by b found aligned = grind arith

  -- the effect of a CSR instruction is such a one
  pub csr_serial : (lines : Lines) (word : ℕ) (op : CsrOp) (rd address : ℕ) (source : CsrSource) →
      IsSerialEffect h (effect (layout_of h.values) (seen h) lines word (Csr op rd address source))
  csr_serial lines word op rd address source = grind (arith, csr_done, access_by, found_aligned)

  -- the effect of MRET is such a one
  pub mret_serial : (lines : Lines) (word : ℕ) → IsSerialEffect h (effect (layout_of h.values) (seen h) lines word Mret)
  mret_serial lines word =
      record { ram_is = refl; pc_aligned = is.mepc_aligned; mepc_aligned = is.mepc_aligned; memory = is.memory }

  -- ---- FENCE.I
  -- once every dirty line is written, RAM has all bytes that the cache has
  all_written : memory_written_back h.cache h.cache.backing.bytes ≡ h.cache.bytes
  all_written =
      memory_written h.cache.base h.cache.values h.cache.bytes h.cache.backing.bytes h.cache.sets is.memory.consistent

  -- hardware whose cache was written back is sound
  pub written_back_sound : IsSound (with_write_back h)
  written_back_sound =
      let was = is.memory in
      record {
        pc_aligned = is.pc_aligned;
        mepc_aligned = is.mepc_aligned;
        memory = record {
          place = was.place;
          cache_size = was.cache_size;
          consistent = consistent_cleaned h.cache.base h.cache.values h.cache.bytes h.cache.backing.bytes h.cache.sets
              was.consistent _ all_written;
          retired = was.retired;
          drains = was.drains;
          fresh = λ i fresh. ap (λ (xs : List ℕ). get_or xs i 0) all_written ∙
              sym (bytes_after-fresh
              (layout_of h.values) h.stale h.committed h.cache.bytes was.retired was.cache_size i fresh);
          inside = was.inside;
        };
        program = is.program;
      }

  -- the effect of FENCE.I is such a one, once the queue is drained and the cache written back
  pub fence_serial : is_drained h ≡ true → (lines : Lines) (word : ℕ) →
      IsSerialEffect (with_write_back h) (effect (layout_of h.values) (seen h) lines word FenceI)
  fence_serial drained lines word =
      let was = is.memory in
      let none = drained_none h drained in
      let same : bytes_after h.values.ram_base h.committed h.cache.bytes ≡ h.cache.bytes =
      ap (λ (ss : List QueuedStore). bytes_after h.values.ram_base ss h.cache.bytes) none in
      record {
        ram_is = refl;
        pc_aligned = aligned_next h.pc is.pc_aligned;
        mepc_aligned = is.mepc_aligned;
        memory = record {
          place = was.place;
          cache_size = was.cache_size;
          consistent = consistent_cleaned h.cache.base h.cache.values h.cache.bytes h.cache.backing.bytes h.cache.sets
              was.consistent _ all_written;
          retired = subst (Each (IsRetiredStore (layout_of h.values) set.empty)) (sym none) tt;
          drains = was.drains;
          fresh = λ i fresh. ap (λ (xs : List ℕ). get_or xs i 0) (all_written ∙ sym same);
          inside = λ other marked. absurd (false≢true (sym (set.contains-empty nat_cmp other) ∙ marked));
        };
      }
