-- The issue phase changes nothing that programs see, and what it computes is the one-at-a-time machine's.
use Rattle.rv_hardware.proofs.Words.{is_known as is_known_store, ◌≡◌, ℕ, ◌+◌, ◌<◌, ◌≤◌, Bool, true, false, not, ◌&&◌}
use Rattle.rv_hardware.proofs.Words.{◌||◌, List, ◌∷◌, ◌++◌, length, if◌then◌else◌, Option, sym, refl, ap, ◌∙◌, subst}
use Rattle.rv_hardware.proofs.Words.{inl, inr, arith, leb-true, and_parts, false≢true, list_all, kind_of_word, at_kind}
use Rattle.rv_hardware.proofs.Words.{with_kind, Message, Instr, Kind, Values, is_aligned, is_in_ram, State}
use Rattle.rv_hardware.proofs.Words.{consistent_after, started, changed, Entry, Running, Hardware, FromCache}
use Rattle.rv_hardware.proofs.Words.{FromStores, Path, Without, cost_of, has_port, is_ready, issue, issued, path}
use Rattle.rv_hardware.proofs.Words.{path_of, with_access, with_start, layout_of, seen, state_after, stores_after}
use Rattle.rv_isa.specs.declared.Issue.{Issue}
use Rattle.rv_units.specs.Pool.{started as started_unit}
use Rattle.rv_hardware.proofs.Headline.Drain.{with_other_memory}
use Rattle.rv_hardware.proofs.Headline.Fold.{result_at, after_entries, AreInFlight}
use Rattle.rv_hardware.proofs.Headline.Invariant.{IsSoundAt, with_other_program}
use Rattle.rv_hardware.proofs.Headline.Known.{issued_result}
use Rattle.rv_hardware.proofs.Headline.Retires.{some_bytes}
use Rattle.rv_hardware.proofs.Headline.Split.{AreInFlight-older}
use Rattle.rv_hardware.proofs.Headline.Stage.{here_in_flight, FollowsProgram-staged}
use Rattle.rv_hardware.proofs.Headline.Victim.{access_mixed}
use Rattle.rv_hardware.proofs.Headline.Words.{bytes_after-fresh}
use Rattle.rv_hardware.proofs.Marks.Cited.{kind_is_plain, some_kind, ready-parts, issue-by}
use Rattle.rv_hardware.proofs.Oldest.{with_entry-at}

loads_known : {load : Bool} (known port : Bool) → (not load || (known && port)) ≡ true → load ≡ true → known ≡ true
loads_known known port may is = grind (arith, and_parts, false≢true)

-- a load that accesses the cache does so in RAM
abbrev IsInRam : Hardware → Path → Type 0
IsInRam h (FromCache address) = (h.values.ram_base ≤ address) × (address < h.values.ram_base + h.values.ram_size)
IsInRam h _ = Unit {0}

load_in_ram : (h : Hardware) (address count : ℕ) (fits covered : Bool) → 1 ≤ count →
    (is_aligned address count && is_in_ram (layout_of h.values) address count) ≡ fits →
    IsInRam h (if not fits then Without else (if covered then FromStores else FromCache address))
load_in_ram h address count fits covered some given = grind (arith, and_parts, leb-true)

path_in_ram : (h : Hardware) (older : List Entry) (s : State) (instruction : Option Instr) →
    IsInRam h (path_of h older s instruction)
path_in_ram h older s instruction = grind (arith, load_in_ram, some_bytes)

module _ (values : Values) (cycle : ℕ) (state : State) where
  -- ---- an access to the cache
  access_kept : (p : Path) (h : Hardware) → IsInRam h p → IsSoundAt values cycle state h →
      IsSoundAt values cycle state (with_access p h)
  access_kept (FromCache address) h inside is =
      let was = is.sound.memory in
      let mixed = access_mixed h.cache address h.cache.backing.bytes was.consistent.size in
      with_other_memory is (with_access (FromCache address) h) refl refl refl refl refl refl refl (record {
        place = was.place;
        cache_size = was.cache_size;
        consistent = consistent_after h.cache.base h.cache.values h.cache.bytes h.cache.backing.bytes h.cache.sets
            was.consistent address
            (omega (arith, was.place.cache_base, inside.0))
            (omega (arith, was.place.cache_base, was.cache_size, inside.1)) false;
        retired = was.retired;
        drains = was.drains;
        fresh = λ i fresh. elim (mixed.either i) [
          | inl stays ↦ stays ∙ was.fresh i fresh
          | inr cached ↦ cached ∙
              sym (bytes_after-fresh
              (layout_of h.values) h.stale h.committed h.cache.bytes was.retired was.cache_size i fresh)
        ];
        inside = was.inside;
      })
  access_kept p h inside is = is

  -- ---- the start of an execution
  start_kept : (k : Kind) (cost : ℕ) {seq : ℕ} {message : Message} (older : List Entry) (e : Entry)
      (younger : List Entry) {h : Hardware} →
      IsSoundAt values cycle state h → h.rob.entries ≡ older ++ e ∷ younger → seq ≡ h.rob.retired + length older →
      message ≡ result_at (layout_of h.values) (after_entries (layout_of h.values) older (seen h)) e →
      IsSoundAt values cycle state (with_start k seq cost message h)
  start_kept k cost {seq} {message} older e younger {h} is entries at result =
      let issue : Issue = record { cycle = h.cycle; cost = cost } in
      with_other_program is (with_kind k (started_unit cost h.cycle (at_kind k h.units)) h.units)
      (changed (started issue message) seq h.rob)
      (FollowsProgram-staged (layout_of h.values) (seen h) older e younger (Running issue message) entries
      (ap (λ (es : List Entry). (changed (started issue message) seq (record h.rob { entries = es })).entries) entries ∙
      with_entry-at (started issue message) seq h.rob.retired older younger e at)
      result is.sound.program)

  started_kept : (p : Path) (k : Kind) (cost : ℕ) {seq : ℕ} {message : Message} (older : List Entry) (e : Entry)
      (younger : List Entry) {h : Hardware} →
      IsInRam h p → IsSoundAt values cycle state h → h.rob.entries ≡ older ++ e ∷ younger →
      seq ≡ h.rob.retired + length older →
      message ≡ result_at (layout_of h.values) (after_entries (layout_of h.values) older (seen h)) e →
      IsSoundAt values cycle state (with_start k seq cost message (with_access p h))
  started_kept (FromCache address) k cost {seq} {message} older e younger {h} inside is entries at result =
      start_kept k cost older e younger (access_kept (FromCache address) h inside is) entries at result
  started_kept p k cost {seq} {message} older e younger {h} inside is entries at result =
      start_kept k cost older e younger is entries at result

  issued_kept : (k : Kind) (h : Hardware) (older younger : List Entry) (e : Entry) → IsSoundAt values cycle state h →
      h.rob.entries ≡ older ++ e ∷ younger → is_ready h k older e ≡ true →
      IsSoundAt values cycle state (issued k h older e)
  issued_kept k h older younger e is entries passes =
      let all : AreInFlight (layout_of h.values) (seen h) (seen h) (older ++ e ∷ younger) =
      subst (AreInFlight (layout_of h.values) (seen h) (seen h)) entries is.sound.program.in_flight in
      let here = here_in_flight (layout_of h.values) (seen h) older e younger all in
      let ready = ready-parts h k older e passes in
      let plain = kind_is_plain e.instruction (some_kind k (kind_of_word e.instruction) ready.of_kind) in
      let result = issued_result h older e
      (AreInFlight-older (layout_of h.values) (seen h) (seen h) older (e ∷ younger) all) here.pc plain ready.operands
      (loads_known (list_all is_known_store (stores_after h older)) (has_port h (path h older e)) ready.loads) in
      started_kept (path h older e) k (cost_of h k (path h older e)) older e younger
      (path_in_ram h older (state_after h older e.pc) e.instruction) is entries refl result

  -- the issue phase keeps the hardware sound, with the same state seen
  pub issue_kept : {h : Hardware} → IsSoundAt values cycle state h → IsSoundAt values cycle state (issue h)
  issue_kept {h} is =
      issue-by (IsSoundAt values cycle state)
      (λ k h older younger e is at ready free. issued_kept k h older younger e is at ready) h is
