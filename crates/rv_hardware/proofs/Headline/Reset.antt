-- At reset programs see the one-at-a-time machine's reset.
use Rattle.rv_hardware.proofs.Words.{◌≡◌, ℕ, ◌%◌, ◌<◌, ◌≤◌, List, [], length, replicate, nat_cmp, sym, refl, ap, ◌∙◌}
use Rattle.rv_hardware.proofs.Words.{arith, length-append, false≢true, length-replicate, IsLegal, Values, reset}
use Rattle.rv_hardware.proofs.Words.{consistent_new, IsConsistent, IsLoadable, memory_at_reset, reset_hardware}
use Rattle.rv_hardware.proofs.Words.{layout_of, seen}
use Rattle.std.specs.FinSet as set
use Rattle.rv_cache.proofs.Divided.{base_divides, line_divides}
use Rattle.rv_hardware.proofs.Headline.Invariant.{IsSound}

pub seen_at_reset : (values : Values) (image : List ℕ) (start : ℕ) →
    seen (reset_hardware values image start) ≡ reset (layout_of values) image start
seen_at_reset values image start = refl

length-memory_at_reset : (values : Values) (image : List ℕ) → length image ≤ values.ram_size →
    length (memory_at_reset values image) ≡ values.ram_size
length-memory_at_reset values image fits = grind (arith, length-replicate, length-append)

-- whole lines fill RAM, and none is held
consistent_at_reset : (values : Values) (image : List ℕ) → IsLegal values →
    length (memory_at_reset values image) ≡ values.ram_size →
    IsConsistent values.ram_base values.cache (memory_at_reset values image) (replicate values.cache.sets [])
    (memory_at_reset values image)
consistent_at_reset values image legal size =
    let shape = legal.cache.0 in
    let line = values.cache.line in
    let divides = line_divides line shape.line.0 shape.line.1 shape.line_power in
    let positive : 0 < line = omega (arith, shape.line.0) in
    consistent_new values.ram_base values.cache (memory_at_reset values image) (record {
      legal = legal.cache;
      words = divides.0;
      base_aligned = base_divides values.ram_base line positive divides.1 legal.memory.base.1;
      whole_lines = ap (λ n. n % line) size ∙ base_divides values.ram_size line positive divides.1 legal.memory.size.2;
      reach = omega (arith, size, legal.memory.base.0, legal.memory.size.1);
    })

-- hardware that was just reset is sound
pub reset_sound : (values : Values) (base : ℕ) (image : List ℕ) (start : ℕ) → IsLegal values →
    IsLoadable values base image start → IsSound (reset_hardware values image start)
reset_sound values base image start legal loadable =
    let size = length-memory_at_reset values image loadable.fits in
    record {
      pc_aligned = loadable.aligned;
      mepc_aligned = refl;
      memory = record {
        place = record {
          base_aligned = omega (arith, legal.memory.base.1);
          size_aligned = omega (arith, legal.memory.size.2);
          layout = refl;
          cache_base = refl;
        };
        cache_size = size;
        consistent = consistent_at_reset values image legal size;
        retired = tt;
        drains = tt;
        fresh = λ i fresh. refl;
        inside = λ word marked. absurd (false≢true (sym (set.contains-empty nat_cmp word) ∙ marked));
      };
      program = record { in_flight = tt; buffered = refl; aligned = loadable.aligned };
    }
