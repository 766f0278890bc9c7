-- The cache holds no more lines than it has room for, so its write-back has a longest time.
use Rattle.rv_hardware.proofs.Words.{◌≡◌, ℕ, ◌*◌, ◌≤◌, Bool, true, false, cond, List, [], ◌∷◌, map, length, refl, arith}
use Rattle.rv_hardware.proofs.Words.{length-set, mul-le-mul_right, length-map, length-replicate, CacheValues, Values}
use Rattle.rv_hardware.proofs.Words.{Memory, Contents, accessed_sets, cleaned, dirty_count, dirty_total, Each}
use Rattle.rv_hardware.proofs.Words.{CacheLine, write_back_time, Hardware, reset_hardware}
use Rattle.rv_cache.proofs.Replacement.{length-accessed}
use Rattle.rv_cache.proofs.Sets.{Each-at, Each-map, Each-replicate, Each-set}
use Rattle.rv_hardware.proofs.Turns.Cited.{IsKept, phases-kept, IsKeptByChanges, cache_written, store_drains}
use Rattle.rv_hardware.proofs.Turns.Cited.{load_accesses, longest_write_back}

abbrev Fits : ℕ → List CacheLine → Type 0
Fits ways lines = length lines ≤ ways

abbrev pub FitIn : CacheValues → List (List CacheLine) → Type 0
FitIn values sets = (length sets ≤ values.sets) × Each (Fits values.ways) sets

-- the cache has no more sets than described, and no set more lines than ways
abbrev pub HasRoom : Hardware → Type 0
HasRoom h = FitIn h.cache.values h.cache.sets

empty_fits : (ways : ℕ) → Fits ways []
empty_fits ways = omega arith

-- an access leaves no more lines in a set than there is room for
pub accessed-fit : (cache : Contents Memory) (address : ℕ) (writes : Bool) → FitIn cache.values cache.sets →
    FitIn cache.values (accessed_sets cache address writes)
accessed-fit cache address writes fits = grind (arith, Each-at, length-set, Each-set, length-accessed)

cleaned_fits : (ways : ℕ) (lines : List CacheLine) → Fits ways lines → Fits ways (map cleaned lines)
cleaned_fits ways lines fits = omega (arith, length-map lines cleaned)

pub written-fit : (values : CacheValues) (sets : List (List CacheLine)) → FitIn values sets →
    FitIn values (map (map cleaned) sets)
written-fit values sets fits = grind (arith, length-map, Each-map, cleaned_fits)

-- no more lines are dirty than there are
one_at_most : (dirty : Bool) → cond dirty 1 0 ≤ 1
one_at_most dirty = grind arith

count_at_most : (lines : List CacheLine) → dirty_count lines ≤ length lines
count_at_most [] = omega arith
count_at_most (line ∷ lines) = omega (arith, one_at_most line.dirty, count_at_most lines)

total_at_most : (ways : ℕ) (sets : List (List CacheLine)) → Each (Fits ways) sets →
    dirty_total sets ≤ length sets * ways
total_at_most ways [] fit = omega arith
total_at_most ways (lines ∷ sets) fit = grind (arith, count_at_most, total_at_most ways sets fit.1)

-- a write-back takes no longer than one of all lines
pub write_back_time-most : (h : Hardware) → HasRoom h → write_back_time h ≤ longest_write_back h
write_back_time-most h fits = grind (arith, total_at_most, mul-le-mul_right)

-- after a write-back none is dirty
none_dirty : (lines : List CacheLine) → dirty_count (map cleaned lines) ≡ 0
none_dirty [] = refl
none_dirty (line ∷ lines) = omega (arith, none_dirty lines)

-- after a write-back no line is dirty
pub clean-after : (sets : List (List CacheLine)) → dirty_total (map (map cleaned) sets) ≡ 0
clean-after [] = refl
clean-after (lines ∷ sets) = omega (arith, none_dirty lines, clean-after sets)

-- each change keeps it
pub room_changes : IsKeptByChanges HasRoom
room_changes h _ (cache_written drained) fits = written-fit h.cache.values h.cache.sets fits
room_changes h _ (store_drains access idle is) fits = accessed-fit h.cache access.address true fits
room_changes h _ (load_accesses k older younger e address split ready by) fits = accessed-fit h.cache address false fits
room_changes h _ _ fits = fits

-- every cycle keeps it
pub room-kept : IsKept HasRoom
room-kept = record { phases = phases-kept room_changes; fetch = λ ram cycle h front stop fits fetches. fits }

-- it holds at reset
pub room-at_reset : (values : Values) (image : List ℕ) (start : ℕ) → HasRoom (reset_hardware values image start)
room-at_reset values image start =
    let none : List CacheLine = [] in (
      omega (arith, length-replicate values.cache.sets none),
      Each-replicate (Fits values.cache.ways) values.cache.sets [] (empty_fits values.cache.ways),
    )
