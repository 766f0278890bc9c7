-- How a run ended.
use Rattle.std.specs.Prelude.{ℕ, ◌==◌, ◌&&◌, Bool, true, false, is_none, if◌then◌else◌}
use Rattle.std.specs.Prelude.{List, [], ◌++◌, codes, Option, Some, None}
use Rattle.std.specs.Option.{option_and_then}
use Rattle.rv_arch.specs.declared.outcome.Stop.{Stop}
use Rattle.rv_arch.specs.declared.outcome.Stop.TheVariants.{Limit, Breakpoint, Stale, Exhausted}
use Rattle.rv_memory.specs.Memory.{word_of}
use Rattle.rv_hardware.specs.Hardware.{Hardware}
use Rattle.rv_source.specs.Listing.{Listed}
use Rattle.rv_source.specs.PlaceText.{place_text}
use Rattle.rv_sentences.specs.WordNotes.{Notes, note_at}
use Rattle.rv_sentences.specs.declared.{exception.Exception.Exception, series.Series.Series}
use Rattle.rv_explain.specs.LastBefore.{is_return}
use Rattle.rv_explain.specs.declared.origin.Origin.{Origin}

-- why a run ended
unfoldable pub reason_text : Stop → List ℕ
reason_text Breakpoint = codes "The run ended at a breakpoint, at "
reason_text (Stale pc) =
    codes "The run ended at a word that was stored to and then fetched without a FENCE.I in between, at "
reason_text Limit = codes "The run was cut off at its limit of cycles, and the program stood at "
reason_text Exhausted = codes "The core has done all the cycles that it counts, and the program stood at "

-- where it ended: at the breakpoint, as mepc has it (Privileged Architecture 20211203, 3.1.14), at the stale word, or at the
-- first instruction that has not retired
abbrev pub place_of : Stop → Hardware → ℕ
place_of Breakpoint h = h.csrs.mepc
place_of (Stale pc) h = pc
place_of Limit h = h.pc
place_of Exhausted h = h.pc

-- where the last store to a word is, if there was one
unfoldable pub last_store_text : Listed → Option ℕ → List ℕ
last_store_text listing (Some pc) = codes "The last store to that word was the one at " ++ place_text listing pc
last_store_text listing None = []

-- the last store to the word at which a run ended, if that is stale
abbrev pub stale_text : Listed → Stop → Notes (Option ℕ) → List ℕ
stale_text listing (Stale pc) last_stores =
    last_store_text listing (option_and_then (λ last. last) (note_at last_stores (word_of pc)))
stale_text listing Breakpoint last_stores = []
stale_text listing Limit last_stores = []
stale_text listing Exhausted last_stores = []

-- how a run ended, and where
unfoldable pub ending_text : Listed → Stop → Hardware → Notes (Option ℕ) → List ℕ
ending_text listing stop h last_stores =
    reason_text stop ++ (place_text listing (place_of stop h) ++ stale_text listing stop last_stores)

-- a run was cut off
abbrev pub is_cut_off : Stop → Bool
is_cut_off Breakpoint = false
is_cut_off (Stale pc) = false
is_cut_off Limit = true
is_cut_off Exhausted = true

-- an instruction is a return, and the program goes on at it again
abbrev pub goes_to_itself : ℕ → Option Origin → Bool
goes_to_itself pc None = false
goes_to_itself pc (Some origin) = is_return origin && origin.pc == pc

-- a run was cut off in a return that goes to itself: no exception came, and so the last instruction before one is the
-- last that retired
unfoldable pub is_stuck : Stop → Hardware → Option (Series Exception) → Option Origin → Bool
is_stuck stop h all last = is_cut_off stop && (is_none all && goes_to_itself h.pc last)

-- why it does, if it does: a call leaves in ra the address of the instruction after it (Unprivileged ISA 20191213, 2.5)
unfoldable pub stuck_text : Stop → Hardware → Option (Series Exception) → Option Origin → List ℕ
stuck_text stop h all last =
    if is_stuck stop h all last
    then codes "This return goes to itself: ra was overwritten by a call and not restored\n" else []
