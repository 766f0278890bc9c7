-- The next of the lines that the program keeps.
use Rattle.std.proofs.Common.{◌≡◌, ◌+◌, ◌<◌, ℕ, List, drop, get_or, length, Option}
use Rattle.std.proofs.Common.{arith}
use Rattle.std.specs.Option.{option_map, option_or}
use Rattle.std.proofs.lemmas.List.{drop_more}
use Rattle.rv_asm.proofs.Emitted.{Begins, begins_more}
use Rattle.rv_asm.specs.Emitted.{Appends}
use Rattle.rv_asm.specs.Kept.{first_with_fault}
use Rattle.rv_asm.specs.Layout.{Layout}
use Rattle.rv_asm.specs.Meaning.{Cell, contents, line_cells, parts_in}
use Rattle.rv_asm.specs.Placed.{Placed}
use Rattle.rv_asm.specs.Symbols.{kept_in, lines_in, placed_of}
use Rattle.rv_asm.specs.declared.{fault.AsmFault.AsmFault, operation.Section.Section}
use Rattle.rv_asm.specs.declared.{record.Record.Record}

module _ (items : List Record) (i : ℕ) (d : Record) (within : i < length items) where
  -- its fault goes before those of the others
  pub next_fault : (f : Placed → Option AsmFault) (fault : Option AsmFault) → f (placed_of (get_or items i d)) ≡ fault →
      first_with_fault f (kept_in (drop i items))
      ≡ option_or (option_map (λ found. (found, (get_or items i d).line.number)) fault)
      (first_with_fault f (kept_in (drop (i + 1) items)))
  next_fault f fault is = grind (arith, drop_more)

  -- what it appends goes before what the others do
  pub begins_next : {all : List Cell} {a b : List ℕ} (base : ℕ) (whole : Layout) (part : Section) →
      Begins all (contents base whole part (lines_in (drop i items))) a →
      Appends (parts_in part (get_or items i d).reach.section (line_cells base whole (placed_of (get_or items i d)))) a
      b → Begins all (contents base whole part (lines_in (drop (i + 1) items))) b
  begins_next base whole part begin put = begins_more (rw (drop_more items i d within) at begin) put
