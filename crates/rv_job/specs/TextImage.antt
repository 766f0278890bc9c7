-- What an assembly text means, with RAM from an address on.
use Rattle.std.specs.Prelude.{◌≡◌, ℕ, ◌%◌, ◌≤◌, List, length, Option, None}
use Rattle.rv_isa.specs.declared.{images.Image.Image, values.Values.Values}
use Rattle.rv_asm.specs.Faults.{fault_of}
use Rattle.rv_asm.specs.Layout.{layout, lines_of}
use Rattle.rv_asm.specs.Meaning.{Spells, image_parts, start_address}
use Rattle.rv_asm.specs.declared.fault.AsmFault.{AsmFault}

-- the first fault of a text and its line, if there is one
abbrev pub text_fault : ℕ → List ℕ → Option (AsmFault × ℕ)
text_fault base text = fault_of base (lines_of text)

-- a text has no fault, and an image is what it means
pub record IsImageOf (ram_base : ℕ) (text : List ℕ) (image : Image) : Type 0 where
  pub faultless : text_fault ram_base text ≡ None
  pub base : image.base ≡ ram_base
  pub bytes : Spells (image_parts ram_base (lines_of text)) image.bytes
  pub start : image.start ≡ start_address ram_base (layout (lines_of text))

-- a machine's RAM has room for an image, and its start is a multiple of 4
abbrev pub Fits : Values → Image → Type 0
Fits machine image = (length image.bytes ≤ machine.ram_size) × (image.start % 4 ≡ 0)
