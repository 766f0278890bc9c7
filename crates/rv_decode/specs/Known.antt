-- What a decoder notes of a word beside its instruction.
use Rattle.std.specs.Prelude.{ℕ, if◌then◌else◌, List, [], ◌∷◌, Option, Some, None}
use Rattle.std.specs.Option.{unwrap_or}
use Rattle.rv_isa.specs.Instruction.{is_branch_or_jump, is_serialising, is_store, kind_of_word, target_of_word}
use Rattle.rv_isa.specs.Operands.{sources_of}
use Rattle.rv_isa.specs.declared.instructions.Instr.{Instr}
use Rattle.rv_decode.specs.declared.decoded.{Known.Known, Class.Class}
use Rattle.rv_decode.specs.declared.decoded.Class.TheVariants.{Store, Serialising, BranchOrJump, Other}

-- the registers that a word reads, first `rs1` and then `rs2`: none where it is no instruction
abbrev pub both_sources : Option Instr → List (Option ℕ)
both_sources None = None ∷ None ∷ []
both_sources (Some instruction) = sources_of instruction

-- what hardware does with a word beside its execution
abbrev pub class_of : Option Instr → Class
class_of instruction =
    if is_store instruction then Store
    else if is_serialising instruction then Serialising
    else if is_branch_or_jump instruction then BranchOrJump
    else Other

-- what is noted of the word that is this instruction, or none; register x0 stands for no target
abbrev pub known_of : Option Instr → Known
known_of instruction = record {
  kind = kind_of_word instruction;
  target = unwrap_or (target_of_word instruction) 0;
  class = class_of instruction;
}
