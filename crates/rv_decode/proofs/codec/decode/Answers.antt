use Rattle.std.proofs.Common.{◌∙◌}
use Rattle.rv_decode.proofs.Relation.{instruction_of-Decodes, IfSome-instruction_of}
use Rattle.rv_decode.proofs.Relation.{IsNone-instruction_of, FitsOneRowAtMost-table}
use Rattle.rv_decode.proofs.codec.decode.Goals as goal

pub returns-clause-decoded : goal.returns-clause-decoded
returns-clause-decoded c = IfSome-instruction_of c.args.word c.by_opcode.result c.by_opcode.ensures

pub returns-clause-complete : goal.returns-clause-complete
returns-clause-complete c = λ i decodes. c.by_opcode.ensures ∙ instruction_of-Decodes c.args.word i decodes

pub returns-clause-illegal : goal.returns-clause-illegal
returns-clause-illegal c = IsNone-instruction_of c.args.word c.by_opcode.result c.by_opcode.ensures

pub returns-clause-one_row : goal.returns-clause-one_row
returns-clause-one_row c = FitsOneRowAtMost-table c.args.word
