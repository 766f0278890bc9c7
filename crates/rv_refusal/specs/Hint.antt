-- What to write in place of a statement at fault, where it is known what was meant.
use Rattle.std.specs.Prelude.{ℕ, List, [], Bool}
use Rattle.std.specs.{Option.option_map_or}
use Rattle.rv_asm.specs.Layout.{body_of}
use Rattle.rv_asm.specs.Token.{Token}
use Rattle.rv_asm.specs.declared.fault.AsmFault.{AsmFault}
use Rattle.rv_asm.specs.declared.fault.AsmFault.TheVariants as fault
use Rattle.rv_refusal.specs.ByteHint.{bytes_hint}
use Rattle.rv_refusal.specs.NameHint.{statement_hint}
use Rattle.rv_refusal.specs.Names.{unknown_name}
use Rattle.rv_refusal.specs.OperandHint.{operands_hint, range_hint, register_hint, target_hint}
use Rattle.rv_refusal.specs.Statement.{first_name}

-- what to write in place of a statement at fault, where these symbols are defined
unfoldable pub body_hint : AsmFault → (List ℕ → Bool) → List Token → List ℕ
body_hint fault.UnknownMnemonic defined body = statement_hint body
body_hint fault.UnknownSymbol defined body =
    option_map_or register_hint (unknown_name fault.UnknownSymbol defined body) []
body_hint fault.BadOperands defined body = operands_hint defined body
body_hint fault.BadRegister defined body = target_hint body
body_hint fault.OutOfRange defined body = option_map_or range_hint (first_name body) []
body_hint _ defined body = []

-- what to write in place of what is at fault on a line with these tokens, where so many lines stand before the assembly
unfoldable pub hint : ℕ → AsmFault → (List ℕ → Bool) → List ℕ → List Token → List ℕ
hint before fault.BadToken defined line tokens = bytes_hint before line
hint before fault defined line tokens = body_hint fault defined (body_of tokens)
