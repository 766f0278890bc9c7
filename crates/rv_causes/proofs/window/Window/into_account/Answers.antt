use Rattle.std.proofs.Common.{arith}
use Rattle.std.proofs.lemmas.List.{take_all}
use Rattle.rv_causes.proofs.Windows.{account-end}
use Rattle.rv_causes.proofs.window.Window.into_account.Goals as goal

pub returns : goal.returns
returns c = grind (arith, take_all, account-end)
