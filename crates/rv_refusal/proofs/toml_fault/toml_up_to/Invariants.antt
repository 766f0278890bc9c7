use Rattle.std.proofs.Common.{◌≡◌, ◌≤◌, length}
use Rattle.rv_refusal.specs.TomlFault.{toml_up_to}
use Rattle.rv_refusal.proofs.toml_fault.toml_up_to.Given as goal

-- nothing is found after the place
abbrev pub invariant-loop-place : goal.invariant-loop-place
invariant-loop-place l = (toml_up_to l.text l.place ≡ toml_up_to l.text (length l.text)) × (l.place ≤ length l.text)

abbrev pub decreases-loop-place : goal.decreases-loop-place
decreases-loop-place l = l.place
