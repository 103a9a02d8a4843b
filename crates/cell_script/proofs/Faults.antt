-- Reading that stops at the first broken rule.
use Rattle.std.proofs.Common.{◌≡◌, ℕ, List, Err, refl}
use Rattle.rapid_model.specs.declared.script_rule.ScriptRule.{ScriptRule}
use Rattle.cell_script.specs.declared.fault.ScriptFault.{ScriptFault}
use Rattle.cell_script.specs.declared.fault.ScriptFault.TheVariants.{Rule}
use Rattle.cell_script.specs.Break.{Read, shown, at_key}
use Rattle.cell_script.specs.Gives.{Fails}

-- the fault of a rule broken at a key
pub Fails-broken : {A : Type 0} (fault : ScriptFault) (key : List ℕ) (rule : ScriptRule) (read : Read A) → fault ≡ Rule (shown key) rule → read ≡ Err (at_key key rule) → Fails fault read
Fails-broken fault key rule read is at = rw (is, at) refl
