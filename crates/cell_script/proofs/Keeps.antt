-- What holds of each value that keys may be read as.
use Rattle.std.proofs.Common.{List, ℕ, Option, Some, None}
use Rattle.toml.specs.Data.{Data}
use Rattle.rule_checks.proofs.Keeps.{Keeps}
use Rattle.cell_script.specs.Break.{Read}
use Rattle.cell_script.specs.Keys.{Keys, optional, none_unknown, only_keys, first_unknown, keys_of}

pub Keeps-optional : {A : Type 0} (Q : A → Type 0) (absent : A) (read : Data → Read A) (o : Option Data) → Q absent → ((d : Data) → Keeps Q (read d)) → Keeps Q (optional absent read o)
Keeps-optional Q absent read None none some = none
Keeps-optional Q absent read (Some d) none some = some d

pub Keeps-only : {A : Type 0} (Q : A → Type 0) (keys : Keys) (known : List (List ℕ)) (next : Read A) → Keeps Q next → Keeps Q (only_keys keys known next)
Keeps-only Q keys known next then = by_unknown (first_unknown known (keys_of keys.members))
  where
    by_unknown : (o : Option (List ℕ)) → Keeps Q (none_unknown keys o next)
    by_unknown None = then
    by_unknown (Some key) = tt
