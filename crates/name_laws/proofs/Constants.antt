-- Each constant that a name means has a place among the kept ones.
use Rattle.std.proofs.Common.{◌≡◌, ℕ, ◌<◌, Bool, List, [], length, None, Some, Ok, refl, sym, ap, subst, ◌∙◌, arith}
use Rattle.std.proofs.lemmas.List.{length-replicate}
use Rattle.raw_trees.specs.Plain.{PlainModule}
use Rattle.rapid_model.specs.declared.signal_row.SignalRow.{SignalRow}
use Rattle.rule_checks.specs.declared.spot.Spot.{Spot}
use Rattle.rule_checks.proofs.Steps.{behind, ok_same}
use Rattle.data_scopes.specs.declared.meant.Meant.TheVariants as meants
use Rattle.data_scopes.specs.Declarations.{modules_rules}
use Rattle.data_scopes.specs.Naming.{names_of}
use Rattle.data_scopes.specs.Numbers.{no_counts, tables_of}
use Rattle.data_scopes.specs.Rows.{modules_rows, no_rows}
use Rattle.data_scopes.specs.Scopes.{Names, Tables, meaning}
use Rattle.data_scopes.proofs.Rowed.{are_numbered}

-- as many are kept as have a row, and the tables are those of the modules
record AreMade (tables : Tables) (names : Names) : Type 0 where
  pub as_many : length names.kept ≡ length names.rows.consts
  pub are_tables : tables ≡ names.tables

names_made : (modules : List PlainModule) (signals : List SignalRow) (axes : ℕ) (names : Names) → names_of modules signals axes ≡ Ok names → AreMade (tables_of modules signals) names
names_made modules signals axes names e =
    let tables = tables_of modules signals in
    behind (AreMade tables names) names (modules_rules tables 0 [] no_counts modules) _ e (λ u is rest.
    behind (AreMade tables names) names (modules_rows tables 0 modules no_rows) _ rest (λ rows found done.
    subst (AreMade tables) (ok_same _ names done) (record { as_many = length-replicate (length rows.consts) None; are_tables = refl })))

pub constants_kept : (modules : List PlainModule) (signals : List SignalRow) (axes : ℕ) (names : Names) → names_of modules signals axes ≡ Ok names → (spot : Spot) (name : List ℕ) (k : ℕ) →
    meaning (tables_of modules signals) spot name ≡ Some (meants.Const k) → (k < length names.kept) × (k < length names.rows.consts)
constants_kept modules signals axes names e spot name k means =
    let made = names_made modules signals axes names e in
    let known = are_numbered modules signals axes names e in
    let has_row : k < length names.rows.consts = known.rows spot name (meants.Const k) (ap (λ t. meaning t spot name) (sym made.are_tables) ∙ means) in
    (omega (arith, has_row, made.as_many), has_row)
