-- A table of components as the list of its rows.
use Rattle.std.proofs.Common.{ℕ, List, map, Bor}
use Rattle.rapid_model.specs.declared.sort.Sort.{Sort}
use Rattle.rapid_model.specs.declared.part_name.PartName.{PartName}
use Rattle.rapid_values.specs.Components.{Component}

abbrev pub plain : List (Bor (List ℕ) × PartName × Sort) → List Component
plain rows = map (λ row. record { name = row.0.now; part = row.1; sort = row.2 }) rows
