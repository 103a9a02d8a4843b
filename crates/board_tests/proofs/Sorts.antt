-- The types of the persistents of the test cell.
use Rattle.std.proofs.Common.{◌≡◌, ◌∙◌, ℕ, List, map, get_or, ap, sym}
use Rattle.std.proofs.Math.ListN.{get_or-map}
use Rattle.std.proofs.lemmas.Simd.{map-map}
use Rattle.rapid_model.specs.declared.pers_cell.PersCell.{PersCell}
use Rattle.rapid_model.specs.declared.sort.Sort.TheVariants as sorts
use Rattle.persist_store.specs.Stores.{PersData, first_row, no_row, row_at}
use Rattle.board_tests.specs.Boards.{sorts_of}
use Rattle.board_tests.specs.Rows.{row_sort, row_sorts}

pub sort_at : (rows : List PersData) (pers : ℕ) → sorts_of rows ≡ row_sorts → (row_at rows pers).sort ≡ row_sort pers
sort_at rows pers same =
    sym (get_or-map (λ row. row.sort) rows pers no_row) ∙ ap (λ all. get_or all pers sorts.Num) same

-- each persistent starts with values of its type
pub first_sorts : (rows : List PersCell) → sorts_of (map first_row rows) ≡ map (λ row. row.sort) rows
first_sorts rows = map-map (λ row. row.sort) first_row rows
