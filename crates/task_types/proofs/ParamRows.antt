-- Parameters that are typed one after another.
use Rattle.std.proofs.Common.{◌≡◌, ℕ, ◌+◌, zero, suc, ◌<◌, List, [], ◌∷◌, ◌++◌, drop, get_or, length, map, slice_get, Some, None, refl, ap, sym, ◌∙◌, append_assoc}
use Rattle.std.proofs.lemmas.List.{drop_more}
use Rattle.std.proofs.lemmas.Option.{get_or_from_slice_get, slice_get_within}
use Rattle.raw_trees.specs.declared.raw_routine.RawParam.{RawParam}
use Rattle.raw_trees.specs.Plain.{PlainParam}
use Rattle.raw_trees.specs.Views.{view_param}
use Rattle.typed_trees.specs.Plain.{TypedParam}
use Rattle.data_scopes.specs.declared.data_row.ParamRow.{ParamRow}
use Rattle.task_types.specs.Task.{typed_params}

past : (rows : List ParamRow) (i : ℕ) → slice_get rows i ≡ None → drop i rows ≡ []
past [] zero none = refl
past [] (suc i) none = refl
past (row ∷ rows) zero none = absurd cc
past (row ∷ rows) (suc i) none = past rows i none

pub no_rows_left : (params : List PlainParam) (rows : List ParamRow) (i : ℕ) → slice_get rows i ≡ None → typed_params params (drop i rows) ≡ []
no_rows_left [] rows i none = refl
no_rows_left (p ∷ ps) rows i none = ap (typed_params (p ∷ ps)) (past rows i none)

pub one_more_param : (front more : List TypedParam) (params : List RawParam) (rows : List ParamRow) (i : ℕ) (d : RawParam) (row : ParamRow) → i < length params → slice_get rows i ≡ Some row →
    front ++ typed_params (view_param (get_or params i d) ∷ []) (row ∷ []) ≡ more →
    more ++ typed_params (map view_param (drop (i + 1) params)) (drop (i + 1) rows) ≡ front ++ typed_params (map view_param (drop i params)) (drop i rows)
one_more_param front more params rows i d row within here one =
    let p = get_or params i d in
    let next_row : drop i rows ≡ row ∷ drop (i + 1) rows = drop_more rows i row (slice_get_within rows i row here) ∙ ap (λ r. r ∷ drop (i + 1) rows) (get_or_from_slice_get rows i row row here) in
    let both : typed_params (map view_param (drop i params)) (drop i rows) ≡ typed_params (map view_param (p ∷ drop (i + 1) params)) (row ∷ drop (i + 1) rows) =
    ap (λ ps. typed_params (map view_param ps) (drop i rows)) (drop_more params i d within) ∙ ap (λ rs. typed_params (map view_param (p ∷ drop (i + 1) params)) rs) next_row in
    ap (λ l. l ++ typed_params (map view_param (drop (i + 1) params)) (drop (i + 1) rows)) (sym one) ∙ append_assoc front _ _ ∙ ap (λ rest. front ++ rest) (sym both)
