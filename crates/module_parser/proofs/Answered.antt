-- The readers of modules parse their forms correctly, within any number of levels.
use Rattle.std.proofs.Common.{ℕ, ◌≤◌, true, false, List, [], ◌∷◌, ◌++◌, refl}
use Rattle.rapid_forms.specs.declared.sign.Sign.{Sign}
use Rattle.rapid_forms.specs.declared.sign.Sign.TheVariants as signs
use Rattle.rapid_forms.specs.Forms.{seq, many, made}
use Rattle.rapid_forms.proofs.Up.{Up, up_levels}
use Rattle.rapid_forms.proofs.Opens.{one_opens, seq_opens, made_opens}
use Rattle.rapid_forms.proofs.Same.{same_sym}
use Rattle.rapid_forms.proofs.Right.{Reads}
use Rattle.expr_parser.specs.Grammar.{inside, mark, behind, inner, first_and_more}
use Rattle.expr_parser.specs.Reads.{inside_read, value_read, left, right}
use Rattle.expr_parser.proofs.Ahead.{inside_ll, inside_above, index_opens}
use Rattle.expr_parser.proofs.Answered.{inside_reads}
use Rattle.stmt_parser.specs.Reads.{behind_read, if_read}
use Rattle.rapid_forms.proofs.Serves.{Serves, one_serves, larger_serves, same_serves, both_serve, made_serves, either_serves, optional_serves, many_serves}
use Rattle.stmt_parser.proofs.Answered.{any_serves, name_serves, value_serves, behind_serves, if_serves, list_serves, list_reads}
use Rattle.module_parser.specs.Words.{attribute_of}
use Rattle.module_parser.specs.Grammar.{datum_tree, task_item, param_tree, module_tree, rest, datum, param, params, body, local, item, attribute, attributes, «module»}
use Rattle.module_parser.specs.Reads.{datum_signs, item_signs, attribute_signs, mode_signs, param_signs, rest_read, datum_read, param_read, more_param_read, some_params_read, params_read, locals_read, body_read, proc_read, func_read, trap_read, behind_local_read, local_tree, local_read, task_read, item_read, attribute_read, more_attribute_read, attributes_read, module_read}
use Rattle.module_parser.proofs.Ahead.{body_signs, routine_signs, proc, func, trap, bare_routine, behind_local, item_joined, item_same, datum_ll, datum_up, module_up, datum_opens, param_opens, item_opens}

module _ {n : ℕ} where
  -- data

  index_serves : Serves false (signs.OpenBrace ∷ []) [] (λ m. (inside m).index) n (inside_read n).index
  index_serves = record { reads = (inside_reads n).index; ahead = λ m. (inside_ll m).index; above = λ k m le. (inside_above k m le).index }

  rest_serves : Serves false (signs.Name ∷ []) [] rest n (rest_read n)
  unfolding rest rest_read value_read if_read behind_read
  rest_serves =
      larger_serves
      (both_serve name_serves
      (both_serve name_serves (both_serve (optional_serves index_serves index_opens) (both_serve (if_serves _ value_serves) (one_serves _) refl) refl) refl) refl)
      refl refl

  pub datum_serves : (words : List Sign) → Serves false words [] (datum words) n (datum_read words n)
  unfolding datum datum_read
  datum_serves words = record {
    reads = (made_serves datum_tree (both_serve (one_serves words) rest_serves refl)).reads;
    ahead = datum_ll words;
    above = up_levels (datum words) (datum_up words);
  }

  -- routines

  pub param_serves : Serves false param_signs [] (λ m. param) n param_read
  unfolding param param_read
  param_serves =
      larger_serves (made_serves param_tree (both_serve (optional_serves (one_serves mode_signs) (one_opens _)) (both_serve name_serves name_serves refl) refl)) refl refl

  some_params_serve : Serves false param_signs (signs.Comma ∷ []) (λ m. made first_and_more (seq param (many (made behind (seq (mark signs.Comma) param))))) n some_params_read
  unfolding some_params_read more_param_read behind_read
  some_params_serve = made_serves first_and_more (both_serve param_serves (many_serves (behind_serves _ param_serves) (made_opens _ (seq_opens _ (one_opens _))) refl) refl)

  params_serve : Serves false (signs.OpenParenthesis ∷ []) [] (λ m. params) n params_read
  unfolding params params_read
  params_serve =
      larger_serves
      (made_serves inner
      (both_serve (one_serves _)
      (both_serve (any_serves some_params_serve (made_opens _ (seq_opens _ param_opens))) (one_serves _) refl) refl))
      refl refl

  body_serves : Serves true body_signs body_signs body n (body_read n)
  unfolding body body_read locals_read
  body_serves =
      larger_serves (both_serve (many_serves (datum_serves _) (datum_opens _) refl) (both_serve (list_serves (list_reads n)) (if_serves _ (list_serves (list_reads n))) refl) refl) refl refl

  proc_serves : Serves false (signs.Proc ∷ []) [] proc n (proc_read n)
  unfolding proc proc_read
  proc_serves =
      larger_serves (both_serve (one_serves _) (both_serve name_serves (both_serve params_serve (both_serve body_serves (one_serves _) refl) refl) refl) refl) refl refl

  func_serves : Serves false (signs.Func ∷ []) [] func n (func_read n)
  unfolding func func_read
  func_serves =
      larger_serves
      (both_serve (one_serves _) (both_serve name_serves (both_serve name_serves (both_serve params_serve (both_serve body_serves (one_serves _) refl) refl) refl) refl) refl)
      refl refl

  trap_serves : Serves false (signs.Trap ∷ []) [] trap n (trap_read n)
  unfolding trap trap_read
  trap_serves = larger_serves (both_serve (one_serves _) (both_serve name_serves (both_serve body_serves (one_serves _) refl) refl) refl) refl refl

  -- items

  behind_local_serves : Serves false (datum_signs ++ routine_signs) [] behind_local n (behind_local_read n)
  unfolding behind_local bare_routine behind_local_read
  behind_local_serves =
      either_serves (made_serves left (datum_serves datum_signs))
      (made_serves right
      (either_serves (made_serves left proc_serves) (made_serves right (either_serves (made_serves left func_serves) (made_serves right trap_serves) refl)) refl)) refl

  pub item_serves : Serves false item_signs [] item n (item_read n)
  unfolding item_joined item_read task_read local local_read
  item_serves =
      same_serves
      (larger_serves
      (either_serves (made_serves task_item (both_serve (one_serves _) (datum_serves _) refl))
      (made_serves local_tree (both_serve (optional_serves (one_serves _) (one_opens _)) behind_local_serves refl)) refl)
      refl refl)
      (λ m. same_sym (item_same m))

  -- modules

  pub attribute_serves : Serves false attribute_signs [] (λ m. attribute) n attribute_read
  unfolding attribute attribute_read
  attribute_serves = made_serves attribute_of (one_serves _)

  attributes_serve : Serves false (signs.OpenParenthesis ∷ []) [] (λ m. attributes) n attributes_read
  unfolding attributes attributes_read more_attribute_read behind_read
  attributes_serve =
      larger_serves
      (made_serves inner
      (both_serve (one_serves _)
      (both_serve (made_serves first_and_more (both_serve attribute_serves (many_serves (behind_serves _ attribute_serves) (made_opens _ (seq_opens _ (one_opens _))) refl) refl)) (one_serves _) refl) refl))
      refl refl

  pub module_serves : Serves false (signs.Module ∷ []) [] «module» n (module_read n)
  unfolding «module» module_read attributes
  module_serves =
      larger_serves
      (made_serves module_tree
      (both_serve (one_serves _)
      (both_serve name_serves
      (both_serve (any_serves attributes_serve (made_opens _ (seq_opens _ (one_opens _))))
      (both_serve (many_serves item_serves item_opens refl) (one_serves _) refl) refl) refl) refl))
      refl refl

pub module_above : (k m : ℕ) → k ≤ m → Up («module» k) («module» m)
module_above = up_levels «module» module_up

pub module_reads : (n : ℕ) → Reads «module» n (module_read n)
module_reads n = module_serves.reads
