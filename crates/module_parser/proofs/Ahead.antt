-- One token of lookahead is enough for modules, and a text spells at most one. A form within some levels is also within
-- more. Each first sign of an item or a parameter can start one. The items that can start with LOCAL also appear with
-- it factored out, as they are read.
use Rattle.std.proofs.Common.{ℕ, suc, true, false, List, [], ◌∷◌, ◌++◌, refl, subst, ◌⊎◌, inr}
use Rattle.std.proofs.lemmas.List.{append-nil}
use Rattle.raw_trees.specs.Plain.{PlainItem}
use Rattle.rapid_forms.specs.declared.sign.Sign.{Sign}
use Rattle.rapid_forms.specs.declared.sign.Sign.TheVariants as signs
use Rattle.rapid_forms.specs.Forms.{Form, seq, either, made}
use Rattle.rapid_forms.proofs.Laws.{LL, one_ll, seq_ll, either_ll, optional_ll, many_ll, made_ll, larger_ll}
use Rattle.rapid_forms.proofs.Up.{Up, up_refl, seq_up, either_up, optional_up, many_up, made_up}
use Rattle.rapid_forms.proofs.Opens.{Opens, fewer_opens, one_opens, seq_opens, both_open, either_opens, optional_opens, made_opens, optional_empties}
use Rattle.rapid_forms.proofs.Same.{Same, same_refl, same_sym, same_trans, either_same, either_swapped, either_bracketed, same_ll, left, right, shared}
use Rattle.expr_parser.specs.Grammar.{mark, name}
use Rattle.expr_parser.proofs.Ahead.{name_ll, inside_ll, expr_of_ll, inside_up, expr_of_up, name_opens}
use Rattle.stmt_parser.specs.Reads.{stmt_signs}
use Rattle.stmt_parser.proofs.Ahead.{list_ll, list_up}
use Rattle.module_parser.specs.Grammar.{datum_item, task_item, proc_tree, func_tree, trap_tree, rest, datum, param, params, body, local, routine, item, attribute, attributes, «module»}
use Rattle.module_parser.specs.Reads.{datum_signs, item_signs, attribute_signs, param_signs, Proc, Func, Trap, Item, local_tree}

-- the signs that bodies and routines can start with

abbrev pub body_signs : List Sign
body_signs = signs.Const ∷ signs.Var ∷ signs.Error ∷ stmt_signs

abbrev pub routine_signs : List Sign
routine_signs = signs.Proc ∷ signs.Func ∷ signs.Trap ∷ []

-- the lines with a common start, as they are read

unfoldable pub proc : ℕ → Form Proc
proc n = seq (mark signs.Proc) (seq name (seq params (seq (body n) (mark signs.EndProc))))

unfoldable pub func : ℕ → Form Func
func n = seq (mark signs.Func) (seq name (seq name (seq params (seq (body n) (mark signs.EndFunc)))))

unfoldable pub trap : ℕ → Form Trap
trap n = seq (mark signs.Trap) (seq name (seq (body n) (mark signs.EndTrap)))

-- a routine without LOCAL before it
unfoldable pub bare_routine : ℕ → Form (Proc ⊎ (Func ⊎ Trap))
bare_routine n = either (made left (proc n)) (made right (either (made left (func n)) (made right (trap n))))

unfoldable pub routine_joined : ℕ → Form PlainItem
routine_joined n = made (λ at x. local_tree at (x.0, inr x.1)) (seq local (bare_routine n))

-- what follows an optional LOCAL
unfoldable pub behind_local : ℕ → Form Item
behind_local n = either (made left (datum datum_signs n)) (made right (bare_routine n))

unfoldable pub item_joined : ℕ → Form PlainItem
item_joined n =
    either (made task_item (seq (mark signs.Task) (datum (signs.Pers ∷ []) n))) (made local_tree (seq local (behind_local n)))

-- they are the lines of the grammar

pub routine_same : (n : ℕ) → Same (routine n) (routine_joined n)
unfolding routine routine_joined bare_routine proc func trap
routine_same n =
    same_trans (either_same (same_refl (made proc_tree (seq local (proc n)))) (shared func_tree trap_tree local (func n) (trap n)))
    (shared proc_tree (λ at x. local_tree at (x.0, inr (inr x.1))) local (proc n) (either (made left (func n)) (made right (trap n))))

pub item_same : (n : ℕ) → Same (item n) (item_joined n)
unfolding item item_joined routine_joined behind_local
item_same n =
    same_trans (either_same (same_refl _) (either_same (same_refl _) (routine_same n)))
    (same_trans (same_sym (either_bracketed _ _ _))
    (same_trans (either_same (either_swapped _ _) (same_refl _))
    (same_trans (either_bracketed _ _ _)
    (either_same (same_refl _) (shared datum_item (λ at x. local_tree at (x.0, inr x.1)) local (datum datum_signs n) (bare_routine n))))))

-- lookahead

pub rest_ll : (n : ℕ) → LL false (signs.Name ∷ []) [] (rest n)
unfolding rest
rest_ll n =
    let l = inside_ll n in
    larger_ll
    (seq_ll name_ll
    (seq_ll name_ll (seq_ll (optional_ll l.index) (seq_ll (optional_ll (made_ll _ (seq_ll (one_ll _) (expr_of_ll l) refl))) (one_ll _) refl) refl) refl) refl)
    refl refl

pub datum_ll : (words : List Sign) (n : ℕ) → LL false words [] (datum words n)
unfolding datum
datum_ll words n = subst (λ first. LL false first [] (datum words n)) (append-nil words) (made_ll _ (seq_ll (one_ll words) (rest_ll n) refl))

pub param_ll : LL false param_signs [] param
unfolding param
param_ll = larger_ll (made_ll _ (seq_ll (optional_ll (one_ll _)) (seq_ll name_ll name_ll refl) refl)) refl refl

pub params_ll : LL false (signs.OpenParenthesis ∷ []) [] params
unfolding params
params_ll =
    larger_ll
    (made_ll _
    (seq_ll (one_ll _)
    (seq_ll (made_ll _ (optional_ll (made_ll _ (seq_ll param_ll (many_ll (made_ll _ (seq_ll (one_ll _) param_ll refl)) refl) refl)))) (one_ll _) refl) refl))
    refl refl

pub body_ll : (n : ℕ) → LL true body_signs body_signs (body n)
unfolding body
body_ll n =
    larger_ll
    (seq_ll (many_ll (datum_ll _ n) refl) (seq_ll (list_ll n) (optional_ll (made_ll _ (seq_ll (one_ll _) (list_ll n) refl))) refl) refl)
    refl refl

pub local_ll : LL true (signs.Local ∷ []) (signs.Local ∷ []) local
unfolding local
local_ll = optional_ll (one_ll _)

pub proc_ll : (n : ℕ) → LL false (signs.Proc ∷ []) [] (proc n)
unfolding proc
proc_ll n = larger_ll (seq_ll (one_ll _) (seq_ll name_ll (seq_ll params_ll (seq_ll (body_ll n) (one_ll _) refl) refl) refl) refl) refl refl

pub func_ll : (n : ℕ) → LL false (signs.Func ∷ []) [] (func n)
unfolding func
func_ll n =
    larger_ll (seq_ll (one_ll _) (seq_ll name_ll (seq_ll name_ll (seq_ll params_ll (seq_ll (body_ll n) (one_ll _) refl) refl) refl) refl) refl) refl refl

pub trap_ll : (n : ℕ) → LL false (signs.Trap ∷ []) [] (trap n)
unfolding trap
trap_ll n = larger_ll (seq_ll (one_ll _) (seq_ll name_ll (seq_ll (body_ll n) (one_ll _) refl) refl) refl) refl refl

pub bare_routine_ll : (n : ℕ) → LL false routine_signs [] (bare_routine n)
unfolding bare_routine
bare_routine_ll n =
    larger_ll (either_ll (made_ll _ (proc_ll n)) (made_ll _ (either_ll (made_ll _ (func_ll n)) (made_ll _ (trap_ll n)) refl refl)) refl refl) refl refl

pub behind_local_ll : (n : ℕ) → LL false (datum_signs ++ routine_signs) [] (behind_local n)
unfolding behind_local
behind_local_ll n = either_ll (made_ll _ (datum_ll _ n)) (made_ll _ (bare_routine_ll n)) refl refl

pub item_ll : (n : ℕ) → LL false item_signs [] (item n)
unfolding item_joined
item_ll n =
    same_ll (same_sym (item_same n))
    (larger_ll (either_ll (made_ll _ (seq_ll (one_ll _) (datum_ll _ n) refl)) (made_ll _ (seq_ll local_ll (behind_local_ll n) refl)) refl refl) refl refl)

pub attribute_ll : LL false attribute_signs [] attribute
unfolding attribute
attribute_ll = made_ll _ (one_ll _)

pub attributes_ll : LL false (signs.OpenParenthesis ∷ []) [] attributes
unfolding attributes
attributes_ll =
    larger_ll
    (made_ll _
    (seq_ll (one_ll _)
    (seq_ll (made_ll _ (seq_ll attribute_ll (many_ll (made_ll _ (seq_ll (one_ll _) attribute_ll refl)) refl) refl)) (one_ll _) refl) refl))
    refl refl

pub module_ll : (n : ℕ) → LL false (signs.Module ∷ []) [] («module» n)
unfolding «module»
module_ll n =
    larger_ll
    (made_ll _
    (seq_ll (one_ll _)
    (seq_ll name_ll (seq_ll (made_ll _ (optional_ll attributes_ll)) (seq_ll (many_ll (item_ll n) refl) (one_ll _) refl) refl) refl) refl))
    refl refl

-- from one level to higher ones

pub rest_up : (n : ℕ) → Up (rest n) (rest (suc n))
unfolding rest
rest_up n =
    let p = inside_up n in
    seq_up (up_refl _)
    (seq_up (up_refl _) (seq_up (optional_up p.index) (seq_up (optional_up (made_up _ (seq_up (up_refl _) (expr_of_up p)))) (up_refl _))))

pub datum_up : (words : List Sign) (n : ℕ) → Up (datum words n) (datum words (suc n))
unfolding datum
datum_up words n = made_up _ (seq_up (up_refl _) (rest_up n))

pub body_up : (n : ℕ) → Up (body n) (body (suc n))
unfolding body
body_up n = seq_up (many_up (datum_up _ n)) (seq_up (list_up n) (optional_up (made_up _ (seq_up (up_refl _) (list_up n)))))

pub proc_up : (n : ℕ) → Up (proc n) (proc (suc n))
unfolding proc
proc_up n = seq_up (up_refl _) (seq_up (up_refl _) (seq_up (up_refl _) (seq_up (body_up n) (up_refl _))))

pub func_up : (n : ℕ) → Up (func n) (func (suc n))
unfolding func
func_up n = seq_up (up_refl _) (seq_up (up_refl _) (seq_up (up_refl _) (seq_up (up_refl _) (seq_up (body_up n) (up_refl _)))))

pub trap_up : (n : ℕ) → Up (trap n) (trap (suc n))
unfolding trap
trap_up n = seq_up (up_refl _) (seq_up (up_refl _) (seq_up (body_up n) (up_refl _)))

pub routine_up : (n : ℕ) → Up (routine n) (routine (suc n))
unfolding routine proc func trap
routine_up n =
    either_up (made_up _ (seq_up (up_refl _) (proc_up n)))
    (either_up (made_up _ (seq_up (up_refl _) (func_up n))) (made_up _ (seq_up (up_refl _) (trap_up n))))

pub item_up : (n : ℕ) → Up (item n) (item (suc n))
unfolding item
item_up n =
    either_up (made_up _ (seq_up (up_refl _) (datum_up _ n))) (either_up (made_up _ (seq_up (up_refl _) (datum_up _ n))) (routine_up n))

pub module_up : (n : ℕ) → Up («module» n) («module» (suc n))
unfolding «module»
module_up n = made_up _ (seq_up (up_refl _) (seq_up (up_refl _) (seq_up (up_refl _) (seq_up (many_up (item_up n)) (up_refl _)))))

-- first signs that can start a form

pub datum_opens : (words : List Sign) → Opens words (datum words)
unfolding datum
datum_opens words = made_opens _ (seq_opens _ (one_opens words))

pub param_opens : Opens param_signs (λ n. param)
unfolding param
param_opens = made_opens _ (fewer_opens (both_open (optional_opens (one_opens _)) (optional_empties _) (seq_opens _ name_opens)) refl)

local_opens : {A : Type 0} {first : List Sign} {F : ℕ → Form A} → Opens first F → Opens (signs.Local ∷ first) (λ n. seq local (F n))
unfolding local
local_opens o = both_open (optional_opens (one_opens _)) (optional_empties _) o

pub item_opens : Opens item_signs item
unfolding item routine
item_opens =
    fewer_opens
    (either_opens (made_opens _ (local_opens (datum_opens _)))
    (either_opens (made_opens _ (seq_opens _ (one_opens _)))
    (either_opens (made_opens _ (local_opens (seq_opens _ (one_opens _))))
    (either_opens (made_opens _ (local_opens (seq_opens _ (one_opens _)))) (made_opens _ (local_opens (seq_opens _ (one_opens _))))))))
    refl
