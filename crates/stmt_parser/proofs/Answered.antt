-- The readers of statements parse their forms correctly, within any number of levels.
use Rattle.std.proofs.Common.{ℕ, zero, suc, ◌≤◌, Bool, true, false, List, [], ◌∷◌, ◌++◌, Option, None, Some, refl}
use Rattle.rapid_lexer.specs.Tokens.{Lexeme}
use Rattle.raw_trees.specs.Plain.{PlainExpr, PlainStmt}
use Rattle.rapid_forms.specs.declared.sign.Sign.{Sign}
use Rattle.rapid_forms.specs.declared.sign.Sign.TheVariants as signs
use Rattle.rapid_forms.specs.Forms.{Form, seq, optional, made}
use Rattle.rapid_forms.specs.Reading.{Reader, seq_read, made_read, optional_read, many_read}
use Rattle.rapid_forms.proofs.Sets.{when}
use Rattle.rapid_forms.proofs.Up.{Up, up_levels, optional_up, made_up}
use Rattle.rapid_forms.proofs.Opens.{Opens, one_opens, seq_opens, made_opens}
use Rattle.rapid_forms.proofs.Same.{Same, same_refl, same_sym}
use Rattle.rapid_forms.proofs.Right.{Reads, nothing_reads, level_reads, same_reads}
use Rattle.expr_parser.specs.Grammar.{inside, mark, name, parts, parts_of, place, place_tree, expr, expr_of, exprs, args, behind, none_or}
use Rattle.expr_parser.specs.Reads.{inside_read, expr_signs, arg_signs, mark_read, name_read, parts_read, place_read, expr_read, expr_of_read, exprs_read, left, right}
use Rattle.expr_parser.proofs.Ahead.{place_more, expr_more, exprs_more, args_more, inside_ll, parts_ll, expr_ll, exprs_ll, args_ll, inside_above, parts_up, exprs_up, expr_opens}
use Rattle.expr_parser.proofs.Answered.{expr_above, expr_reads, exprs_reads, parts_reads, args_reads}
use Rattle.stmt_parser.specs.Grammar.{goto_tree, return_tree, exit_tree, raise_tree, retry_tree, try_next_tree, connect_tree, arm_tree, for_tree, while_tree, case_tree, test_tree, simple, arm, loop_for, loop_while, case, choice, list_of, stmts, list, stmt, items}
use Rattle.stmt_parser.specs.Reads.{worded_signs, stmt_signs, assigned_signs, named_simple_tree, named_tree, tested_tree, behind_read, if_read, assigned_read, called_read, behind_name_read, named_simple_read, named_read, goto_read, value_read, return_read, exit_read, raise_read, retry_read, try_next_read, connect_read, worded_read, simple_read, arm_read, arms_read, branched_read, tested_read, for_read, while_read, case_read, cases_read, default_read, test_read, stmt_of_read, list_read, stmt_read, items_read}
use Rattle.stmt_parser.proofs.Ahead.{simple_signs, called_signs, assigned, called, behind_name, named_simple, named, worded, simple_joined, branched, tested, stmt_joined, simple_same, stmt_same, list_same, stmts_ll, list_ll, stmts_up, list_up, items_up, stmt_opens, stmts_opens}
use Rattle.rapid_forms.proofs.Serves.{Serves, one_serves, larger_serves, same_serves, both_serve, made_serves, either_serves, remade_serves, optional_serves, many_serves}

-- from any number of levels to any higher one

stmts_above : (k m : ℕ) → k ≤ m → Up (stmts k) (stmts m)
stmts_above = up_levels stmts stmts_up

list_above : (k m : ℕ) → k ≤ m → Up (list k) (list m)
list_above = up_levels list list_up

pub items_above : (k m : ℕ) → k ≤ m → Up (items k) (items m)
items_above = up_levels items items_up

-- a list, or no token, which is the empty list; premise: each first sign opens the form
pub any_serves : {A : Type 0} {first more : List Sign} {F : ℕ → Form (List A)} {n : ℕ} {a : Reader (List A)} → Serves false first more F n a → Opens first F → Serves true first (more ++ first) (λ m. made none_or (optional (F m))) n (made_read none_or (optional_read first a))
any_serves x o = remade_serves none_or (optional_serves x o) (λ p q. elim [ None ↦ refl | Some xs ↦ refl ])

module _ {n : ℕ} where
  -- what is read of expressions

  pub name_serves : Serves false (signs.Name ∷ []) [] (λ m. name) n name_read
  unfolding name name_read
  name_serves = made_serves _ (one_serves _)

  pub value_serves : Serves false expr_signs expr_more (λ m. expr_of (inside m)) n (expr_of_read (inside_read n))
  unfolding expr expr_read
  value_serves = record { reads = expr_reads n; ahead = expr_ll; above = expr_above }

  values_serve : Serves false expr_signs exprs_more (λ m. exprs (expr_of (inside m))) n (exprs_read (expr_of_read (inside_read n)))
  unfolding expr expr_read
  values_serve = record { reads = exprs_reads n; ahead = λ m. exprs_ll (expr_ll m); above = λ k m le. exprs_up (expr_above k m le) }

  parts_serve : Serves true place_more place_more (λ m. parts_of (inside m)) n (parts_read (inside_read n))
  unfolding parts
  parts_serve = record { reads = parts_reads n; ahead = λ m. parts_ll (inside_ll m); above = λ k m le. parts_up (inside_above k m le) }

  args_serve : Serves true arg_signs (args_more ++ arg_signs) args n (made_read none_or (optional_read arg_signs (inside_read n).args))
  unfolding args
  args_serve = record { reads = args_reads n; ahead = args_ll; above = λ k m le. made_up _ (optional_up (inside_above k m le).args) }

  place_serves : Serves false (signs.Name ∷ []) place_more (λ m. place (inside m)) n (place_read (inside_read n))
  unfolding place place_read
  place_serves = larger_serves (made_serves place_tree (both_serve name_serves parts_serve refl)) refl refl

  -- what follows a word or mark, if it is there

  module _ {A : Type 0} {null : Bool} {first more : List Sign} {F : ℕ → Form A} {a : Reader A} (sign : Sign) (x : Serves null first more F n a) where
    pub behind_serves : Serves false (sign ∷ []) (more ++ when null []) (λ m. made behind (seq (mark sign) (F m))) n (behind_read sign a)
    unfolding behind_read
    behind_serves = made_serves behind (both_serve (one_serves _) x refl)

    pub if_serves : Serves true (sign ∷ []) ((more ++ when null []) ++ sign ∷ []) (λ m. optional (made behind (seq (mark sign) (F m)))) n (if_read sign a)
    unfolding if_read
    if_serves = optional_serves behind_serves (made_opens _ (seq_opens _ (one_opens _)))

  -- statements that start with a name

  assigned_serves : Serves false assigned_signs [] (λ m. assigned (inside m)) n (assigned_read (inside_read n))
  unfolding assigned assigned_read
  assigned_serves = larger_serves (both_serve parts_serve (both_serve (one_serves _) (both_serve value_serves (one_serves _) refl) refl) refl) refl refl

  called_serves : Serves false called_signs [] (λ m. called (inside m)) n (called_read (inside_read n))
  unfolding called called_read args
  called_serves = larger_serves (both_serve args_serve (one_serves _) refl) refl refl

  behind_name_serves : Serves false (assigned_signs ++ called_signs) [] (λ m. behind_name (inside m)) n (behind_name_read (inside_read n))
  unfolding behind_name behind_name_read
  behind_name_serves = either_serves (made_serves left assigned_serves) (made_serves right called_serves) refl

  named_simple_serves : Serves false (signs.Name ∷ []) [] (λ m. named_simple (inside m)) n (named_simple_read (inside_read n))
  unfolding named_simple named_simple_read
  named_simple_serves = larger_serves (made_serves named_simple_tree (both_serve name_serves behind_name_serves refl)) refl refl

  named_serves : Serves false (signs.Name ∷ []) [] (λ m. named (inside m)) n (named_read (inside_read n))
  unfolding named named_read
  named_serves =
      larger_serves (made_serves named_tree (both_serve name_serves (either_serves (made_serves left (one_serves _)) (made_serves right behind_name_serves) refl) refl)) refl refl

  -- and with a word

  bare_serves : (sign : Sign) (tree : ℕ → Lexeme × Lexeme → PlainStmt) → Serves false (sign ∷ []) [] (λ m. made tree (seq (mark sign) (mark signs.Semicolon))) n (made_read tree (seq_read (mark_read sign) (mark_read signs.Semicolon)))
  bare_serves sign tree = made_serves tree (both_serve (one_serves _) (one_serves _) refl)

  valued_serves : (sign : Sign) (tree : ℕ → Lexeme × (Option PlainExpr × Lexeme) → PlainStmt) → Serves false (sign ∷ []) [] (λ m. made tree (seq (mark sign) (seq (optional (expr_of (inside m))) (mark signs.Semicolon)))) n (made_read tree (seq_read (mark_read sign) (seq_read (value_read (inside_read n)) (mark_read signs.Semicolon))))
  unfolding value_read expr
  valued_serves sign tree = made_serves tree (both_serve (one_serves _) (both_serve (optional_serves value_serves expr_opens) (one_serves _) refl) refl)

  worded_serves : Serves false worded_signs [] (λ m. worded (inside m)) n (worded_read (inside_read n))
  unfolding worded worded_read goto_read return_read exit_read raise_read retry_read try_next_read connect_read
  worded_serves =
      larger_serves
      (either_serves (made_serves goto_tree (both_serve (one_serves _) (both_serve name_serves (one_serves _) refl) refl))
      (either_serves (valued_serves _ return_tree)
      (either_serves (bare_serves _ exit_tree)
      (either_serves (valued_serves _ raise_tree)
      (either_serves (bare_serves _ retry_tree)
      (either_serves (bare_serves _ try_next_tree)
      (made_serves connect_tree (both_serve (one_serves _) (both_serve place_serves (both_serve (one_serves _) (both_serve name_serves (one_serves _) refl) refl) refl) refl))
      refl) refl) refl) refl) refl) refl)
      refl refl

  simple_serves : Serves false simple_signs [] (λ m. simple (inside m)) n (simple_read (inside_read n))
  unfolding simple_joined simple_read
  simple_serves = same_serves (larger_serves (either_serves named_simple_serves worded_serves refl) refl refl) (λ m. same_sym (simple_same (inside_ll m)))

  -- given a list: the statements that contain some
  module _ {a : Reader (List PlainStmt)} (r : Reads list n a) where
    pub list_serves : Serves true stmt_signs stmt_signs list n a
    list_serves = record { reads = r; ahead = list_ll; above = list_above }

    pub arm_serves : Serves false expr_signs stmt_signs (λ m. arm (inside m) (list m)) n (arm_read (inside_read n) a)
    unfolding arm arm_read
    arm_serves = larger_serves (made_serves arm_tree (both_serve value_serves (both_serve (one_serves _) list_serves refl) refl)) refl refl

    branched_serves : Serves false (signs.Then ∷ []) [] (λ m. branched (inside m) (list m)) n (branched_read (inside_read n) a)
    unfolding branched branched_read arms_read
    branched_serves =
        larger_serves
        (both_serve (both_serve (one_serves _) list_serves refl)
        (both_serve (many_serves (behind_serves _ arm_serves) (made_opens _ (seq_opens _ (one_opens _))) refl) (both_serve (if_serves _ list_serves) (one_serves _) refl) refl) refl)
        refl refl

    tested_serves : Serves false (signs.If ∷ []) [] (λ m. tested (inside m) (list m)) n (tested_read (inside_read n) a)
    unfolding tested tested_read
    tested_serves =
        larger_serves
        (made_serves tested_tree
        (both_serve (one_serves _) (both_serve value_serves (either_serves (made_serves left branched_serves) (made_serves right simple_serves) refl) refl) refl))
        refl refl

    for_serves : Serves false (signs.For ∷ []) [] (λ m. loop_for (inside m) (list m)) n (for_read (inside_read n) a)
    unfolding loop_for for_read
    for_serves =
        larger_serves
        (made_serves for_tree
        (both_serve (one_serves _)
        (both_serve name_serves
        (both_serve (behind_serves _ value_serves)
        (both_serve (behind_serves _ value_serves) (both_serve (if_serves _ value_serves) (both_serve (behind_serves _ list_serves) (one_serves _) refl) refl) refl) refl) refl) refl))
        refl refl

    while_serves : Serves false (signs.While ∷ []) [] (λ m. loop_while (inside m) (list m)) n (while_read (inside_read n) a)
    unfolding loop_while while_read
    while_serves =
        larger_serves (made_serves while_tree (both_serve (one_serves _) (both_serve value_serves (both_serve (behind_serves _ list_serves) (one_serves _) refl) refl) refl)) refl refl

    pub case_serves : Serves false expr_signs stmt_signs (λ m. case (inside m) (list m)) n (case_read (inside_read n) a)
    unfolding case case_read
    case_serves = larger_serves (made_serves case_tree (both_serve values_serve (both_serve (one_serves _) list_serves refl) refl)) refl refl

    test_serves : Serves false (signs.Test ∷ []) [] (λ m. choice (inside m) (list m)) n (test_read (inside_read n) a)
    unfolding choice test_read cases_read default_read
    test_serves =
        larger_serves
        (made_serves test_tree
        (both_serve (one_serves _)
        (both_serve value_serves
        (both_serve (many_serves (behind_serves _ case_serves) (made_opens _ (seq_opens _ (one_opens _))) refl)
        (both_serve (if_serves _ (behind_serves _ list_serves)) (one_serves _) refl) refl) refl) refl))
        refl refl

    pub stmt_serves : Serves false stmt_signs [] stmt n (stmt_of_read (inside_read n) a)
    unfolding stmt stmt_joined stmt_of_read
    stmt_serves =
        same_serves
        (larger_serves
        (either_serves named_serves
        (either_serves tested_serves (either_serves for_serves (either_serves while_serves (either_serves test_serves worded_serves refl) refl) refl) refl) refl)
        refl refl)
        (λ m. same_sym (stmt_same (inside_ll m) (list_ll m)))

    each_reads : Reads items n (many_read stmt_signs (stmt_of_read (inside_read n) a))
    unfolding items
    each_reads = (many_serves stmt_serves stmt_opens refl).reads

-- A list is, one level deeper, the statements of a list whose level is open. If no level is left, its first sign opens
-- one too many.
unfoldable opened : ℕ → Form (List PlainStmt)
opened zero = list zero
opened (suc n) = items n

opened_same : (m : ℕ) → Same (opened m) (list m)
unfolding opened
opened_same zero = same_refl _
opened_same (suc n) = same_sym (list_same n)

pub list_reads : (n : ℕ) → Reads list n (list_read n)
unfolding list_read list list_of stmts opened
list_reads zero = (any_serves (record { reads = nothing_reads refl stmts_ll stmts_opens; ahead = stmts_ll; above = stmts_above }) stmts_opens).reads
list_reads (suc n) = same_reads (level_reads (each_reads (list_reads n)) (λ m. refl)) opened_same

pub items_reads : (n : ℕ) → Reads items n (items_read n)
unfolding items_read stmt_read
items_reads n = each_reads (list_reads n)
