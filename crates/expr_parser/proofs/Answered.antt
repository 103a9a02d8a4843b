-- The readers of expressions parse their forms correctly. F n is a form within n levels; what is inside a form that
-- opens a level is within one less.
use Rattle.std.proofs.Common.{◌≡◌, ℕ, zero, suc, ◌≤◌, true, false, List, Option, None, Some, refl}
use Rattle.rapid_lexer.specs.Tokens.{Lexeme}
use Rattle.raw_trees.specs.Plain.{PlainExpr, PlainArg}
use Rattle.rapid_forms.specs.declared.sign.Sign.{Sign}
use Rattle.rapid_forms.specs.declared.sign.Sign.TheVariants as signs
use Rattle.rapid_forms.specs.Forms.{Form, one, seq, optional, made}
use Rattle.rapid_forms.specs.Reading.{Reader, one_read, seq_read, optional_read, made_read}
use Rattle.rapid_forms.proofs.Sets.{apart}
use Rattle.rapid_forms.proofs.Laws.{LL, one_ll, seq_ll, either_ll, optional_ll, many_ll, made_ll}
use Rattle.rapid_forms.proofs.Up.{Up, up_refl, seq_up, optional_up, made_up}
use Rattle.rapid_forms.proofs.Opens.{one_opens, seq_opens, made_opens}
use Rattle.rapid_forms.proofs.Same.{same_sym}
use Rattle.rapid_forms.proofs.Right.{Reads, one_reads, seq_reads, either_reads, optional_reads, many_reads, made_reads, remade_reads, same_reads, nothing_reads, level_reads}
use Rattle.rapid_forms.proofs.Pairs.{both_reads, token_reads, between_reads}
use Rattle.expr_parser.specs.declared.level.Level.TheVariants as levels
use Rattle.expr_parser.specs.Grammar.{mark, number_tree, quoted_tree, truth_tree, inner, behind, group_tree, aggregate_tree, needed_tree, option_tree, none_or, first_and_more, step_tree, chain_tree, relation_tree, signed_tree, negated_tree, comparisons, name, part, parts_of, primary, chain, term, sum, relation, land, expr_of, group_of, exprs, aggregate_of, index_of, needed, option, args_list, call_of, inside, expr, parts, args}
use Rattle.expr_parser.specs.Reads.{operators_of, InsideRead, left, right, named_tree, arg_signs, name_read, part_read, parts_read, named_read, primary_read, step_read, chain_read, term_read, signed_read, sum_read, relation_read, land_read, negated_read, expr_of_read, group_read, exprs_read, aggregate_read, index_read, needed_read, value_read, option_read, arg_read, later_read, args_read, call_read, inside_read, expr_read}
use Rattle.expr_parser.proofs.Ahead.{named, primary_joined, arg, later, args_joined, name_ll, part_ll, parts_ll, named_ll, primary_same, primary_ll, term_ll, sum_ll, relation_ll, land_ll, exprs_ll, needed_ll, option_ll, arg_ll, later_ll, args_same, inside_ll, expr_ll, primary_up, term_up, sum_up, relation_up, land_up, expr_of_up, exprs_up, option_up, arg_up, later_up, inside_above, group_opens, aggregate_opens, index_opens, call_opens, later_opens, args_opens}

-- from any number of levels to any higher one
pub expr_above : (k m : ℕ) → k ≤ m → Up (expr k) (expr m)
unfolding expr
expr_above k m le = expr_of_up (inside_above k m le)

-- chains

step_reads : {first more : List Sign} {G : ℕ → Form PlainExpr} {n : ℕ} {b : Reader PlainExpr} (operators : List Sign) → Reads G n b → ((m : ℕ) → LL false first more (G m)) → Reads (λ m. made step_tree (seq (one operators) (G m))) n (step_read operators b)
unfolding step_read
step_reads operators r l = token_reads operators step_tree r l

chain_reads : {fa ma fb mb more : List Sign} {F G : ℕ → Form PlainExpr} {n : ℕ} {a b : Reader PlainExpr} (operators : List Sign) → Reads F n a → Reads G n b → ((m : ℕ) → LL false fa ma (F m)) → ((m : ℕ) → LL false fb mb (G m)) → ((m : ℕ) → LL false operators more (made step_tree (seq (one operators) (G m)))) → apart ma operators ≡ true → apart more operators ≡ true → ((k m : ℕ) → k ≤ m → Up (F k) (F m)) → ((k m : ℕ) → k ≤ m → Up (G k) (G m)) → Reads (λ m. chain operators (F m) (G m)) n (chain_read operators a b)
unfolding chain chain_read
chain_reads operators ra rb lf lg ls e e' up up' =
    both_reads chain_tree ra
    (many_reads (step_reads operators rb lg) ls e' (made_opens _ (seq_opens _ (one_opens _))) (λ k m le. made_up _ (seq_up (up_refl _) (up' k m le))))
    lf (λ m. many_ll (ls m) e') e refl up

-- an optional word in front
leading_reads : {first more : List Sign} {G : ℕ → Form PlainExpr} {n : ℕ} {b : Reader PlainExpr} (set : List Sign) (f : ℕ → Option Lexeme × PlainExpr → PlainExpr) → Reads G n b → ((m : ℕ) → LL false first more (G m)) → apart set first ≡ true → Reads (λ m. made f (seq (optional (one set)) (G m))) n (made_read f (seq_read (optional_read set (one_read set)) b))
leading_reads set f r l e =
    both_reads f (optional_reads (one_reads set) (λ m. one_ll set) (one_opens set) (λ k m le. up_refl _)) r (λ m. optional_ll (one_ll set)) l e refl (λ k m le. up_refl _)

-- names and components

pub name_reads : {n : ℕ} → Reads (λ m. name) n name_read
unfolding name name_read
name_reads = made_reads _ (one_reads _) (λ m. one_ll _)

part_reads : {n : ℕ} → Reads (λ m. part) n part_read
unfolding part part_read
part_reads = token_reads _ behind name_reads (λ m. name_ll)

-- the readers of the forms that open a level parse them correctly
pub record InsideReads (n : ℕ) (i : InsideRead) : Type 0 where
  pub group : Reads (λ m. (inside m).group) n i.group
  pub aggregate : Reads (λ m. (inside m).aggregate) n i.aggregate
  pub index : Reads (λ m. (inside m).index) n i.index
  pub call : Reads (λ m. (inside m).call) n i.call
  pub args : Reads (λ m. (inside m).args) n i.args

-- given these: operands and chains
module _ {n : ℕ} {i : InsideRead} (r : InsideReads n i) where
  parts_of_reads : Reads (λ m. parts_of (inside m)) n (parts_read i)
  unfolding parts_of parts_read part
  parts_of_reads =
      seq_reads (optional_reads r.index (λ m. (inside_ll m).index) index_opens (λ k m le. (inside_above k m le).index))
      (many_reads part_reads (λ m. part_ll) refl (made_opens _ (seq_opens _ (one_opens _))) (λ k m le. up_refl _))
      (λ m. optional_ll (inside_ll m).index) (λ m. many_ll part_ll refl) refl (λ k m le. optional_up (inside_above k m le).index)

  named_reads : Reads (λ m. named (inside m)) n (named_read i)
  unfolding named named_read
  named_reads =
      both_reads named_tree name_reads
      (either_reads (remade_reads left r.call (λ p q x. refl)) (remade_reads right parts_of_reads (λ p q x. refl)) (λ m. made_ll _ (inside_ll m).call) (λ m. made_ll _ (parts_ll (inside_ll m))) refl (λ e. made_opens _ call_opens) (λ k m le. made_up _ (inside_above k m le).call))
      (λ m. name_ll) (λ m. either_ll (made_ll _ (inside_ll m).call) (made_ll _ (parts_ll (inside_ll m))) refl refl) refl refl (λ k m le. up_refl _)

  pub primary_reads : Reads (λ m. primary (inside m)) n (primary_read i)
  unfolding primary_read primary_joined
  primary_reads =
      same_reads
      (either_reads (made_reads number_tree (one_reads _) (λ m. one_ll _))
      (either_reads (made_reads quoted_tree (one_reads _) (λ m. one_ll _))
      (either_reads (made_reads truth_tree (one_reads _) (λ m. one_ll _))
      (either_reads r.group
      (either_reads r.aggregate named_reads (λ m. (inside_ll m).aggregate) (λ m. named_ll (inside_ll m)) refl (λ e. cc) (λ k m le. (inside_above k m le).aggregate))
      (λ m. (inside_ll m).group) (λ m. either_ll (inside_ll m).aggregate (named_ll (inside_ll m)) refl refl) refl (λ e. cc) (λ k m le. (inside_above k m le).group))
      (λ m. made_ll _ (one_ll _)) (λ m. either_ll (inside_ll m).group (either_ll (inside_ll m).aggregate (named_ll (inside_ll m)) refl refl) refl refl) refl (λ e. cc) (λ k m le. up_refl _))
      (λ m. made_ll _ (one_ll _)) (λ m. either_ll (made_ll _ (one_ll _)) (either_ll (inside_ll m).group (either_ll (inside_ll m).aggregate (named_ll (inside_ll m)) refl refl) refl refl) refl refl) refl (λ e. cc) (λ k m le. up_refl _))
      (λ m. made_ll _ (one_ll _)) (λ m. either_ll (made_ll _ (one_ll _)) (either_ll (made_ll _ (one_ll _)) (either_ll (inside_ll m).group (either_ll (inside_ll m).aggregate (named_ll (inside_ll m)) refl refl) refl refl) refl refl) refl refl) refl (λ e. cc) (λ k m le. up_refl _))
      (λ m. same_sym (primary_same (inside m)))

  pub term_reads : Reads (λ m. term (inside m)) n (term_read i)
  unfolding term term_read
  term_reads =
      chain_reads _ primary_reads primary_reads (λ m. primary_ll (inside_ll m)) (λ m. primary_ll (inside_ll m))
      (λ m. made_ll _ (seq_ll (one_ll _) (primary_ll (inside_ll m)) refl)) refl refl
      (λ k m le. primary_up (inside_above k m le)) (λ k m le. primary_up (inside_above k m le))

  signed_reads : Reads (λ m. made signed_tree (seq (optional (one (operators_of levels.Sum))) (term (inside m)))) n (signed_read i)
  unfolding signed_read
  signed_reads = leading_reads _ signed_tree term_reads (λ m. term_ll (inside_ll m)) refl

  sum_reads : Reads (λ m. sum (inside m)) n (sum_read i)
  unfolding sum sum_read
  sum_reads =
      chain_reads _ signed_reads term_reads (λ m. made_ll _ (seq_ll (optional_ll (one_ll _)) (term_ll (inside_ll m)) refl)) (λ m. term_ll (inside_ll m))
      (λ m. made_ll _ (seq_ll (one_ll _) (term_ll (inside_ll m)) refl)) refl refl
      (λ k m le. made_up _ (seq_up (up_refl _) (term_up (inside_above k m le)))) (λ k m le. term_up (inside_above k m le))

  pub relation_reads : Reads (λ m. relation (inside m)) n (relation_read i)
  unfolding relation relation_read
  relation_reads =
      both_reads relation_tree sum_reads
      (optional_reads (step_reads comparisons sum_reads (λ m. sum_ll (inside_ll m))) (λ m. made_ll _ (seq_ll (one_ll _) (sum_ll (inside_ll m)) refl)) (made_opens _ (seq_opens _ (one_opens _))) (λ k m le. made_up _ (seq_up (up_refl _) (sum_up (inside_above k m le)))))
      (λ m. sum_ll (inside_ll m)) (λ m. optional_ll (made_ll _ (seq_ll (one_ll _) (sum_ll (inside_ll m)) refl))) refl refl (λ k m le. sum_up (inside_above k m le))

  pub land_reads : Reads (λ m. land (inside m)) n (land_read i)
  unfolding land land_read
  land_reads =
      chain_reads _ relation_reads relation_reads (λ m. relation_ll (inside_ll m)) (λ m. relation_ll (inside_ll m))
      (λ m. made_ll _ (seq_ll (one_ll _) (relation_ll (inside_ll m)) refl)) refl refl
      (λ k m le. relation_up (inside_above k m le)) (λ k m le. relation_up (inside_above k m le))

  negated_reads : Reads (λ m. made negated_tree (seq (optional (mark signs.Not)) (land (inside m)))) n (negated_read i)
  unfolding negated_read
  negated_reads = leading_reads _ negated_tree land_reads (λ m. land_ll (inside_ll m)) refl

  pub expr_of_reads : Reads expr n (expr_of_read i)
  unfolding expr expr_of expr_of_read
  expr_of_reads =
      chain_reads _ negated_reads land_reads (λ m. made_ll _ (seq_ll (optional_ll (one_ll _)) (land_ll (inside_ll m)) refl)) (λ m. land_ll (inside_ll m))
      (λ m. made_ll _ (seq_ll (one_ll _) (land_ll (inside_ll m)) refl)) refl refl
      (λ k m le. made_up _ (seq_up (up_refl _) (land_up (inside_above k m le)))) (λ k m le. land_up (inside_above k m le))

-- given an expression: the forms around it
module _ {n : ℕ} {a : Reader PlainExpr} (r : Reads expr n a) where
  group_of_reads : Reads (λ m. group_of (expr m)) n (group_read a)
  unfolding group_of group_read
  group_of_reads = between_reads _ _ group_tree r expr_ll refl expr_above

  exprs_of_reads : Reads (λ m. exprs (expr m)) n (exprs_read a)
  unfolding exprs exprs_read
  exprs_of_reads =
      both_reads first_and_more r
      (many_reads (token_reads _ behind r expr_ll) (λ m. made_ll _ (seq_ll (one_ll _) (expr_ll m) refl)) refl (made_opens _ (seq_opens _ (one_opens _))) (λ k m le. made_up _ (seq_up (up_refl _) (expr_above k m le))))
      expr_ll (λ m. many_ll (made_ll _ (seq_ll (one_ll _) (expr_ll m) refl)) refl) refl refl expr_above

  aggregate_of_reads : Reads (λ m. aggregate_of (expr m)) n (aggregate_read a)
  unfolding aggregate_of aggregate_read
  aggregate_of_reads = between_reads _ _ aggregate_tree exprs_of_reads (λ m. exprs_ll (expr_ll m)) refl (λ k m le. exprs_up (expr_above k m le))

  index_of_reads : Reads (λ m. index_of (expr m)) n (index_read a)
  unfolding index_of index_read
  index_of_reads = between_reads _ _ inner r expr_ll refl expr_above

  needed_reads : Reads (λ m. needed (expr m)) n (needed_read a)
  unfolding needed needed_read
  needed_reads = remade_reads needed_tree r (λ p q x. refl)

  option_reads : Reads (λ m. option (expr m)) n (option_read a)
  unfolding option option_read value_read
  option_reads =
      token_reads _ option_tree
      (seq_reads name_reads
      (optional_reads (token_reads _ behind r expr_ll) (λ m. made_ll _ (seq_ll (one_ll _) (expr_ll m) refl)) (made_opens _ (seq_opens _ (one_opens _))) (λ k m le. made_up _ (seq_up (up_refl _) (expr_above k m le))))
      (λ m. name_ll) (λ m. optional_ll (made_ll _ (seq_ll (one_ll _) (expr_ll m) refl))) refl (λ k m le. up_refl _))
      (λ m. seq_ll name_ll (optional_ll (made_ll _ (seq_ll (one_ll _) (expr_ll m) refl))) refl)

  arg_reads : Reads (λ m. arg (expr m)) n (arg_read a)
  unfolding arg arg_read
  arg_reads = either_reads option_reads needed_reads (λ m. option_ll (expr_ll m)) (λ m. needed_ll (expr_ll m)) refl (λ e. cc) (λ k m le. option_up (expr_above k m le))

  pub later_reads : Reads (λ m. later (expr m)) n (later_read a)
  unfolding later later_read
  later_reads =
      either_reads (token_reads _ behind arg_reads (λ m. arg_ll (expr_ll m))) option_reads
      (λ m. made_ll _ (seq_ll (one_ll _) (arg_ll (expr_ll m)) refl)) (λ m. option_ll (expr_ll m)) refl (λ e. cc)
      (λ k m le. made_up _ (seq_up (up_refl _) (arg_up (expr_above k m le))))

  args_list_reads : Reads (λ m. args_list (expr m)) n (args_read a)
  unfolding args_joined args_read
  args_list_reads =
      same_reads
      (both_reads first_and_more arg_reads
      (many_reads later_reads (λ m. later_ll (expr_ll m)) refl later_opens (λ k m le. later_up (expr_above k m le)))
      (λ m. arg_ll (expr_ll m)) (λ m. many_ll (later_ll (expr_ll m)) refl) refl refl (λ k m le. arg_up (expr_above k m le)))
      (λ m. same_sym (args_same (expr_ll m)))

if_any_reads : {n : ℕ} {a : Reader (List PlainArg)} → Reads (λ m. (inside m).args) n a → Reads args n (made_read none_or (optional_read arg_signs a))
unfolding args
if_any_reads r =
    remade_reads none_or (optional_reads r (λ m. (inside_ll m).args) args_opens (λ k m le. (inside_above k m le).args))
    (λ p q. elim [ None ↦ refl | Some xs ↦ refl ])

call_of_reads : {n : ℕ} {a : Reader (List PlainArg)} → Reads (λ m. (inside m).args) n a → Reads (λ m. call_of (inside m).args) n (call_read a)
unfolding call_of call_read args
call_of_reads r =
    between_reads _ _ inner (if_any_reads r) (λ m. made_ll _ (optional_ll (inside_ll m).args)) refl
    (λ k m le. made_up _ (optional_up (inside_above k m le).args))

-- so the readers parse correctly within any number of levels

pub inside_reads : (n : ℕ) → InsideReads n (inside_read n)
unfolding inside inside_read expr
inside_reads zero = record {
  group = nothing_reads refl (λ m. (inside_ll m).group) group_opens;
  aggregate = nothing_reads refl (λ m. (inside_ll m).aggregate) aggregate_opens;
  index = nothing_reads refl (λ m. (inside_ll m).index) index_opens;
  call = nothing_reads refl (λ m. (inside_ll m).call) call_opens;
  args = nothing_reads refl (λ m. (inside_ll m).args) args_opens;
}
inside_reads (suc n) =
    let r = inside_reads n in
    let e = expr_of_reads r in
    record {
      group = level_reads (group_of_reads e) (λ m. refl);
      aggregate = level_reads (aggregate_of_reads e) (λ m. refl);
      index = level_reads (index_of_reads e) (λ m. refl);
      call = level_reads (call_of_reads r.args) (λ m. refl);
      args = level_reads (args_list_reads e) (λ m. refl);
    }

pub expr_reads : (n : ℕ) → Reads expr n (expr_read n)
unfolding expr_read
expr_reads n = expr_of_reads (inside_reads n)

pub exprs_reads : (n : ℕ) → Reads (λ m. exprs (expr m)) n (exprs_read (expr_read n))
exprs_reads n = exprs_of_reads (expr_reads n)

pub parts_reads : (n : ℕ) → Reads parts n (parts_read (inside_read n))
unfolding parts
parts_reads n = parts_of_reads (inside_reads n)

pub args_reads : (n : ℕ) → Reads args n (made_read none_or (optional_read arg_signs (inside_read n).args))
args_reads n = if_any_reads (inside_reads n).args
