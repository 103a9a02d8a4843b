-- One token of lookahead is enough for expressions, and a text spells at most one tree. A form within some levels is
-- also within more. Each first sign of a form that opens a level can start it. Lines with a common start also appear
-- with that part factored out, as they are read.
use Rattle.std.proofs.Common.{ℕ, zero, suc, ◌≤◌, true, false, List, [], ◌∷◌, ◌++◌, refl}
use Rattle.raw_trees.specs.Plain.{PlainExpr, PlainArg, Place}
use Rattle.rapid_forms.specs.declared.sign.Sign.{Sign}
use Rattle.rapid_forms.specs.declared.sign.Sign.TheVariants as signs
use Rattle.rapid_forms.specs.Forms.{Form, one, seq, either, optional, many, made}
use Rattle.rapid_forms.proofs.Laws.{LL, one_ll, seq_ll, either_ll, optional_ll, many_ll, made_ll, nothing_ll, larger_ll}
use Rattle.rapid_forms.proofs.Up.{Up, up_refl, seq_up, either_up, optional_up, many_up, made_up, nothing_up, up_levels}
use Rattle.rapid_forms.proofs.Opens.{Opens, fewer_opens, one_opens, seq_opens, both_open, either_opens, optional_opens, made_opens, deeper_opens, optional_empties}
use Rattle.rapid_forms.proofs.Same.{Same, same_refl, same_sym, same_trans, seq_same, either_same, many_same, made_same, either_swapped, made_made, same_ll, shared, alike, made_itself, commas}
use Rattle.expr_parser.specs.Grammar.{mark, number_tree, quoted_tree, truth_tree, behind, first_and_more, invoke_tree, place_tree, Inside, name, part, parts_of, place, primary, chain, term, sum, relation, land, expr_of, group_of, exprs, aggregate_of, index_of, needed, option, args_list, call_of, inside, expr, args}
use Rattle.expr_parser.specs.Reads.{left, right, named_tree, expr_signs, arg_signs}

-- the signs that forms can start with

abbrev pub primary_signs : List Sign
primary_signs =
    signs.Number ∷ signs.Quoted ∷ signs.True ∷ signs.False ∷ signs.OpenParenthesis ∷ signs.OpenBracket ∷ signs.Name ∷ []

abbrev pub sum_signs : List Sign
sum_signs = signs.Plus ∷ signs.Minus ∷ primary_signs

-- the signs that can continue complete forms

abbrev pub place_more : List Sign
place_more = signs.OpenBrace ∷ signs.Dot ∷ []

abbrev pub primary_more : List Sign
primary_more = signs.OpenParenthesis ∷ place_more

abbrev pub term_more : List Sign
term_more = signs.Star ∷ signs.Slash ∷ signs.Div ∷ signs.Mod ∷ primary_more

abbrev pub sum_more : List Sign
sum_more = signs.Plus ∷ signs.Minus ∷ term_more

abbrev pub relation_more : List Sign
relation_more =
    signs.Equal ∷ signs.NotEqual ∷ signs.Less ∷ signs.Greater ∷ signs.LessEqual ∷ signs.GreaterEqual ∷ sum_more

abbrev pub land_more : List Sign
land_more = signs.And ∷ relation_more

abbrev pub expr_more : List Sign
expr_more = signs.Or ∷ signs.Xor ∷ land_more

abbrev pub exprs_more : List Sign
exprs_more = signs.Comma ∷ expr_more

abbrev pub option_more : List Sign
option_more = signs.Assign ∷ expr_more

abbrev pub args_more : List Sign
args_more = signs.Comma ∷ signs.Backslash ∷ option_more

-- the lines with a common start, as they are read

-- after a name: arguments in parentheses, or what makes it a place
unfoldable pub named : Inside → Form PlainExpr
named i = made named_tree (seq name (either (made left i.call) (made right (parts_of i))))

-- the other lines, which start differently, and those that start with a name
unfoldable pub primary_joined : Inside → Form PlainExpr
primary_joined i =
    either (made number_tree (mark signs.Number))
    (either (made quoted_tree (mark signs.Quoted))
    (either (made truth_tree (one (signs.True ∷ signs.False ∷ []))) (either i.group (either i.aggregate (named i)))))

unfoldable pub arg : Form PlainExpr → Form PlainArg
arg e = either (option e) (needed e)

-- after a comma any argument, without one an option
unfoldable pub later : Form PlainExpr → Form PlainArg
later e = either (made behind (seq (mark signs.Comma) (arg e))) (option e)

unfoldable pub args_joined : Form PlainExpr → Form (List PlainArg)
args_joined e = made first_and_more (seq (arg e) (many (later e)))

-- lookahead

-- the forms that open a level
pub record InsideLL (i : Inside) : Type 0 where
  pub group : LL false (signs.OpenParenthesis ∷ []) [] i.group
  pub aggregate : LL false (signs.OpenBracket ∷ []) [] i.aggregate
  pub index : LL false (signs.OpenBrace ∷ []) [] i.index
  pub call : LL false (signs.OpenParenthesis ∷ []) [] i.call
  pub args : LL false arg_signs args_more i.args

pub name_ll : LL false (signs.Name ∷ []) [] name
unfolding name
name_ll = made_ll _ (one_ll _)

pub part_ll : LL false (signs.Dot ∷ []) [] part
unfolding part
part_ll = larger_ll (made_ll _ (seq_ll (one_ll _) name_ll refl)) refl refl

pub parts_ll : {i : Inside} → InsideLL i → LL true place_more place_more (parts_of i)
unfolding parts_of
parts_ll l = larger_ll (seq_ll (optional_ll l.index) (many_ll part_ll refl) refl) refl refl

pub place_ll : {i : Inside} → InsideLL i → LL false (signs.Name ∷ []) place_more (place i)
unfolding place
place_ll l = larger_ll (made_ll _ (seq_ll name_ll (parts_ll l) refl)) refl refl

pub named_ll : {i : Inside} → InsideLL i → LL false (signs.Name ∷ []) primary_more (named i)
unfolding named
named_ll l =
    larger_ll (made_ll _ (seq_ll name_ll (either_ll (made_ll _ l.call) (made_ll _ (parts_ll l)) refl refl) refl)) refl refl

named_same : (i : Inside) → Same (either (made invoke_tree (seq name i.call)) (made Place (place i))) (named i)
unfolding place named
named_same i =
    same_trans (either_same (same_refl _) (made_made place_tree Place (seq name (parts_of i))))
    (shared invoke_tree (λ at x. Place at (place_tree at x)) name i.call (parts_of i))

pub primary_same : (i : Inside) → Same (primary i) (primary_joined i)
unfolding primary primary_joined
primary_same i =
    either_same (same_refl _) (either_same (same_refl _) (either_same (same_refl _) (either_same (same_refl _) (either_same (same_refl _) (named_same i)))))

primary_joined_ll : {i : Inside} → InsideLL i → LL false primary_signs primary_more (primary_joined i)
unfolding primary_joined
primary_joined_ll l =
    larger_ll
    (either_ll (made_ll _ (one_ll _))
    (either_ll (made_ll _ (one_ll _))
    (either_ll (made_ll _ (one_ll _)) (either_ll l.group (either_ll l.aggregate (named_ll l) refl refl) refl refl) refl refl) refl refl) refl refl)
    refl refl

pub primary_ll : {i : Inside} → InsideLL i → LL false primary_signs primary_more (primary i)
primary_ll {i} l = same_ll (same_sym (primary_same i)) (primary_joined_ll l)

pub term_ll : {i : Inside} → InsideLL i → LL false primary_signs term_more (term i)
unfolding term chain
term_ll l = larger_ll (made_ll _ (seq_ll (primary_ll l) (many_ll (made_ll _ (seq_ll (one_ll _) (primary_ll l) refl)) refl) refl)) refl refl

pub sum_ll : {i : Inside} → InsideLL i → LL false sum_signs sum_more (sum i)
unfolding sum chain
sum_ll l =
    larger_ll (made_ll _ (seq_ll (made_ll _ (seq_ll (optional_ll (one_ll _)) (term_ll l) refl)) (many_ll (made_ll _ (seq_ll (one_ll _) (term_ll l) refl)) refl) refl))
    refl refl

pub relation_ll : {i : Inside} → InsideLL i → LL false sum_signs relation_more (relation i)
unfolding relation
relation_ll l = larger_ll (made_ll _ (seq_ll (sum_ll l) (optional_ll (made_ll _ (seq_ll (one_ll _) (sum_ll l) refl))) refl)) refl refl

pub land_ll : {i : Inside} → InsideLL i → LL false sum_signs land_more (land i)
unfolding land chain
land_ll l = larger_ll (made_ll _ (seq_ll (relation_ll l) (many_ll (made_ll _ (seq_ll (one_ll _) (relation_ll l) refl)) refl) refl)) refl refl

pub expr_of_ll : {i : Inside} → InsideLL i → LL false expr_signs expr_more (expr_of i)
unfolding expr_of chain
expr_of_ll l =
    larger_ll (made_ll _ (seq_ll (made_ll _ (seq_ll (optional_ll (one_ll _)) (land_ll l) refl)) (many_ll (made_ll _ (seq_ll (one_ll _) (land_ll l) refl)) refl) refl))
    refl refl

pub group_of_ll : {e : Form PlainExpr} → LL false expr_signs expr_more e → LL false (signs.OpenParenthesis ∷ []) [] (group_of e)
unfolding group_of
group_of_ll l = larger_ll (made_ll _ (seq_ll (one_ll _) (seq_ll l (one_ll _) refl) refl)) refl refl

pub exprs_ll : {e : Form PlainExpr} → LL false expr_signs expr_more e → LL false expr_signs exprs_more (exprs e)
unfolding exprs
exprs_ll l = larger_ll (made_ll _ (seq_ll l (many_ll (made_ll _ (seq_ll (one_ll _) l refl)) refl) refl)) refl refl

pub aggregate_of_ll : {e : Form PlainExpr} → LL false expr_signs expr_more e → LL false (signs.OpenBracket ∷ []) [] (aggregate_of e)
unfolding aggregate_of
aggregate_of_ll l = larger_ll (made_ll _ (seq_ll (one_ll _) (seq_ll (exprs_ll l) (one_ll _) refl) refl)) refl refl

pub index_of_ll : {e : Form PlainExpr} → LL false expr_signs expr_more e → LL false (signs.OpenBrace ∷ []) [] (index_of e)
unfolding index_of
index_of_ll l = larger_ll (made_ll _ (seq_ll (one_ll _) (seq_ll l (one_ll _) refl) refl)) refl refl

pub needed_ll : {e : Form PlainExpr} → LL false expr_signs expr_more e → LL false expr_signs expr_more (needed e)
unfolding needed
needed_ll l = made_ll _ l

pub option_ll : {e : Form PlainExpr} → LL false expr_signs expr_more e → LL false (signs.Backslash ∷ []) option_more (option e)
unfolding option
option_ll l =
    larger_ll (made_ll _ (seq_ll (one_ll _) (seq_ll name_ll (optional_ll (made_ll _ (seq_ll (one_ll _) l refl))) refl) refl)) refl refl

pub arg_ll : {e : Form PlainExpr} → LL false expr_signs expr_more e → LL false arg_signs option_more (arg e)
unfolding arg
arg_ll l = larger_ll (either_ll (option_ll l) (needed_ll l) refl refl) refl refl

pub later_ll : {e : Form PlainExpr} → LL false expr_signs expr_more e → LL false (signs.Comma ∷ signs.Backslash ∷ []) option_more (later e)
unfolding later
later_ll l = larger_ll (either_ll (made_ll _ (seq_ll (one_ll _) (arg_ll l) refl)) (option_ll l) refl refl) refl refl

later_same : {e : Form PlainExpr} → LL false expr_signs expr_more e
    → Same (either (made behind (seq (mark signs.Comma) (needed e))) (made behind (seq (optional (mark signs.Comma)) (option e)))) (later e)
unfolding later arg
later_same {e} l =
    same_trans (commas behind behind (mark signs.Comma) (needed e) (option e) (option_ll l).start)
    (either_same
    (same_trans (same_sym (shared behind behind (mark signs.Comma) (needed e) (option e)))
    (same_trans (alike behind (mark signs.Comma) (needed e) (option e))
    (made_same behind (seq_same (same_refl _) (either_swapped (needed e) (option e))))))
    (made_itself (option e)))

pub args_same : {e : Form PlainExpr} → LL false expr_signs expr_more e → Same (args_list e) (args_joined e)
unfolding args_list args_joined arg
args_same {e} l = made_same first_and_more (seq_same (either_swapped (needed e) (option e)) (many_same (later_same l)))

args_joined_ll : {e : Form PlainExpr} → LL false expr_signs expr_more e → LL false arg_signs args_more (args_joined e)
unfolding args_joined
args_joined_ll l = larger_ll (made_ll _ (seq_ll (arg_ll l) (many_ll (later_ll l) refl) refl)) refl refl

pub args_list_ll : {e : Form PlainExpr} → LL false expr_signs expr_more e → LL false arg_signs args_more (args_list e)
args_list_ll l = same_ll (same_sym (args_same l)) (args_joined_ll l)

pub call_of_ll : {args : Form (List PlainArg)} → LL false arg_signs args_more args → LL false (signs.OpenParenthesis ∷ []) [] (call_of args)
unfolding call_of
call_of_ll l = larger_ll (made_ll _ (seq_ll (one_ll _) (seq_ll (made_ll _ (optional_ll l)) (one_ll _) refl) refl)) refl refl

pub inside_ll : (n : ℕ) → InsideLL (inside n)
unfolding inside
inside_ll zero = record { group = nothing_ll; aggregate = nothing_ll; index = nothing_ll; call = nothing_ll; args = nothing_ll }
inside_ll (suc n) =
    let e = expr_of_ll (inside_ll n) in
    record {
      group = group_of_ll e;
      aggregate = aggregate_of_ll e;
      index = index_of_ll e;
      call = call_of_ll (inside_ll n).args;
      args = args_list_ll e;
    }

pub expr_ll : (n : ℕ) → LL false expr_signs expr_more (expr n)
unfolding expr
expr_ll n = expr_of_ll (inside_ll n)

pub args_ll : (n : ℕ) → LL true arg_signs (args_more ++ arg_signs) (args n)
unfolding args
args_ll n = made_ll _ (optional_ll (inside_ll n).args)

-- from one level to higher ones

-- the forms that open a level
pub record InsideUp (i j : Inside) : Type 0 where
  pub group : Up i.group j.group
  pub aggregate : Up i.aggregate j.aggregate
  pub index : Up i.index j.index
  pub call : Up i.call j.call
  pub args : Up i.args j.args

pub parts_up : {i j : Inside} → InsideUp i j → Up (parts_of i) (parts_of j)
unfolding parts_of
parts_up p = seq_up (optional_up p.index) (up_refl _)

pub place_up : {i j : Inside} → InsideUp i j → Up (place i) (place j)
unfolding place
place_up p = made_up _ (seq_up (up_refl _) (parts_up p))

pub primary_up : {i j : Inside} → InsideUp i j → Up (primary i) (primary j)
unfolding primary
primary_up p =
    either_up (up_refl _)
    (either_up (up_refl _)
    (either_up (up_refl _)
    (either_up p.group (either_up p.aggregate (either_up (made_up _ (seq_up (up_refl _) p.call)) (made_up _ (place_up p)))))))

chain_up : {first first' each each' : Form PlainExpr} (operators : List Sign) → Up first first' → Up each each' → Up (chain operators first each) (chain operators first' each')
unfolding chain
chain_up operators p q = made_up _ (seq_up p (many_up (made_up _ (seq_up (up_refl _) q))))

pub term_up : {i j : Inside} → InsideUp i j → Up (term i) (term j)
unfolding term
term_up p = chain_up _ (primary_up p) (primary_up p)

pub sum_up : {i j : Inside} → InsideUp i j → Up (sum i) (sum j)
unfolding sum
sum_up p = chain_up _ (made_up _ (seq_up (up_refl _) (term_up p))) (term_up p)

pub relation_up : {i j : Inside} → InsideUp i j → Up (relation i) (relation j)
unfolding relation
relation_up p = made_up _ (seq_up (sum_up p) (optional_up (made_up _ (seq_up (up_refl _) (sum_up p)))))

pub land_up : {i j : Inside} → InsideUp i j → Up (land i) (land j)
unfolding land
land_up p = chain_up _ (relation_up p) (relation_up p)

pub expr_of_up : {i j : Inside} → InsideUp i j → Up (expr_of i) (expr_of j)
unfolding expr_of
expr_of_up p = chain_up _ (made_up _ (seq_up (up_refl _) (land_up p))) (land_up p)

pub group_of_up : {e f : Form PlainExpr} → Up e f → Up (group_of e) (group_of f)
unfolding group_of
group_of_up p = made_up _ (seq_up (up_refl _) (seq_up p (up_refl _)))

pub exprs_up : {e f : Form PlainExpr} → Up e f → Up (exprs e) (exprs f)
unfolding exprs
exprs_up p = made_up _ (seq_up p (many_up (made_up _ (seq_up (up_refl _) p))))

pub aggregate_of_up : {e f : Form PlainExpr} → Up e f → Up (aggregate_of e) (aggregate_of f)
unfolding aggregate_of
aggregate_of_up p = made_up _ (seq_up (up_refl _) (seq_up (exprs_up p) (up_refl _)))

pub index_of_up : {e f : Form PlainExpr} → Up e f → Up (index_of e) (index_of f)
unfolding index_of
index_of_up p = made_up _ (seq_up (up_refl _) (seq_up p (up_refl _)))

pub needed_up : {e f : Form PlainExpr} → Up e f → Up (needed e) (needed f)
unfolding needed
needed_up p = made_up _ p

pub option_up : {e f : Form PlainExpr} → Up e f → Up (option e) (option f)
unfolding option
option_up p = made_up _ (seq_up (up_refl _) (seq_up (up_refl _) (optional_up (made_up _ (seq_up (up_refl _) p)))))

pub arg_up : {e f : Form PlainExpr} → Up e f → Up (arg e) (arg f)
unfolding arg
arg_up p = either_up (option_up p) (needed_up p)

pub later_up : {e f : Form PlainExpr} → Up e f → Up (later e) (later f)
unfolding later
later_up p = either_up (made_up _ (seq_up (up_refl _) (arg_up p))) (option_up p)

pub args_list_up : {e f : Form PlainExpr} → Up e f → Up (args_list e) (args_list f)
unfolding args_list
args_list_up p =
    made_up _
    (seq_up (either_up (needed_up p) (option_up p))
    (many_up (either_up (made_up _ (seq_up (up_refl _) (needed_up p))) (made_up _ (seq_up (up_refl _) (option_up p))))))

pub call_of_up : {args args' : Form (List PlainArg)} → Up args args' → Up (call_of args) (call_of args')
unfolding call_of
call_of_up p = made_up _ (seq_up (up_refl _) (seq_up (made_up _ (optional_up p)) (up_refl _)))

pub inside_up : (n : ℕ) → InsideUp (inside n) (inside (suc n))
unfolding inside
inside_up zero =
    let l = inside_ll 1 in
    record {
      group = nothing_up _ l.group.start;
      aggregate = nothing_up _ l.aggregate.start;
      index = nothing_up _ l.index.start;
      call = nothing_up _ l.call.start;
      args = nothing_up _ l.args.start;
    }
inside_up (suc n) =
    let e = expr_of_up (inside_up n) in
    record {
      group = group_of_up e;
      aggregate = aggregate_of_up e;
      index = index_of_up e;
      call = call_of_up (inside_up n).args;
      args = args_list_up e;
    }

-- from any number of levels to any higher one
pub inside_above : (n m : ℕ) → n ≤ m → InsideUp (inside n) (inside m)
inside_above n m le = record {
  group = up_levels (λ k. (inside k).group) (λ k. (inside_up k).group) n m le;
  aggregate = up_levels (λ k. (inside k).aggregate) (λ k. (inside_up k).aggregate) n m le;
  index = up_levels (λ k. (inside k).index) (λ k. (inside_up k).index) n m le;
  call = up_levels (λ k. (inside k).call) (λ k. (inside_up k).call) n m le;
  args = up_levels (λ k. (inside k).args) (λ k. (inside_up k).args) n m le;
}

pub args_up : (n : ℕ) → Up (args n) (args (suc n))
unfolding args
args_up n = made_up _ (optional_up (inside_up n).args)

-- first signs that can start a form

pub group_opens : Opens (signs.OpenParenthesis ∷ []) (λ n. (inside n).group)
unfolding inside group_of
group_opens = deeper_opens (λ n. (inside n).group) (made_opens _ (seq_opens _ (one_opens _)))

pub aggregate_opens : Opens (signs.OpenBracket ∷ []) (λ n. (inside n).aggregate)
unfolding inside aggregate_of
aggregate_opens = deeper_opens (λ n. (inside n).aggregate) (made_opens _ (seq_opens _ (one_opens _)))

pub index_opens : Opens (signs.OpenBrace ∷ []) (λ n. (inside n).index)
unfolding inside index_of
index_opens = deeper_opens (λ n. (inside n).index) (made_opens _ (seq_opens _ (one_opens _)))

pub call_opens : Opens (signs.OpenParenthesis ∷ []) (λ n. (inside n).call)
unfolding inside call_of
call_opens = deeper_opens (λ n. (inside n).call) (made_opens _ (seq_opens _ (one_opens _)))

pub name_opens : Opens (signs.Name ∷ []) (λ n. name)
unfolding name
name_opens = made_opens _ (one_opens _)

primary_opens : Opens primary_signs (λ n. primary (inside n))
unfolding primary place
primary_opens =
    fewer_opens
    (either_opens (made_opens _ (one_opens _))
    (either_opens (made_opens _ (one_opens _))
    (either_opens (made_opens _ (one_opens _))
    (either_opens group_opens
    (either_opens aggregate_opens
    (either_opens (made_opens _ (seq_opens _ name_opens)) (made_opens _ (made_opens _ (seq_opens _ name_opens)))))))))
    refl

pub expr_opens : Opens expr_signs expr
unfolding expr expr_of land relation sum term chain
expr_opens =
    made_opens _
    (seq_opens _
    (made_opens _
    (both_open (optional_opens (one_opens _)) (optional_empties _)
    (made_opens _
    (seq_opens _
    (made_opens _
    (seq_opens _
    (made_opens _ (seq_opens _ (made_opens _ (both_open (optional_opens (one_opens _)) (optional_empties _) (made_opens _ (seq_opens _ primary_opens)))))))))))))

pub option_opens : Opens (signs.Backslash ∷ []) (λ n. option (expr n))
unfolding option
option_opens = made_opens _ (seq_opens _ (one_opens _))

pub later_opens : Opens (signs.Comma ∷ signs.Backslash ∷ []) (λ n. later (expr n))
unfolding later
later_opens = either_opens (made_opens _ (seq_opens _ (one_opens _))) option_opens

pub args_opens : Opens arg_signs (λ n. (inside n).args)
unfolding inside args_list needed expr
args_opens = deeper_opens (λ n. (inside n).args) (made_opens _ (seq_opens _ (fewer_opens (either_opens (made_opens _ expr_opens) option_opens) refl)))
