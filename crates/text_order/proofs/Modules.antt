-- The statements of a module start at the tokens that spell it.
use Rattle.std.proofs.Common.{ℕ, List, [], ◌∷◌, ◌++◌, flat_map, refl, sym, subst}
use Rattle.std.proofs.lemmas.List.{append-nil}
use Rattle.raw_trees.specs.Plain.{PlainStmt, else_of}
use Rattle.rapid_forms.specs.declared.sign.Sign.TheVariants as signs
use Rattle.rapid_forms.specs.Forms.{seq, optional, many, made}
use Rattle.expr_parser.specs.Grammar.{mark, name, behind, none_or}
use Rattle.stmt_parser.specs.Grammar.{list}
use Rattle.module_parser.specs.Grammar.{Body, datum, datum_item, task_item, proc_tree, func_tree, trap_tree, module_tree, params, body, local, routine, item, attributes, «module»}
use Rattle.text_order.specs.Stated.{stated_in_item, stated_in_module, stated_in_else}
use Rattle.text_order.proofs.Stands.{Stand, Stands, in_option, none_in, none_stand, seq_stand, either_stand, optional_stand, many_stand, made_stand}
use Rattle.text_order.proofs.Statements.{behind_stand, else_same, in_list, list_stands}

-- the statements of a body
abbrev in_body : Body → List PlainStmt
in_body b = in_list b.1.0 ++ stated_in_else (else_of b.1.1)

body_stands : (n : ℕ) → Stands (body n) in_body
unfolding body
body_stands n x ts whole =
    let data_form = many (datum (signs.Const ∷ signs.Var ∷ []) n) in
    let handler = optional (made behind (seq (mark signs.Error) (list n))) in
    let stands = seq_stand data_form (seq (list n) handler) none_in (λ y. in_list y.0 ++ in_option in_list y.1) (none_stand data_form)
    (seq_stand (list n) handler in_list (in_option in_list) (list_stands n) (optional_stand (made behind (seq (mark signs.Error) (list n))) in_list (behind_stand signs.Error (list n) in_list (list_stands n)))) in
    subst (λ ss. Stand (in_list x.1.0 ++ ss) ts) (sym (else_same x.1.1)) (stands x ts whole)

routine_stands : (n : ℕ) → Stands (routine n) stated_in_item
unfolding routine
routine_stands n =
    let b = body n in
    let proc_end = mark signs.EndProc in
    let func_end = mark signs.EndFunc in
    let trap_end = mark signs.EndTrap in
    let proc = seq local (seq (mark signs.Proc) (seq name (seq params (seq b proc_end)))) in
    let func = seq local (seq (mark signs.Func) (seq name (seq name (seq params (seq b func_end))))) in
    let trap = seq local (seq (mark signs.Trap) (seq name (seq b trap_end))) in
    either_stand (made proc_tree proc) _ stated_in_item
    (made_stand proc_tree proc (λ x. in_body x.1.1.1.1.0 ++ []) stated_in_item (λ at x. sym (append-nil (in_body x.1.1.1.1.0)))
    (seq_stand local (seq (mark signs.Proc) (seq name (seq params (seq b proc_end)))) none_in (λ x. in_body x.1.1.1.0 ++ []) (none_stand local)
    (seq_stand (mark signs.Proc) (seq name (seq params (seq b proc_end))) none_in (λ x. in_body x.1.1.0 ++ []) (none_stand (mark signs.Proc))
    (seq_stand name (seq params (seq b proc_end)) none_in (λ x. in_body x.1.0 ++ []) (none_stand name)
    (seq_stand params (seq b proc_end) none_in (λ x. in_body x.0 ++ []) (none_stand params) (seq_stand b proc_end in_body none_in (body_stands n) (none_stand proc_end)))))))
    (either_stand (made func_tree func) (made trap_tree trap) stated_in_item
    (made_stand func_tree func (λ x. in_body x.1.1.1.1.1.0 ++ []) stated_in_item (λ at x. sym (append-nil (in_body x.1.1.1.1.1.0)))
    (seq_stand local (seq (mark signs.Func) (seq name (seq name (seq params (seq b func_end))))) none_in (λ x. in_body x.1.1.1.1.0 ++ []) (none_stand local)
    (seq_stand (mark signs.Func) (seq name (seq name (seq params (seq b func_end)))) none_in (λ x. in_body x.1.1.1.0 ++ []) (none_stand (mark signs.Func))
    (seq_stand name (seq name (seq params (seq b func_end))) none_in (λ x. in_body x.1.1.0 ++ []) (none_stand name)
    (seq_stand name (seq params (seq b func_end)) none_in (λ x. in_body x.1.0 ++ []) (none_stand name)
    (seq_stand params (seq b func_end) none_in (λ x. in_body x.0 ++ []) (none_stand params) (seq_stand b func_end in_body none_in (body_stands n) (none_stand func_end))))))))
    (made_stand trap_tree trap (λ x. in_body x.1.1.1.0 ++ []) stated_in_item (λ at x. sym (append-nil (in_body x.1.1.1.0)))
    (seq_stand local (seq (mark signs.Trap) (seq name (seq b trap_end))) none_in (λ x. in_body x.1.1.0 ++ []) (none_stand local)
    (seq_stand (mark signs.Trap) (seq name (seq b trap_end)) none_in (λ x. in_body x.1.0 ++ []) (none_stand (mark signs.Trap))
    (seq_stand name (seq b trap_end) none_in (λ x. in_body x.0 ++ []) (none_stand name) (seq_stand b trap_end in_body none_in (body_stands n) (none_stand trap_end)))))))

item_stands : (n : ℕ) → Stands (item n) stated_in_item
unfolding item
item_stands n =
    let any = seq local (datum (signs.Const ∷ signs.Var ∷ signs.Pers ∷ []) n) in
    let task = seq (mark signs.Task) (datum (signs.Pers ∷ []) n) in
    either_stand (made datum_item any) _ stated_in_item (made_stand datum_item any none_in stated_in_item (λ at x. refl) (none_stand any))
    (either_stand (made task_item task) (routine n) stated_in_item (made_stand task_item task none_in stated_in_item (λ at x. refl) (none_stand task)) (routine_stands n))

pub module_stands : (n : ℕ) → Stands («module» n) stated_in_module
unfolding «module»
module_stands n =
    let attrs = made none_or (optional attributes) in
    let items = many (item n) in
    let end = mark signs.EndModule in
    made_stand module_tree (seq (mark signs.Module) (seq name (seq attrs (seq items end)))) (λ x. flat_map stated_in_item x.1.1.1.0 ++ []) stated_in_module (λ at x. sym (append-nil (flat_map stated_in_item x.1.1.1.0)))
    (seq_stand (mark signs.Module) (seq name (seq attrs (seq items end))) none_in (λ x. flat_map stated_in_item x.1.1.0 ++ []) (none_stand (mark signs.Module))
    (seq_stand name (seq attrs (seq items end)) none_in (λ x. flat_map stated_in_item x.1.0 ++ []) (none_stand name)
    (seq_stand attrs (seq items end) none_in (λ x. flat_map stated_in_item x.0 ++ []) (none_stand attrs)
    (seq_stand items end (λ xs. flat_map stated_in_item xs) none_in (many_stand (item n) stated_in_item (item_stands n)) (none_stand end)))))
