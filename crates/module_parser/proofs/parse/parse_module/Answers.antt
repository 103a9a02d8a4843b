use Rattle.std.proofs.Common.{Ok, Err, inr, ap, ◌∙◌, arith}
use Rattle.std.proofs.lemmas.Result.{err_from_is_err_and}
use Rattle.raw_trees.specs.declared.raw_module.RawModule.{RawModule}
use Rattle.raw_trees.specs.Views.{view_module}
use Rattle.rapid_forms.specs.declared.fault.SyntaxFault.TheVariants.{Lex}
use Rattle.module_parser.proofs.OneModule.{only_one}
use Rattle.module_parser.proofs.Texts.{text_whole, text_more, text_fails}
use Rattle.module_parser.proofs.parse.parse_module.Goals as goal

pub returns-in_err-tree-in-Ok : goal.returns-in_err-tree-in-Ok
returns-in_err-tree-in-Ok c =
    let p = err_from_is_err_and c.from_residual.result c.from_residual.ensures.1 in
    let x = c.in_err-tree-in-Ok in
    let told = text_fails c.args.source.now c.as_slice.result _ c.as_slice.ensures.value c.in-Ok.ensures.tiles RawModule x.field-0.0 x.ensures in
    rw (p.1, p.2) record { answer = told; only = λ other h. only_one c.args.source.now _ (Err x.field-0.0) other told h }

pub returns-then-next-len : goal.returns-then-next-len
returns-then-next-len c =
    let x = c.in_ok-tree-in-Ok in
    let told = text_more c.args.source.now c.as_slice.result _ c.as_slice.ensures.value c.in-Ok.ensures.tiles x.tree x.next c.fails.result (omega arith) x.ensures c.fails.ensures in
    record { answer = inr told; only = λ other h. only_one c.args.source.now _ (Err c.fails.result) other (inr told) h }

pub returns-else-next-len : goal.returns-else-next-len
returns-else-next-len c =
    let x = c.in_ok-tree-in-Ok in
    let told = text_whole c.args.source.now c.as_slice.result _ c.as_slice.ensures.value c.in-Ok.ensures.tiles x.tree x.next (omega arith) x.ensures in
    record { answer = inr told; only = λ other h. only_one c.args.source.now _ (Ok (view_module x.tree)) other (inr told) h }

pub returns-in-Err-Lex-clause-only : goal.returns-in-Err-Lex-clause-only
returns-in-Err-Lex-clause-only c other h =
    let x = c.in-Err-Lex in
    rw x.fault-is (only_one c.args.source.now _ (Err (Lex x.fault)) other (inr (c.read_tokens.ensures.fault x.fault (x.is ∙ ap Err x.field-0-is))) h)
