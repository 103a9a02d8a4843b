-- Arguments and needs, counted.
use Rattle.std.proofs.Common.{◌≡◌, codes, ℕ, suc, ◌+◌, ◌<◌, Bool, true, false, if◌then◌else◌, List, [], ◌∷◌, length, get_or, map, drop, Option, None, Some, refl, sym, ap, ◌∙◌, arith}
use Rattle.std.proofs.lemmas.List.{at_drop_more}
use Rattle.std.specs.Str.{str_eq_ignore_ascii_case}
use Rattle.rapid_model.specs.declared.sort.Sort.TheVariants as sorts
use Rattle.raw_trees.specs.Plain.{PlainArg, PlainArgs, Needed, Optional, MoreArgs, PlainExpr, args_of, exprs_of}
use Rattle.raw_trees.specs.declared.raw_expr.RawArg.{RawArg}
use Rattle.raw_trees.specs.Views.{view_arg}
use Rattle.rapid_builtins.specs.declared.need.Need.{Need}
use Rattle.rapid_builtins.specs.declared.need.Need.TheVariants as needs
use Rattle.expr_types.specs.Calls.{all_in, zone_need, zone_need_of}
use Rattle.expr_types.specs.Typing.{count}

pub all_counted : (args : List PlainArg) → length args ≡ all_in (args_of args)
all_counted [] = refl
all_counted (a ∷ args) = rw (← all_counted args) (omega arith)

pub exprs_counted : (es : List PlainExpr) → count (exprs_of es) ≡ length es
exprs_counted [] = refl
exprs_counted (e ∷ es) = ap suc (exprs_counted es)

-- what one argument determines, else what those after it do
abbrev pub or_need : Option Need → Need → Need
or_need (Some need) other = need
or_need None other = other

zone_first : (temp stat : Bool) (x y other : Need) → (if temp then x else if stat then y else other) ≡ or_need (if temp then Some x else if stat then Some y else None) other
zone_first true stat x y other = refl
zone_first false true x y other = refl
zone_first false false x y other = refl

zone_more : (a : PlainArg) (more : PlainArgs) → zone_need (MoreArgs a more) ≡ or_need (zone_need_of a) (zone_need more)
zone_more (Needed e) more = refl
zone_more (Optional name held at) more =
    zone_first (str_eq_ignore_ascii_case (codes "Temp") name.text) (str_eq_ignore_ascii_case (codes "Stat") name.text) (needs.Var sorts.WzTemporary) (needs.Var sorts.WzStationary) (zone_need more)

-- the arguments from one on
pub zone_from : (list : List RawArg) (i : ℕ) (a : RawArg) → i < length list → a ≡ get_or list i a →
    zone_need (args_of (map view_arg (drop i list))) ≡ or_need (zone_need_of (view_arg a)) (zone_need (args_of (map view_arg (drop (i + 1) list))))
zone_from list i a lt is =
    at_drop_more (λ left. zone_need (args_of (map view_arg left))) list i a lt
    ∙ ap (λ x. zone_need (MoreArgs (view_arg x) (args_of (map view_arg (drop (i + 1) list))))) (sym is)
    ∙ zone_more (view_arg a) (args_of (map view_arg (drop (i + 1) list)))
