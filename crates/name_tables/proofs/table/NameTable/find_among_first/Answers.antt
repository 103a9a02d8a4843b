use Rattle.std.proofs.Common.{◌≡◌, Bool, true, false, nat_lt, Some, None, sym, ap, ◌∙◌, if◌then◌else◌, arith}
use Rattle.std.proofs.lemmas.Bool.Decides.{nat_tests}
use Rattle.name_tables.proofs.Entries.{found, too_long}
use Rattle.name_tables.proofs.Firsts.{none_first, found_first}
use Rattle.name_tables.proofs.table.NameTable.find_among_first.Goals as goal

pub returns-in_err-key : goal.returns-in_err-key
returns-in_err-key g c = c.from_residual.ensures ∙ sym (none_first _ _ c.args.count (too_long _ _ _ c.self.view_is c.self.invariant c.in_err-key.ensures))

pub returns-in_err-index : goal.returns-in_err-index
returns-in_err-index g c =
    let none = c.in_err-index.ensures.value ∙ found _ c.in_ok-key.field-0.now c.self.inside.entries.entries _ c.self.view_is c.in_ok-key.ensures.0 in
    c.from_residual-in_err-index.ensures ∙ sym (none_first _ _ c.args.count (sym none))

pub returns-then-index-count : goal.returns-then-index-count
returns-then-index-count g c =
    let within : true ≡ nat_lt c.in_ok-index.index c.args.count = grind (arith, nat_tests, c.if-index-count.true) in
    ap (λ (b : Bool). if b then Some c.in_ok-index.value.now else None) within
    ∙ found_first _ c.in_ok-key.field-0.now c.self.inside.entries.entries _ c.args.count c.in_ok-index.index (Some c.in_ok-index.value.now) c.self.view_is c.in_ok-key.ensures.0 (sym c.in_ok-index.ensures.index) (sym c.in_ok-index.ensures.value)

pub returns-else-index-count : goal.returns-else-index-count
returns-else-index-count g c =
    let past : false ≡ nat_lt c.in_ok-index.index c.args.count = grind (arith, nat_tests, c.if-index-count.false) in
    ap (λ (b : Bool). if b then Some c.in_ok-index.value.now else None) past
    ∙ found_first _ c.in_ok-key.field-0.now c.self.inside.entries.entries _ c.args.count c.in_ok-index.index (Some c.in_ok-index.value.now) c.self.view_is c.in_ok-key.ensures.0 (sym c.in_ok-index.ensures.index) (sym c.in_ok-index.ensures.value)
