use Rattle.std.proofs.lemmas.Result.{err_from_is_err_and}
use Rattle.cell_loading.proofs.Loads.{script_gave, script_read, script_stops}
use Rattle.cell_loading.proofs.texts.load_script.Goals as goal

pub returns-in_err-text-clause-read : goal.returns-in_err-text-clause-read
returns-in_err-text-clause-read g c =
    let p = err_from_is_err_and c.from_residual.result c.from_residual.ensures.1 in
    rw (p.1, p.2) (script_stops _ c.in_err-text.ensures.unread)

pub returns-clause-told : goal.returns-clause-told
returns-clause-told g c =
    script_read (g.S.Shelf.told c.args.shelf.now) c.args.name.now c.in_ok-text.text.items c.as_slice.result.now c.script_of.result c.in_ok-text.ensures.gives c.as_slice.ensures.value c.script_of.ensures.script

pub returns-clause-read : goal.returns-clause-read
returns-clause-read g c =
    script_gave c.in_ok-text.text.items c.as_slice.result.now c.script_of.result c.in_ok-text.ensures.within c.as_slice.ensures.value c.script_of.ensures.script
