use Rattle.std.proofs.Common.{◌≡◌, ◌+◌, ◌≤◌, ◌∷◌, List, length, reverse, take, sym, ap, subst, ◌∙◌}
use Rattle.typed_trees.specs.declared.datum.Datum.{Datum}
use Rattle.rapid_meaning.specs.Data.{Frame, values_in}
use Rattle.stack_code.specs.CodeData.{CodeData}
use Rattle.stack_code.specs.Entering.{frame_in}
use Rattle.machine_stacks.specs.Starts.{frame_from}
use Rattle.task_steps.specs.Loading.{IsLoaded}
use Rattle.task_steps.proofs.Loads.{loaded_frame}
use Rattle.task_steps.proofs.routines.loaded.LoadedCode.enter.Goals as goal

pub enter-requires-clause-room : goal.enter-requires-clause-room
enter-requires-clause-room c =
    let code = c.args.self.now in
    let l = c.self.inside in
    let args : List Datum = reverse (take c.args.args c.args.operands.now.top) in
    let loaded : IsLoaded code l.runs.items l.starts.items l.owners.items = subst (λ (x : CodeData). IsLoaded x l.runs.items l.starts.items l.owners.items) c.self.view_is c.self.invariant in
    let same : frame_from c.deref.result.now c.index-start.result.now args c.saturating_sub-own.result ≡ frame_in code c.args.row args =
    loaded_frame code l.runs.items c.deref.result.now l.starts.items l.owners.items c.args.routine c.args.row c.index-start.result.now c.saturating_sub-own.result args loaded c.requires.row c.index-start.ensures c.deref.ensures.value c.saturating_sub-own.ensures in
    subst (λ (f : Frame). values_in c.args.frames.now.frames + length f.values ≤ c.args.frames.now.room) (sym same) c.requires.room

pub returns-clause-entered : goal.returns-clause-entered
returns-clause-entered c =
    let code = c.args.self.now in
    let l = c.self.inside in
    let args : List Datum = reverse (take c.args.args c.args.operands.now.top) in
    let loaded : IsLoaded code l.runs.items l.starts.items l.owners.items = subst (λ (x : CodeData). IsLoaded x l.runs.items l.starts.items l.owners.items) c.self.view_is c.self.invariant in
    let same : frame_from c.deref.result.now c.index-start.result.now args c.saturating_sub-own.result ≡ frame_in code c.args.row args =
    loaded_frame code l.runs.items c.deref.result.now l.starts.items l.owners.items c.args.routine c.args.row c.index-start.result.now c.saturating_sub-own.result args loaded c.requires.row c.index-start.ensures c.deref.ensures.value c.saturating_sub-own.ensures in
    c.enter.ensures.entered ∙ ap {A = Frame} (λ (f : Frame). record c.args.frames.now { frames = f ∷ c.args.frames.now.frames }) same
