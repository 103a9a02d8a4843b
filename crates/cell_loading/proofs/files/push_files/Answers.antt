use Rattle.cell_loading.specs.Loaded.{names_in_turn}
use Rattle.cell_loading.proofs.ModuleFiles.{file_pushed}
use Rattle.cell_loading.proofs.files.push_files.Goals as goal

pub loop-file-preserved : goal.loop-file-preserved
loop-file-preserved c =
    file_pushed c.loop-file.found.items c.push.new.self.items (names_in_turn c.args.found.now.items) c.as_slice-files.result.now c.loop-file.file-index c.file-item.result c.as_str.result
    c.loop-file-test.true c.file-item.is c.as_str.ensures c.in_ok-push.ensures.items c.loop-file.invariant
