-- The modules of a task as contracts see them.
use Rattle.std.specs.Prelude.{map}
use Rattle.state_text.specs.StateLines.{SourcesData}
use Rattle.state_text.specs.declared.sources.Sources.{Sources}

abbrev pub view_sources : Sources → SourcesData
view_sources s = record { files = s.files.now; texts = map (λ text. text.items) s.texts.now }
