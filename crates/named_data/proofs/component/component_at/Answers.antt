use Rattle.rapid_values.specs.Components.{components, component_of}
use Rattle.named_data.specs.Views.{view_site}
use Rattle.named_data.proofs.Parts.{found_part}
use Rattle.named_data.proofs.component.component_at.Goals as goal

pub returns-in-Some : goal.returns-in-Some
returns-in-Some c =
    found_part (view_site c.args.site.now) c.args.name.now.at (component_of c.args.name.now.text.now (components c.args.found.sort)) c.in-Some.name c.in-Some.sort c.in-Some.ensures
