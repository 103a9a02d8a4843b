use Rattle.rapid_builtins.proofs.OptionLaws.{names_differ, three_with_inside, two_where_excluded}
use Rattle.rapid_builtins.proofs.option_laws.options_differ.Goals as goal

pub returns : goal.returns
returns c = record { differ = names_differ; two = two_where_excluded; three = three_with_inside }
