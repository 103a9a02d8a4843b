use Rattle.rapid_lexer.proofs.Tilings.{one_tiling, one_fault, no_fault}
use Rattle.rapid_lexer.proofs.Readings.{tiles_slices}
use Rattle.rapid_lexer.proofs.laws.one_reading.Goals as goal

pub returns : goal.returns
returns c = record { tokens = one_tiling; fault = one_fault; apart = no_fault; slices = tiles_slices }
