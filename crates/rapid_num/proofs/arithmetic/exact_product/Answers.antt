use Rattle.std.proofs.Common.{◌*ℤ◌, FitsSigned, arith, lit<}
use Rattle.std.specs.Int.{w128}
use Rattle.std.proofs.Math.Nat.{mul-le-mul}
use Rattle.std.proofs.lemmas.Int.{to_z-of_z, fits_signed_mul, unsigned_abs-mul}
use Rattle.rapid_num.specs.Range.{greatest}
use Rattle.rapid_num.proofs.arithmetic.exact_product.Goals as goal

pub returns-clause-product : goal.returns-clause-product
returns-clause-product c =
    let left : FitsSigned w128 c.args.left = c.ranges.left in
    let right : FitsSigned w128 c.args.right = c.ranges.right in
    let fits : FitsSigned w128 (c.args.left *ℤ c.args.right) = fits_signed_mul w128 c.args.left c.args.right greatest greatest c.requires.left c.requires.right (lit< tt) in
    simp (to_z-of_z, left, right, fits)

pub returns-clause-fits : goal.returns-clause-fits
returns-clause-fits c =
    rw (returns-clause-product c) (omega (arith, unsigned_abs-mul c.args.left c.args.right, mul-le-mul c.requires.left c.requires.right))
