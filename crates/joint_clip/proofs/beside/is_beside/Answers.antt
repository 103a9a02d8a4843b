use Rattle.std.proofs.Common.{rules, arith, ◌<ℤ◌, inl, inr}
use Rattle.std.proofs.lemmas.Int.{ints, clamps}
use Rattle.joint_clip.proofs.beside.is_beside.Goals as goal

pub returns-else-max-thousandths : goal.returns-else-max-thousandths
returns-else-max-thousandths c =
    let bound = c.args.bound.now in (
      λ is.
          let above : bound.high <ℤ c.min.result = search rules in
          inr (omega (arith, ints, clamps), omega (arith, ints, clamps)),
      λ beside.
          let above : bound.high <ℤ c.min.result = elim beside [ inl below ↦ absurd (omega (arith, ints, clamps, below.0, below.1)) | inr past ↦ omega (arith, ints, clamps, past.0, past.1) ] in
          search rules,
    )
