-- Equality of values, decided part by part.
use Rattle.std.proofs.Common.{◌≡◌, sym, ap, refl, ℤ, Bool, true, false, ◌&&◌, List, [], ◌∷◌}
use Rattle.std.specs.Bool.{Decides}
use Rattle.std.specs.Cmp.Lexicographic.{pointwise}
use Rattle.std.specs.Ordering.{int_eq}
use Rattle.std.proofs.lemmas.Bool.Decides.{Decides-int_eq, Decides-like, same_from_decides}
use Rattle.std.proofs.lemmas.Slice.Eq.{slice_eq-Decides, bytes_eq-Decides}
use Rattle.rapid_num.specs.declared.joints.Joints.{Joints}
use Rattle.rapid_model.specs.declared.value.Value.{Value}
use Rattle.rapid_model.specs.declared.value.Value.TheVariants as values
use Rattle.rapid_model.specs.Truths.{same_truth}
use Rattle.rapid_values.specs.Equality.{same, same_nums}

same_nums_pointwise : (ms ns : List ℤ) → same_nums ms ns ≡ pointwise int_eq ms ns
same_nums_pointwise [] [] = refl
same_nums_pointwise [] (n ∷ ns) = refl
same_nums_pointwise (m ∷ ms) [] = refl
same_nums_pointwise (m ∷ ms) (n ∷ ns) = ap (λ b. int_eq m n && b) (same_nums_pointwise ms ns)

same_nums_decides : (ms ns : List ℤ) → Decides (same_nums ms ns) (ms ≡ ns)
same_nums_decides ms ns = slice_eq-Decides Decides-int_eq ms ns (same_nums ms ns) (same_nums_pointwise ms ns)

same_truth_decides : (a b : Bool) → Decides (same_truth a b) (a ≡ b)
same_truth_decides true true = (λ h. refl, λ e. refl)
same_truth_decides true false = (λ h. cc, λ e. cc)
same_truth_decides false true = (λ h. cc, λ e. cc)
same_truth_decides false false = (λ h. refl, λ e. refl)

pub same_decides : (v w : Value) → Decides (same v w) (v ≡ w)
same_decides (values.Num m) (values.Num n) =
    let d = Decides-int_eq m n in (λ h. ap values.Num (d.0 h), λ e. d.1 cc)
same_decides (values.Bool a) (values.Bool b) =
    let d = same_truth_decides a b in (λ h. ap values.Bool (d.0 h), λ e. d.1 cc)
same_decides (values.Text s) (values.Text t) =
    let d = bytes_eq-Decides s t in (λ h. ap values.Text (d.0 h), λ e. d.1 cc)
same_decides (values.Rob ms) (values.Rob ns) =
    let d = same_nums_decides ms ns in (λ h. ap values.Rob (d.0 h), λ e. d.1 cc)
same_decides (values.Ext ms) (values.Ext ns) =
    let d = same_nums_decides ms ns in (λ h. ap values.Ext (d.0 h), λ e. d.1 cc)
same_decides (values.Target j) (values.Target k) =
    let d = same_nums_decides j.axis k.axis in
    let to : j.axis ≡ k.axis → j ≡ k = λ h. ap (λ (axes : List ℤ). let joints : Joints = record { axis = axes } in joints) h in
    let back : values.Target j ≡ values.Target k → j ≡ k = λ e. cc in
    (λ h. ap values.Target (to (d.0 h)), λ e. d.1 (ap (λ (i : Joints). i.axis) (back e)))
same_decides (values.Speed ms) (values.Speed ns) =
    let d = same_nums_decides ms ns in (λ h. ap values.Speed (d.0 h), λ e. d.1 cc)
same_decides _ _ = (λ h. cc, λ e. cc)

pub same_symmetric : (v w : Value) → same v w ≡ same w v
same_symmetric v w = same_from_decides (same v w) (same w v) (same_decides v w) (Decides-like (same w v) sym sym (same_decides w v))
