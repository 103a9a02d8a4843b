-- A script and trees have at most one refusal, and none if they have a cell.
use Rattle.std.proofs.Common.{◌≡◌, ℕ, ◌<◌, List, length, Some, codes, slice_get, refl, ap, sym, subst, ◌∙◌, inl, inr}
use Rattle.std.proofs.lemmas.Bool.{cases_order}
use Rattle.std.proofs.lemmas.Option.{slice_get_within}
use Rattle.rapid_model.specs.declared.pers_value.PersValue.{PersValue}
use Rattle.rapid_model.specs.declared.script_rule.ScriptRule.{ScriptRule}
use Rattle.rapid_model.specs.declared.script_rule.ScriptRule.TheVariants.{NoSuch, Kind, Range, Twice}
use Rattle.typed_trees.specs.Plain.{TypedPers}
use Rattle.cell_script.specs.Break.{element_key}
use Rattle.cell_assembly.specs.Cells.{CellBreak, Clash, InScript}
use Rattle.cell_rules.specs.Declared.{Declared, AreAlikeBefore}
use Rattle.cell_rules.specs.Given.{Breaks, Finds, IsInside, IsRight, Suits}
use Rattle.cell_rules.specs.Refused.{IsClash, IsBroken, IsRefusal}
use Rattle.cell_rules.proofs.Alike.{found_alike, suits_alike, inside_alike}
use Rattle.cell_rules.proofs.Lists.{same_there}

module _ (ds : List Declared) (given : List PersValue) where
  module _ (alike : AreAlikeBefore (length ds) ds) (number : ℕ) (value : PersValue) where
    suits_there : (row other : TypedPers) → Finds ds value row → Finds ds value other → Suits value row → Suits value other
    suits_there row other found also suits = suits_alike value row other (found_alike ds alike value row other found also) suits

    inside_there : (row other : TypedPers) → Finds ds value row → Finds ds value other → IsInside value.index row.len → IsInside value.index other.len
    inside_there row other found also is = inside_alike value row other (found_alike ds alike value row other found also) is

    -- a value that keeps the rules breaks none of them
    right_breaks_none : (rule : ScriptRule) → IsRight ds given number value → Breaks ds given number value rule → ⊥
    right_breaks_none NoSuch right broken = broken right.row right.finds
    right_breaks_none Kind right broken = broken.other (suits_there right.row broken.row right.finds broken.finds right.suits)
    right_breaks_none Range right broken = broken.outside (inside_there right.row broken.row right.finds broken.finds right.inside)
    right_breaks_none Twice right broken = right.once broken.before broken.other broken.earlier broken.there broken.for_one
    right_breaks_none _ right broken = broken

    -- a value breaks one rule first
    same_rule : (rule other : ScriptRule) → Breaks ds given number value rule → Breaks ds given number value other → rule ≡ other
    same_rule NoSuch NoSuch a b = refl
    same_rule NoSuch Kind a b = absurd (a b.row b.finds)
    same_rule NoSuch Range a b = absurd (a b.row b.finds)
    same_rule NoSuch Twice a b = absurd (a b.row b.finds)
    same_rule NoSuch _ a b = absurd b
    same_rule Kind NoSuch a b = absurd (b a.row a.finds)
    same_rule Kind Kind a b = refl
    same_rule Kind Range a b = absurd (a.other (suits_there b.row a.row b.finds a.finds b.suits))
    same_rule Kind Twice a b = absurd (a.other (suits_there b.row a.row b.finds a.finds b.suits))
    same_rule Kind _ a b = absurd b
    same_rule Range NoSuch a b = absurd (b a.row a.finds)
    same_rule Range Kind a b = absurd (b.other (suits_there a.row b.row a.finds b.finds a.suits))
    same_rule Range Range a b = refl
    same_rule Range Twice a b = absurd (a.outside (inside_there b.row a.row b.finds a.finds b.inside))
    same_rule Range _ a b = absurd b
    same_rule Twice NoSuch a b = absurd (b a.row a.finds)
    same_rule Twice Kind a b = absurd (b.other (suits_there a.row b.row a.finds b.finds a.suits))
    same_rule Twice Range a b = absurd (b.outside (inside_there a.row b.row a.finds b.finds a.inside))
    same_rule Twice Twice a b = refl
    same_rule Twice _ a b = absurd b
    same_rule _ other a b = absurd a

  -- if declarations agree so far, none of them clashes
  no_clash : (task «module» at index : ℕ) → AreAlikeBefore index ds → (clash : IsClash ds task «module» at) → clash.index < index → ⊥
  no_clash task «module» at index alike clash earlier = clash.differ (alike clash.before clash.index clash.e clash.d clash.earlier earlier clash.stands clash.there clash.one)

  same_clash : (task «module» at task' module' at' : ℕ) → IsClash ds task «module» at → IsClash ds task' module' at' → ◌≡◌ {A = CellBreak} (Clash task «module» at) (Clash task' module' at')
  same_clash task «module» at task' module' at' a b =
      elim (cases_order a.index b.index) [
        | inl equal ↦
            let same : a.d ≡ b.d = same_there (slice_get ds a.index) a.d b.d a.there (ap (slice_get ds) equal ∙ b.there) in
            let tasks : task ≡ task' = a.is_task ∙ ap (λ (x : Declared). x.task) same ∙ sym b.is_task in
            let modules : «module» ≡ module' = a.is_module ∙ ap (λ (x : Declared). x.row.«module») same ∙ sym b.is_module in
            let bytes : at ≡ at' = a.is_at ∙ ap (λ (x : Declared). x.row.at) same ∙ sym b.is_at in
            λ i. Clash (tasks i) (modules i) (bytes i)
        | inr differ ↦ elim differ [
          | inl before ↦ absurd (no_clash task «module» at b.index b.alike_before a before)
          | inr behind ↦ absurd (no_clash task' module' at' a.index a.alike_before b behind)
        ]
      ]

  same_broken : (key key' : List ℕ) (rule rule' : ScriptRule) → IsBroken ds given key rule → IsBroken ds given key' rule' → ◌≡◌ {A = CellBreak} (InScript key rule) (InScript key' rule')
  same_broken key key' rule rule' a b =
      elim (cases_order a.number b.number) [
        | inl equal ↦
            let same : a.value ≡ b.value = same_there (slice_get given a.number) a.value b.value a.there (ap (slice_get given) equal ∙ b.there) in
            let keys : key ≡ key' = a.is_key ∙ ap (element_key (codes "pers")) equal ∙ sym b.is_key in
            let here = subst (λ n. Breaks ds given n a.value rule') (sym equal) (subst (λ v. Breaks ds given b.number v rule') (sym same) b.breaks) in
            let rules : rule ≡ rule' = same_rule a.alike a.number a.value rule rule' a.breaks here in
            λ i. InScript (keys i) (rules i)
        | inr differ ↦ elim differ [
          | inl before ↦ absurd (right_breaks_none a.alike a.number a.value rule (b.right_before a.number a.value before a.there) a.breaks)
          | inr behind ↦ absurd (right_breaks_none a.alike b.number b.value rule' (a.right_before b.number b.value behind b.there) b.breaks)
        ]
      ]

  -- there is only one refusal
  pub same_refusal : (a b : CellBreak) → IsRefusal ds given a → IsRefusal ds given b → a ≡ b
  same_refusal (Clash task «module» at) (Clash task' module' at') is other = same_clash task «module» at task' module' at' is other
  same_refusal (Clash task «module» at) (InScript key rule) is other = absurd (no_clash task «module» at (length ds) other.alike is (slice_get_within ds is.index is.d is.there))
  same_refusal (InScript key rule) (Clash task «module» at) is other = absurd (no_clash task «module» at (length ds) is.alike other (slice_get_within ds other.index other.d other.there))
  same_refusal (InScript key rule) (InScript key' rule') is other = same_broken key key' rule rule' is other

  -- and none if declarations agree and the script's values keep the rules
  pub not_refused : AreAlikeBefore (length ds) ds → ((number : ℕ) (value : PersValue) → slice_get given number ≡ Some value → IsRight ds given number value) → (broken : CellBreak) → IsRefusal ds given broken → ⊥
  not_refused alike right (Clash task «module» at) is = no_clash task «module» at (length ds) alike is (slice_get_within ds is.index is.d is.there)
  not_refused alike right (InScript key rule) is = right_breaks_none alike is.number is.value rule (right is.number is.value is.there) is.breaks
