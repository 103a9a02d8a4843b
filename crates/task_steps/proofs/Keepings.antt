-- Answers that no request of an operation has, after which it does nothing.
use Rattle.std.proofs.Common.{◌≡◌, refl, ℕ}
use Rattle.rapid_model.specs.declared.answer.Answer.{Answer}
use Rattle.rapid_model.specs.declared.answer.Answer.TheVariants as answers
use Rattle.rapid_model.specs.declared.zone_name.ZoneName.{ZoneName}
use Rattle.typed_trees.specs.declared.datum.Lvalue.{Lvalue}
use Rattle.rapid_meaning.specs.Data.{Data}
use Rattle.rapid_meaning.specs.Doings.{Misfit, after}
use Rattle.stack_code.specs.CodeData.{CodeData}
use Rattle.stack_code.specs.Steps.{Here}
use Rattle.task_steps.specs.Alike.{Alike}
use Rattle.task_steps.specs.Doing.{answered}
use Rattle.task_steps.specs.declared.requests.pending.Pending.TheVariants as pendings

pub not_connected : (code : CodeData) (h : Here) (d : Data) (place : Lvalue) (a : Answer) → ((number : ℕ) → a ≡ answers.Number number → ⊥) → (a ≡ answers.Already → ⊥) → (a ≡ answers.NoMore → ⊥)
    → Alike code (answered h (pendings.Connected place) a) d Misfit d
unfolding after
not_connected code h d place (answers.Number number) numbered already more = absurd (numbered number refl)
not_connected code h d place answers.Already numbered already more = absurd (already refl)
not_connected code h d place answers.NoMore numbered already more = absurd (more refl)
not_connected code h d place _ numbered already more = record { same = λ left. refl }

pub not_supervised : (code : CodeData) (h : Here) (d : Data) (place : Lvalue) (a : Answer) → ((number : ℕ) → a ≡ answers.Number number → ⊥) → (a ≡ answers.ZoneUsed → ⊥) → (a ≡ answers.ZoneFull → ⊥)
    → (a ≡ answers.Tied → ⊥) → Alike code (answered h (pendings.Supervised place) a) d Misfit d
unfolding after
not_supervised code h d place (answers.Number number) numbered used full tied = absurd (numbered number refl)
not_supervised code h d place answers.ZoneUsed numbered used full tied = absurd (used refl)
not_supervised code h d place answers.ZoneFull numbered used full tied = absurd (full refl)
not_supervised code h d place answers.Tied numbered used full tied = absurd (tied refl)
not_supervised code h d place _ numbered used full tied = record { same = λ left. refl }

pub not_freed : (code : CodeData) (h : Here) (d : Data) (place : Lvalue) (a : Answer) → (a ≡ answers.Ok → ⊥) → (a ≡ answers.NoZone → ⊥)
    → Alike code (answered h (pendings.Freed place) a) d Misfit d
unfolding after
not_freed code h d place answers.Ok ok none = absurd (ok refl)
not_freed code h d place answers.NoZone ok none = absurd (none refl)
not_freed code h d place _ ok none = record { same = λ left. refl }

pub not_pointed : (code : CodeData) (h : Here) (d : Data) (past : ℕ) (a : Answer) → (a ≡ answers.Given → ⊥) → ((zone : ZoneName) → a ≡ answers.Stopped zone → ⊥)
    → Alike code (answered h (pendings.Pointed past) a) d Misfit d
unfolding after
not_pointed code h d past answers.Given given stopped = absurd (given refl)
not_pointed code h d past (answers.Stopped zone) given stopped = absurd (stopped zone refl)
not_pointed code h d past _ given stopped = record { same = λ left. refl }

pub not_left : (code : CodeData) (h : Here) (d : Data) (a : Answer) → (a ≡ answers.Ok → ⊥) → Alike code (answered h pendings.Left a) d Misfit d
unfolding after
not_left code h d answers.Ok ok = absurd (ok refl)
not_left code h d _ ok = record { same = λ left. refl }
