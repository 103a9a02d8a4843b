-- What a sink reports over several writes.
use Rattle.std.proofs.Common.{List, [], ◌++◌, ap, sym, ◌∙◌, subst, append-nil, append_assoc}
use Rattle.std.specs.Prelude.{Option, None, Some}
use Rattle.outside.specs.Writes.{Appended}

-- what is reported before any write
pub appended_none : {A : Type 0} (told : Option (List A)) → Appended told [] told
appended_none None = tt
appended_none (Some held) = ap Some (sym (append-nil held))

-- what is reported after two groups of writes
pub appended_more : {A : Type 0} (a b c : Option (List A)) (first second : List A) → Appended a first b → Appended b second c → Appended a (first ++ second) c
appended_more None b c first second f s = tt
appended_more {A} (Some held) b c first second f s =
    subst (λ (told : Option (List A)). Appended told second c) f s ∙ ap Some (append_assoc held first second)
