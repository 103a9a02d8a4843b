-- Prefixes of histories, and what parts say of them.
use Rattle.std.proofs.Common.{◌≡◌, ◌⊎◌, inl, inr, ℕ, ◌<◌, ◌≤◌, List, [], ◌∷◌, ◌++◌, sym, ◌∙◌, ap, arith, append_assoc, append-nil}
use Rattle.std.specs.List.{AllByRecursion}
use mathlib.Core.List.{IsPrefix}
use Rattle.rapid_model.specs.Own.{part_of}
use Rattle.rapid_model.specs.declared.event.Event.{Event}
use Rattle.cell_meaning.proofs.MoreEvents.{part_of-other}
use Rattle.cell_gate.specs.declared.part.Part.{Part}
use Rattle.cell_gate.specs.Rule.{KnowsPart, SpeakFor, SawAll}

pub prefix_self : (history : List Event) → IsPrefix history history
prefix_self history = ([], append-nil history)

pub prefix_trans : (a b c : List Event) → IsPrefix a b → IsPrefix b c → IsPrefix a c
prefix_trans a b c p q = (p.0 ++ q.0, sym (append_assoc a p.0 q.0) ∙ ap (λ (es : List Event). es ++ q.0) p.1 ∙ q.1)

pub prefix_as : (a b c : List Event) → IsPrefix a b → b ≡ c → IsPrefix a c
prefix_as a b c p same = (p.0, p.1 ∙ same)

-- what parts say still holds when more views were made
pub tell_made : (history : List Event) (made more : ℕ) (parts : List Part) → made ≤ more → AllByRecursion (KnowsPart history made) parts → AllByRecursion (KnowsPart history more) parts
tell_made history made more [] le tell = tt
tell_made history made more (part ∷ rest) le tell =
    let known = tell.0.known in
    (record { begins = tell.0.begins; mine = tell.0.mine; known = omega (arith, known, le) }, tell_made history made more rest le tell.1)

-- what parts say still holds after an event of an actor for which they do not speak
pub tell_more : (history later : List Event) (e : Event) (made : ℕ) (parts : List Part) → later ≡ history ++ e ∷ [] → (SpeakFor e.actor parts → ⊥) → AllByRecursion (KnowsPart history made) parts
    → AllByRecursion (KnowsPart later made) parts
tell_more history later e made [] more apart tell = tt
tell_more history later e made (part ∷ rest) more apart tell = (
  record {
    begins = prefix_trans part.seen history later tell.0.begins (e ∷ [], sym more);
    mine = tell.0.mine ∙ sym (part_of-other part.actor history e (λ own. apart (inl (sym own)))) ∙ ap (λ (es : List Event). part_of part.actor es) (sym more);
    known = tell.0.known;
  },
  tell_more history later e made rest more (λ speaks. apart (inr speaks)) tell.1,
)

-- an actor for which parts speak is one of the first `made`
pub spoken_known : (history : List Event) (made actor : ℕ) (parts : List Part) → AllByRecursion (KnowsPart history made) parts → SpeakFor actor parts → actor < made
spoken_known history made actor (part ∷ rest) tell (inl is) = let known = tell.0.known in omega (arith, known, is)
spoken_known history made actor (part ∷ rest) tell (inr later) = spoken_known history made actor rest tell.1 later
spoken_known history made actor [] tell speaks = absurd speaks

-- what two lists of parts say holds of both together
pub tell_both : (history : List Event) (made : ℕ) (parts more : List Part) → AllByRecursion (KnowsPart history made) parts → AllByRecursion (KnowsPart history made) more → AllByRecursion (KnowsPart history made) (parts ++ more)
tell_both history made [] more tell rest = rest
tell_both history made (part ∷ parts) more tell rest = (tell.0, tell_both history made parts more tell.1 rest)

pub speak_left : (actor : ℕ) (parts more : List Part) → SpeakFor actor parts → SpeakFor actor (parts ++ more)
speak_left actor (part ∷ parts) more (inl is) = inl is
speak_left actor (part ∷ parts) more (inr later) = inr (speak_left actor parts more later)
speak_left actor [] more speaks = absurd speaks

pub speak_right : (actor : ℕ) (parts more : List Part) → SpeakFor actor more → SpeakFor actor (parts ++ more)
speak_right actor [] more speaks = speaks
speak_right actor (part ∷ parts) more speaks = inr (speak_right actor parts more speaks)

pub speak_either : (actor : ℕ) (parts more : List Part) → SpeakFor actor (parts ++ more) → SpeakFor actor parts ⊎ SpeakFor actor more
speak_either actor [] more speaks = inr speaks
speak_either actor (part ∷ parts) more (inl is) = inl (inl is)
speak_either actor (part ∷ parts) more (inr later) = elim (speak_either actor parts more later) [ inl here ↦ inl (inr here) | inr there ↦ inr there ]

pub saw_left : (history : List Event) (parts more : List Part) → SawAll history parts → SawAll history (parts ++ more)
saw_left history (part ∷ parts) more (inl is) = inl is
saw_left history (part ∷ parts) more (inr later) = inr (saw_left history parts more later)
saw_left history [] more saw = absurd saw

pub saw_right : (history : List Event) (parts more : List Part) → SawAll history more → SawAll history (parts ++ more)
saw_right history [] more saw = saw
saw_right history (part ∷ parts) more saw = inr (saw_right history parts more saw)
