-- What contracts see of pages, and what their heads and words keep.
use Rattle.std.specs.Prelude.{◌≡◌, ℕ, ◌*◌, ◌^◌, ◌<◌, ◌≤◌, true, List, [], ◌∷◌, ◌++◌, length, map, ℤ, Option, None, Some, is_some, unwrap_or}
use Rattle.std.specs.List.{list_all}
use Rattle.rapid_num.specs.declared.joints.Joints.{Joints}
use Rattle.rapid_model.specs.declared.answer.Answer.{Answer}
use Rattle.rapid_model.specs.declared.answer.Answer.TheVariants.{Given, Ok}
use Rattle.rapid_model.specs.declared.event.Event.{Event}
use Rattle.rapid_model.specs.declared.request.Request.{Request}
use Rattle.rapid_model.specs.declared.request.Request.TheVariants.{Rise, Setpoint}
use Rattle.history_pages.specs.Packing.{event_in, event_of}
use Rattle.history_pages.specs.Paged.{PagedData}
use Rattle.history_pages.specs.declared.head.Head.{Head}

-- the events in the order in which they were pushed, and how many there is room for
pub record PagesData : Type 0 where
  pub events : List Event
  pub room : ℕ

abbrev pub with_event : PagesData → Event → PagesData
with_event pages e = record { events = pages.events ++ e ∷ []; room = pages.room }

-- the actor and the joints of a setpoint that was given
abbrev pub given_to : ℕ → Request → Answer → Option (ℕ × Joints)
given_to actor (Setpoint to) Given = Some (actor, to)
given_to actor _ _ = None

abbrev pub given_in : Event → Option (ℕ × Joints)
given_in e = given_to e.actor e.request e.answer

-- the events of heads, if each has one
abbrev pub events_in : List Head → List ℤ → List Event
events_in heads words = map (λ head. unwrap_or (event_in words head) (event_of 0 Rise Ok)) heads

-- the greatest number of words of an event: those of a shape
abbrev pub most_words : ℕ
most_words = 24

-- Each head has its event among the words. There is room for that many events, each with as many words as an event can
-- have, and the index of a word is below 2^32.
pub record IsKept (heads : PagedData Head) (words : PagedData ℤ) (room : ℕ) : Type 0 where
  pub there : list_all (λ head. is_some (event_in words.items head)) heads.items ≡ true
  pub few : length heads.items ≤ room
  pub room_for_heads : room ≤ heads.room
  pub short : length words.items ≤ most_words * length heads.items
  pub room_for_words : most_words * room ≤ words.room
  pub indexes : most_words * room < 2 ^ 32
