-- What holds of a doing from given data: it never misfits, it asks only what it may, and its result and each part that
-- it does keep what is claimed of them.
use Rattle.std.proofs.Common.{◌≡◌, subst, ℕ, None, IsTrue}
use Rattle.rapid_model.specs.Fits.{fits_request}
use Rattle.rapid_model.specs.Own.{fate_of, is_rise}
use Rattle.rapid_model.specs.declared.answer.Answer.{Answer}
use Rattle.rapid_model.specs.declared.request.Request.{Request}
use Rattle.rapid_model.specs.declared.request.Request.TheVariants.{End}
use Rattle.typed_trees.specs.Plain.{TypedTree}
use Rattle.rapid_meaning.specs.Answering.{fitting_of}
use Rattle.rapid_meaning.specs.Data.{Data}
use Rattle.rapid_meaning.specs.Doings.{Doing, Gives, Raises, Asks, Ends, Misfit, Reads, Writes, Does, after}
use Rattle.rapid_meaning.specs.Flows.{Flow, Part}
use Rattle.tree_typing.proofs.OwnState.{OwnState, IsCalm, calm, is_calm, own_state_after}

-- Asked: what the task may ask with these data. Begins, Ends, Fails: what holds when a part begins, when it ends with a
-- flow, and when an error leaves it. Ghost: what these three may also depend on.
pub record Rules : Type 1 where
  pub tree : TypedTree
  pub Ghost : Type 0
  pub Asked : Data → Request → Type 0
  pub Begins : Ghost → Part → Data → Type 0
  pub Ends : Ghost → Part → Flow → Data → Type 0
  pub Fails : Ghost → Part → ℕ → Data → Type 0

-- a request is allowed: after Hold only Rise
pub record Due (rules : Rules) (t : OwnState) (d : Data) (request : Request) : Type 0 where
  pub rises : is_rise request ≡ t.held
  pub same : t.trapped ≡ d.trapped
  pub asked : rules.Asked d request

abbrev pub Meets : {A : Type 0} → (rules : Rules) → (A → Data → Type 0) → (ℕ → Data → Type 0) → Doing A → OwnState → Data → Type 0
Meets rules Gave Failed (Gives v) t d = IsCalm t d × Gave v d
Meets rules Gave Failed (Raises n) t d = IsCalm t d × Failed n d
Meets rules Gave Failed (Asks request k) t d =
    Due rules t d request × (fate_of request ≡ None) × ((a : Answer) → IsTrue (fits_request (fitting_of rules.tree d.trapped) request a) → Meets rules Gave Failed (k a) (own_state_after t request a) d)
Meets rules Gave Failed (Ends fate) t d = Due rules t d (End fate)
Meets rules Gave Failed Misfit t d = ⊥
Meets rules Gave Failed (Reads k) t d = Meets rules Gave Failed (k d) t d
Meets rules Gave Failed (Writes e m) t d = Meets rules Gave Failed m t e
Meets rules Gave Failed (Does p k h) t d =
    IsCalm t d × (g : rules.Ghost) × rules.Begins g p d
    × ((flow : Flow) (e : Data) → rules.Ends g p flow e → Meets rules Gave Failed (k flow) (calm e) e)
    × ((n : ℕ) (e : Data) → rules.Fails g p n e → Meets rules Gave Failed (h n) (calm e) e)

-- one doing after another
pub meets_after : {A B : Type 0} (rules : Rules) (P : A → Data → Type 0) (E : ℕ → Data → Type 0) (Q : B → Data → Type 0) (F : ℕ → Data → Type 0)
    (m : Doing A) (f : A → Doing B) (h : ℕ → Doing B) (t : OwnState) (d : Data)
    → ((v : A) (e : Data) → P v e → Meets rules Q F (f v) (calm e) e) → ((n : ℕ) (e : Data) → E n e → Meets rules Q F (h n) (calm e) e)
    → Meets rules P E m t d → Meets rules Q F (after m f h) t d
unfolding after
meets_after rules P E Q F (Gives v) f h t d mf mh m = subst (λ (x : OwnState). Meets rules Q F (f v) x d) (is_calm t d m.0) (mf v d m.1)
meets_after rules P E Q F (Raises n) f h t d mf mh m = subst (λ (x : OwnState). Meets rules Q F (h n) x d) (is_calm t d m.0) (mh n d m.1)
meets_after rules P E Q F (Asks request k) f h t d mf mh m = (m.0, m.1, λ a fits. meets_after rules P E Q F (k a) f h (own_state_after t request a) d mf mh (m.2 a fits))
meets_after rules P E Q F (Ends fate) f h t d mf mh m = m
meets_after rules P E Q F Misfit f h t d mf mh m = m
meets_after rules P E Q F (Reads k) f h t d mf mh m = meets_after rules P E Q F (k d) f h t d mf mh m
meets_after rules P E Q F (Writes e more) f h t d mf mh m = meets_after rules P E Q F more f h t e mf mh m
meets_after rules P E Q F (Does p k g) f h t d mf mh m = (
  m.0,
  m.1,
  m.2,
  λ flow e ends. meets_after rules P E Q F (k flow) f h (calm e) e mf mh (m.3 flow e ends),
  λ n e fails. meets_after rules P E Q F (g n) f h (calm e) e mf mh (m.4 n e fails),
)
