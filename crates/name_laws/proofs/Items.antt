-- What holds of each item of modules, by the number of its module and by the counts before it.
use Rattle.std.proofs.Common.{◌≡◌, ℕ, zero, suc, ◌+◌, List, [], ◌∷◌, ◌++◌, Some, Ok, slice_get, sym, ap, subst, ◌∙◌, arith}
use Rattle.raw_trees.specs.Plain.{PlainItem, PlainModule}
use Rattle.rule_checks.specs.Checks.{◌>>=◌}
use Rattle.rule_checks.specs.TypeChecks.{Checked}
use Rattle.rule_checks.proofs.Steps.{behind, ok_same}
use Rattle.data_scopes.specs.Numbers.{Tally, after_item, after_items}
use Rattle.data_scopes.proofs.Within.{after_modules}
use Rattle.name_laws.specs.Declared.{StandsIn}

-- by module, counts and item
abbrev pub Fact : Type 1
Fact = ℕ → Tally → PlainItem → Type 0

abbrev pub AllItems : Fact → ℕ → Tally → List PlainItem → Type 0
AllItems A number c [] = Unit {0}
AllItems A number c (item ∷ items) = A number c item × AllItems A number (after_item c item) items

abbrev pub AllModules : Fact → ℕ → Tally → List PlainModule → Type 0
AllModules A number c [] = Unit {0}
AllModules A number c (m ∷ ms) = AllItems A number c m.items × AllModules A (number + 1) (after_items c m.items) ms

-- two facts make a third
module _ (A B C : Fact) (made : (number : ℕ) (c : Tally) (item : PlainItem) → A number c item → B number c item → C number c item) where
  items_made : (number : ℕ) (c : Tally) (items : List PlainItem) → AllItems A number c items → AllItems B number c items → AllItems C number c items
  items_made number c [] a b = tt
  items_made number c (item ∷ items) a b = (made number c item a.0 b.0, items_made number (after_item c item) items a.1 b.1)

  pub modules_made : (number : ℕ) (c : Tally) (ms : List PlainModule) → AllModules A number c ms → AllModules B number c ms → AllModules C number c ms
  modules_made number c [] a b = tt
  modules_made number c (m ∷ ms) a b = (items_made number c m.items a.0 b.0, modules_made (number + 1) (after_items c m.items) ms a.1 b.1)

-- these are the elements of a list from this place on
abbrev pub Rest : {A : Type 0} → List A → ℕ → List A → Type 0
Rest all index rest = (k : ℕ) → slice_get all (index + k) ≡ slice_get rest k

pub rest_all : {A : Type 0} (all : List A) → Rest all 0 all
rest_all all k = let e : 0 + k ≡ k = omega arith in ap (slice_get all) e

pub rest_first : {A : Type 0} (all : List A) (index : ℕ) (x : A) (rest : List A) → Rest all index (x ∷ rest) → slice_get all index ≡ Some x
rest_first all index x rest is = let e : index ≡ index + 0 = omega arith in ap (slice_get all) e ∙ is 0

pub rest_more : {A : Type 0} (all : List A) (index : ℕ) (x : A) (rest : List A) → Rest all index (x ∷ rest) → Rest all (index + 1) rest
rest_more all index x rest is k = let e : (index + 1) + k ≡ index + suc k = omega arith in ap (slice_get all) e ∙ is (suc k)

-- each item is in the module with its number
module _ (modules : List PlainModule) where
  abbrev pub Stands : Fact
  Stands number c item = StandsIn modules number item

  items_stand : (number : ℕ) (m : PlainModule) (c : Tally) (index : ℕ) (items : List PlainItem) → slice_get modules number ≡ Some m → Rest m.items index items → AllItems Stands number c items
  items_stand number m c index [] is rest = tt
  items_stand number m c index (item ∷ items) is rest = (
    record { unit = m; index = index; is_module = is; is_item = rest_first m.items index item items rest },
    items_stand number m (after_item c item) (index + 1) items is (rest_more m.items index item items rest),
  )

  pub modules_stand : (number : ℕ) (c : Tally) (ms : List PlainModule) → Rest modules number ms → AllModules Stands number c ms
  modules_stand number c [] rest = tt
  modules_stand number c (m ∷ ms) rest = (
    items_stand number m c 0 m.items (rest_first modules number m ms rest) (rest_all m.items),
    modules_stand (number + 1) (after_items c m.items) ms (rest_more modules number m ms rest),
  )

-- what a step makes of its start: there is as much as is counted, what was there stays, and this holds of it
abbrev pub Done : {S : Type 0} → (Tally → S → Type 0) → (S → S → Type 0) → Tally → (S → Type 0) → S → S → Type 0
Done Counted Grows c In s t = Counted c t × Grows s t × In t

-- the step of an item
abbrev pub Stepped : {S : Type 0} → (Tally → S → Type 0) → (S → S → Type 0) → (S → Fact) → ℕ → Tally → PlainItem → S → S → Type 0
Stepped Counted Grows B number c item s t = Done Counted Grows (after_item c item) (λ u. B u number c item) s t

-- a pass over the items of modules that stops at the first broken rule: what its steps make stays
pub record IsWalk (S : Type 0) (step : ℕ → PlainItem → S → Checked S) (fold : ℕ → List PlainItem → S → Checked S) (walk : ℕ → List PlainModule → S → Checked S)
    (Counted : Tally → S → Type 0) (Grows : S → S → Type 0) (B : S → Fact) : Type 0 where
  pub no_items : (number : ℕ) (s : S) → fold number [] s ≡ Ok s
  pub more_items : (number : ℕ) (item : PlainItem) (items : List PlainItem) (s : S) → fold number (item ∷ items) s ≡ (step number item s >>= (λ t. fold number items t))
  pub no_modules : (number : ℕ) (s : S) → walk number [] s ≡ Ok s
  pub more_modules : (number : ℕ) (m : PlainModule) (ms : List PlainModule) (s : S) → walk number (m ∷ ms) s ≡ (fold number m.items s >>= (λ t. walk (number + 1) ms t))
  pub same : (s : S) → Grows s s
  pub then : (s t u : S) → Grows s t → Grows t u → Grows s u
  pub later : (s t : S) (number : ℕ) (c : Tally) (item : PlainItem) → Grows s t → B s number c item → B t number c item
  pub one : (number : ℕ) (c : Tally) (item : PlainItem) (s t : S) → Counted c s → step number item s ≡ Ok t → Stepped Counted Grows B number c item s t

module _ (S : Type 0) (step : ℕ → PlainItem → S → Checked S) (fold : ℕ → List PlainItem → S → Checked S) (walk : ℕ → List PlainModule → S → Checked S)
    (Counted : Tally → S → Type 0) (Grows : S → S → Type 0) (B : S → Fact) (w : IsWalk S step fold walk Counted Grows B) where
  -- at the end of items, and at the end of modules
  record AfterItems (number : ℕ) (c : Tally) (items : List PlainItem) (s t : S) : Type 0 where
    pub counted : Counted (after_items c items) t
    pub grows : Grows s t
    pub all : AllItems (B t) number c items

  pub record AfterModules (number : ℕ) (c : Tally) (ms : List PlainModule) (s t : S) : Type 0 where
    pub counted : Counted (after_modules c ms) t
    pub grows : Grows s t
    pub all : AllModules (B t) number c ms

  items_later : (s t : S) (number : ℕ) (c : Tally) (items : List PlainItem) → Grows s t → AllItems (B s) number c items → AllItems (B t) number c items
  items_later s t number c [] g all = tt
  items_later s t number c (item ∷ items) g all = (w.later s t number c item g all.0, items_later s t number (after_item c item) items g all.1)

  items_walked : (number : ℕ) (c : Tally) (items : List PlainItem) (s t : S) → Counted c s → fold number items s ≡ Ok t → AfterItems number c items s t
  items_walked number c [] s t h is =
      let same : s ≡ t = ok_same _ _ (sym (w.no_items number s) ∙ is) in
      subst (AfterItems number c [] s) same (record { counted = h; grows = w.same s; all = tt })
  items_walked number c (item ∷ items) s t h is =
      behind (AfterItems number c (item ∷ items) s t) t (step number item s) _ (sym (w.more_items number item items s) ∙ is) (λ u first rest.
      let here = w.one number c item s u h first in
      let after = items_walked number (after_item c item) items u t here.0 rest in
      record {
        counted = after.counted;
        grows = w.then s u t here.1 after.grows;
        all = (w.later u t number c item after.grows here.2, after.all);
      })

  pub modules_walked : (number : ℕ) (c : Tally) (ms : List PlainModule) (s t : S) → Counted c s → walk number ms s ≡ Ok t → AfterModules number c ms s t
  modules_walked number c [] s t h is =
      let same : s ≡ t = ok_same _ _ (sym (w.no_modules number s) ∙ is) in
      subst (AfterModules number c [] s) same (record { counted = h; grows = w.same s; all = tt })
  modules_walked number c (m ∷ ms) s t h is =
      behind (AfterModules number c (m ∷ ms) s t) t (fold number m.items s) _ (sym (w.more_modules number m ms s) ∙ is) (λ u one rest.
      let here = items_walked number c m.items s u h one in
      let after = modules_walked (number + 1) (after_items c m.items) ms u t here.counted rest in
      record {
        counted = after.counted;
        grows = w.then s u t here.grows after.grows;
        all = (items_later u t number c m.items after.grows here.all, after.all);
      })

-- each element of a list is in another one at the same place
abbrev pub IsFront : {A : Type 0} → List A → List A → Type 0
IsFront {A = A} xs ys = (k : ℕ) (x : A) → slice_get xs k ≡ Some x → slice_get ys k ≡ Some x

pub stays : {A : Type 0} (xs : List A) → IsFront xs xs
stays xs k x is = is

pub front_append : {A : Type 0} (xs ys : List A) → IsFront xs (xs ++ ys)
front_append [] ys k x is = absurd (cc is)
front_append (z ∷ xs) ys zero x is = is
front_append (z ∷ xs) ys (suc k) x is = front_append xs ys k x is

pub front_more : {A : Type 0} (xs : List A) (y : A) → IsFront xs (xs ++ y ∷ [])
front_more [] y k x is = absurd (cc)
front_more (z ∷ zs) y zero x is = is
front_more (z ∷ zs) y (suc k) x is = front_more zs y k x is
