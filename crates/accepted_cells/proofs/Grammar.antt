-- The TRAPs of a module that a text spells have no parameters.
use Rattle.std.proofs.Common.{ℕ, List, [], ◌∷◌, Ok, refl, sym, subst}
use Rattle.std.specs.List.{All}
use Rattle.std.proofs.Math.Logic.{⊎_elim}
use Rattle.std.proofs.lemmas.List.Elements.{All-append, All-cons, All-head, All-nil, All-tail, All-weaker}
use Rattle.raw_trees.specs.Plain.{PlainItem, PlainModule, PlainRoutine, Datum, Routine}
use Rattle.rapid_lexer.specs.Tokens.{Lexeme}
use Rattle.rapid_forms.specs.Forms.{WholeEach, either, made, many, seq}
use Rattle.module_parser.specs.Grammar.{item, routine, «module»}
use Rattle.module_parser.specs.Modules.{ModuleText}
use Rattle.task_types.specs.Task.{routines_in, routines_of}
use Rattle.accepted_cells.specs.Accepted.{AreRead}
use Rattle.accepted_cells.specs.Traps.{TakesByKind, TrapsTakeNothing}

abbrev Takes : PlainRoutine → Type 0
Takes r = TakesByKind r.kind r.params

-- an item that is a routine
abbrev ItemTakes : PlainItem → Type 0
ItemTakes i = All Takes (routines_in (i ∷ []))

alone : (r : PlainRoutine) → Takes r → ItemTakes (Routine r)
alone r h = All-cons Takes r [] h (All-nil Takes)

routine_takes : (n : ℕ) (i : PlainItem) (ts : List Lexeme) → (routine n).Whole i ts → ItemTakes i
unfolding routine either made
routine_takes n i ts h =
    ⊎_elim (λ (x, whole, is). subst ItemTakes (sym is) (alone _ tt))
    (λ others. ⊎_elim (λ (x, whole, is). subst ItemTakes (sym is) (alone _ tt)) (λ (x, whole, is). subst ItemTakes (sym is) (alone _ refl)) others) h

item_takes : (n : ℕ) (i : PlainItem) (ts : List Lexeme) → (item n).Whole i ts → ItemTakes i
unfolding item either made
item_takes n i ts h =
    ⊎_elim (λ (x, whole, is). subst ItemTakes (sym is) (All-nil Takes))
    (λ others. ⊎_elim (λ (x, whole, is). subst ItemTakes (sym is) (All-nil Takes)) (λ here. routine_takes n i ts here) others) h

-- items one after another
joined : (i : PlainItem) (items : List PlainItem) → ItemTakes i → All Takes (routines_in items) → All Takes (routines_in (i ∷ items))
joined (Datum local task d at) items h k = k
joined (Routine r) items h k = All-append Takes (r ∷ []) (routines_in items) h k

items_take : (n : ℕ) (items : List PlainItem) (ts : List Lexeme) → WholeEach (item n) items ts → All Takes (routines_in items)
items_take n [] ts h = All-nil Takes
items_take n (i ∷ items) ts (u, v, is, first, rest) = joined i items (item_takes n i u first) (items_take n items v rest)

-- the module that a text spells
read_takes : (source : List ℕ) (m : PlainModule) → ModuleText source (Ok m) → All Takes (routines_in m.items)
unfolding «module» made seq many
read_takes source m (ts, tiles, (x, (u, v, is, word, (u1, v1, is1, name, (u2, v2, is2, attributes, (u3, v3, is3, items, end)))), is_m)) =
    subst (λ (k : PlainModule). All Takes (routines_in k.items)) (sym is_m) (items_take _ x.1.1.1.0 u3 items)

all_take : (modules : List PlainModule) → All (λ (m : PlainModule). All Takes (routines_in m.items)) modules → TrapsTakeNothing modules
all_take [] h = All-nil Takes
all_take (m ∷ ms) h = let Each = λ (k : PlainModule). All Takes (routines_in k.items) in All-append Takes (routines_in m.items) (routines_of ms) (All-head Each m ms h) (all_take ms (All-tail Each m ms h))

-- modules that texts spell
pub traps_take : (modules : List PlainModule) → AreRead modules → TrapsTakeNothing modules
traps_take modules read =
    all_take modules (All-weaker (λ (m : PlainModule). (source : List ℕ) × ModuleText source (Ok m)) (λ (m : PlainModule). All Takes (routines_in m.items)) (λ m spelled. read_takes spelled.0 m spelled.1) modules read)
