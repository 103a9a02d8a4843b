-- The row of each number that a name means at a spot of a task's modules.
use Rattle.std.specs.Prelude.{◌≡◌, ◌≢◌, ◌⊎◌, ℕ, ◌+◌, ◌<◌, ◌||◌, Bool, true, false, List, [], ◌∷◌, length, Option, Some, slice_get}
use Rattle.std.specs.Str.{str_to_ascii_lowercase}
use Rattle.raw_trees.specs.Plain.{PlainDatum, PlainParam, PlainRoutine, PlainModule, Datum, Routine}
use Rattle.rapid_model.specs.declared.mode.Mode.{Mode}
use Rattle.rapid_model.specs.declared.mode.Mode.TheVariants as modes
use Rattle.rapid_model.specs.declared.signal_row.SignalRow.{SignalRow}
use Rattle.rapid_model.specs.Names.{IsOneName}
use Rattle.rule_checks.specs.declared.spot.Spot.{Spot}
use Rattle.typed_trees.specs.Plain.{TypedParam, TypedLocal, TypedRoutine, TypedSlot, TypedPers, TypedTree}
use Rattle.data_scopes.specs.declared.meant.Meant.{Meant}
use Rattle.data_scopes.specs.declared.meant.Meant.TheVariants as meants
use Rattle.data_scopes.specs.Loops.{loops_in_routine}
use Rattle.data_scopes.specs.Numbers.{is_scalar_const, tables_of}
use Rattle.data_scopes.specs.Scopes.{Loop}
use Rattle.name_laws.specs.Declared.{StandsIn, IsSeen}
use Rattle.name_laws.specs.Rows.{IsSlotRow, IsPersRow, IsParamRow, IsLocalRow, IsRoutineRow}

-- a by-value parameter is the routine's own; any other parameter is a reference
abbrev pub is_by_value : Mode → Bool
is_by_value modes.Value = true
is_by_value modes.Inout = false
is_by_value modes.Var = false
is_by_value modes.Pers = false

-- A spot is in FOR k of a routine, with these FORs nearer, none of which has the variable: the first of them is the
-- innermost one around the spot, each is in the list of the next, and the last in that of FOR k. If none is nearer, FOR
-- k is the innermost.
abbrev pub StandsInFor : List Loop → List ℕ → ℕ → Option ℕ → List ℕ → Type 0
StandsInFor loops variable k innermost [] = innermost ≡ Some k
StandsInFor loops variable k innermost (n ∷ nearer) =
    (innermost ≡ Some n) × (loop : Loop) × (slice_get loops n ≡ Some loop) × (variable ≢ loop.name) × StandsInFor loops variable k loop.outer nearer

module _ (modules : List PlainModule) (signals : List SignalRow) (tree : TypedTree) (spot : Spot) (name : List ℕ) where
  -- a visible VAR or array CONST, and its row
  pub record IsSlot (k : ℕ) : Type 0 where
    pub number : ℕ
    pub local : Bool
    pub task : Bool
    pub d : PlainDatum
    pub at : ℕ
    pub row : TypedSlot
    pub seen : IsSeen modules spot name number (Datum local task d at)
    pub has_row : slice_get tree.slots k ≡ Some row
    pub is_row : IsSlotRow (tables_of modules signals) number d row

  -- a visible PERS, and its row
  pub record IsPers (k : ℕ) : Type 0 where
    pub number : ℕ
    pub local : Bool
    pub task : Bool
    pub d : PlainDatum
    pub at : ℕ
    pub row : TypedPers
    pub seen : IsSeen modules spot name number (Datum local task d at)
    pub has_row : slice_get tree.pers k ≡ Some row
    pub is_row : IsPersRow (tables_of modules signals) number (local || task) d row

  -- a visible routine, and its row
  pub record IsRoutine (k : ℕ) : Type 0 where
    pub number : ℕ
    pub r : PlainRoutine
    pub row : TypedRoutine
    pub seen : IsSeen modules spot name number (Routine r)
    pub has_row : slice_get tree.routines k ≡ Some row
    pub is_row : IsRoutineRow (tables_of modules signals) number k r row

  -- the routine around the spot, and its row
  pub record Inside : Type 0 where
    pub routine : ℕ
    pub number : ℕ
    pub r : PlainRoutine
    pub row : TypedRoutine
    pub is_inside : spot.routine ≡ Some routine
    pub stands : StandsIn modules number (Routine r)
    pub has_row : slice_get tree.routines routine ≡ Some row
    pub is_row : IsRoutineRow (tables_of modules signals) number routine r row

  -- a parameter of the enclosing routine, and its row
  pub record IsParam (by_value : Bool) (k : ℕ) : Type 0 where
    pub inside : Inside
    pub p : PlainParam
    pub row : TypedParam
    pub is_param : slice_get inside.r.params k ≡ Some p
    pub named : IsOneName name p.name.text
    pub handed : is_by_value p.mode ≡ by_value
    pub has_row : slice_get inside.row.params k ≡ Some row
    pub is_row : IsParamRow (tables_of modules signals) inside.number inside.routine p row

  -- a VAR or an array CONST of the enclosing routine, after its parameters, and its row
  pub record IsLocal (k : ℕ) : Type 0 where
    pub inside : Inside
    pub index : ℕ
    pub d : PlainDatum
    pub row : TypedLocal
    pub is_datum : slice_get inside.r.locals index ≡ Some d
    pub behind : k ≡ length inside.row.params + index
    pub named : IsOneName name d.name.text
    pub no_constant : is_scalar_const d ≡ false
    pub has_row : slice_get inside.row.locals index ≡ Some row
    pub is_row : IsLocalRow (tables_of modules signals) inside.number inside.routine d row

  -- the nearest FOR with this variable around the spot, in the enclosing routine, which has a place for it
  pub record IsCounter (k : ℕ) : Type 0 where
    pub inside : Inside
    pub loop : Loop
    pub nearer : List ℕ
    pub is_loop : slice_get (loops_in_routine inside.r) k ≡ Some loop
    pub named : str_to_ascii_lowercase name ≡ loop.name
    pub stands : StandsInFor (loops_in_routine inside.r) (str_to_ascii_lowercase name) k spot.within nearer
    pub has_place : k < inside.row.loops

  -- a signal of the script
  pub record IsSignal (k : ℕ) : Type 0 where
    pub row : SignalRow
    pub has_row : slice_get signals k ≡ Some row
    pub named : IsOneName name row.name

  -- what the name means is a declaration of that name that is visible there, and the row of its number is that
  -- declaration's
  abbrev pub HasItsRow : Meant → Type 0
  HasItsRow (meants.Slot k) = IsSlot k
  HasItsRow (meants.Pers k) = IsPers k
  HasItsRow (meants.Routine k) = IsRoutine k
  HasItsRow (meants.Local k) = IsParam true k ⊎ IsLocal k
  HasItsRow (meants.Ref k) = IsParam false k
  HasItsRow (meants.For k) = IsCounter k
  HasItsRow (meants.Signal k) = IsSignal k
  HasItsRow _ = Unit {0}
