-- The data of a task's modules and routines, one after the other in the order of modules and text: each with its length
-- and its first values; the value of a CONST is known to what comes after it.
use Rattle.std.specs.Prelude.{ℕ, ◌+◌, Bool, true, false, not, ◌||◌, List, [], ◌∷◌, ◌++◌, length, replicate, Option, Some, None, slice_get, Ok, if◌then◌else◌}
use Rattle.raw_trees.specs.Plain.{PlainDatum, PlainParam, PlainRoutine, PlainItem, PlainModule, Datum, Routine}
use Rattle.rapid_model.specs.declared.sort.Sort.{Sort}
use Rattle.rapid_model.specs.declared.sort.Sort.TheVariants as sorts
use Rattle.rapid_model.specs.declared.value.Value.{Value}
use Rattle.typed_trees.specs.Plain.{TypedSlot, TypedPers, TypedLocal}
use Rattle.constant_meaning.specs.Constants.{Elements}
use Rattle.data_scopes.specs.declared.data_row.DatumRow.{DatumRow}
use Rattle.data_scopes.specs.Called.{local_of}
use Rattle.rule_checks.specs.Checks.{◌>>=◌}
use Rattle.rule_checks.specs.TypeChecks.{Checked}
use Rattle.data_scopes.specs.Kept.{with_kept}
use Rattle.data_scopes.specs.Numbers.{is_const, is_pers, is_scalar_const}
use Rattle.data_scopes.specs.Scopes.{Names}
use Rattle.rapid_model.specs.Sorts.{width}
use Rattle.decl_types.specs.Values.{Initial, initial, first_data}

-- The data so far: the names with the values of the CONSTs, and how many of these there are; the elements of the CONST
-- arrays by their slots; the rows of VARs and CONST arrays, of PERSs, and of each routine's data; and how many values
-- the modules' data have in all.
pub record Progress : Type 0 where
  pub names : Names
  pub consts : ℕ
  pub known : List (Option (List Value))
  pub slots : List TypedSlot
  pub pers : List TypedPers
  pub locals : List (List TypedLocal)
  pub values : ℕ

abbrev pub beginning : Names → Progress
beginning names = record { names = names; consts = 0; known = []; slots = []; pers = []; locals = []; values = 0 }

-- the type of a declared datum; each number that is in use has a row
abbrev pub sort_in : Option DatumRow → Sort
sort_in (Some row) = row.sort
sort_in None = sorts.Num

-- the names with the value of one more CONST
abbrev pub keeping : Names → ℕ → Option (List Value) → Names
keeping names constant (Some (v ∷ vs)) = with_kept names constant v
keeping names constant values = names

-- the elements of an array, if they never change
abbrev pub known_elements : Bool → Option (List Value) → Option (List Value)
known_elements true values = values
known_elements false values = None

abbrev pub with_const : Progress → Initial → Progress
with_const p i = record {
  names = keeping p.names p.consts i.values;
  consts = p.consts + 1;
  known = p.known;
  slots = p.slots;
  pers = p.pers;
  locals = p.locals;
  values = p.values + 1;
}

abbrev pub with_slot : Progress → PlainDatum → Sort → Initial → Progress
with_slot p d sort i = record {
  names = p.names;
  consts = p.consts;
  known = p.known ++ known_elements (is_const d.kind) i.values ∷ [];
  slots = p.slots ++ record {
    name = d.name.text;
    variable = not (is_const d.kind);
    sort = sort;
    len = i.len;
    first = first_data sort i.len i.values;
  } ∷ [];
  pers = p.pers;
  locals = p.locals;
  values = p.values + width i.len;
}

-- a TASK or LOCAL PERS is the task's own
abbrev pub with_pers : Progress → ℕ → Bool → PlainDatum → Sort → Initial → Progress
with_pers p number own d sort i = record {
  names = p.names;
  consts = p.consts;
  known = p.known;
  slots = p.slots;
  pers = p.pers ++ record {
    name = d.name.text;
    «module» = number;
    at = d.name.at;
    own = own;
    sort = sort;
    len = i.len;
    first = i.values;
  } ∷ [];
  locals = p.locals;
  values = p.values + width i.len;
}

-- the CONST arrays of the modules, outside a routine
abbrev pub of_modules : Progress → Elements
of_modules p = record { slots = p.known; locals = [] }

abbrev pub datum_const : ℕ → PlainDatum → Progress → Checked Progress
datum_const number d p =
    initial p.names number None (of_modules p) (sort_in (slice_get p.names.rows.consts p.consts)) d >>= (λ i. Ok (with_const p i))

abbrev pub datum_pers : ℕ → Bool → PlainDatum → Progress → Checked Progress
datum_pers number own d p =
    let sort = sort_in (slice_get p.names.rows.pers (length p.pers)) in
    initial p.names number None (of_modules p) sort d >>= (λ i. Ok (with_pers p number own d sort i))

abbrev pub datum_slot : ℕ → PlainDatum → Progress → Checked Progress
datum_slot number d p =
    let sort = sort_in (slice_get p.names.rows.slots (length p.slots)) in
    initial p.names number None (of_modules p) sort d >>= (λ i. Ok (with_slot p d sort i))

abbrev pub datum : ℕ → Bool → PlainDatum → Progress → Checked Progress
datum number own d p =
    if is_scalar_const d then datum_const number d p
    else if is_pers d.kind then datum_pers number own d p
    else datum_slot number d p

-- the data of a routine so far: after its parameters, the elements of its CONST arrays by their places, and the rows
pub record Inner : Type 0 where
  pub names : Names
  pub consts : ℕ
  pub known : List (Option (List Value))
  pub rows : List TypedLocal

abbrev pub inner_row : PlainDatum → Sort → Initial → TypedLocal
inner_row d sort i = record {
  name = d.name.text;
  variable = not (is_const d.kind);
  sort = sort;
  len = i.len;
  first = first_data sort i.len i.values;
}

-- the value of a CONST that is not an array is kept; the elements of one that is are known
abbrev pub with_local : Inner → PlainDatum → Sort → Initial → Inner
with_local n d sort i =
    if is_scalar_const d then record {
      names = keeping n.names n.consts i.values;
      consts = n.consts + 1;
      known = n.known ++ None ∷ [];
      rows = n.rows ++ inner_row d sort i ∷ [];
    } else record {
      names = n.names;
      consts = n.consts;
      known = n.known ++ known_elements (is_const d.kind) i.values ∷ [];
      rows = n.rows ++ inner_row d sort i ∷ [];
    }

-- a datum of this routine, given the elements of the modules' CONST arrays
abbrev pub local : ℕ → ℕ → List (Option (List Value)) → PlainDatum → Inner → Checked Inner
local number routine slots d n =
    let sort = sort_in (local_of n.names.rows (Some routine) (length n.known)) in
    initial n.names number (Some routine) (record { slots = slots; locals = n.known }) sort d >>= (λ i. Ok (with_local n d sort i))

abbrev pub locals : ℕ → ℕ → List (Option (List Value)) → List PlainDatum → Inner → Checked Inner
locals number routine slots [] n = Ok n
locals number routine slots (d ∷ ds) n = local number routine slots d n >>= (λ m. locals number routine slots ds m)

-- parameters come before the data, and are never known
abbrev pub entered : Progress → List PlainParam → Inner
entered p params = record { names = p.names; consts = p.consts; known = replicate (length params) None; rows = [] }

abbrev pub left : Progress → Inner → Progress
left p n = record {
  names = n.names;
  consts = n.consts;
  known = p.known;
  slots = p.slots;
  pers = p.pers;
  locals = p.locals ++ n.rows ∷ [];
  values = p.values;
}

abbrev pub routine : ℕ → PlainRoutine → Progress → Checked Progress
routine number r p = locals number (length p.locals) p.known r.locals (entered p r.params) >>= (λ n. Ok (left p n))

abbrev pub item : ℕ → PlainItem → Progress → Checked Progress
item number (Datum local task d at) p = datum number (local || task) d p
item number (Routine r) p = routine number r p

abbrev pub items : ℕ → List PlainItem → Progress → Checked Progress
items number [] p = Ok p
items number (i ∷ is) p = item number i p >>= (λ q. items number is q)

-- the modules, given the number of the first
abbrev pub data_of : ℕ → List PlainModule → Progress → Checked Progress
data_of number [] p = Ok p
data_of number (m ∷ ms) p = items number m.items p >>= (λ q. data_of (number + 1) ms q)
