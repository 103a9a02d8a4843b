-- How contracts see what is made of a declaration.
use Rattle.std.specs.Prelude.{ℕ, ◌+◌, Bool, not, List, [], ◌∷◌, ◌++◌, Option, map}
use Rattle.raw_trees.specs.Plain.{PlainDatum}
use Rattle.rapid_model.specs.declared.sort.Sort.{Sort}
use Rattle.rapid_model.specs.declared.value.Value.{Value}
use Rattle.typed_trees.specs.Plain.{TypedLocal, TypedPers, TypedSlot}
use Rattle.typed_trees.specs.Plain.{exprs_of}
use Rattle.typed_trees.specs.Views.{view_expr, view_local}
use Rattle.constant_meaning.specs.Constants.{items_of}
use Rattle.data_scopes.specs.Numbers.{is_const}
use Rattle.decl_types.specs.declared.brackets.Brackets.{Brackets}
use Rattle.decl_types.specs.declared.initial.Initial.{Initial}
use Rattle.decl_types.specs.declared.inner.Inner.{Inner}
use Rattle.decl_types.specs.Data
use Rattle.decl_types.specs.Values

abbrev pub view_brackets : Brackets → Values.Brackets
view_brackets b = record { at = b.at; elements = exprs_of (map view_expr b.elements.items) }

abbrev pub view_initial : Initial → Values.Initial
view_initial i = record { len = i.len; values = items_of i.values }

abbrev pub view_inner : Inner → Data.Inner
view_inner n = record {
  names = n.scopes;
  consts = n.consts;
  known = map items_of n.known.items;
  rows = map view_local n.rows.items;
}

-- the row that a VAR or a CONST array adds
abbrev pub slot_row : PlainDatum → Sort → Values.Initial → TypedSlot
slot_row d sort i = record {
  name = d.name.text;
  variable = not (is_const d.kind);
  sort = sort;
  len = i.len;
  first = Values.first_data sort i.len i.values;
}

-- the row that a PERS adds
abbrev pub pers_row : ℕ → Bool → PlainDatum → Sort → Values.Initial → TypedPers
pers_row number own d sort i = record {
  name = d.name.text;
  «module» = number;
  at = d.name.at;
  own = own;
  sort = sort;
  len = i.len;
  first = i.values;
}

-- keeps the value of a routine's CONST that is not an array
abbrev pub with_inner_const : Data.Inner → Option (List Value) → Data.Inner
with_inner_const n values = record {
  names = Data.keeping n.names n.consts values;
  consts = n.consts + 1;
  known = n.known;
  rows = n.rows;
}

-- the row of a datum of a routine, and its elements if they are known
abbrev pub with_inner_row : Data.Inner → TypedLocal → Bool → Values.Initial → Data.Inner
with_inner_row n row constant i = record {
  names = n.names;
  consts = n.consts;
  known = n.known ++ Data.known_elements constant i.values ∷ [];
  rows = n.rows ++ row ∷ [];
}
