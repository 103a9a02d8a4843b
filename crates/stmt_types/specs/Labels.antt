-- The labels of a routine (RAPID Kernel, GOTO and labels).
use Rattle.std.specs.Prelude.{ℕ, ◌==◌, suc, Bool, false, List, [], ◌∷◌, ◌++◌, Option, Some, None, if◌then◌else◌}
use Rattle.std.specs.Borrow.{Bor}
use Rattle.std.specs.Option.{option_map}
use Rattle.std.specs.List.{list_any}
use Rattle.std.specs.Str.{str_eq_ignore_ascii_case}
use Rattle.raw_trees.specs.Plain.{PlainName, PlainStmt, PlainStmts, PlainArms, PlainCases, PlainElse, PlainRoutine, Label, If, IfOne, For, While, Test, NoStmts, MoreStmts, NoArms, MoreArms, NoCases, MoreCases, NoElse, Else, stmts_of, else_of}

-- a label by its name, case-insensitively
abbrev pub names_label : List ℕ → PlainName → Bool
names_label text label = str_eq_ignore_ascii_case text label.text

-- a list's own labels
abbrev pub own_labels : PlainStmts → List PlainName
own_labels NoStmts = []
own_labels (MoreStmts (Label at name) list) = name ∷ own_labels list
own_labels (MoreStmts stmt list) = own_labels list

-- all labels, in text order
abbrev mutual
  pub labels_of : PlainStmt → List PlainName
  labels_of (Label at name) = name ∷ []
  labels_of (If at arms other) = labels_in_arms arms ++ labels_in_else other
  labels_of (IfOne at test simple) = labels_of simple
  labels_of (For at name first last step list) = labels_in list
  labels_of (While at test list) = labels_in list
  labels_of (Test at value cases other) = labels_in_cases cases ++ labels_in_else other
  labels_of _ = []

  pub labels_in : PlainStmts → List PlainName
  labels_in NoStmts = []
  labels_in (MoreStmts stmt list) = labels_of stmt ++ labels_in list

  pub labels_in_arms : PlainArms → List PlainName
  labels_in_arms NoArms = []
  labels_in_arms (MoreArms test list arms) = labels_in list ++ labels_in_arms arms

  pub labels_in_cases : PlainCases → List PlainName
  labels_in_cases NoCases = []
  labels_in_cases (MoreCases values list cases) = labels_in list ++ labels_in_cases cases

  pub labels_in_else : PlainElse → List PlainName
  labels_in_else NoElse = []
  labels_in_else (Else list) = labels_in list

-- those of its statements, then those of its ERROR part
abbrev pub labels_in_routine : PlainRoutine → List PlainName
labels_in_routine r = labels_in (stmts_of r.list) ++ labels_in_else (else_of r.handler)

-- the number, from 0, of the first label with this name
abbrev pub label_number : List ℕ → List PlainName → ℕ
label_number text [] = 0
label_number text (label ∷ labels) = if names_label text label then 0 else suc (label_number text labels)

-- the first label with this name is the one at this byte
abbrev pub is_first : PlainName → List PlainName → Bool
is_first name [] = false
is_first name (label ∷ labels) = if names_label name.text label then label.at == name.at else is_first name labels

-- some label has this name
abbrev pub is_visible : List ℕ → List PlainName → Bool
is_visible text labels = list_any (names_label text) labels

-- the index, from 0, of the first label with this name
abbrev pub label_index : List ℕ → List PlainName → Option ℕ
label_index text [] = None
label_index text (label ∷ labels) = if names_label text label then Some 0 else option_map suc (label_index text labels)

-- the labels of lists, the innermost list first
abbrev pub labels_around : List (Bor (List PlainName)) → List PlainName
labels_around [] = []
labels_around (level ∷ levels) = level.now ++ labels_around levels
