-- The labels of a routine are at different bytes.
use Rattle.std.proofs.Common.{◌≡◌, inl, inr, ℕ, zero, suc, List, [], ◌∷◌, ◌++◌, map, flat_map, Some, slice_get, refl, ap, sym, subst, ◌∙◌, arith}
use Rattle.std.proofs.lemmas.List.Concat.{flat_map-append}
use Rattle.rapid_lexer.specs.Tokens.{Lexeme}
use Rattle.raw_trees.specs.Plain.{PlainName, PlainStmt, PlainStmts, PlainArms, PlainCases, PlainElse, PlainRoutine, PlainItem, PlainModule, Label, If, IfOne, For, While, Test, NoStmts, MoreStmts, NoArms, MoreArms, NoCases, MoreCases, NoElse, Else, Routine, else_of, stmts_of}
use Rattle.module_parser.specs.Modules.{SpellsWithin}
use Rattle.stmt_types.specs.Labels.{labels_of, labels_in, labels_in_arms, labels_in_cases, labels_in_else, labels_in_routine}
use Rattle.name_laws.specs.Declared.{StandsIn}
use Rattle.name_laws.specs.Jumps.{AreApart, IsApart, LabelsApart}
use Rattle.name_laws.proofs.Jumps.{first_label}
use Rattle.text_order.specs.Stated.{AreAscending, IsBelow, byte_of, stated, stated_in, stated_in_arms, stated_in_cases, stated_in_else, stated_in_item, stated_in_module, stated_in_routine}
use Rattle.text_order.specs.Texts.{AreSpelled}
use Rattle.text_order.proofs.Modules.{module_stands}
use Rattle.text_order.proofs.Stands.{IsNamedHere, Stand, later}
use Rattle.text_order.proofs.Tokens.{stand_ascend, tokens_ascend}

-- labels of statements in several lists
joined : (ss rs : List PlainStmt) (xs ys : List PlainName) → xs ≡ flat_map first_label ss → ys ≡ flat_map first_label rs → xs ++ ys ≡ flat_map first_label (ss ++ rs)
joined ss rs xs ys e f = ap (λ zs. zs ++ ys) e ∙ ap (λ zs. flat_map first_label ss ++ zs) f ∙ sym (flat_map-append first_label ss rs)

mutual
  labels_same : (s : PlainStmt) → labels_of s ≡ flat_map first_label (stated s)
  labels_same (Label at name) = refl
  labels_same (If at arms other) = joined (stated_in_arms arms) (stated_in_else other) (labels_in_arms arms) (labels_in_else other) (arms_same arms) (else_same other)
  labels_same (IfOne at test simple) = labels_same simple
  labels_same (For at name first last step list) = list_same list
  labels_same (While at test list) = list_same list
  labels_same (Test at value cases other) = joined (stated_in_cases cases) (stated_in_else other) (labels_in_cases cases) (labels_in_else other) (cases_same cases) (else_same other)
  labels_same _ = refl

  list_same : (list : PlainStmts) → labels_in list ≡ flat_map first_label (stated_in list)
  list_same NoStmts = refl
  list_same (MoreStmts s list) = joined (stated s) (stated_in list) (labels_of s) (labels_in list) (labels_same s) (list_same list)

  arms_same : (arms : PlainArms) → labels_in_arms arms ≡ flat_map first_label (stated_in_arms arms)
  arms_same NoArms = refl
  arms_same (MoreArms test list arms) = joined (stated_in list) (stated_in_arms arms) (labels_in list) (labels_in_arms arms) (list_same list) (arms_same arms)

  cases_same : (cases : PlainCases) → labels_in_cases cases ≡ flat_map first_label (stated_in_cases cases)
  cases_same NoCases = refl
  cases_same (MoreCases values list cases) = joined (stated_in list) (stated_in_cases cases) (labels_in list) (labels_in_cases cases) (list_same list) (cases_same cases)

  else_same : (other : PlainElse) → labels_in_else other ≡ flat_map first_label (stated_in_else other)
  else_same NoElse = refl
  else_same (Else list) = list_same list

routine_same : (r : PlainRoutine) → labels_in_routine r ≡ flat_map first_label (stated_in_routine r)
routine_same r =
    joined (stated_in (stmts_of r.list)) (stated_in_else (else_of r.handler)) (labels_in (stmts_of r.list)) (labels_in_else (else_of r.handler)) (list_same (stmts_of r.list)) (else_same (else_of r.handler))

-- statements that stand with others stand
first_stand : (ss rs : List PlainStmt) (ts : List Lexeme) → Stand (ss ++ rs) ts → Stand ss ts
first_stand [] rs ts stand = tt
first_stand (s ∷ ss) rs [] stand = stand
first_stand (s ∷ ss) rs (t ∷ ts) (inl here) = inl (here.0, first_stand ss rs ts here.1)
first_stand (s ∷ ss) rs (t ∷ ts) (inr more) = inr (first_stand (s ∷ ss) rs ts more)

last_stand : (ss rs : List PlainStmt) (ts : List Lexeme) → Stand (ss ++ rs) ts → Stand rs ts
last_stand [] rs ts stand = stand
last_stand (s ∷ ss) rs [] stand = absurd stand
last_stand (s ∷ ss) rs (t ∷ ts) (inl here) = later rs t ts (last_stand ss rs ts here.1)
last_stand (s ∷ ss) rs (t ∷ ts) (inr more) = later rs t ts (last_stand (s ∷ ss) rs ts more)

item_stands : (items : List PlainItem) (k : ℕ) (item : PlainItem) (ts : List Lexeme) → slice_get items k ≡ Some item → Stand (flat_map stated_in_item items) ts → Stand (stated_in_item item) ts
item_stands [] k item ts at stand = absurd (cc at)
item_stands (i ∷ items) zero item ts at stand = let e : i ≡ item = cc at in subst (λ x. Stand (stated_in_item x) ts) e (first_stand (stated_in_item i) (flat_map stated_in_item items) ts stand)
item_stands (i ∷ items) (suc k) item ts at stand = item_stands items k item ts at (last_stand (stated_in_item i) (flat_map stated_in_item items) ts stand)

-- labels' names stand where the labels do
AreNamed : List PlainStmt → Type 0
AreNamed [] = Unit {0}
AreNamed (s ∷ ss) = IsNamedHere s × AreNamed ss

stand_named : (ss : List PlainStmt) (ts : List Lexeme) → Stand ss ts → AreNamed ss
unfolding AreNamed
stand_named [] ts stand = tt
stand_named (s ∷ ss) [] stand = absurd stand
stand_named (s ∷ ss) (t ∷ ts) (inl here) = (here.0.named, stand_named ss ts here.1)
stand_named (s ∷ ss) (t ∷ ts) (inr more) = stand_named (s ∷ ss) ts more

-- a byte before statements is not that of any of their labels
apart_from : (n : ℕ) (ss : List PlainStmt) → AreNamed ss → IsBelow n (map byte_of ss) → IsApart n (map (λ (l : PlainName). l.at) (flat_map first_label ss))
unfolding AreNamed
apart_from n [] named below = tt
apart_from n (Label at name ∷ ss) named below = (λ e. omega (arith, e, named.0, below.0), apart_from n ss named.1 below.1)
apart_from n (_ ∷ ss) named below = apart_from n ss named.1 below.1

labels_apart : (ss : List PlainStmt) → AreNamed ss → AreAscending (map byte_of ss) → AreApart (map (λ (l : PlainName). l.at) (flat_map first_label ss))
unfolding AreNamed
labels_apart [] named ascend = tt
labels_apart (Label at name ∷ ss) named ascend = (subst (λ n. IsApart n (map (λ (l : PlainName). l.at) (flat_map first_label ss))) (sym named.0) (apart_from at ss named.1 ascend.0), labels_apart ss named.1 ascend.1)
labels_apart (_ ∷ ss) named ascend = labels_apart ss named.1 ascend.1

-- the statements of a text's module are in order
pub stated_ascend : (levels : ℕ) (m : PlainModule) (source : List ℕ) → SpellsWithin levels m source → AreAscending (map byte_of (stated_in_module m))
stated_ascend levels m source spelled = let (ts, tiles, whole) = spelled in stand_ascend (stated_in_module m) ts (tokens_ascend source ts tiles) (module_stands levels m ts whole)

-- and the labels of each of its routines are at different bytes
routine_apart : (levels : ℕ) (m : PlainModule) (source : List ℕ) → SpellsWithin levels m source → (k : ℕ) (r : PlainRoutine) → slice_get m.items k ≡ Some (Routine r) → LabelsApart r
routine_apart levels m source spelled k r at =
    let (ts, tiles, whole) = spelled in
    let stand = item_stands m.items k (Routine r) ts at (module_stands levels m ts whole) in
    subst (λ ls. AreApart (map (λ (l : PlainName). l.at) ls)) (sym (routine_same r))
    (labels_apart (stated_in_routine r) (stand_named (stated_in_routine r) ts stand) (stand_ascend (stated_in_routine r) ts (tokens_ascend source ts tiles) stand))

-- the same for each routine of modules that texts spell
pub routines_apart : (levels : ℕ) (modules : List PlainModule) → AreSpelled levels modules → (number : ℕ) (r : PlainRoutine) → StandsIn modules number (Routine r) → LabelsApart r
routines_apart levels modules spelled number r stands =
    let (source, is_spelled) = spelled number stands.unit stands.is_module in routine_apart levels stands.unit source is_spelled stands.index r stands.is_item
