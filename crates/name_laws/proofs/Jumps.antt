-- The GOTOs of statements go to labels of their own list or of an enclosing list.
use Rattle.std.proofs.Common.{◌≡◌, ℕ, zero, suc, ◌+◌, ◌==◌, Bool, true, false, not, ◌||◌, List, [], ◌∷◌, ◌++◌, map, Option, Some, None, Ok, slice_get, refl, sym, ap, subst, ◌∙◌, if◌then◌else◌, bytes_eq, arith}
use Rattle.std.specs.List.{Contains, list_any}
use Rattle.std.specs.Option.{option_map}
use Rattle.std.specs.Str.{str_to_ascii_lowercase}
use Rattle.std.proofs.lemmas.Bool.Decides.{Decides-eqb}
use Rattle.std.proofs.lemmas.List.{map-append}
use Rattle.std.proofs.lemmas.List.Elements.{Contains-append_right}
use Rattle.std.proofs.lemmas.Option.{slice_get-map}
use Rattle.std.proofs.lemmas.Slice.Eq.{bytes_eq-Decides}
use Rattle.raw_trees.specs.Plain as Raw
use Rattle.raw_trees.specs.Plain.{PlainName, PlainExpr, PlainPlace, PlainArgs, PlainStmt, PlainStmts, PlainArms, PlainCases, PlainElse, Assign, Call, Label, Goto, Return, Exit, Raise, Retry, TryNext, Connect, If, IfOne, For, While, Test, NoStmts, MoreStmts, NoArms, MoreArms, NoCases, MoreCases, NoElse, Else, stmts_of, else_of}
use Rattle.rapid_model.specs.declared.operator.Operator.TheVariants as operators
use Rattle.rapid_model.specs.declared.routine_kind.RoutineKind.{RoutineKind}
use Rattle.rapid_model.specs.declared.routine_kind.RoutineKind.TheVariants as kinds
use Rattle.rapid_model.specs.declared.sort.Sort.{Sort}
use Rattle.rapid_model.specs.declared.sort.Sort.TheVariants as sorts
use Rattle.typed_trees.specs.Plain
use Rattle.typed_trees.specs.Plain.{TypedStmt, TypedStmts, TypedArms, TypedCases, TypedElse}
use Rattle.rule_checks.specs.Checks.{◌>>=◌, must}
use Rattle.rule_checks.specs.TypeChecks.{Checked}
use Rattle.rule_checks.specs.declared.rule.TypeRule.TheVariants.{NoLabel, LabelTwice, HandlerOnly, ReturnKind}
use Rattle.rule_checks.proofs.Steps.{behind, ok_same, it_holds}
use Rattle.rule_checks.proofs.Keeps.{Keeps, Keeps-any, kept}
use Rattle.typed_trees.specs.Labels.{numbers_of, numbers_in, numbers_in_arms, numbers_in_cases, numbers_in_else, error_part}
use Rattle.data_scopes.specs.declared.meant.Meant.{Meant}
use Rattle.data_scopes.specs.declared.meant.Meant.TheVariants as meants
use Rattle.data_scopes.specs.Called.{kind_of, params_of, result_of}
use Rattle.named_data.specs.declared.wanted.Wanted.TheVariants.{Any, Is, Fits}
use Rattle.named_data.specs.Data.{named}
use Rattle.named_data.specs.Rules.{Site, at_byte, fail}
use Rattle.expr_types.specs.Calls.{routine_signature, instruction_signature}
use Rattle.expr_types.specs.Places.{lent_place}
use Rattle.expr_types.specs.Typing.{typed, call_arguments, sort_of}
use Rattle.stmt_types.specs.Bodies.{Body, Around, Typed, outside, site, into, into_loop, target, place_sort, name_of, no_signal, is_function, trap_meant, assigned, called, call_meant, procedure, labelled, jumped, returned, returned_value, raised, in_handler, connected, bounds, case_values, then_next, stmt, stmts, branches, choices, otherwise}
use Rattle.stmt_types.specs.Labels.{own_labels, names_label, labels_of, labels_in, labels_in_arms, labels_in_cases, labels_in_else, label_number, is_first, is_visible}
use Rattle.task_types.specs.Task.{handler_of}
use Rattle.name_laws.specs.Jumps.{own_label, own, Lands, Land, LandInArms, LandInCases, LandInElse, IsApart, AreApart, AreInOrder}

-- a form without labels, jumps and lists
record IsSimple (t : TypedStmt) : Type 0 where
  pub no_label : own_label t ≡ []
  pub lands : (around : List ℕ) → Lands around t
  pub none : numbers_of t ≡ []

assigned_simple : (s : Site) (at : ℕ) (written : PlainPlace) (value : PlainExpr) → Keeps IsSimple (assigned s at written value)
assigned_simple s at written value =
    Keeps-any IsSimple (target s written) (λ p. typed s value (Is (place_sort p)) >>= (λ t. Ok (Plain.Assign at p t)))
    (λ p. Keeps-any IsSimple (typed s value (Is (place_sort p))) (λ t. Ok (Plain.Assign at p t)) (λ t. record { no_label = refl; lands = λ around. tt; none = refl }))

procedure_simple : (s : Site) (at : ℕ) (name : PlainName) (routine : ℕ) (args : PlainArgs) (kind : Option RoutineKind) → Keeps IsSimple (procedure s at name routine args kind)
procedure_simple s at name routine args (Some kinds.Proc) =
    Keeps-any IsSimple (call_arguments s at args (routine_signature (params_of s.names.rows routine))) (λ ts. Ok (Plain.Call at routine ts)) (λ ts. record { no_label = refl; lands = λ around. tt; none = refl })
procedure_simple s at name routine args (Some kinds.Func) = tt
procedure_simple s at name routine args (Some kinds.Trap) = tt
procedure_simple s at name routine args None = tt

called_simple : (s : Site) (at : ℕ) (name : PlainName) (args : PlainArgs) (meant : Option Meant) → Keeps IsSimple (call_meant s at name args meant)
called_simple s at name args None = tt
called_simple s at name args (Some (meants.Instruction instruction)) =
    Keeps-any IsSimple (call_arguments s at args (instruction_signature instruction args)) (λ ts. Ok (Plain.Instruct at instruction ts)) (λ ts. record { no_label = refl; lands = λ around. tt; none = refl })
called_simple s at name args (Some (meants.Routine routine)) = procedure_simple s at name routine args (kind_of s.names.rows routine)
called_simple s at name args (Some _) = tt

value_simple : (s : Site) (at : ℕ) (value : PlainExpr) (kind : RoutineKind) (sort : Option Sort) → Keeps IsSimple (returned_value s at value kind sort)
value_simple s at value kinds.Func (Some sort) = Keeps-any IsSimple (typed s value (Is sort)) (λ t. Ok (Plain.Return at (Some t))) (λ t. record { no_label = refl; lands = λ around. tt; none = refl })
value_simple s at value kinds.Func None = Keeps-any IsSimple (typed s value Any) (λ t. fail s at ReturnKind) (λ t. tt)
value_simple s at value kinds.Proc sort = Keeps-any IsSimple (typed s value Any) (λ t. fail s at ReturnKind) (λ t. tt)
value_simple s at value kinds.Trap sort = Keeps-any IsSimple (typed s value Any) (λ t. fail s at ReturnKind) (λ t. tt)

returned_simple : (body : Body) (s : Site) (at : ℕ) (value : Option PlainExpr) → Keeps IsSimple (returned body s at value)
returned_simple body s at None =
    Keeps-any IsSimple (must (not (is_function body.kind)) (at_byte s at ReturnKind)) (λ u. Ok (Plain.Return at None)) (λ u. record { no_label = refl; lands = λ around. tt; none = refl })
returned_simple body s at (Some value) = value_simple s at value body.kind (result_of s.names.rows body.routine)

raised_simple : (around : Around) (s : Site) (at : ℕ) (number : Option PlainExpr) → Keeps IsSimple (raised around s at number)
raised_simple around s at None = Keeps-any IsSimple (must around.handler (at_byte s at HandlerOnly)) (λ u. Ok (Plain.Raise at None)) (λ u. record { no_label = refl; lands = λ around. tt; none = refl })
raised_simple around s at (Some number) = Keeps-any IsSimple (typed s number (Is sorts.Num)) (λ t. Ok (Plain.Raise at (Some t))) (λ t. record { no_label = refl; lands = λ around. tt; none = refl })

handler_simple : (around : Around) (s : Site) (at : ℕ) (tree : TypedStmt) → IsSimple tree → Keeps IsSimple (in_handler around s at tree)
handler_simple around s at tree h = Keeps-any IsSimple (must around.handler (at_byte s at HandlerOnly)) (λ u. Ok tree) (λ u. h)

connected_simple : (s : Site) (at : ℕ) (written : PlainPlace) (trap : PlainName) → Keeps IsSimple (connected s at written trap)
connected_simple s at written trap =
    Keeps-any IsSimple (no_signal s (name_of written)) (λ u. lent_place s (name_of written).at sorts.IntNum written >>= (λ p. trap_meant s trap.at (named s trap) >>= (λ r. Ok (Plain.Connect at p r))))
    (λ u. Keeps-any IsSimple (lent_place s (name_of written).at sorts.IntNum written) (λ p. trap_meant s trap.at (named s trap) >>= (λ r. Ok (Plain.Connect at p r)))
    (λ p. Keeps-any IsSimple (trap_meant s trap.at (named s trap)) (λ r. Ok (Plain.Connect at p r)) (λ r. record { no_label = refl; lands = λ around. tt; none = refl })))

-- a name's number is that of each spelling of it
same_number : (text other : List ℕ) (labels : List PlainName) → str_to_ascii_lowercase text ≡ str_to_ascii_lowercase other → label_number text labels ≡ label_number other labels
same_number text other [] same = refl
same_number text other (l ∷ ls) same =
    ap (λ k. if bytes_eq k (str_to_ascii_lowercase l.text) then 0 else suc (label_number text ls)) same
    ∙ ap (λ n. if bytes_eq (str_to_ascii_lowercase other) (str_to_ascii_lowercase l.text) then 0 else suc n) (same_number text other ls same)

module _ (labels : List PlainName) where
  abbrev pub number : PlainName → ℕ
  number label = label_number label.text labels

  abbrev pub numbered : List PlainName → List ℕ
  numbered names = map number names

  abbrev pub AreFirst : List PlainName → Type 0
  AreFirst [] = Unit {0}
  AreFirst (l ∷ ls) = (is_first l labels ≡ true) × AreFirst ls

  pub first_append : (a b : List PlainName) → AreFirst a → AreFirst b → AreFirst (a ++ b)
  first_append [] b ha hb = hb
  first_append (l ∷ a) b ha hb = (ha.0, first_append a b ha.1 hb)

  pub appended : (a b : List PlainName) (x y : List ℕ) → x ≡ numbered a → y ≡ numbered b → x ++ y ≡ numbered (a ++ b)
  appended a b x y hx hy = ap (λ l. l ++ y) hx ∙ ap (λ l. numbered a ++ l) hy ∙ sym (map-append number a b)

  seen_by : (text : List ℕ) (l : PlainName) (ls : List PlainName) (b : Bool) → names_label text l ≡ b → (b || list_any (names_label text) ls) ≡ true →
      (list_any (names_label text) ls ≡ true → Contains (numbered ls) (label_number text labels)) → Contains (numbered (l ∷ ls)) (label_number text labels)
  seen_by text l ls true is h rest =
      let same : label_number text labels ≡ number l = same_number text l.text labels ((bytes_eq-Decides (str_to_ascii_lowercase text) (str_to_ascii_lowercase l.text)).0 is) in
      (0, omega arith, sym same)
  seen_by text l ls false is h rest = Contains-append_right (number l ∷ []) (numbered ls) (label_number text labels) (rest h)

  seen : (text : List ℕ) (ls : List PlainName) → is_visible text ls ≡ true → Contains (numbered ls) (label_number text labels)
  seen text [] h = absurd (cc)
  seen text (l ∷ ls) h = seen_by text l ls (names_label text l) refl h (seen text ls)

abbrev at_in : List PlainName → ℕ → Option ℕ
at_in labels n = option_map (λ label. label.at) (slice_get labels n)

first_by : (l label : PlainName) (labels : List PlainName) (b : Bool) → (if b then label.at == l.at else is_first l labels) ≡ true → (is_first l labels ≡ true → at_in labels (label_number l.text labels) ≡ Some l.at) →
    at_in (label ∷ labels) (if b then 0 else suc (label_number l.text labels)) ≡ Some l.at
first_by l label labels true h rest = ap Some ((Decides-eqb label.at l.at).0 h)
first_by l label labels false h rest = rest h

-- the label with a first one's number is at its byte
first_at : (l : PlainName) (labels : List PlainName) → is_first l labels ≡ true → at_in labels (label_number l.text labels) ≡ Some l.at
first_at l [] h = absurd (cc)
first_at l (label ∷ labels) h = first_by l label labels (names_label l.text label) h (first_at l labels)

module _ (labels : List PlainName) where
  same_byte : (a b : PlainName) → is_first a labels ≡ true → is_first b labels ≡ true → number labels a ≡ number labels b → a.at ≡ b.at
  same_byte a b fa fb same =
      let e : Some a.at ≡ Some b.at = sym (first_at a labels fa) ∙ ap (at_in labels) same ∙ first_at b labels fb in cc

  one_apart : (l : PlainName) (ls : List PlainName) → is_first l labels ≡ true → AreFirst labels ls → IsApart l.at (map (λ x. x.at) ls) → IsApart (number labels l) (numbered labels ls)
  one_apart l [] f fs h = tt
  one_apart l (m ∷ ls) f fs h = (λ same. h.0 (same_byte l m f fs.0 same), one_apart l ls f fs.1 h.1)

  pub all_apart : (ls : List PlainName) → AreFirst labels ls → AreApart (map (λ x. x.at) ls) → AreApart (numbered labels ls)
  all_apart [] fs h = tt
  all_apart (l ∷ ls) fs h = (one_apart l ls fs.0 fs.1 h.0, all_apart ls fs.1 h.1)

-- what is at only one place
not_behind : (n : ℕ) (ns : List ℕ) (k : ℕ) → IsApart n ns → slice_get ns k ≡ Some n → ⊥
not_behind n [] k apart at = absurd (cc at)
not_behind n (m ∷ ns) zero apart at = let e : m ≡ n = cc at in apart.0 (sym e)
not_behind n (m ∷ ns) (suc k) apart at = not_behind n ns k apart.1 at

one_place : (ns : List ℕ) (i j n : ℕ) → AreApart ns → slice_get ns i ≡ Some n → slice_get ns j ≡ Some n → i ≡ j
one_place [] i j n apart at also = absurd (cc at)
one_place (m ∷ ns) zero zero n apart at also = refl
one_place (m ∷ ns) zero (suc j) n apart at also = let e : m ≡ n = cc at in absurd (not_behind m ns j apart.0 (also ∙ ap Some (sym e)))
one_place (m ∷ ns) (suc i) zero n apart at also = let e : m ≡ n = cc also in absurd (not_behind m ns i apart.0 (at ∙ ap Some (sym e)))
one_place (m ∷ ns) (suc i) (suc j) n apart at also = ap suc (one_place ns i j n apart.1 at also)

first_there : (labels ls : List PlainName) (k : ℕ) (l : PlainName) → AreFirst labels ls → slice_get ls k ≡ Some l → is_first l labels ≡ true
first_there labels [] k l fs at = absurd (cc at)
first_there labels (m ∷ ls) zero l fs at = let e : m ≡ l = cc at in subst (λ x. is_first x labels ≡ true) e fs.0
first_there labels (m ∷ ls) (suc k) l fs at = first_there labels ls k l fs.1 at

-- first labels at different bytes are numbered in order
pub in_order : (labels : List PlainName) → AreFirst labels labels → AreApart (map (λ x. x.at) labels) → AreInOrder (numbered labels labels)
in_order labels fs apart index n at = there (slice_get labels index) refl (sym (slice_get-map (number labels) labels index) ∙ at)
  where
    there : (o : Option PlainName) → slice_get labels index ≡ o → option_map (number labels) o ≡ Some n → n ≡ index
    there None is e = absurd (cc e)
    there (Some l) is e =
        let same : number labels l ≡ n = cc e in
        let here : slice_get (map (λ (x : PlainName). x.at) labels) index ≡ Some l.at = slice_get-map (λ (x : PlainName). x.at) labels index ∙ ap (option_map (λ (x : PlainName). x.at)) is in
        let also : slice_get (map (λ (x : PlainName). x.at) labels) n ≡ Some l.at =
        slice_get-map (λ (x : PlainName). x.at) labels n ∙ ap (at_in labels) (sym same) ∙ first_at l labels (first_there labels labels index l fs is) in
        one_place (map (λ (x : PlainName). x.at) labels) n index l.at apart also here

-- the label that a statement is
abbrev pub first_label : PlainStmt → List PlainName
first_label (Label at name) = name ∷ []
first_label _ = []

own_split : (stmt : PlainStmt) (list : PlainStmts) → own_labels (MoreStmts stmt list) ≡ first_label stmt ++ own_labels list
own_split (Label at name) list = refl
own_split _ list = refl

module _ (body : Body) where
  record StmtDone (around : List PlainName) (s : PlainStmt) (t : TypedStmt) : Type 0 where
    pub own_is : own_label t ≡ numbered body.labels (first_label s)
    pub lands : Lands (numbered body.labels around) t
    pub all : numbers_of t ≡ numbered body.labels (labels_of s)
    pub first : AreFirst body.labels (labels_of s)

  pub record ListDone (around : List PlainName) (list : PlainStmts) (t : TypedStmts) : Type 0 where
    pub own_is : own t ≡ numbered body.labels (own_labels list)
    pub lands : Land (numbered body.labels around) t
    pub all : numbers_in t ≡ numbered body.labels (labels_in list)
    pub first : AreFirst body.labels (labels_in list)

  record ArmsDone (around : List PlainName) (arms : PlainArms) (t : TypedArms) : Type 0 where
    pub lands : LandInArms (numbered body.labels around) t
    pub all : numbers_in_arms t ≡ numbered body.labels (labels_in_arms arms)
    pub first : AreFirst body.labels (labels_in_arms arms)

  record CasesDone (around : List PlainName) (cases : PlainCases) (t : TypedCases) : Type 0 where
    pub lands : LandInCases (numbered body.labels around) t
    pub all : numbers_in_cases t ≡ numbered body.labels (labels_in_cases cases)
    pub first : AreFirst body.labels (labels_in_cases cases)

  pub record ElseDone (around : List PlainName) (other : PlainElse) (t : TypedElse) : Type 0 where
    pub lands : LandInElse (numbered body.labels around) t
    pub all : numbers_in_else t ≡ numbered body.labels (labels_in_else other)
    pub first : AreFirst body.labels (labels_in_else other)

  -- in a list of its own, the labels are around it too
  pub within : (around : List PlainName) (list : PlainStmts) (t : TypedStmts) → ListDone (own_labels list ++ around) list t → Land (own t ++ numbered body.labels around) t
  within around list t d =
      subst (λ ns. Land ns t)
      (map-append (number body.labels) (own_labels list) around ∙ ap (λ xs. xs ++ numbered body.labels around) (sym d.own_is)) d.lands

  simple : (around : List PlainName) (s : PlainStmt) (next : ℕ) (checked : Checked TypedStmt) (r : Typed TypedStmt) → first_label s ≡ [] → labels_of s ≡ [] → Keeps IsSimple checked → then_next next checked ≡ Ok r → StmtDone around s r.tree
  simple around s next checked r no_first none keeps e =
      behind (StmtDone around s r.tree) r checked _ e (λ t is done.
      let h = kept IsSimple checked t keeps is in
      subst (StmtDone around s) (ap (λ x. x.tree) (ok_same _ r done)) (record {
        own_is = h.no_label ∙ ap (numbered body.labels) (sym no_first);
        lands = h.lands (numbered body.labels around);
        all = h.none ∙ ap (numbered body.labels) (sym none);
        first = subst (AreFirst body.labels) (sym none) tt;
      }))

  mutual
    unfolding stmt stmts branches choices otherwise

    stmt_done : (s : PlainStmt) (around : Around) (next : ℕ) (r : Typed TypedStmt) → stmt body s around next ≡ Ok r → StmtDone around.labels s r.tree
    stmt_done (Assign at written value) around next r e =
        simple around.labels (Assign at written value) next (assigned (site body around at) at written value) r refl refl
        (assigned_simple (site body around at) at written value) e
    stmt_done (Call at name args) around next r e =
        simple around.labels (Call at name args) next (called (site body around at) at name args) r refl refl
        (called_simple (site body around at) at name args (named (site body around at) name)) e
    stmt_done (Label at name) around next r e =
        let P : Type 0 = StmtDone around.labels (Label at name) r.tree in
        let rule = must (is_first name body.labels) (at_byte (site body around at) at LabelTwice) in
        behind P r (labelled body (site body around at) at name) _ e (λ t is done.
        behind P t rule _ is (λ u holds made.
        subst (StmtDone around.labels (Label at name)) (ok_same _ t made ∙ ap (λ x. x.tree) (ok_same _ r done))
        (record { own_is = refl; lands = tt; all = refl; first = (it_holds (is_first name body.labels) _ u holds, tt) })))
    stmt_done (Goto at name) around next r e =
        let P : Type 0 = StmtDone around.labels (Goto at name) r.tree in
        let rule = must (is_visible name.text around.labels) (at_byte (site body around at) at NoLabel) in
        behind P r (jumped body around (site body around at) at name) _ e (λ t is done.
        behind P t rule _ is (λ u holds made.
        subst (StmtDone around.labels (Goto at name)) (ok_same _ t made ∙ ap (λ x. x.tree) (ok_same _ r done))
        (record { own_is = refl; lands = seen body.labels name.text around.labels (it_holds (is_visible name.text around.labels) _ u holds); all = refl; first = tt })))
    stmt_done (Return at value) around next r e =
        simple around.labels (Return at value) next (returned body (site body around at) at value) r refl refl (returned_simple body (site body around at) at value) e
    stmt_done (Exit at) around next r e =
        simple around.labels (Exit at) next (Ok (Plain.Exit at)) r refl refl (record { no_label = refl; lands = λ around. tt; none = refl }) e
    stmt_done (Raise at number) around next r e =
        simple around.labels (Raise at number) next (raised around (site body around at) at number) r refl refl (raised_simple around (site body around at) at number) e
    stmt_done (Retry at) around next r e =
        simple around.labels (Retry at) next (in_handler around (site body around at) at (Plain.Retry at)) r refl refl
        (handler_simple around (site body around at) at (Plain.Retry at) (record { no_label = refl; lands = λ around. tt; none = refl })) e
    stmt_done (TryNext at) around next r e =
        simple around.labels (TryNext at) next (in_handler around (site body around at) at (Plain.TryNext at)) r refl refl
        (handler_simple around (site body around at) at (Plain.TryNext at) (record { no_label = refl; lands = λ around. tt; none = refl })) e
    stmt_done (Connect at written trap) around next r e =
        simple around.labels (Connect at written trap) next (connected (site body around at) at written trap) r refl refl
        (connected_simple (site body around at) at written trap) e
    stmt_done (If at arms other) around next r e =
        let P : Type 0 = StmtDone around.labels (If at arms other) r.tree in
        behind P r (branches body arms (site body around at) around next) _ e (λ a is rest.
        behind P r (otherwise body other around a.next) _ rest (λ o was done.
        let here = arms_done arms (site body around at) around next a is in
        let after = else_done other around a.next o was in
        subst (StmtDone around.labels (If at arms other)) (ap (λ x. x.tree) (ok_same _ r done)) (record {
          own_is = refl;
          lands = (here.lands, after.lands);
          all = appended body.labels (labels_in_arms arms) (labels_in_else other) _ _ here.all after.all;
          first = first_append body.labels (labels_in_arms arms) (labels_in_else other) here.first after.first;
        })))
    stmt_done (IfOne at test simple_one) around next r e =
        let P : Type 0 = StmtDone around.labels (IfOne at test simple_one) r.tree in
        behind P r (typed (site body around at) test (Is sorts.Bool)) _ e (λ t is rest.
        behind P r (stmt body simple_one around next) _ rest (λ s was done.
        let here = stmt_done simple_one around next s was in
        subst (StmtDone around.labels (IfOne at test simple_one)) (ap (λ x. x.tree) (ok_same _ r done)) (record { own_is = refl; lands = here.lands; all = here.all; first = here.first })))
    stmt_done (For at name first last step list) around next r e =
        let P : Type 0 = StmtDone around.labels (For at name first last step list) r.tree in
        behind P r (bounds (site body around at) first last step) _ e (λ b is rest.
        behind P r (stmts body list (into_loop around next list) (next + 1)) _ rest (λ l was done.
        let here = list_done list (into_loop around next list) (next + 1) l was in
        subst (StmtDone around.labels (For at name first last step list)) (ap (λ x. x.tree) (ok_same _ r done))
        (record { own_is = refl; lands = within around.labels list l.tree here; all = here.all; first = here.first })))
    stmt_done (While at test list) around next r e =
        let P : Type 0 = StmtDone around.labels (While at test list) r.tree in
        behind P r (typed (site body around at) test (Is sorts.Bool)) _ e (λ t is rest.
        behind P r (stmts body list (into around list) next) _ rest (λ l was done.
        let here = list_done list (into around list) next l was in
        subst (StmtDone around.labels (While at test list)) (ap (λ x. x.tree) (ok_same _ r done))
        (record { own_is = refl; lands = within around.labels list l.tree here; all = here.all; first = here.first })))
    stmt_done (Test at value cases other) around next r e =
        let P : Type 0 = StmtDone around.labels (Test at value cases other) r.tree in
        behind P r (typed (site body around at) value (Fits operators.Equal)) _ e (λ t is rest.
        behind P r (choices body cases (site body around at) (sort_of t) around next) _ rest (λ c was more.
        behind P r (otherwise body other around c.next) _ more (λ o were done.
        let here = cases_done cases (site body around at) (sort_of t) around next c was in
        let after = else_done other around c.next o were in
        subst (StmtDone around.labels (Test at value cases other)) (ap (λ x. x.tree) (ok_same _ r done)) (record {
          own_is = refl;
          lands = (here.lands, after.lands);
          all = appended body.labels (labels_in_cases cases) (labels_in_else other) _ _ here.all after.all;
          first = first_append body.labels (labels_in_cases cases) (labels_in_else other) here.first after.first;
        }))))

    pub list_done : (list : PlainStmts) (around : Around) (next : ℕ) (r : Typed TypedStmts) → stmts body list around next ≡ Ok r → ListDone around.labels list r.tree
    list_done NoStmts around next r e =
        subst (ListDone around.labels NoStmts) (ap (λ x. x.tree) (ok_same _ r e)) (record { own_is = refl; lands = tt; all = refl; first = tt })
    list_done (MoreStmts one list) around next r e =
        let P : Type 0 = ListDone around.labels (MoreStmts one list) r.tree in
        behind P r (stmt body one around next) _ e (λ s is rest.
        behind P r (stmts body list around s.next) _ rest (λ l was done.
        let here = stmt_done one around next s is in
        let after = list_done list around s.next l was in
        subst (ListDone around.labels (MoreStmts one list)) (ap (λ x. x.tree) (ok_same _ r done)) (record {
          own_is = appended body.labels (first_label one) (own_labels list) _ _ here.own_is after.own_is ∙ ap (numbered body.labels) (sym (own_split one list));
          lands = (here.lands, after.lands);
          all = appended body.labels (labels_of one) (labels_in list) _ _ here.all after.all;
          first = first_append body.labels (labels_of one) (labels_in list) here.first after.first;
        })))

    arms_done : (arms : PlainArms) (s : Site) (around : Around) (next : ℕ) (r : Typed TypedArms) → branches body arms s around next ≡ Ok r → ArmsDone around.labels arms r.tree
    arms_done NoArms s around next r e =
        subst (ArmsDone around.labels NoArms) (ap (λ x. x.tree) (ok_same _ r e)) (record { lands = tt; all = refl; first = tt })
    arms_done (MoreArms test list arms) s around next r e =
        let P : Type 0 = ArmsDone around.labels (MoreArms test list arms) r.tree in
        behind P r (typed s test (Is sorts.Bool)) _ e (λ t is rest.
        behind P r (stmts body list (into around list) next) _ rest (λ l was more.
        behind P r (branches body arms s around l.next) _ more (λ a were done.
        let here = list_done list (into around list) next l was in
        let after = arms_done arms s around l.next a were in
        subst (ArmsDone around.labels (MoreArms test list arms)) (ap (λ x. x.tree) (ok_same _ r done)) (record {
          lands = (within around.labels list l.tree here, after.lands);
          all = appended body.labels (labels_in list) (labels_in_arms arms) _ _ here.all after.all;
          first = first_append body.labels (labels_in list) (labels_in_arms arms) here.first after.first;
        }))))

    cases_done : (cases : PlainCases) (s : Site) (sort : Sort) (around : Around) (next : ℕ) (r : Typed TypedCases) → choices body cases s sort around next ≡ Ok r → CasesDone around.labels cases r.tree
    cases_done NoCases s sort around next r e =
        subst (CasesDone around.labels NoCases) (ap (λ x. x.tree) (ok_same _ r e)) (record { lands = tt; all = refl; first = tt })
    cases_done (MoreCases values list cases) s sort around next r e =
        let P : Type 0 = CasesDone around.labels (MoreCases values list cases) r.tree in
        behind P r (case_values s sort values) _ e (λ vs is rest.
        behind P r (stmts body list (into around list) next) _ rest (λ l was more.
        behind P r (choices body cases s sort around l.next) _ more (λ c were done.
        let here = list_done list (into around list) next l was in
        let after = cases_done cases s sort around l.next c were in
        subst (CasesDone around.labels (MoreCases values list cases)) (ap (λ x. x.tree) (ok_same _ r done)) (record {
          lands = (within around.labels list l.tree here, after.lands);
          all = appended body.labels (labels_in list) (labels_in_cases cases) _ _ here.all after.all;
          first = first_append body.labels (labels_in list) (labels_in_cases cases) here.first after.first;
        }))))

    else_done : (other : PlainElse) (around : Around) (next : ℕ) (r : Typed TypedElse) → otherwise body other around next ≡ Ok r → ElseDone around.labels other r.tree
    else_done NoElse around next r e =
        subst (ElseDone around.labels NoElse) (ap (λ x. x.tree) (ok_same _ r e)) (record { lands = tt; all = refl; first = tt })
    else_done (Else list) around next r e =
        behind (ElseDone around.labels (Else list) r.tree) r (stmts body list (into around list) next) _ e (λ l was done.
        let here = list_done list (into around list) next l was in
        subst (ElseDone around.labels (Else list)) (ap (λ x. x.tree) (ok_same _ r done))
        (record { lands = within around.labels list l.tree here; all = here.all; first = here.first }))

  -- the same in an ERROR part
  pub handler_done : (handler : Option (List Raw.PlainStmt)) (next : ℕ) (r : Typed (Option TypedStmts)) → handler_of body handler next ≡ Ok r → ElseDone [] (else_of handler) (error_part r.tree)
  handler_done None next r e =
      subst (λ t. ElseDone [] NoElse (error_part t)) (ap (λ x. x.tree) (ok_same _ r e)) (record { lands = tt; all = refl; first = tt })
  handler_done (Some list) next r e =
      let around = into (outside true) (stmts_of list) in
      behind (ElseDone [] (Else (stmts_of list)) (error_part r.tree)) r (stmts body (stmts_of list) around next) _ e (λ l was done.
      let here = list_done (stmts_of list) around next l was in
      subst (λ t. ElseDone [] (Else (stmts_of list)) (error_part t)) (ap (λ x. x.tree) (ok_same _ r done))
      (record { lands = within [] (stmts_of list) l.tree here; all = here.all; first = here.first }))
