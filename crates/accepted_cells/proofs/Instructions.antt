-- An instruction that is called correctly has what it needs.
use Rattle.std.proofs.Common.{◌≡◌, ◌≢◌, inl, inr, ℕ, ◌+◌, ◌-◌, ◌≤◌, Bool, true, false, not, ◌||◌, ◌==◌, List, [], ◌∷◌, ◌++◌, length, map, drop, Option, Some, None, refl, sym, ap, subst, ◌∙◌, if◌then◌else◌, nat_le, nat_lt, length-append, length-drop, arith}
use Rattle.std.specs.Str.{str_eq_ignore_ascii_case}
use Rattle.std.proofs.lemmas.Bool.{and_parts, eqb-true, eqb-false, not-true, not-false}
use Rattle.std.specs.Prelude.{codes}
use Rattle.raw_trees.specs.Plain.{PlainArgs, Needed, Optional, NoArgs, MoreArgs}
use Rattle.rapid_model.specs.declared.instruction.Instruction.{Instruction}
use Rattle.rapid_model.specs.declared.sort.Sort.TheVariants as sorts
use Rattle.rapid_builtins.specs.Calls.{OptionRow, choice, instruction_needs, needs_arm, option_named}
use Rattle.rapid_builtins.specs.declared.need.Need.{Need}
use Rattle.rapid_builtins.specs.declared.need.Need.TheVariants as needs
use Rattle.rapid_builtins.specs.declared.option_choice.Choice.{Choice}
use Rattle.rapid_builtins.specs.declared.option_choice.Choice.TheVariants as choices
use Rattle.typed_trees.specs.Plain as trees
use Rattle.typed_trees.specs.Plain.{TypedArg, TypedArgs, TypedArgument}
use Rattle.named_data.specs.Rules.{Site}
use Rattle.expr_types.specs.Calls.{Signature, Taking, after, all_in, are_chosen, instruction_signature, is_excluded, needed_in, taking, need_in, with_option, zone_need}
use Rattle.type_laws.specs.Statements.{AreCallArguments}
use Rattle.rapid_meaning.specs.Instructions.{needed, options}
use Rattle.tree_typing.specs.Expressions.{IsArg}
use Rattle.tree_typing.specs.Instructions.{AreChosen, AreNeeded, AreOptions, IsInstruction, IsOption}
use Rattle.tree_typing.specs.Kinds.{Kind}
use Rattle.tree_typing.specs.Setting.{Setting}
use Rattle.accepted_cells.proofs.Expressions.{arguments_taken}
use Rattle.accepted_cells.proofs.Named.{Suits}
use Rattle.accepted_cells.proofs.Taken.{AreTaken, IsOptionTaken, IsTakenBy}

-- an option changes only the options before
record IsLike (t u : Taking) : Type 0 where
  pub needs : u.needs ≡ t.needs
  pub options : u.options ≡ t.options
  pub choice : u.choice ≡ t.choice

like_before : (t : Taking) (row : Option OptionRow) → IsLike t (with_option t row)
like_before t None = record { needs = refl; options = refl; choice = refl }
like_before t (Some row) = record { needs = refl; options = refl; choice = refl }

-- a choice that is not free
abbrev IsBound : Choice → Type 0
IsBound choices.Any = ⊥
IsBound choices.OneAtMost = Unit {0}
IsBound choices.JustOne = Unit {0}
IsBound choices.InsideAndOne = ⊥

first_option : (kind : Choice) (name : List ℕ) (before : List (List ℕ)) → IsBound kind → is_excluded kind name before ≡ false → length before ≡ 0
first_option choices.Any name before bound free = absurd bound
first_option choices.OneAtMost name before bound free = eqb-true (length before) 0 (not-false (length before == 0) free)
first_option choices.JustOne name before bound free = eqb-true (length before) 0 (not-false (length before == 0) free)
first_option choices.InsideAndOne name before bound free = absurd bound

module _ (c : Setting) (kinds : List Kind) where
  -- an argument that is not an option
  record IsPlain (x : TypedArg) (xs : TypedArgs) : Type 0 where
    pub needed_are : needed (trees.MoreArgs x xs) ≡ x ∷ needed xs
    pub options_are : options (trees.MoreArgs x xs) ≡ options xs

  plain_arg : (need : Need) (x : TypedArg) (xs : TypedArgs) → IsArg c kinds x need → IsPlain x xs
  plain_arg need (trees.Given e) xs h = record { needed_are = refl; options_are = refl }
  plain_arg need (trees.Lent p) xs h = record { needed_are = refl; options_are = refl }
  plain_arg need (trees.OfSignal signal) xs h = record { needed_are = refl; options_are = refl }
  plain_arg need (trees.OfMeeting meeting) xs h = record { needed_are = refl; options_are = refl }
  plain_arg need (trees.Itself name) xs h = record { needed_are = refl; options_are = refl }
  plain_arg need (trees.Optional name value) xs h = absurd h

  needed_plain : (ns : List Need) (x : TypedArg) (xs : TypedArgs) → IsTakenBy c kinds ns x → IsPlain x xs
  needed_plain [] x xs (e, is) = subst (λ (a : TypedArg). IsPlain a xs) (sym is) (record { needed_are = refl; options_are = refl })
  needed_plain (need ∷ more) x xs h = plain_arg need x xs h

  -- an option of these rows
  record IsOneOf (rows : List OptionRow) (x : TypedArg) : Type 0 where
    pub name : List ℕ
    pub value : TypedArgument
    pub is : x ≡ trees.Optional name value
    pub option : IsOption c kinds name value rows

  option_by : (t : Taking) (row : OptionRow) (rows : List OptionRow) (x : TypedArg) (is_it : Bool) (others : Option OptionRow) → IsOptionTaken c kinds t (if is_it then Some row else others) x
      → (IsOptionTaken c kinds t others x → IsOneOf rows x) → IsOneOf (row ∷ rows) x
  option_by t row rows x true others (value, arg, free, is) later = record { name = row.name; value = value; is = is; option = inl (refl, arg) }
  option_by t row rows x false others h later = let one = later h in record { name = one.name; value = one.value; is = one.is; option = inr one.option }

  option_right : (t : Taking) (text : List ℕ) (rows : List OptionRow) (x : TypedArg) → IsOptionTaken c kinds t (option_named text rows) x → IsOneOf rows x
  option_right t text [] x h = absurd h
  option_right t text (row ∷ rows) x h =
      option_by t row rows x (str_eq_ignore_ascii_case row.name text) (option_named text rows) h (option_right t text rows x)

  -- an option is there, and for what follows its name is among those before
  record IsFree (t : Taking) (row : Option OptionRow) : Type 0 where
    pub one : OptionRow
    pub is : row ≡ Some one
    pub free : is_excluded t.choice one.name t.before ≡ false

  option_free : (t : Taking) (row : Option OptionRow) (x : TypedArg) → IsOptionTaken c kinds t row x → IsFree t row
  option_free t None x h = absurd h
  option_free t (Some row) x h = record { one = row; is = refl; free = h.2 }

  -- the arguments and the options of a call
  record AreSorted (args : PlainArgs) (t : Taking) (us : TypedArgs) : Type 0 where
    pub needed_are : AreNeeded c kinds (needed us) t.needs
    pub options_are : AreOptions c kinds (options us) t.options
    pub counted : all_in args ≡ needed_in args + length (options us)
    pub few : IsBound t.choice → length t.before ≤ 1 → length t.before + length (options us) ≤ 1

  none_needed : (ns : List Need) → 0 ≡ length ns → AreNeeded c kinds [] ns
  none_needed [] e = tt
  none_needed (need ∷ more) e = absurd (omega arith)

  one_needed : (ns : List Need) (x : TypedArg) (xs : List TypedArg) (n : ℕ) → n + 1 ≡ length ns → IsTakenBy c kinds ns x → AreNeeded c kinds xs (drop 1 ns) → AreNeeded c kinds (x ∷ xs) ns
  one_needed [] x xs n e one rest = absurd (omega arith)
  one_needed (need ∷ more) x xs n e one rest = (one, rest)

  no_args : (t : Taking) → 0 ≡ length t.needs → AreSorted NoArgs t trees.NoArgs
  no_args t count = record { needed_are = none_needed t.needs count; options_are = tt; counted = omega arith; few = λ bound short. omega arith }

  with_needed : (t : Taking) (e : _) (more : PlainArgs) (x : TypedArg) (xs : TypedArgs) → needed_in more + 1 ≡ length t.needs → IsTakenBy c kinds t.needs x → AreSorted more (after t (Needed e)) xs
      → AreSorted (MoreArgs (Needed e) more) t (trees.MoreArgs x xs)
  with_needed t e more x xs count one rest =
      let plain = needed_plain t.needs x xs one in
      let long : length (options (trees.MoreArgs x xs)) ≡ length (options xs) = ap length plain.options_are in
      record {
        needed_are = subst (λ (l : List TypedArg). AreNeeded c kinds l t.needs) (sym plain.needed_are) (one_needed t.needs x (needed xs) (needed_in more) count one rest.needed_are);
        options_are = subst (λ (l : List TypedArg). AreOptions c kinds l t.options) (sym plain.options_are) rest.options_are;
        counted = omega (arith, rest.counted, long);
        few = λ bound short. let most = rest.few bound short in omega (arith, most, long);
      }

  with_optional : (t : Taking) (row : OptionRow) (name : _) (held : _) (at : ℕ) (more : PlainArgs) (n : List ℕ) (value : TypedArgument) (xs : TypedArgs) → IsOption c kinds n value t.options
      → is_excluded t.choice row.name t.before ≡ false → AreSorted more (with_option t (Some row)) xs → AreSorted (MoreArgs (Optional name held at) more) t (trees.MoreArgs (trees.Optional n value) xs)
  with_optional t row name held at more n value xs option free rest = record {
    needed_are = rest.needed_are;
    options_are = (option, rest.options_are);
    counted = let few = rest.counted in omega (arith, few);
    few = λ bound short.
        let none : length t.before ≡ 0 = first_option t.choice row.name t.before bound free in
        let long : length (t.before ++ row.name ∷ []) ≡ length t.before + 1 = length-append t.before (row.name ∷ []) in
        let most = rest.few bound (omega (arith, long, none)) in
        omega (arith, most, long, none);
  }

  sorted : (args : PlainArgs) (t : Taking) (us : TypedArgs) → needed_in args ≡ length t.needs → AreTaken c kinds args t us → AreSorted args t us
  sorted NoArgs t us count is = subst (AreSorted NoArgs t) (sym is) (no_args t count)
  sorted (MoreArgs (Needed e) more) t us count (x, xs, one, rest, is) =
      let left : needed_in more ≡ length (drop 1 t.needs) = omega (arith, count, length-drop 1 t.needs) in
      subst (AreSorted (MoreArgs (Needed e) more) t) (sym is) (with_needed t e more x xs count one (sorted more (after t (Needed e)) xs left rest))
  sorted (MoreArgs (Optional name held at) more) t us count (x, xs, one, rest, is) =
      let row = option_named name.text t.options in
      let there = option_free t row x one in
      let option = option_right t name.text t.options x one in
      let like = like_before t row in
      let others = sorted more (with_option t row) xs (count ∙ ap length (sym like.needs)) rest in
      subst (AreSorted (MoreArgs (Optional name held at) more) t) (sym is)
      (subst (λ (a : TypedArg). AreSorted (MoreArgs (Optional name held at) more) t (trees.MoreArgs a xs)) (sym option.is)
      (with_optional t there.one name held at more option.name option.value xs option.option there.free (subst (λ (r : Option OptionRow). AreSorted more (with_option t r) xs) there.is others)))

  -- a world zone's variable, by what the options say of its type
  zone_var : (x : TypedArg) → IsArg c kinds x (needs.Var sorts.WzTemporary) → IsArg c kinds x needs.WorldZone
  zone_var (trees.Lent p) h = (sorts.WzTemporary, refl, h)
  zone_var _ h = absurd h

  zone_fixed : (x : TypedArg) → IsArg c kinds x (needs.Var sorts.WzStationary) → IsArg c kinds x needs.WorldZone
  zone_fixed (trees.Lent p) h = (sorts.WzStationary, refl, h)
  zone_fixed _ h = absurd h

  zone_by : (x : TypedArg) (temporary stationary : Bool) (other : Need) → IsArg c kinds x (if temporary then needs.Var sorts.WzTemporary else if stationary then needs.Var sorts.WzStationary else other)
      → (IsArg c kinds x other → IsArg c kinds x needs.WorldZone) → IsArg c kinds x needs.WorldZone
  zone_by x true stationary other h rest = zone_var x h
  zone_by x false true other h rest = zone_fixed x h
  zone_by x false false other h rest = rest h

  zone_right : (args : PlainArgs) (x : TypedArg) → IsArg c kinds x (zone_need args) → IsArg c kinds x needs.WorldZone
  zone_right NoArgs x h = h
  zone_right (MoreArgs (Needed e) more) x h = zone_right more x h
  zone_right (MoreArgs (Optional name held at) more) x h =
      zone_by x (str_eq_ignore_ascii_case (codes "Temp") name.text) (str_eq_ignore_ascii_case (codes "Stat") name.text) (zone_need more) h (zone_right more x)

  need_right : (args : PlainArgs) (need : Need) (x : TypedArg) → IsArg c kinds x (need_in args need) → IsArg c kinds x need
  need_right args needs.WorldZone x h = zone_right args x h
  need_right args _ x h = h

  all_right : (args : PlainArgs) (ns : List Need) (xs : List TypedArg) → AreNeeded c kinds xs (map (need_in args) ns) → AreNeeded c kinds xs ns
  all_right args [] [] h = tt
  all_right args [] (x ∷ xs) h = absurd h
  all_right args (need ∷ ns) [] h = absurd h
  all_right args (need ∷ ns) (x ∷ xs) h = (need_right args need x h.0, all_right args ns xs h.1)

  -- as many options as may stand
  chosen_right : (kind : Choice) (args : PlainArgs) (given : List TypedArg) → (IsBound kind → length given ≤ 1) → all_in args ≡ needed_in args + length given → are_chosen kind args ≡ true → AreChosen kind given
  chosen_right choices.Any args given few counted chosen = tt
  chosen_right choices.OneAtMost args given few counted chosen = few tt
  chosen_right choices.JustOne args given few counted chosen =
      let short : length given ≤ 1 = few tt in
      let other : all_in args ≢ needed_in args = eqb-false (all_in args) (needed_in args) (not-true (all_in args == needed_in args) chosen) in
      omega (arith, short, counted, other)
  chosen_right choices.InsideAndOne args given few counted chosen =
      let two : all_in args - needed_in args ≡ 2 = eqb-true (all_in args - needed_in args) 2 chosen in
      omega (arith, counted, two)

  pub instruction_right : (s : Site) (suits : Suits c kinds s) (i : Instruction) (args : PlainArgs) (us : TypedArgs) → AreCallArguments s args (instruction_signature i args) us → IsInstruction c kinds i us
  instruction_right s suits i args us (are, call) =
      let signature : Signature = instruction_signature i args in
      let count : needed_in args ≡ length signature.needs = eqb-true (needed_in args) (length signature.needs) (and_parts (needed_in args == length signature.needs) (nat_le (all_in args) 32) call.counted).0 in
      let parts = sorted args (taking signature) us count (arguments_taken c kinds s suits args (taking signature) us are) in
      record {
        arm = subst (λ (axes : ℕ). (not (needs_arm i) || nat_lt 0 axes) ≡ true) suits.axes call.armed;
        are_needed = all_right args (instruction_needs i) (needed us) parts.needed_are;
        are_options = parts.options_are;
        chosen = chosen_right (choice i) args (options us) (λ bound. let most : 0 + length (options us) ≤ 1 = parts.few bound (omega arith) in omega (arith, most)) parts.counted call.chosen;
      }
