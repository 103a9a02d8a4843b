-- Arguments by what their callee needs.
use Rattle.std.proofs.Common.{◌≡◌, ◌↔◌, ℕ, Bool, true, false, not, ◌&&◌, List, [], ◌∷◌, Option, Some, None, slice_get, codes, Ok, refl, sym, ap, subst, ◌∙◌}
use Rattle.std.proofs.lemmas.Bool.{and_parts, false≢true}
use Rattle.raw_trees.specs.Plain.{PlainName, PlainExpr, PlainHeld, Place, NotHeld, Held, PlaceOf}
use Rattle.rapid_model.specs.declared.predefined.Predefined.{Predefined}
use Rattle.rapid_model.specs.declared.predefined.Predefined.TheVariants as predefineds
use Rattle.rapid_model.specs.declared.sort.Sort.{Sort}
use Rattle.rapid_model.specs.declared.sort.Sort.TheVariants as sorts
use Rattle.rapid_model.specs.declared.part_name.PartName.TheVariants as parts
use Rattle.rapid_builtins.specs.declared.need.Need.{Need}
use Rattle.rapid_builtins.specs.declared.need.Need.TheVariants as needs
use Rattle.typed_trees.specs.Plain
use Rattle.typed_trees.specs.Plain.{TypedExpr, TypedHeld, TypedArg, Given, Lent, OfSignal, OfMeeting, Itself}
use Rattle.typed_trees.specs.declared.expr.TreeRoot.{TreeRoot}
use Rattle.typed_trees.specs.declared.expr.TreeRoot.TheVariants as roots
use Rattle.rule_checks.specs.declared.rule.TypeRule.{TypeRule}
use Rattle.rule_checks.specs.declared.rule.TypeRule.TheVariants.{NoName, TypeClash, ReadOnly, BadRef, CornerZone, ToolOnly, SyncName}
use Rattle.data_scopes.specs.declared.meant.Meant.{Meant}
use Rattle.data_scopes.specs.declared.meant.Meant.TheVariants as meants
use Rattle.rule_checks.specs.Checks.{◌>>=◌, must}
use Rattle.rule_checks.specs.TypeChecks.{Checked}
use Rattle.data_scopes.specs.Meetings.{is_meeting, meetings_before}
use Rattle.data_scopes.specs.Rows.{begin_of}
use Rattle.rapid_model.specs.Sorts.{has_values}
use Rattle.named_data.specs.declared.named.Access.{Access}
use Rattle.named_data.specs.declared.named.Access.TheVariants as accesses
use Rattle.named_data.specs.declared.named.Source.{Source}
use Rattle.named_data.specs.declared.named.Source.TheVariants as sources
use Rattle.named_data.specs.declared.wanted.Wanted.{Wanted}
use Rattle.named_data.specs.declared.wanted.Wanted.TheVariants.{Is, Nothing, Reference, Meeting}
use Rattle.named_data.specs.Rules.{Site, at_byte}
use Rattle.named_data.specs.Wants.{same_sort}
use Rattle.named_data.specs.Data.{NamedPart, named, datum_at, part_at, whole_of, place, is_empty}
use Rattle.expr_types.specs.Arguments.{is_held, is_bare, lends, takes, is_written, is_fixed, access_in, lent, referred, reference, any_place, whole_array, one_dimension, itself, has_direction, signal_meant, signal, meeting_meant, parts_known, meeting, whole_pers, pers_name, argument}
use Rattle.type_laws.specs.Calls.{Values, Indexes, Stands, IsLent, IsPlaceArg, IsReference, IsWhole, IsSignal, IsMeeting, IsPersName, IsValueArg, IsItself, IsArgument}
use Rattle.type_laws.proofs.Steps.{in_words, neither, done, never, then, never_after, where_it_holds}
use Rattle.type_laws.proofs.Names.{datum_law, at_place}

-- the typed form of an index: none if there is none
pub record IndexIs (held : PlainHeld) (index : Checked TypedHeld) (IsIndexed : Indexes) : Type 0 where
  pub law : (i : TypedHeld) → (index ≡ Ok i) ↔ IsIndexed i
  pub none : is_held held ≡ false → index ≡ Ok Plain.NotHeld

-- the typed form of the index in an argument that is a place
abbrev pub IndexIn : PlainExpr → Checked TypedHeld → Indexes → Type 0
IndexIn (Place at (PlaceOf name held components)) index IsIndexed = IndexIs held index IsIndexed
IndexIn e index IsIndexed = Unit {0}

-- the typed form of an argument as a value, and of the index in it
pub record PartsAre (e : PlainExpr) (value : Wanted → Checked TypedExpr) (index : Checked TypedHeld) (IsValue : Values) (IsIndexed : Indexes) : Type 0 where
  pub as_value : (want : Wanted) (t : TypedExpr) → (value want ≡ Ok t) ↔ IsValue want t
  pub as_index : IndexIn e index IsIndexed

-- a part at another source
abbrev from : Source → NamedPart → NamedPart
from source p = record { source = source; array = p.array; index = p.index; part = p.part; sort = p.sort }

lent_from : (s : Site) (at : ℕ) (rule : TypeRule) (fits : Access → NamedPart → Bool) (source : Source) (p : NamedPart) (arg : TypedArg)
    → (lent s (fits (access_in source) (from source p)) at rule (from source p) source ≡ Ok arg) ↔ IsLent fits (from source p) arg
lent_from s at rule fits (sources.Place root access) p arg =
    let q : NamedPart = from (sources.Place root access) p in
    in_words
    (where_it_holds s (fits access q) at rule _ arg (done (Lent (Plain.PlaceOf root p.index p.part p.sort)) arg))
    (λ (fit, is). record { root = root; access = access; stands = (refl, refl); fitting = fit; is_it = is })
    (λ h. (subst (λ a. fits a q ≡ true) h.stands.1 h.fitting, h.is_it ∙ ap (λ r. Lent (Plain.PlaceOf r p.index p.part p.sort)) h.stands.0))
lent_from s at rule fits source p arg = neither (never _ arg) (λ h. h.stands)

lent_law : (s : Site) (at : ℕ) (rule : TypeRule) (fits : Access → NamedPart → Bool) (p : NamedPart) (arg : TypedArg)
    → (lent s (fits (access_in p.source) p) at rule p p.source ≡ Ok arg) ↔ IsLent fits p arg
lent_law s at rule fits p arg = lent_from s at rule fits p.source p arg

never_lent : (s : Site) (holds : Bool) (at : ℕ) (rule : TypeRule) (p : NamedPart) (source : Source) (arg : TypedArg) → holds ≡ false → (lent s holds at rule p source ≡ Ok arg) ↔ ⊥
never_lent s true at rule p source arg fails = absurd (cc (fails))
never_lent s false at rule p (sources.Place root access) arg fails = never _ arg
never_lent s false at rule p source arg fails = never _ arg

-- what is passed to be written is never fixed
writable : (need : Need) (source : Source) (root : TreeRoot) (access : Access) → Stands source root access → lends need access ≡ true → not (is_written need && is_fixed source) ≡ true
writable (needs.Written sort) (sources.Place root accesses.Fixed) r access stands can =
    absurd (false≢true (subst (λ a. lends (needs.Written sort) a ≡ true) stands.1 can))
writable (needs.Written sort) (sources.Place root accesses.Var) r access stands can = refl
writable (needs.Written sort) (sources.Place root accesses.Pers) r access stands can = refl
writable (needs.Written sort) (sources.Place root accesses.Either) r access stands can = refl
writable (needs.Written sort) source r access stands can = absurd stands
writable need source r access stands can = refl

abbrev fits_need : Need → Access → NamedPart → Bool
fits_need need access p = lends need access && takes need p.sort

reference_law : {value : Wanted → Checked TypedExpr} {index : Checked TypedHeld} {IsValue : Values} {IsIndexed : Indexes} (s : Site) (need : Need) (e : PlainExpr) (arg : TypedArg)
    → PartsAre e value index IsValue IsIndexed → (reference s need e value index ≡ Ok arg) ↔ IsReference s need e IsIndexed arg
reference_law {index} s need (Place at (PlaceOf name held components)) arg law =
    at_place s false name (is_held held) index components _ arg law.as_index.law (λ p.
    in_words
    (where_it_holds s (not (is_written need && is_fixed p.source)) at ReadOnly _ arg (lent_law s at BadRef (fits_need need) p arg))
    (λ (free, is). is)
    (λ h. (writable need p.source h.root h.access h.stands (and_parts (lends need h.access) (takes need p.sort) h.fitting).0, h)))
reference_law {value} s need e arg law = never_after (value (referred need)) _ arg (λ t. never _ arg)

any_place_law : {value : Wanted → Checked TypedExpr} {index : Checked TypedHeld} {IsValue : Values} {IsIndexed : Indexes} (s : Site) (sort : Sort) (e : PlainExpr) (arg : TypedArg)
    → PartsAre e value index IsValue IsIndexed → (any_place s sort e value index ≡ Ok arg) ↔ IsPlaceArg s false (λ access p. same_sort p.sort sort) e IsIndexed arg
any_place_law {index} s sort (Place at (PlaceOf name held components)) arg law =
    at_place s false name (is_held held) index components _ arg law.as_index.law (λ p. lent_law s at TypeClash (λ access p. same_sort p.sort sort) p arg)
any_place_law {value} s sort e arg law = never_after (value Nothing) _ arg (λ t. never _ arg)

-- an array that is named alone fits if its type does; one with an index or components does not
fits_whole : (array sort : Bool) → (array && true && true && sort) ≡ (array && sort)
fits_whole true sort = refl
fits_whole false sort = refl

fits_part : (array unindexed bare sort : Bool) → (unindexed && bare) ≡ false → (array && unindexed && bare && sort) ≡ false
fits_part true true bare sort fails = ap (λ b. b && sort) fails
fits_part true false bare sort fails = refl
fits_part false unindexed bare sort fails = refl

never_whole : (s : Site) (of_sort : Sort → Bool) (at : ℕ) (found : Checked NamedPart) (held : PlainHeld) (components : List PlainName) (arg : TypedArg) → (not (is_held held) && is_empty components) ≡ false
    → ((found >>= (λ p. lent s (p.array && not (is_held held) && is_empty components && of_sort p.sort) at TypeClash p p.source)) ≡ Ok arg) ↔ ⊥
never_whole s of_sort at found held components arg fails =
    never_after found _ arg (λ p. never_lent s _ at TypeClash p p.source arg (fits_part p.array (not (is_held held)) (is_empty components) (of_sort p.sort) fails))

whole_law : {value : Wanted → Checked TypedExpr} {index : Checked TypedHeld} {IsValue : Values} {IsIndexed : Indexes} (s : Site) (of_sort : Sort → Bool) (e : PlainExpr) (arg : TypedArg)
    → PartsAre e value index IsValue IsIndexed → (whole_array s of_sort e value index ≡ Ok arg) ↔ IsWhole s of_sort e IsIndexed arg
whole_law {index} s of_sort (Place at (PlaceOf name NotHeld [])) arg law =
    at_place s true name false index [] _ arg law.as_index.law (λ p.
    subst (λ b. (lent s b at TypeClash p p.source ≡ Ok arg) ↔ IsLent (λ access p. p.array && of_sort p.sort) p arg) (sym (fits_whole p.array (of_sort p.sort)))
    (lent_law s at TypeClash (λ access p. p.array && of_sort p.sort) p arg))
whole_law {index} s of_sort (Place at (PlaceOf name NotHeld (c ∷ cs))) arg law =
    never_whole s of_sort at (place s true name false index (c ∷ cs)) NotHeld (c ∷ cs) arg refl
whole_law {index} s of_sort (Place at (PlaceOf name (Held e) cs)) arg law =
    never_whole s of_sort at (place s true name true index cs) (Held e) cs arg refl
whole_law {value} s of_sort e arg law = never_after (value Nothing) _ arg (λ t. never _ arg)

-- the number of what is meant, for which a test holds
numbered : (s : Site) (at : ℕ) (rule : TypeRule) (holds : ℕ → Bool) (made : ℕ → TypedArg) (kind : ℕ → Meant) (number : ℕ) (arg : TypedArg) → ((n : ℕ) → Some (kind number) ≡ Some (kind n) → n ≡ number)
    → ((must (holds number) (at_byte s at rule) >>= (λ _. Ok (made number))) ≡ Ok arg) ↔ ((n : ℕ) × (Some (kind number) ≡ Some (kind n)) × (holds n ≡ true) × (arg ≡ made n))
numbered s at rule holds made kind number arg same =
    in_words
    (where_it_holds s (holds number) at rule _ arg (done (made number) arg))
    (λ (held, is). (number, refl, held, is))
    (λ (n, meant, held, is). let e : n ≡ number = same n meant in (subst (λ n. holds n ≡ true) e held, is ∙ ap made e))

signal_meant_law : (s : Site) (output : Bool) (at : ℕ) (meant : Option Meant) (arg : TypedArg)
    → (signal_meant s output at meant ≡ Ok arg) ↔ ((number : ℕ) × (meant ≡ Some (meants.Signal number)) × (has_direction output (slice_get s.names.outputs number) ≡ true) × (arg ≡ OfSignal number))
signal_meant_law s output at (Some (meants.Signal number)) arg =
    numbered s at TypeClash (λ n. has_direction output (slice_get s.names.outputs n)) OfSignal meants.Signal number arg (λ n e. cc)
signal_meant_law s output at None arg = neither (never _ arg) (λ (n, meant, held, is). cc)
signal_meant_law s output at (Some _) arg = neither (never _ arg) (λ (n, meant, held, is). cc)

signal_law : (value : Wanted → Checked TypedExpr) (s : Site) (output : Bool) (e : PlainExpr) (arg : TypedArg) → (signal s output e value ≡ Ok arg) ↔ IsSignal s output e arg
signal_law value s output (Place at (PlaceOf name NotHeld [])) arg = signal_meant_law s output at (named s name) arg
signal_law value s output e arg = neither (never_after (value Nothing) _ arg (λ t. never _ arg)) (λ (n, none, held, is). none)

meeting_meant_law : (s : Site) (at : ℕ) (meant : Option Meant) (arg : TypedArg)
    → (meeting_meant s at meant ≡ Ok arg) ↔ ((number : ℕ) × (meant ≡ Some (meants.Slot number)) × (is_meeting (slice_get s.names.rows.slots number) ≡ true) × (arg ≡ OfMeeting (meetings_before number s.names.rows.slots)))
meeting_meant_law s at (Some (meants.Slot number)) arg =
    numbered s at SyncName (λ n. is_meeting (slice_get s.names.rows.slots n)) (λ n. OfMeeting (meetings_before n s.names.rows.slots)) meants.Slot number arg (λ n e. cc)
meeting_meant_law s at None arg = neither (never _ arg) (λ (n, meant, held, is). cc)
meeting_meant_law s at (Some _) arg = neither (never _ arg) (λ (n, meant, held, is). cc)

meeting_law : (value : Wanted → Checked TypedExpr) (index : Checked TypedHeld) (s : Site) (e : PlainExpr) (arg : TypedArg) → (meeting s e value index ≡ Ok arg) ↔ IsMeeting s e arg
meeting_law value index s (Place at (PlaceOf name NotHeld [])) arg = meeting_meant_law s at (named s name) arg
meeting_law value index s (Place at (PlaceOf name held components)) arg =
    neither (never_after (must _ (at_byte s at NoName)) _ arg (λ u. never_after index _ arg (λ i. never_after (parts_known s (datum_at s name) components) _ arg (λ known. never _ arg))))
    (λ (n, none, held, is). none)
meeting_law value index s e arg = neither (never_after (value Meeting) _ arg (λ t. never _ arg)) (λ (n, none, held, is). none)

whole_pers_law : (s : Site) (at : ℕ) (sort : Sort) (source : Source) (arg : TypedArg)
    → (whole_pers s true at sort source ≡ Ok arg) ↔ ((number : ℕ) × (access : Access) × Stands source (roots.Pers number) access × (arg ≡ Lent (Plain.PlaceOf (roots.Pers number) Plain.NotHeld parts.Whole sort)))
whole_pers_law s at sort (sources.Place (roots.Pers number) access) arg =
    in_words
    (done (Lent (Plain.PlaceOf (roots.Pers number) Plain.NotHeld parts.Whole sort)) arg)
    (λ e. (number, access, (refl, refl), e))
    (λ (n, a, (same, by), is). is ∙ ap (λ r. Lent (Plain.PlaceOf r Plain.NotHeld parts.Whole sort)) same)
whole_pers_law s at sort (sources.Place root access) arg = neither (never _ arg) (λ (n, a, (same, by), is). cc)
whole_pers_law s at sort source arg = neither (never _ arg) (λ (n, a, none, is). none)

never_pers : (s : Site) (at : ℕ) (sort : Sort) (source : Source) (arg : TypedArg) → (whole_pers s false at sort source ≡ Ok arg) ↔ ⊥
never_pers s at sort (sources.Place (roots.Pers number) access) arg = never _ arg
never_pers s at sort (sources.Place root access) arg = never _ arg
never_pers s at sort source arg = never _ arg

never_part : (s : Site) (at : ℕ) (name : PlainName) (index : Checked TypedHeld) (components : List PlainName) (arg : TypedArg)
    → ((datum_at s name >>= (λ d. index >>= (λ i. part_at s (whole_of d.sort) components >>= (λ c. whole_pers s false at d.sort d.source)))) ≡ Ok arg) ↔ ⊥
never_part s at name index components arg =
    never_after (datum_at s name) _ arg (λ d. never_after index _ arg (λ i. never_after (part_at s (whole_of d.sort) components) _ arg (λ c. never_pers s at d.sort d.source arg)))

pers_law : {value : Wanted → Checked TypedExpr} {index : Checked TypedHeld} {IsValue : Values} {IsIndexed : Indexes} (s : Site) (e : PlainExpr) (arg : TypedArg)
    → PartsAre e value index IsValue IsIndexed → (pers_name s e value index ≡ Ok arg) ↔ IsPersName s e arg
pers_law {index} s (Place at (PlaceOf name NotHeld [])) arg law =
    in_words
    (then (datum_at s name) _ arg (datum_law s name) (λ d. then index _ arg (λ i. (λ e. e, λ e. e)) (λ i. whole_pers_law s at d.sort d.source arg)))
    (λ (d, is_datum, (i, none, (number, access, stands, is))). (d, number, access, is_datum, stands, is))
    (λ (d, number, access, is_datum, stands, is). (d, is_datum, (Plain.NotHeld, law.as_index.none refl, (number, access, stands, is))))
pers_law {index} s (Place at (PlaceOf name NotHeld (c ∷ cs))) arg law = never_part s at name index (c ∷ cs) arg
pers_law {index} s (Place at (PlaceOf name (Held e) cs)) arg law = never_part s at name index cs arg
pers_law {value} s e arg law = never_after (value Reference) _ arg (λ t. never _ arg)

pub value_law : {IsValue : Values} (value : Wanted → Checked TypedExpr) (want : Wanted) (arg : TypedArg) → ((want : Wanted) (t : TypedExpr) → (value want ≡ Ok t) ↔ IsValue want t)
    → ((value want >>= (λ t. Ok (Given t))) ≡ Ok arg) ↔ IsValueArg want IsValue arg
value_law value want arg law = then (value want) _ arg (law want) (λ t. done (Given t) arg)

itself_law : (s : Site) (name : Predefined) (text : List ℕ) (rule : TypeRule) (e : PlainExpr) (arg : TypedArg) → (itself s name text rule e ≡ Ok arg) ↔ IsItself name text e arg
itself_law s name text rule e arg = where_it_holds s (is_bare text e) (begin_of e) rule _ arg (done (Itself name) arg)

pub argument_law : {value : Wanted → Checked TypedExpr} {index : Checked TypedHeld} {IsValue : Values} {IsIndexed : Indexes} (s : Site) (need : Need) (e : PlainExpr) (arg : TypedArg)
    → PartsAre e value index IsValue IsIndexed → (argument s need e value index ≡ Ok arg) ↔ IsArgument s need e IsValue IsIndexed arg
argument_law {value} s (needs.Value sort) e arg law = value_law value (Is sort) arg law.as_value
argument_law {value} s (needs.Signal output) e arg law = signal_law value s output e arg
argument_law s (needs.Var sort) e arg law = reference_law s (needs.Var sort) e arg law
argument_law s (needs.Pers sort) e arg law = reference_law s (needs.Pers sort) e arg law
argument_law s (needs.VarOrPers sort) e arg law = reference_law s (needs.VarOrPers sort) e arg law
argument_law s (needs.Written sort) e arg law = reference_law s (needs.Written sort) e arg law
argument_law s needs.WorldZone e arg law = reference_law s needs.WorldZone e arg law
argument_law s (needs.Place sort) e arg law = any_place_law s sort e arg law
argument_law s needs.Array e arg law = whole_law s has_values e arg law
argument_law s needs.TaskList e arg law = whole_law s (same_sort sorts.Tasks) e arg law
argument_law {value} s needs.One e arg law = value_law value (one_dimension e) arg law.as_value
argument_law s needs.Fine e arg law = itself_law s predefineds.Fine (codes "fine") CornerZone e arg
argument_law s needs.Tool e arg law = itself_law s predefineds.Tool0 (codes "tool0") ToolOnly e arg
argument_law s needs.WorkObject e arg law = itself_law s predefineds.Wobj0 (codes "wobj0") ToolOnly e arg
argument_law {value} {index} s needs.Meeting e arg law = meeting_law value index s e arg
argument_law s needs.PersName e arg law = pers_law s e arg law
