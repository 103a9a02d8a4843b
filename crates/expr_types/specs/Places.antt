-- Places as written: a name, its index if it has one, and components.
use Rattle.std.specs.Prelude.{ℕ, Bool, false, not, ◌&&◌, is_some, Ok}
use Rattle.rapid_model.specs.declared.sort.Sort.{Sort}
use Rattle.typed_trees.specs.Plain
use Rattle.typed_trees.specs.Plain.{TypedPlace, TypedArg}
use Rattle.raw_trees.specs.Plain.{PlainExpr, Place, PlainPlace, PlaceOf, PlainHeld}
use Rattle.rule_checks.specs.declared.rule.TypeRule.{TypeRule}
use Rattle.rule_checks.specs.declared.rule.TypeRule.TheVariants.{NoName, TypeClash, BadRef, SyncName}
use Rattle.rule_checks.specs.Checks.{◌>>=◌, must}
use Rattle.rule_checks.specs.TypeChecks.{Checked}
use Rattle.data_scopes.specs.Rows.{begin_of}
use Rattle.named_data.specs.declared.wanted.Wanted.{Wanted}
use Rattle.named_data.specs.declared.wanted.Wanted.TheVariants.{Reference, Meeting}
use Rattle.named_data.specs.Data
use Rattle.named_data.specs.Data.{NamedPart, named, datum_at, part_at, whole_of, is_empty}
use Rattle.named_data.specs.declared.named.Source.{Source}
use Rattle.named_data.specs.declared.named.Source.TheVariants as sources
use Rattle.named_data.specs.Rules.{Site, fail, at_byte}
use Rattle.named_data.specs.Wants.{same_sort}
use Rattle.expr_types.specs.Arguments.{is_held, parts_known, whole_pers}
use Rattle.expr_types.specs.Typing.{index, typed}

abbrev pub index_of : PlainPlace → PlainHeld
index_of (PlaceOf name held components) = held

-- neither index nor components
abbrev pub is_datum : PlainPlace → Bool
is_datum (PlaceOf name held components) = not (is_held held) && is_empty components

-- what a place names; a whole array may be named if whole is true
abbrev pub place : Site → Bool → PlainPlace → Checked NamedPart
place site whole (PlaceOf name held components) = Data.place site whole name (is_held held) (index site held) components

-- the place that an expression is; the rule is broken if it is not one, after what is broken in it as an expression
abbrev pub place_in : Site → Bool → Wanted → TypeRule → PlainExpr → Checked NamedPart
place_in site whole want rule (Place at p) = place site whole p
place_in site whole want rule e = typed site e want >>= (λ t. fail site (begin_of e) rule)

-- a place of a type, of any kind, with the rule reported at this byte
abbrev pub lent_from : Site → Sort → ℕ → NamedPart → Source → Checked TypedPlace
lent_from site sort at p (sources.Place root access) =
    must (same_sort p.sort sort) (at_byte site at TypeClash) >>= (λ _. Ok (Plain.PlaceOf root p.index p.part p.sort))
lent_from site sort at p _ = fail site at TypeClash

abbrev pub lent_of : Site → Sort → ℕ → NamedPart → Checked TypedPlace
lent_of site sort at p = lent_from site sort at p p.source

abbrev pub lent_place : Site → ℕ → Sort → PlainPlace → Checked TypedPlace
lent_place site at sort written = place site false written >>= (λ p. lent_of site sort at p)

-- the components of a place are those of the datum that its name means, if it means one here
abbrev pub known_parts : Site → PlainPlace → Checked (Unit {0})
known_parts site (PlaceOf name held components) = parts_known site (datum_at site name) components

-- what is broken in an expression, other than a name, in place of a meeting
abbrev pub no_meeting : Site → PlainExpr → Checked TypedArg
no_meeting site (Place at (PlaceOf name held components)) =
    must (is_some (named site name)) (at_byte site at NoName) >>= (λ _. index site held >>= (λ i.
    parts_known site (datum_at site name) components >>= (λ _. fail site at SyncName)))
no_meeting site e = typed site e Meeting >>= (λ t. fail site (begin_of e) SyncName)

-- the name of a declared PERS, as an argument that starts at this byte
abbrev pub pers_at : Site → ℕ → PlainPlace → Checked TypedArg
pers_at site at (PlaceOf name held components) =
    datum_at site name >>= (λ d. index site held >>= (λ i. part_at site (whole_of d.sort) components >>= (λ c.
    whole_pers site (not (is_held held) && is_empty components) at d.sort d.source)))

abbrev pub pers_name : Site → PlainExpr → Checked TypedArg
pers_name site (Place at p) = pers_at site at p
pers_name site e = typed site e Reference >>= (λ t. fail site (begin_of e) BadRef)
