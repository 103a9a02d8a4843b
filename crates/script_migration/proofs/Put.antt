-- A value that is put at a key.
use Rattle.std.proofs.Common.{◌≡◌, ℕ, true, false, List, [], ◌∷◌, Some, None, String, Global, Ordering, Less, Equal, Greater, string_bytes, nat_cmp, is_eq, if◌then◌else◌, refl, sym, ap, ◌∙◌}
use Rattle.std.proofs.lemmas.Cmp.{nat_list_cmp_total}
use Rattle.std.specs.Prelude.{bytes_eq}
use Rattle.std.specs.Cmp.{tied_itself}
use Rattle.std.specs.Cmp.Lexicographic.{slice_cmp}
use Rattle.std.specs.List.{list_any}
use Rattle.std.specs.Ordering.{match_ordering, ordering_reverse}
use Rattle.std.specs.BTreeMap.{insert_entry}
use Rattle.std.specs.String.{string_cmp}
use Rattle.toml.specs.Data.{Data, Members, no_members, member, get_member}
use Rattle.toml.specs.View.{view, members_view}
use Rattle.toml.specs.declared.value.Value.{Value}
use Rattle.cell_script.specs.Keys.{first_unknown, keys_of}
use Rattle.script_migration.specs.Migrated.{put_member}

abbrev Entry : Type 0
Entry = String Global × Value

-- what an insert into the map of a table leaves

viewed : (o : Ordering) (a b c : List Entry) → members_view (match_ordering o a b c) ≡ match_ordering o (members_view a) (members_view b) (members_view c)
viewed Less a b c = refl
viewed Equal a b c = refl
viewed Greater a b c = refl

pub inserted : (k : String Global) (v : Value) (es : List Entry) → members_view (insert_entry string_cmp es k v) ≡ put_member (string_bytes k) (view v) (members_view es)
inserted k v [] = refl
inserted k v (e ∷ es) =
    viewed (string_cmp k e.0) ((k, v) ∷ e ∷ es) ((e.0, v) ∷ es) (e ∷ insert_entry string_cmp es k v)
    ∙ ap (λ ms. match_ordering (string_cmp k e.0) (members_view ((k, v) ∷ e ∷ es)) (members_view ((e.0, v) ∷ es)) (member (string_bytes e.0) (view e.1) ms)) (inserted k v es)

-- the value at a key

same_by : (o : Ordering) (k l : List ℕ) (d e : Data) (ms : Members) → slice_cmp nat_cmp k l ≡ o → get_member k (put_member k d ms) ≡ Some d
    → get_member k (match_ordering o (member k d (member l e ms)) (member l d ms) (member l e (put_member k d ms))) ≡ Some d
same_by Less k l d e ms at more = rw (tied_itself nat_list_cmp_total k) refl
same_by Equal k l d e ms at more = rw at refl
same_by Greater k l d e ms at more = rw at more

pub put_here : (k : List ℕ) (d : Data) (ms : Members) → get_member k (put_member k d ms) ≡ Some d
put_here k d no_members = rw (tied_itself nat_list_cmp_total k) refl
put_here k d (member l e ms) = same_by (slice_cmp nat_cmp k l) k l d e ms refl (put_here k d ms)

-- a key of another order is passed over
passed : {A : Type 0} (o : Ordering) (x y : A) → is_eq o ≡ false → match_ordering o x y x ≡ x
passed Less x y other = refl
passed Equal x y other = absurd cc
passed Greater x y other = refl

-- equal keys compare alike
alike : (j k l : List ℕ) → slice_cmp nat_cmp k l ≡ Equal → slice_cmp nat_cmp j l ≡ slice_cmp nat_cmp j k
alike j k l same =
    nat_list_cmp_total.antisymm j l ∙ ap ordering_reverse (sym (nat_list_cmp_total.congr k l j same)) ∙ sym (nat_list_cmp_total.antisymm j k)

elsewhere : (o : Ordering) (j k l : List ℕ) (d e : Data) (ms : Members) → slice_cmp nat_cmp k l ≡ o → is_eq (slice_cmp nat_cmp j k) ≡ false → get_member j (put_member k d ms) ≡ get_member j ms
    → get_member j (match_ordering o (member k d (member l e ms)) (member l d ms) (member l e (put_member k d ms))) ≡ get_member j (member l e ms)
elsewhere Less j k l d e ms at other more = passed (slice_cmp nat_cmp j k) (get_member j (member l e ms)) (Some d) other
elsewhere Equal j k l d e ms at other more =
    let too : is_eq (slice_cmp nat_cmp j l) ≡ false = ap is_eq (alike j k l at) ∙ other in
    passed (slice_cmp nat_cmp j l) (get_member j ms) (Some d) too ∙ sym (passed (slice_cmp nat_cmp j l) (get_member j ms) (Some e) too)
elsewhere Greater j k l d e ms at other more = ap (λ found. match_ordering (slice_cmp nat_cmp j l) found (Some e) found) more

pub put_elsewhere : (j k : List ℕ) (d : Data) (ms : Members) → is_eq (slice_cmp nat_cmp j k) ≡ false → get_member j (put_member k d ms) ≡ get_member j ms
put_elsewhere j k d no_members other = passed (slice_cmp nat_cmp j k) None (Some d) other
put_elsewhere j k d (member l e ms) other = elsewhere (slice_cmp nat_cmp k l) j k l d e ms refl other (put_elsewhere j k d ms other)

-- a known key makes no other one unknown

keys_by : (o : Ordering) (known : List (List ℕ)) (k l : List ℕ) (d e : Data) (ms : Members) → list_any (bytes_eq k) known ≡ true → first_unknown known (keys_of (put_member k d ms)) ≡ first_unknown known (keys_of ms)
    → first_unknown known (keys_of (match_ordering o (member k d (member l e ms)) (member l d ms) (member l e (put_member k d ms)))) ≡ first_unknown known (keys_of (member l e ms))
keys_by Less known k l d e ms is more = rw is refl
keys_by Equal known k l d e ms is more = refl
keys_by Greater known k l d e ms is more = ap (λ rest. if list_any (bytes_eq l) known then rest else Some l) more

pub put_known : (known : List (List ℕ)) (k : List ℕ) (d : Data) (ms : Members) → list_any (bytes_eq k) known ≡ true → first_unknown known (keys_of (put_member k d ms)) ≡ first_unknown known (keys_of ms)
put_known known k d no_members is = rw is refl
put_known known k d (member l e ms) is = keys_by (slice_cmp nat_cmp k l) known k l d e ms is (put_known known k d ms is)
