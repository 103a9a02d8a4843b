-- The unknown keys of a table.
use Rattle.std.proofs.Common.{◌≡◌, ℕ, Bool, List, [], ◌∷◌, map, Option, Some, if◌then◌else◌, String, Global, string_bytes, Bor, refl, sym, ap, ◌∙◌}
use Rattle.std.specs.Prelude.{bytes_eq}
use Rattle.std.specs.List.{list_any}
use Rattle.toml.specs.View.{members_view}
use Rattle.toml.specs.declared.value.Value.{Value}
use Rattle.cell_script.specs.Break.{Read}
use Rattle.cell_script.specs.Keys.{Keys, keys_of, first_unknown, none_unknown, only_keys}
use Rattle.cell_script.proofs.Named.{list_any-map}

pub keys_of-view : (entries : List (String Global × Value)) → map string_bytes (map (λ e. e.0) entries) ≡ keys_of (members_view entries)
keys_of-view [] = refl
keys_of-view (e ∷ entries) = ap (λ keys. string_bytes e.0 ∷ keys) (keys_of-view entries)

-- one more key
pub unknown_more : (known : List (Bor (List ℕ))) (text : List ℕ) (rest : List (String Global)) (left : List (String Global)) (first : String Global) (found : Bool)
    → left ≡ first ∷ rest → text ≡ string_bytes first → found ≡ list_any (λ word. bytes_eq text word.now) known
    → first_unknown (map (λ word. word.now) known) (map string_bytes left) ≡ (if found then first_unknown (map (λ word. word.now) known) (map string_bytes rest) else Some text)
unknown_more known text rest left first found is same test =
    let knows : list_any (bytes_eq text) (map (λ word. word.now) known) ≡ found = list_any-map (bytes_eq text) (λ word. word.now) known ∙ sym test in
    rw (is, ← same) (ap (λ f. if f then first_unknown (map (λ word. word.now) known) (map string_bytes rest) else Some text) knows)

pub only_by : {A : Type 0} (keys : Keys) (known : List (List ℕ)) (next : Read A) (unknown : Option (List ℕ)) → first_unknown known (keys_of keys.members) ≡ unknown → only_keys keys known next ≡ none_unknown keys unknown next
only_by keys known next unknown e = ap (λ u. none_unknown keys u next) e
