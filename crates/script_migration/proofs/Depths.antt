-- How deep items and members nest, one more at a time.
use Rattle.std.proofs.Common.{◌≡◌, ◌+◌, ◌<◌, ◌≤◌, ℕ, List, [], ◌∷◌, ◌++◌, length, get_or, take, max, arith}
use Rattle.std.proofs.lemmas.List.{take_more}
use Rattle.toml.specs.Data.{Data, Items, no_items, item, push_item, depth, items_depth, members_depth}
use Rattle.toml.specs.View.{view, items_view, members_view}
use Rattle.toml.specs.declared.value.Value.{Value}
use Rattle.toml.proofs.Views.{Entry, items_view-push}

both : (a b n : ℕ) → a ≤ n → b ≤ n → max a b ≤ n
both a b n first second = omega (arith, first, second)

first_of : (a b n : ℕ) → max a b ≤ n → a ≤ n
first_of a b n h = omega (arith, h)

rest_of : (a b n : ℕ) → max a b ≤ n → b ≤ n
rest_of a b n h = omega (arith, h)

pushed : (ds : Items) (e : Data) (n : ℕ) → items_depth ds ≤ n → depth e ≤ n → items_depth (push_item ds e) ≤ n
pushed no_items e n so_far here = both (depth e) 0 n here (omega arith)
pushed (item d ds) e n so_far here =
    both (depth d) (items_depth (push_item ds e)) n (first_of (depth d) (items_depth ds) n so_far) (pushed ds e n (rest_of (depth d) (items_depth ds) n so_far) here)

pub items_more : (vs : List Value) (i n : ℕ) (v : Value) → i < length vs → v ≡ get_or vs i v → items_depth (items_view (take i vs)) ≤ n → depth (view v) ≤ n → items_depth (items_view (take (i + 1) vs)) ≤ n
items_more vs i n v less at so_far here =
    rw (take_more vs i v less, ← at, items_view-push (take i vs) v) (pushed (items_view (take i vs)) (view v) n so_far here)

pub members_more : (done : List Entry) (e : Entry) (n : ℕ) → members_depth (members_view done) ≤ n → depth (view e.1) ≤ n → members_depth (members_view (done ++ e ∷ [])) ≤ n
members_more [] e n so_far here = both (depth (view e.1)) 0 n here (omega arith)
members_more (x ∷ done) e n so_far here =
    both (depth (view x.1)) (members_depth (members_view (done ++ e ∷ []))) n (first_of (depth (view x.1)) (members_depth (members_view done)) n so_far)
    (members_more done e n (rest_of (depth (view x.1)) (members_depth (members_view done)) n so_far) here)
