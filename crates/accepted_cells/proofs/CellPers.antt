-- The numbers of persistents that a cell gives its trees: each is that of a persistent of the row's type and length.
use Rattle.std.proofs.Common.{◌≡◌, ℕ, zero, suc, ◌+◌, Bool, true, false, not, ◌&&◌, nat_le, List, [], ◌∷◌, ◌++◌, length, set, Option, Some, None, slice_get, Ok, refl, sym, ap, subst, ◌∙◌, if◌then◌else◌, append_assoc}
use Rattle.std.proofs.lemmas.Bool.{and_parts}
use Rattle.std.proofs.lemmas.List.{append-nil}
use Rattle.std.proofs.lemmas.Option.{slice_get_within}
use Rattle.rapid_model.specs.Sorts.{width}
use Rattle.rapid_model.specs.declared.pers_value.PersValue.{PersValue}
use Rattle.rapid_model.specs.declared.script_rule.ScriptRule.TheVariants.{Kind, Range, Twice}
use Rattle.rapid_model.proofs.Lists.{between}
use Rattle.typed_trees.specs.Plain.{TypedPers, TypedTree}
use Rattle.rule_checks.specs.Checks.{must}
use Rattle.rule_checks.proofs.Steps.{behind, ok_same}
use Rattle.data_scopes.proofs.Keeping.{set_same}
use Rattle.named_data.specs.Wants.{same_sort}
use Rattle.cell_assembly.specs.Cells.{Making, Numbered, PersInfo, PersTables, added, all_pers, at_value, element, fits_index, global_number, global_pers, is_script_value, is_given, join, joined, new_pers, one_pers, same_len, give, give_all, give_global, give_to, trees_pers, with_declared, with_list, with_given}
use Rattle.cell_assembly.proofs.SoundInfo.{same_len_is, same_sort_is}
use Rattle.name_laws.specs.Declared.{AreEach}
use Rattle.name_laws.proofs.Items.{front_append}

-- a persistent keeps its type and its length
pub record IsKept (qs : List PersInfo) (k : ℕ) (p : PersInfo) : Type 0 where
  pub q : PersInfo
  pub is : slice_get qs k ≡ Some q
  pub same_sort : q.sort ≡ p.sort
  pub same_length : q.len ≡ p.len

abbrev pub Keeps : List PersInfo → List PersInfo → Type 0
Keeps ps qs = (k : ℕ) (p : PersInfo) → slice_get ps k ≡ Some p → IsKept qs k p

keeps_same : (ps : List PersInfo) → Keeps ps ps
keeps_same ps k p is = record { q = p; is = is; same_sort = refl; same_length = refl }

keeps_then : (ps qs rs : List PersInfo) → Keeps ps qs → Keeps qs rs → Keeps ps rs
keeps_then ps qs rs a b k p is =
    let one = a k p is in
    let two = b k one.q one.is in
    record { q = two.q; is = two.is; same_sort = two.same_sort ∙ one.same_sort; same_length = two.same_length ∙ one.same_length }

keeps_append : (ps : List PersInfo) (p : PersInfo) → Keeps ps (ps ++ p ∷ [])
keeps_append ps p k x is = record { q = x; is = front_append ps (p ∷ []) k x is; same_sort = refl; same_length = refl }

keeps_set : (ps : List PersInfo) (n : ℕ) (p new : PersInfo) → slice_get ps n ≡ Some p → new.sort ≡ p.sort → new.len ≡ p.len → Keeps ps (set ps n new)
keeps_set [] n p new there sort len k x is = absurd cc
keeps_set (y ∷ ys) zero p new there sort len zero x is =
    let same : p ≡ x = let e : Some p ≡ Some x = sym there ∙ is in cc in
    record { q = new; is = refl; same_sort = sort ∙ ap (λ z. z.sort) same; same_length = len ∙ ap (λ z. z.len) same }
keeps_set (y ∷ ys) zero p new there sort len (suc k) x is = record { q = x; is = is; same_sort = refl; same_length = refl }
keeps_set (y ∷ ys) (suc n) p new there sort len zero x is = record { q = x; is = is; same_sort = refl; same_length = refl }
keeps_set (y ∷ ys) (suc n) p new there sort len (suc k) x is =
    let kept = keeps_set ys n p new there sort len k x is in record { q = kept.q; is = kept.is; same_sort = kept.same_sort; same_length = kept.same_length }

-- the persistent of this number has the row's type and length
pub record IsOf (ps : List PersInfo) (row : TypedPers) (number : ℕ) : Type 0 where
  pub p : PersInfo
  pub is : slice_get ps number ≡ Some p
  pub same_sort : p.sort ≡ row.sort
  pub same_length : p.len ≡ row.len

of_later : (ps qs : List PersInfo) (row : TypedPers) (number : ℕ) → Keeps ps qs → IsOf ps row number → IsOf qs row number
of_later ps qs row number keeps h =
    let kept = keeps number h.p h.is in record { p = kept.q; is = kept.is; same_sort = kept.same_sort ∙ h.same_sort; same_length = kept.same_length ∙ h.same_length }

all_later : (ps qs : List PersInfo) (rows : List TypedPers) (numbers : List ℕ) → Keeps ps qs → AreEach (IsOf ps) rows numbers → AreEach (IsOf qs) rows numbers
all_later ps qs [] [] keeps h = tt
all_later ps qs [] (n ∷ ns) keeps h = absurd h
all_later ps qs (row ∷ rows) [] keeps h = absurd h
all_later ps qs (row ∷ rows) (n ∷ ns) keeps h = (of_later ps qs row n keeps h.0, all_later ps qs rows ns keeps h.1)

-- one more PERS of a tree
record Stepped (n : Numbered) (row : TypedPers) (m : Numbered) : Type 0 where
  pub keeps : Keeps n.pers m.pers
  pub number : ℕ
  pub numbers : m.numbers ≡ n.numbers ++ number ∷ []
  pub of : IsOf m.pers row number

added_step : (n : Numbered) (p : PersInfo) (row : TypedPers) → p.sort ≡ row.sort → p.len ≡ row.len → Stepped n row (added n p)
added_step n p row sort len = record {
  keeps = keeps_append n.pers p;
  number = length n.pers;
  numbers = refl;
  of = record { p = p; is = between n.pers [] p; same_sort = sort; same_length = len };
}

joined_step : (n : Numbered) (number : ℕ) (p : PersInfo) (row : TypedPers) → slice_get n.pers number ≡ Some p → p.sort ≡ row.sort → p.len ≡ row.len → Stepped n row (joined n number (with_declared p row))
joined_step n number p row there sort len = record {
  keeps = keeps_set n.pers number p (with_declared p row) there refl refl;
  number = number;
  numbers = refl;
  of = record { p = with_declared p row; is = set_same n.pers number (with_declared p row) (slice_get_within n.pers number p there); same_sort = sort; same_length = len };
}

-- the result if a test holds
held : {A : Type 0} (b : Bool) (x y : A) (broken : Making A) → (if b then Ok x else broken) ≡ Ok y → ((z : A) → broken ≡ Ok z → ⊥) → (b ≡ true) × (x ≡ y)
held true x y broken e never = (refl, ok_same x y e)
held false x y broken e never = absurd (never y e)

join_step : (n : Numbered) (task : ℕ) (row : TypedPers) (number : ℕ) (found : Option PersInfo) (m : Numbered) → slice_get n.pers number ≡ found → join n task row number found ≡ Ok m → Stepped n row m
join_step n task row number None m there e = subst (Stepped n row) (ok_same (added n (new_pers None row)) m e) (added_step n (new_pers None row) row refl refl)
join_step n task row number (Some p) m there e =
    let both = held (same_sort p.sort row.sort && same_len p.len row.len) (joined n number (with_declared p row)) m _ e (λ z err. cc) in
    let parts = and_parts (same_sort p.sort row.sort) (same_len p.len row.len) both.0 in
    subst (Stepped n row) both.1 (joined_step n number p row there (same_sort_is p.sort row.sort parts.0) (same_len_is p.len row.len parts.1))

global_step : (n : Numbered) (task : ℕ) (row : TypedPers) (number : Option ℕ) (m : Numbered) → global_pers n task row number ≡ Ok m → Stepped n row m
global_step n task row None m e = subst (Stepped n row) (ok_same (added n (new_pers None row)) m e) (added_step n (new_pers None row) row refl refl)
global_step n task row (Some number) m e = join_step n task row number (slice_get n.pers number) m refl e

pers_by : (own : Bool) (n : Numbered) (task : ℕ) (row : TypedPers) (m : Numbered) → (if own then Ok (added n (new_pers (Some task) row)) else global_pers n task row (global_number row.name n.pers)) ≡ Ok m → Stepped n row m
pers_by true n task row m e = subst (Stepped n row) (ok_same (added n (new_pers (Some task) row)) m e) (added_step n (new_pers (Some task) row) row refl refl)
pers_by false n task row m e = global_step n task row (global_number row.name n.pers) m e

-- the PERSs of a tree
record Walked (n : Numbered) (rows : List TypedPers) (m : Numbered) : Type 0 where
  pub keeps : Keeps n.pers m.pers
  pub more : List ℕ
  pub numbers : m.numbers ≡ n.numbers ++ more
  pub each : AreEach (IsOf m.pers) rows more

rows_walked : (n : Numbered) (task : ℕ) (rows : List TypedPers) (m : Numbered) → all_pers n task rows ≡ Ok m → Walked n rows m
rows_walked n task [] m e = subst (Walked n []) (ok_same n m e) (record { keeps = keeps_same n.pers; more = []; numbers = sym (append-nil n.numbers); each = tt })
rows_walked n task (row ∷ rows) m e =
    behind (Walked n (row ∷ rows) m) m (one_pers n task row) _ e (λ u first rest.
    let one = pers_by row.own n task row u first in
    let others = rows_walked u task rows m rest in
    record {
      keeps = keeps_then n.pers u.pers m.pers one.keeps others.keeps;
      more = one.number ∷ others.more;
      numbers = others.numbers ∙ ap (λ l. l ++ others.more) one.numbers ∙ append_assoc n.numbers (one.number ∷ []) others.more;
      each = (of_later u.pers m.pers row one.number others.keeps one.of, others.each);
    })

-- a tree with the numbers of its PERSs
abbrev pub TreeOf : List PersInfo → TypedTree → List ℕ → Type 0
TreeOf ps tree numbers = AreEach (IsOf ps) tree.pers numbers

trees_later : (ps qs : List PersInfo) (trees : List TypedTree) (lists : List (List ℕ)) → Keeps ps qs → AreEach (TreeOf ps) trees lists → AreEach (TreeOf qs) trees lists
trees_later ps qs [] [] keeps h = tt
trees_later ps qs [] (l ∷ ls) keeps h = absurd h
trees_later ps qs (tree ∷ trees) [] keeps h = absurd h
trees_later ps qs (tree ∷ trees) (l ∷ ls) keeps h = (all_later ps qs tree.pers l keeps h.0, trees_later ps qs trees ls keeps h.1)

record TreesWalked (t : PersTables) (trees : List TypedTree) (u : PersTables) : Type 0 where
  pub keeps : Keeps t.pers u.pers
  pub more : List (List ℕ)
  pub lists : u.lists ≡ t.lists ++ more
  pub each : AreEach (TreeOf u.pers) trees more

trees_walked : (t : PersTables) (task : ℕ) (trees : List TypedTree) (u : PersTables) → trees_pers t task trees ≡ Ok u → TreesWalked t trees u
trees_walked t task [] u e = subst (TreesWalked t []) (ok_same t u e) (record { keeps = keeps_same t.pers; more = []; lists = sym (append-nil t.lists); each = tt })
trees_walked t task (tree ∷ trees) u e =
    behind (TreesWalked t (tree ∷ trees) u) u (all_pers (record { pers = t.pers; numbers = [] }) task tree.pers) _ e (λ n first rest.
    let one = rows_walked (record { pers = t.pers; numbers = [] }) task tree.pers n first in
    let others = trees_walked (with_list t n) (task + 1) trees u rest in
    record {
      keeps = keeps_then t.pers n.pers u.pers one.keeps others.keeps;
      more = n.numbers ∷ others.more;
      lists = others.lists ∙ append_assoc t.lists (n.numbers ∷ []) others.more;
      each = (all_later n.pers u.pers tree.pers n.numbers others.keeps (subst (AreEach (IsOf n.pers) tree.pers) (sym one.numbers) one.each), others.each);
    })

-- the script's values change no type and no length
give_keeps : (ps qs : List PersInfo) (number : ℕ) (row : PersValue) (k : ℕ) (found : Option PersInfo) → slice_get ps k ≡ found → give_to ps number row k found ≡ Ok qs → Keeps ps qs
give_keeps ps qs number row k None there e = absurd cc
give_keeps ps qs number row k (Some p) there e =
    let index = element row.index in
    let P : Type 0 = (k : ℕ) (p : PersInfo) → slice_get ps k ≡ Some p → IsKept qs k p in
    behind P qs (must (is_script_value p.sort row.value && fits_index p.len row.index) (at_value number Kind)) _ e (λ u suits rest.
    behind P qs (must (nat_le (index + 1) (width p.len)) (at_value number Range)) _ rest (λ v within more.
    behind P qs (must (not (is_given (slice_get p.given index))) (at_value number Twice)) _ more (λ w not_given done.
    subst (Keeps ps) (ok_same (set ps k (with_given p index row.value)) qs done) (keeps_set ps k p (with_given p index row.value) there refl refl))))

global_keeps : (ps qs : List PersInfo) (number : ℕ) (row : PersValue) (k : Option ℕ) → give_global ps number row k ≡ Ok qs → Keeps ps qs
global_keeps ps qs number row None e = absurd cc
global_keeps ps qs number row (Some k) e = give_keeps ps qs number row k (slice_get ps k) refl e

given_keep : (ps : List PersInfo) (number : ℕ) (rows : List PersValue) (qs : List PersInfo) → give_all ps number rows ≡ Ok qs → Keeps ps qs
given_keep ps number [] qs e = subst (Keeps ps) (ok_same ps qs e) (keeps_same ps)
given_keep ps number (row ∷ rows) qs e =
    let P : Type 0 = (k : ℕ) (p : PersInfo) → slice_get ps k ≡ Some p → IsKept qs k p in
    behind P qs (give ps number row) _ e (λ us first rest. keeps_then ps us qs (global_keeps ps us number row (global_number row.name ps) first) (given_keep us (number + 1) rows qs rest))

-- in the cell
pub pers_numbered : (trees : List TypedTree) (t : PersTables) (rows : List PersValue) (qs : List PersInfo) → trees_pers (record { pers = []; lists = [] }) 0 trees ≡ Ok t → give_all t.pers 0 rows ≡ Ok qs → AreEach (TreeOf qs) trees t.lists
pers_numbered trees t rows qs walked given =
    let h = trees_walked (record { pers = []; lists = [] }) 0 trees t walked in
    trees_later t.pers qs trees t.lists (given_keep t.pers 0 rows qs given) (subst (AreEach (TreeOf t.pers) trees) (sym h.lists) h.each)
