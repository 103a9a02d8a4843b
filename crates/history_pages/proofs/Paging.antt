-- Where a value is in pages.
use Rattle.std.proofs.Common.{◌≡◌, ℕ, zero, suc, ◌+◌, ◌*◌, ◌/◌, ◌%◌, ◌<◌, ◌≤◌, ◌^◌, List, [], ◌∷◌, ◌++◌, length, get_or, slice_get, Some, refl, sym, ap, subst, ◌∙◌, arith, zero-add, append_assoc}
use Rattle.std.proofs.Math.Nat.{suc-mul, zero-mul}
use Rattle.std.proofs.lemmas.List.{append-nil, get_or-append-add, get_or_append_left, get_or_push, length-append}
use Rattle.std.proofs.lemmas.List.Concat.{flat_map-append}
use Rattle.std.proofs.lemmas.List.Elements.{All-head, All-push, All-tail}
use Rattle.std.proofs.lemmas.Nat.{div_below}
use Rattle.std.proofs.lemmas.Option.{slice_get-get_or}
use Rattle.std.specs.List.{All, flat_map}
use Rattle.std.specs.Vec.{vec_capacity, vec_len}
use Rattle.std.specs.declared.vec.Vec.{Vec}
use Rattle.history_pages.specs.Paged.{IsFresh, IsPaged, PagedData, data_of}

-- that many full pages hold that many values
pub length-pages : {X A : Type 0} (f : X → List A) (page : ℕ) (xs : List X) → All (λ x. length (f x) ≡ page) xs → length (flat_map f xs) ≡ length xs * page
length-pages f page [] all = sym (zero-mul page)
length-pages f page (x ∷ xs) all =
    let one : length (f x) ≡ page = All-head (λ x. length (f x) ≡ page) x xs all in
    let rest : length (flat_map f xs) ≡ length xs * page = length-pages f page xs (All-tail (λ x. length (f x) ≡ page) x xs all) in
    let both : length (f x ++ flat_map f xs) ≡ length (f x) + length (flat_map f xs) = length-append (f x) (flat_map f xs) in
    let more : suc (length xs) * page ≡ length xs * page + page = suc-mul (length xs) page in
    omega arith

-- a value of a full page
pub in_full_page : {X A : Type 0} (f : X → List A) (page : ℕ) (xs : List X) (ys : List A) (q r : ℕ) (e : X) (d : A)
    → All (λ x. length (f x) ≡ page) xs → q < length xs → r < page → get_or (flat_map f xs ++ ys) (q * page + r) d ≡ get_or (f (get_or xs q e)) r d
in_full_page f page [] ys q r e d all there within = absurd (omega arith)
in_full_page f page (x ∷ xs) ys zero r e d all there within =
    let one : length (f x) ≡ page = All-head (λ x. length (f x) ≡ page) x xs all in
    let at : 0 * page + r ≡ r = rw (zero-mul page) (zero-add r) in
    rw (at, append_assoc) (get_or_append_left (f x) (flat_map f xs ++ ys) d r (omega arith))
in_full_page f page (x ∷ xs) ys (suc q) r e d all there within =
    let one : length (f x) ≡ page = All-head (λ x. length (f x) ≡ page) x xs all in
    let more : suc q * page ≡ q * page + page = suc-mul q page in
    let at : suc q * page + r ≡ length (f x) + (q * page + r) = omega arith in
    let rest : get_or (flat_map f xs ++ ys) (q * page + r) d ≡ get_or (f (get_or xs q e)) r d =
    in_full_page f page xs ys q r e d (All-tail (λ x. length (f x) ≡ page) x xs all) (omega arith) within
    in
    rw (at, append_assoc) (get_or-append-add (f x) (flat_map f xs ++ ys) (q * page + r) d ∙ rest)

-- a value of the page after the full ones
pub in_last_page : {X A : Type 0} (f : X → List A) (page : ℕ) (xs : List X) (ys : List A) (q r : ℕ) (d : A)
    → All (λ x. length (f x) ≡ page) xs → q ≡ length xs → get_or (flat_map f xs ++ ys) (q * page + r) d ≡ get_or ys r d
in_last_page f page xs ys q r d all is =
    let many : length (flat_map f xs) ≡ length xs * page = length-pages f page xs all in
    let at : q * page + r ≡ length (flat_map f xs) + r = ap (λ n. n * page + r) is ∙ ap (λ n. n + r) (sym many) in
    rw at (get_or-append-add (flat_map f xs) ys r d)

-- the page that is now full joins the others
pub turned : {X A : Type 0} (f : X → List A) (xs : List X) (x : X) (next : List A) → next ≡ [] → flat_map f (xs ++ x ∷ []) ++ next ≡ flat_map f xs ++ f x
turned f xs x next is = rw (is, append-nil, flat_map-append, append-nil) refl

-- an index that is past the full pages is on the last one
past_full : (index full last page : ℕ) → 0 < page → index < full * page + last → last ≤ page → full ≤ index / page → (index / page ≡ full) × (index % page < last)
past_full index full last page some within most past =
    let more : suc full * page ≡ full * page + page = suc-mul full page in
    let below : index / page < suc full = div_below index page (suc full) some (omega arith) in
    let same : index / page ≡ full = omega arith in
    let product : index / page * page ≡ full * page = ap (λ n. n * page) same in
    let parts : index / page * page + index % page ≡ index = omega arith in
    (same, omega arith)

module _ {T Z : Type 0} where
  pub length-data : (page : ℕ) (full : Vec (Vec T Z) Z) (last : Vec T Z) (spare : Vec (Vec T Z) Z) → IsPaged page full last spare → length (data_of page full last spare).items ≡ vec_len full * page + vec_len last
  length-data page full last spare paged =
      let both : length (flat_map (λ (v : Vec T Z). v.items) full.items ++ last.items) ≡ length (flat_map (λ (v : Vec T Z). v.items) full.items) + length last.items =
      length-append (flat_map (λ (v : Vec T Z). v.items) full.items) last.items
      in
      let pages : length (flat_map (λ (v : Vec T Z). v.items) full.items) ≡ length full.items * page = length-pages (λ (v : Vec T Z). v.items) page full.items paged.filled in
      let count : vec_len full * page ≡ length full.items * page = ap (λ n. n * page) full.ok.0 in
      let own : vec_len last ≡ length last.items = last.ok.0 in
      omega arith

  pub at_full : (page : ℕ) (full : Vec (Vec T Z) Z) (last : Vec T Z) (spare : Vec (Vec T Z) Z) (index : ℕ) (v : Vec T Z) (x : T)
      → IsPaged page full last spare → index < length (data_of page full last spare).items → index / page < vec_len full → v ≡ get_or full.items (index / page) v
      → x ≡ get_or v.items (index % page) x → slice_get (data_of page full last spare).items index ≡ Some x
  at_full page full last spare index v x paged within below page_is is =
      let some : 0 < page = paged.some in
      let there : vec_len full ≡ length full.items = full.ok.0 in
      let parts : index / page * page + index % page ≡ index = omega arith in
      let all = flat_map (λ (w : Vec T Z). w.items) full.items ++ last.items in
      let read : get_or all (index / page * page + index % page) x ≡ get_or (get_or full.items (index / page) v).items (index % page) x =
      in_full_page (λ (w : Vec T Z). w.items) page full.items last.items (index / page) (index % page) v x paged.filled (omega arith) (omega arith)
      in
      slice_get-get_or all index x within
      ∙ ap Some (ap (λ n. get_or all n x) (sym parts) ∙ read ∙ ap (λ (w : Vec T Z). get_or w.items (index % page) x) (sym page_is) ∙ sym is)

  pub at_last : (page : ℕ) (full : Vec (Vec T Z) Z) (last : Vec T Z) (spare : Vec (Vec T Z) Z) (index : ℕ) (x : T)
      → IsPaged page full last spare → index < length (data_of page full last spare).items → vec_len full ≤ index / page
      → x ≡ get_or last.items (index % page) x → slice_get (data_of page full last spare).items index ≡ Some x
  at_last page full last spare index x paged within past is =
      let some : 0 < page = paged.some in
      let long : length (data_of page full last spare).items ≡ vec_len full * page + vec_len last = length-data page full last spare paged in
      let there : vec_len full ≡ length full.items = full.ok.0 in
      let parts : index / page * page + index % page ≡ index = omega arith in
      let own : index / page ≡ vec_len full = (past_full index (vec_len full) (vec_len last) page some (omega arith) paged.within past).0 in
      let all = flat_map (λ (w : Vec T Z). w.items) full.items ++ last.items in
      let read : get_or all (index / page * page + index % page) x ≡ get_or last.items (index % page) x =
      in_last_page (λ (w : Vec T Z). w.items) page full.items last.items (index / page) (index % page) x paged.filled (own ∙ there)
      in
      slice_get-get_or all index x within ∙ ap Some (ap (λ n. get_or all n x) (sym parts) ∙ read ∙ sym is)

  pub last_within : (page : ℕ) (full : Vec (Vec T Z) Z) (last : Vec T Z) (spare : Vec (Vec T Z) Z) (index : ℕ)
      → IsPaged page full last spare → index < length (data_of page full last spare).items → vec_len full ≤ index / page → index % page < vec_len last
  last_within page full last spare index paged within past =
      let long : length (data_of page full last spare).items ≡ vec_len full * page + vec_len last = length-data page full last spare paged in
      (past_full index (vec_len full) (vec_len last) page paged.some (omega arith) paged.within past).1

  -- the next page is begun
  pub record IsTurned (page : ℕ) (full full' : Vec (Vec T Z) Z) (last next : Vec T Z) (spare spare' : Vec (Vec T Z) Z) : Type 0 where
    pub pages : IsPaged page full' next spare'
    pub same : data_of page full' next spare' ≡ data_of page full last spare
    pub room : vec_len next < page

  pub turns : (page : ℕ) (full full' : Vec (Vec T Z) Z) (last next : Vec T Z) (spare spare' : Vec (Vec T Z) Z)
      → IsPaged page full last spare → page ≤ vec_len last → spare.items ≡ spare'.items ++ next ∷ [] → vec_len spare' + 1 ≡ vec_len spare
      → full'.items ≡ full.items ++ last ∷ [] → vec_len full' ≡ vec_len full + 1 → vec_capacity full' ≡ vec_capacity full → IsTurned page full full' last next spare spare'
  turns page full full' last next spare spare' paged done taken left pushed longer wide =
      let left_is : vec_len spare' ≡ length spare'.items = spare'.ok.0 in
      let count : length spare.items ≡ length spare'.items + 1 = ap length taken ∙ length-append spare'.items (next ∷ []) in
      let is_next : get_or spare.items (length spare'.items) next ≡ next =
      ap (λ vs. get_or vs (length spare'.items) next) taken ∙ get_or_push spare'.items next next (length spare'.items) refl
      in
      let fresh : IsFresh page next = subst (IsFresh page) is_next (paged.fresh (length spare'.items) next (omega arith)) in
      let empty : length next.items ≡ 0 = ap length fresh.empty in
      let none : vec_len next ≡ length next.items = next.ok.0 in
      let some : 0 < page = paged.some in
      let last_long : length last.items ≡ page = let own : vec_len last ≡ length last.items = last.ok.0 in let most : vec_len last ≤ page = paged.within in omega arith in
      let one_more : vec_len full' * page ≡ vec_len full * page + page = ap (λ n. n * page) longer ∙ (let next_count : vec_len full + 1 ≡ suc (vec_len full) = omega arith in ap (λ n. n * page) next_count ∙ suc-mul (vec_len full) page) in
      let one_less : vec_len spare * page ≡ vec_len spare' * page + page = ap (λ n. n * page) (sym left) ∙ (let next_count : vec_len spare' + 1 ≡ suc (vec_len spare') = omega arith in ap (λ n. n * page) next_count ∙ suc-mul (vec_len spare') page) in
      let rooms : vec_len full' * page + page + vec_len spare' * page ≡ vec_len full * page + page + vec_len spare * page = omega arith in
      let items : flat_map (λ (v : Vec T Z). v.items) full'.items ++ next.items ≡ flat_map (λ (v : Vec T Z). v.items) full.items ++ last.items =
      ap (λ vs. flat_map (λ (v : Vec T Z). v.items) vs ++ next.items) pushed ∙ turned (λ (v : Vec T Z). v.items) full.items last next.items fresh.empty
      in
      let few : vec_len full * page + page + vec_len spare * page < 2 ^ 64 = paged.few in
      let fits : vec_len full + vec_len spare ≤ vec_capacity full = paged.room in
      record {
        pages = record {
          some = some;
          few = subst (λ n. n < 2 ^ 64) (sym rooms) few;
          filled = subst (All (λ (v : Vec T Z). length v.items ≡ page)) (sym pushed) (All-push (λ (v : Vec T Z). length v.items ≡ page) full.items last paged.filled last_long);
          within = omega arith;
          wide = fresh.wide;
          fresh = λ k d below. subst (IsFresh page) (ap (λ vs. get_or vs k d) taken ∙ get_or_append_left spare'.items (next ∷ []) d k below) (paged.fresh k d (omega arith));
          room = omega arith;
        };
        same = ap (λ xs. let made : PagedData T = record { items = xs; room = vec_len full' * page + page + vec_len spare' * page } in made) items
            ∙ ap (λ n. let made : PagedData T = record { items = flat_map (λ (v : Vec T Z). v.items) full.items ++ last.items; room = n } in made) rooms;
        room = omega arith;
      }

  -- where no page is to come, there is room on the last one
  pub none_to_come : (page : ℕ) (full : Vec (Vec T Z) Z) (last : Vec T Z) (spare : Vec (Vec T Z) Z)
      → IsPaged page full last spare → vec_len spare ≡ 0 → length (data_of page full last spare).items < (data_of page full last spare).room → vec_len last < page
  none_to_come page full last spare paged none room =
      let long : length (data_of page full last spare).items ≡ vec_len full * page + vec_len last = length-data page full last spare paged in
      let nothing : vec_len spare * page ≡ 0 = ap (λ n. n * page) none ∙ zero-mul page in
      omega arith
