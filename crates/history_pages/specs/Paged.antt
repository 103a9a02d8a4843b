-- Values in pages, each of which is full before the next one begins.
use Rattle.std.specs.Prelude.{◌≡◌, ℕ, ◌+◌, ◌*◌, ◌^◌, ◌<◌, ◌≤◌, List, [], ◌++◌, length, refl}
use Rattle.std.specs.Coded.{Coded, code_by, coded×, coded_ℕ, coded_list}
use Rattle.std.specs.List.{All, flat_map}
use Rattle.std.specs.Vec.{vec_capacity, vec_len}
use Rattle.std.specs.declared.vec.Vec.{Vec}

-- the values in order, and how many there is room for
pub record PagedData (T : Type 0) : Type 0 where
  pub items : List T
  pub room : ℕ

abbrev pub paged_code : {T : Type 0} → Coded T → Coded (PagedData T)
paged_code {T} code =
    code_by (List T × ℕ) (coded× (coded_list code) coded_ℕ) (λ p. (p.items, p.room)) (λ p. record { items = p.0; room = p.1 }) (λ _. refl)

-- with more values at the end
abbrev pub with_items : {T : Type 0} → PagedData T → List T → PagedData T
with_items paged more = record { items = paged.items ++ more; room = paged.room }

module _ {T Z : Type 0} where
  -- an empty page, with that much room
  pub record IsFresh (room : ℕ) (page : Vec T Z) : Type 0 where
    pub empty : page.items ≡ []
    pub wide : room ≤ vec_capacity page

  -- the full pages, the one being filled, and those to come, each with room for that many values
  abbrev pub data_of : ℕ → Vec (Vec T Z) Z → Vec T Z → Vec (Vec T Z) Z → PagedData T
  data_of page full last spare = record {
    items = flat_map (λ v. v.items) full.items ++ last.items;
    room = vec_len full * page + page + vec_len spare * page;
  }

  pub record IsPaged (page : ℕ) (full : Vec (Vec T Z) Z) (last : Vec T Z) (spare : Vec (Vec T Z) Z) : Type 0 where
    pub some : 0 < page
    pub few : vec_len full * page + page + vec_len spare * page < 2 ^ 64
    pub filled : All (λ (v : Vec T Z). length v.items ≡ page) full.items
    pub within : vec_len last ≤ page
    pub wide : page ≤ vec_capacity last
    pub fresh : All (IsFresh page) spare.items
    pub room : vec_len full + vec_len spare ≤ vec_capacity full
