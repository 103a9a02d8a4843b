-- What a store becomes while a part of it is lent.
use Rattle.std.specs.Prelude.{◌≡◌, List, Result}
use Rattle.std.specs.Borrow.{Fml, MutBor, RestsIfErr}
use Rattle.persist_store.specs.Stores.{PersData}
use Rattle.persist_store.specs.contracts.store.Store.{the_row}
use Rattle.persist_store.specs.declared.part.Part.{Part}

-- the part holds the borrow; after an error the store is unchanged
abbrev pub rests_if_refused : {E : Type 0} → MutBor (List PersData) → Result Part E → Fml
rests_if_refused s r = RestsIfErr the_row s (λ part. part.store.ghost_name) r (λ last. last ≡ s.now)
