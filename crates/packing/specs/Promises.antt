-- What is shown of the packing; proofs/Promises.antt proves each under its name in small letters.
use Rattle.std.specs.Prelude.{true, List, ◌≡◌, ℕ}
use Rattle.states.specs.States.{record_ok, state_ok, page_ok}
use Rattle.states.specs.declared.Record.{Record}
use Rattle.states.specs.declared.State.{State}
use Rattle.packing.specs.Packing.{packed, page_in, unpack_of}

-- ---- packing and unpacking are inverse on the states and page data that some record makes valid
pub record Valid (s : State) (page : List ℕ) : Type 0 where
  pub rec : Record
  pub right : record_ok rec ≡ true
  pub valid : state_ok rec s ≡ true
  pub fits : page_ok rec.model s page ≡ true

abbrev pub UnpacksPacked : Type 0
UnpacksPacked = (s : State) (page : List ℕ) → Valid s page → (unpack_of (packed s page) ≡ s) × (page_in (packed s page) ≡ page)

abbrev pub PacksUnpacked : Type 0
PacksUnpacked = (xs : List ℕ) → Valid (unpack_of xs) (page_in xs) → packed (unpack_of xs) (page_in xs) ≡ xs
