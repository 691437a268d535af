-- A valid state is a packing's, and fits sixteen bytes.
use Rattle.std.specs.Prelude.{Option, Some, None}
use mathlib.Core.Path.{◌≡◌, refl, sym, ◌∙◌}
use mathlib.Core.Bool.{Bool, true, false, ◌&&◌, true≢false}
use mathlib.Core.List.{List}
use mathlib.Core.Logic.{⊎_elim}
use Prim.Native.Nat.{ℕ, ◌^◌, ◌<◌}
use native.Mathlib.Omega.{arith}
use lib.Dec.{eqb, ltb}
use borrow.Author.Tests.{eqb-true, ltb-true}
use Rattle.units.proofs.Bools.{both, either}
use Rattle.models.specs.Models.{model_of}
use Rattle.models.proofs.Rules.{highest-bp, row-rules}
use Rattle.commands.specs.Commands.{started_by}
use Rattle.commands.specs.declared.Operation.{Operation}
use Rattle.commands.specs.declared.Operation.TheVariants.{WritesStatus, Programs, ErasesSector, ErasesHalf, ErasesBlock, ErasesChip}
use Rattle.states.specs.States.{record_ok, place_ok, no_address, state_ok}
use Rattle.states.specs.declared.Record.{Record}
use Rattle.states.specs.declared.State.{State}
use Rattle.states.proofs.States.{sound, busy-le, longest-in-range, busy-le-all, settle-le-all}
use Rattle.packing.specs.Packing.{is_packing, no_state, unpack_of}
use Rattle.packing.proofs.Packing.{Small, unpack-none}

nothing-valid : (rec : Record) → state_ok rec no_state ≡ true → ⊥
nothing-valid rec e = omega (arith, (sound rec no_state e).level, highest-bp rec.model)

pub valid-packing : (rec : Record) (xs : List ℕ) → state_ok rec (unpack_of xs) ≡ true → is_packing xs ≡ true
valid-packing rec xs v = go (is_packing xs) refl
  where
    go : (b : Bool) → is_packing xs ≡ b → is_packing xs ≡ true
    go true e = e
    go false e = absurd (nothing-valid rec (rw (unpack-none xs e) at v))

pub invalid : (rec : Record) (xs : List ℕ) → is_packing xs ≡ false → state_ok rec (unpack_of xs) ≡ false
invalid rec xs n = go (state_ok rec (unpack_of xs)) refl
  where
    go : (b : Bool) → state_ok rec (unpack_of xs) ≡ b → state_ok rec (unpack_of xs) ≡ false
    go true e = absurd (true≢false (sym (valid-packing rec xs e) ∙ n))
    go false e = e

-- an address that fits its operation, or what stands in its place
near-below : (n place : ℕ) → ltb place (model_of n).length ≡ true → place < 2 ^ 24
near-below n place e = omega (arith, ltb-true place (model_of n).length e, (row-rules n).reach)

pub place-near : (n : ℕ) (op : Option Operation) (place : ℕ) → place_ok n op place ≡ true → place < 2 ^ 24
place-near n None place e = omega (arith, eqb-true place no_address e)
place-near n (Some WritesStatus) place e =
    ⊎_elim (λ h. omega (arith, eqb-true place 1 h)) (λ h. omega (arith, eqb-true place 2 (both (model_of n).register (eqb place 2) h).1)) (either (eqb place 1) ((model_of n).register && eqb place 2) e)
place-near n (Some Programs) place e = near-below n place e
place-near n (Some ErasesSector) place e = near-below n place e
place-near n (Some ErasesHalf) place e = near-below n place e
place-near n (Some ErasesBlock) place e = near-below n place e
place-near n (Some ErasesChip) place e = omega (arith, eqb-true place no_address e)

pub valid-small : (rec : Record) (s : State) → record_ok rec ≡ true → state_ok rec s ≡ true → Small s
valid-small rec s r v =
    let p = sound rec s v in
    record {
      level = omega (arith, p.level, highest-bp rec.model);
      short = omega (arith, busy-le rec s p, busy-le-all rec, (longest-in-range rec r).short);
      brief = omega (arith, p.settle, settle-le-all rec, (longest-in-range rec r).short);
      near = ⊎_elim (λ q. omega (arith, q.address)) (λ q. place-near rec.model (started_by rec.model s.command) s.address q.place) p.mood;
    }
