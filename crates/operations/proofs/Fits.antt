-- The units of an address of the array lie in it.
use Rattle.std.specs.Prelude.{Option}
use mathlib.Core.Path.{◌≡◌, sym, ap, ◌∙◌}
use mathlib.Core.Bool.{true}
use lib.Dec.{ltb}
use borrow.Author.Tests.{ltb-true}
use Rattle.commands.specs.declared.Operation.{Operation}
use Rattle.states.specs.States.{place_ok}
use mathlib.Core.List.{List}
use Prim.Native.Nat.{ℕ, ◌+◌, ◌≤◌, ◌<◌}
use native.Mathlib.Omega.{arith}
use lib.ListN.{length}
use Rattle.units.specs.declared.Address.{Address}
use Rattle.units.specs.Kinds.{sector_of, half_block_of, block_of, page_start, sector_start, half_block_start, block_start}
use Rattle.models.specs.Models.{model_of}
use Rattle.models.proofs.Rules.{row-rules, units-inside}

-- what a fitting address of such an operation shows
pub inside : (n : ℕ) (op : Option Operation) (place : ℕ) (cells : List ℕ) {known : Option Operation} → known ≡ op → place_ok n known place ≡ true → length cells ≡ (model_of n).length
    → place_ok n op place ≡ ltb place (model_of n).length → place < length cells
inside n op place cells e p l f =
    let t : ltb place (model_of n).length ≡ true = sym f ∙ sym (ap (λ (o : Option Operation). place_ok n o place) e) ∙ p in
    omega (arith, ltb-true place (model_of n).length t)

module _ (n : ℕ) (cells : List ℕ) (at : Address) (h : at.0 < length cells) (e : length cells ≡ (model_of n).length) where
  below : at.0 < (model_of n).length
  below = omega arith

  pub page-fits : page_start at + 256 ≤ length cells
  page-fits = omega (arith, (units-inside n at below).page)

  pub sector-fits : (sector_start (sector_of at) < 4294967296) × (sector_start (sector_of at) + 4096 ≤ length cells)
  sector-fits = (omega (arith, (row-rules n).reach), omega (arith, (units-inside n at below).sector))

  pub half-block-fits : (half_block_start (half_block_of at) < 4294967296) × (half_block_start (half_block_of at) + 32768 ≤ length cells)
  half-block-fits = (omega (arith, (row-rules n).reach), omega (arith, (units-inside n at below).half-block))

  pub block-fits : (block_start (block_of at) < 4294967296) × (block_start (block_of at) + 65536 ≤ length cells)
  block-fits = (omega (arith, (row-rules n).reach), omega (arith, (units-inside n at below).block))
