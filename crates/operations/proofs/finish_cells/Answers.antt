-- `operations::finish_cells` meets its contract: the unit of a fitting address lies in the array.
use mathlib.Core.Path.{refl, sym, ap, ◌∙◌}
use native.Mathlib.Omega.{arith}
use Rattle.std.specs.Prelude.{Option, Some}
use Rattle.units.specs.declared.Sector.{Sector}
use Rattle.units.specs.declared.HalfBlock.{HalfBlock}
use Rattle.units.specs.declared.Block.{Block}
use Rattle.flash.specs.Arrays.{sector_erased, half_block_erased, block_erased}
use Rattle.commands.specs.declared.Operation.{Operation}
use Rattle.commands.specs.declared.Operation.TheVariants.{Programs, ErasesSector, ErasesHalf, ErasesBlock}
use Rattle.operations.specs.Operations.{finished_cells}
use Rattle.operations.proofs.Fits.{inside, page-fits, sector-fits, half-block-fits, block-fits}
use Rattle.operations.proofs.finish_cells.Goals as goal

pub program-requires : goal.program-requires
program-requires c =
    let a = c.args in
    let k = c.in-Some-Programs in
    omega (arith, c.page_start.ensures, page-fits a.model a.array.now a.at (inside a.model (Some Programs) a.at.0 a.array.now (k.is ∙ ap Some (rw k.is at k.field-0-is)) c.requires.1 c.requires.0 refl) c.requires.0)

pub erase-requires : goal.erase-requires
erase-requires c =
    let a = c.args in
    let k = c.in-Some-ErasesSector in
    rw c.in_sector.ensures (sector-fits a.model a.array.now a.at (inside a.model (Some ErasesSector) a.at.0 a.array.now (k.is ∙ ap Some (rw k.is at k.field-0-is)) c.requires.1 c.requires.0 refl) c.requires.0)

pub erase-requires-in-Some-ErasesHalf : goal.erase-requires-in-Some-ErasesHalf
erase-requires-in-Some-ErasesHalf c =
    let a = c.args in
    let k = c.in-Some-ErasesHalf in
    rw c.in_half_block.ensures (half-block-fits a.model a.array.now a.at (inside a.model (Some ErasesHalf) a.at.0 a.array.now (k.is ∙ ap Some (rw k.is at k.field-0-is)) c.requires.1 c.requires.0 refl) c.requires.0)

pub erase-requires-in-Some-ErasesBlock : goal.erase-requires-in-Some-ErasesBlock
erase-requires-in-Some-ErasesBlock c =
    let a = c.args in
    let k = c.in-Some-ErasesBlock in
    rw c.in_block.ensures (block-fits a.model a.array.now a.at (inside a.model (Some ErasesBlock) a.at.0 a.array.now (k.is ∙ ap Some (rw k.is at k.field-0-is)) c.requires.1 c.requires.0 refl) c.requires.0)

pub returns-in-Some-ErasesSector : goal.returns-in-Some-ErasesSector
unfolding sector_erased
returns-in-Some-ErasesSector c =
    let a = c.args in
    let k = c.in-Some-ErasesSector in
    c.erase.ensures
    ∙ ap (λ (u : Sector). sector_erased a.array.now u) c.in_sector.ensures
    ∙ sym (ap (λ (op : Option Operation). finished_cells op a.at a.page.now a.array.now) (k.is ∙ ap Some (rw k.is at k.field-0-is)))

pub returns-in-Some-ErasesHalf : goal.returns-in-Some-ErasesHalf
unfolding half_block_erased
returns-in-Some-ErasesHalf c =
    let a = c.args in
    let k = c.in-Some-ErasesHalf in
    c.erase-in-Some-ErasesHalf.ensures
    ∙ ap (λ (u : HalfBlock). half_block_erased a.array.now u) c.in_half_block.ensures
    ∙ sym (ap (λ (op : Option Operation). finished_cells op a.at a.page.now a.array.now) (k.is ∙ ap Some (rw k.is at k.field-0-is)))

pub returns-in-Some-ErasesBlock : goal.returns-in-Some-ErasesBlock
unfolding block_erased
returns-in-Some-ErasesBlock c =
    let a = c.args in
    let k = c.in-Some-ErasesBlock in
    c.erase-in-Some-ErasesBlock.ensures
    ∙ ap (λ (u : Block). block_erased a.array.now u) c.in_block.ensures
    ∙ sym (ap (λ (op : Option Operation). finished_cells op a.at a.page.now a.array.now) (k.is ∙ ap Some (rw k.is at k.field-0-is)))
