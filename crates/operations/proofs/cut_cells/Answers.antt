-- `operations::cut_cells` meets its contract: the unit of a fitting address lies in the array, and the pattern has its length.
use mathlib.Core.Path.{◌≡◌, refl, ap, ◌∙◌}
use native.Mathlib.Omega.{arith}
use lib.ListN.{length}
use Rattle.std.specs.Prelude.{Option, Some}
use Rattle.units.specs.declared.Sector.{Sector}
use Rattle.units.specs.declared.HalfBlock.{HalfBlock}
use Rattle.units.specs.declared.Block.{Block}
use Rattle.units.specs.Kinds.{sector_start, half_block_start, block_start}
use Rattle.commands.specs.declared.Operation.{Operation}
use Rattle.commands.specs.declared.Operation.TheVariants.{Programs, ErasesSector, ErasesHalf, ErasesBlock}
use Rattle.operations.specs.Operations.{pattern_length}
use Rattle.operations.proofs.Fits.{inside, page-fits, sector-fits, half-block-fits, block-fits}
use Rattle.operations.proofs.cut_cells.Goals as goal

pub tear_page-requires : goal.tear_page-requires
tear_page-requires c =
    let a = c.args in
    let k = c.in-Some-Programs in
    let e : a.op ≡ Some Programs = k.is ∙ ap Some (rw k.is at k.field-0-is) in
    (page-fits a.model a.array.now a.at (inside a.model (Some Programs) a.at.0 a.array.now e c.requires.1 c.requires.0 refl) c.requires.0, c.requires.2, c.requires.3 ∙ ap (λ (op : Option Operation). pattern_length op a.at.0 (length a.array.now)) e)

pub leave-requires : goal.leave-requires
leave-requires c =
    let a = c.args in
    let k = c.in-Some-ErasesSector in
    let e : a.op ≡ Some ErasesSector = k.is ∙ ap Some (rw k.is at k.field-0-is) in
    let n = c.requires.3 ∙ ap (λ (op : Option Operation). pattern_length op a.at.0 (length a.array.now)) e in
    let f = c.first_address.ensures ∙ ap (λ (v : Sector). sector_start v) c.in_sector.ensures in
    omega (arith, n, f, (sector-fits a.model a.array.now a.at (inside a.model (Some ErasesSector) a.at.0 a.array.now e c.requires.1 c.requires.0 refl) c.requires.0).1)

pub leave-requires-in-Some-ErasesHalf : goal.leave-requires-in-Some-ErasesHalf
leave-requires-in-Some-ErasesHalf c =
    let a = c.args in
    let k = c.in-Some-ErasesHalf in
    let e : a.op ≡ Some ErasesHalf = k.is ∙ ap Some (rw k.is at k.field-0-is) in
    let n = c.requires.3 ∙ ap (λ (op : Option Operation). pattern_length op a.at.0 (length a.array.now)) e in
    let f = c.first_address-in-Some-ErasesHalf.ensures ∙ ap (λ (v : HalfBlock). half_block_start v) c.in_half_block.ensures in
    omega (arith, n, f, (half-block-fits a.model a.array.now a.at (inside a.model (Some ErasesHalf) a.at.0 a.array.now e c.requires.1 c.requires.0 refl) c.requires.0).1)

pub leave-requires-in-Some-ErasesBlock : goal.leave-requires-in-Some-ErasesBlock
leave-requires-in-Some-ErasesBlock c =
    let a = c.args in
    let k = c.in-Some-ErasesBlock in
    let e : a.op ≡ Some ErasesBlock = k.is ∙ ap Some (rw k.is at k.field-0-is) in
    let n = c.requires.3 ∙ ap (λ (op : Option Operation). pattern_length op a.at.0 (length a.array.now)) e in
    let f = c.first_address-in-Some-ErasesBlock.ensures ∙ ap (λ (v : Block). block_start v) c.in_block.ensures in
    omega (arith, n, f, (block-fits a.model a.array.now a.at (inside a.model (Some ErasesBlock) a.at.0 a.array.now e c.requires.1 c.requires.0 refl) c.requires.0).1)
