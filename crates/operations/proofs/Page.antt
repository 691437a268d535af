-- A page program, from the data bytes that were sent to the cells when its time has run out.
use mathlib.Core.Path.{◌≡◌, sym, ap, ◌∙◌}
use mathlib.Core.List.{List}
use Prim.Native.Nat.{ℕ, ◌+◌, ◌≤◌, ◌<◌}
use native.Mathlib.Omega.{arith}
use lib.Bits.{bit_and}
use lib.ListN.{length, get_or, length-replicate, get_or-replicate}
use Rattle.units.specs.declared.Address.{Address}
use Rattle.units.specs.Kinds.{page_start, page_offset}
use Rattle.parts.specs.Parts.{Bytes, part, lay}
use Rattle.parts.proofs.Bytes.{bytes-replicate}
use Rattle.parts.proofs.Lay.{lay-in-lay, lay-part}
use Rattle.cells.proofs.Cell.{ff-and}
use Rattle.fold.specs.Fold.{counts, cell_after, page_after}
use Rattle.fold.proofs.Counts.{sent-counts, counts-byte}
use Rattle.fold.proofs.Fold.{length-page_after, page_after-at, bytes-page_after, fresh-page}
use Rattle.flash.specs.Arrays.{programmed}
use Rattle.flash.proofs.Arrays.{page-folds, programmed-fresh}
use Rattle.states.specs.States.{blank_page}
use Rattle.operations.specs.Operations.{page_address}

-- the folded bytes that end within a fresh page lie there as they were sent
pub page-laid : (cells : List ℕ) (at : Address) (sent : List ℕ) → page_start at + 256 ≤ length cells → part cells (page_start at) 256 ≡ blank_page
    → page_offset at + length sent ≤ 256 → Bytes sent → programmed cells (page_address at) (page_after (page_offset at) sent blank_page) ≡ lay cells at.0 sent
page-laid cells at sent h e l b =
    let start = page_start at in
    let o = page_offset at in
    let page = page_after o sent blank_page in
    let n : length page ≡ 256 = length-page_after o sent blank_page in
    let s : page_start (page_address at) ≡ start = omega arith in
    programmed-fresh cells (page_address at) page (omega arith) (ap (λ (k : ℕ). part cells k 256) s ∙ e) (omega arith) (bytes-page_after o sent (bytes-replicate 256 0xFF (omega arith)))
    ∙ ap (lay cells start) (fresh-page o sent l b)
    ∙ ap (λ (z : List ℕ). lay cells start (lay z o sent)) (sym e)
    ∙ sym (lay-in-lay cells start (part cells start 256) o sent (omega arith) (omega (arith, ap length e)))
    ∙ ap (λ (z : List ℕ). lay z (start + o) sent) (lay-part cells start 256 h)
    ∙ ap (λ (k : ℕ). lay cells k sent) {x = start + o} {y = at.0} (omega arith)

-- what was folded into the page data does to each cell of the page what the bytes that were sent do
pub page-done : (cells : List ℕ) (at : Address) (sent : List ℕ) (k : ℕ) → page_start at + 256 ≤ length cells → Bytes sent → k < 256
    → get_or (programmed cells (page_address at) (page_after (page_offset at) sent blank_page)) (page_start at + k) 0 ≡ cell_after (page_offset at) sent k (get_or cells (page_start at + k) 0)
unfolding cell_after
page-done cells at sent k h b l =
    let o = page_offset at in
    let page = page_after o sent blank_page in
    let old = get_or cells (page_start at + k) 0 in
    let n : length page ≡ 256 = length-page_after o sent blank_page in
    let s : page_start (page_address at) ≡ page_start at = omega arith in
    let z : page_offset (page_address at) ≡ 0 = omega arith in
    let folded : get_or page k 0 ≡ counts o sent (length sent) k =
    page_after-at o sent blank_page k (omega (arith, length-replicate {A = ℕ} 256 0xFF)) ∙ rw (get_or-replicate {A = ℕ} 256 k 0xFF 0 l) (ff-and (counts o sent (length sent) k) (counts-byte o (length sent) k b))
    in
    ap (λ (i : ℕ). get_or (programmed cells (page_address at) page) (i + k) 0) (sym s)
    ∙ page-folds cells (page_address at) page k (omega arith) l
    ∙ ap (λ (i : ℕ). cell_after (page_offset (page_address at)) page k (get_or cells (i + k) 0)) s
    ∙ ap (λ (i : ℕ). cell_after i page k old) z
    ∙ sent-counts 0 page k k old (omega arith) (omega arith) (omega arith)
    ∙ ap (bit_and old) folded
