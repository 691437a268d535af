-- `wear_rows::put_sheet` meets its contract.
use mathlib.Core.Path.{sym, ap, ◌∙◌}
use Prim.Native.Nat.{◌+◌, ◌≤◌}
use native.Mathlib.Omega.{arith}
use lib.ListN.{length}
use borrow.Author.Tests.{leb-true}
use Rattle.std.proofs.Common.{rules}
use Rattle.script_log.proofs.Laws.{rowed-yes}
use Rattle.counts.specs.declared.Figures.{Figures}
use Rattle.counts.proofs.Laws.{sectors-range}
use Rattle.wear_rows.specs.WearSheet.{heading_text, sheet_room}
use Rattle.wear_rows.proofs.Laws.{no-sheet, said_yes, said_no, put-lent, whole-sheet}
use Rattle.wear_rows.proofs.put_sheet.Goals as goal

pub returns-in_default : goal.returns-in_default
returns-in_default c = let a = c.args in no-sheet a.wear.now a.out.now a.at (said_no a.wear.now c.in_default.ensures)

pub returns-then-not-is_sectors : goal.returns-then-not-is_sectors
returns-then-not-is_sectors c = let a = c.args in no-sheet a.wear.now a.out.now a.at (sym c.is_sectors.ensures ∙ c.if-not-is_sectors.true)

pub fits-requires : goal.fits-requires
fits-requires c = (sectors-range (length c.args.wear.now) (sym c.is_sectors.ensures ∙ c.if-not-is_sectors.false)).1

pub put_sectors-requires : goal.put_sectors-requires
put_sectors-requires c =
    let a = c.args in
    let said = said_yes a.wear.now c.in-Ok.ensures in
    let room : a.at + sheet_room (length a.wear.now) ≤ length a.out.now = leb-true _ _ (sym c.fits.ensures ∙ c.if-not-fits.false) in
    let n = sectors-range (length a.wear.now) said.0 in
    let s = c.new-sheet.ensures in
    (ap (λ (z : Figures). z.largest) said.1, n.1, omega (arith, c.text.ensures.put.next, c.text.ensures.same_length, ap length s.holds, s.place))

pub returns : goal.returns
unfolding heading_text
returns c =
    let said = said_yes c.args.wear.now c.in-Ok.ensures in
    let h = c.new-sheet.ensures in
    rowed-yes _ _ _ _ _ _ (sym c.fits.ensures ∙ c.if-not-fits.false)
    (put-lent (whole-sheet c.args.wear.now said.0 said.1 c.text.ensures.put c.put_sectors.ensures.put c.put_sums.ensures.put c.put_mean.ensures.put)
    h.holds h.place (search rules) c.end.ensures)
