-- `wear_rows::put_sector` meets its contract.
use mathlib.Core.Path.{◌∙◌, ap}
use mathlib.Core.List.{append_assoc}
use native.Mathlib.Omega.{arith}
use Rattle.text.proofs.PutLaws.{put_as, put_then}
use Rattle.wear_rows.specs.WearSheet.{sector_text, bar_text, right_text}
use Rattle.wear_rows.proofs.Laws.{bars, sector-joined}
use Rattle.wear_rows.proofs.put_sector.Goals as goal

pub put_bar-requires : goal.put_bar-requires
put_bar-requires c = let b = bars c.args.largest c.args.count c.requires.0 in omega (arith, c.marks_of.ensures, b.short, c.requires.1)

pub byte-requires : goal.byte-requires
byte-requires c = let b = bars c.args.largest c.args.count c.requires.0 in omega (arith, c.marks_of.ensures, b.short, c.requires.1)

pub returns-clause-put : goal.returns-clause-put
returns-clause-put c =
    let a = c.args in
    let sector = put_as c.put_right.ensures.put (ap (right_text 6) c.from.ensures) in
    let count = put_as c.put_right-2.ensures.put (ap (right_text 12) c.from-2.ensures) in
    let bar = put_as c.put_bar.ensures.put (ap bar_text c.marks_of.ensures) in
    put_as (put_then (put_then (put_then sector count) bar) c.byte.ensures.put) (sector-joined a.largest a.sector a.count)

pub returns-clause-most : goal.returns-clause-most
returns-clause-most c = let b = bars c.args.largest c.args.count c.requires.0 in omega (arith, c.marks_of.ensures, b.short, c.byte.ensures.put.next)
