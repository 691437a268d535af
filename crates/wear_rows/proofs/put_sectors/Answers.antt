-- `wear_rows::put_sectors` meets its contract.
use mathlib.Core.Path.{refl, ◌∙◌}
use native.Mathlib.Omega.{arith}
use Rattle.wear_rows.proofs.Listed.{at_most, listed-none, listed_more, listed-all}
use Rattle.wear_rows.proofs.put_sectors.Goals as goal

pub loop-k-init : goal.loop-k-init
loop-k-init c = let a = c.args in let s = a.sheet.now in (refl, refl, listed-none a.largest a.wear.now s.out.now s.at (omega arith))

pub put_sector-requires : goal.put_sector-requires
put_sector-requires c =
    let a = c.args in
    let h = c.loop-k in
    let m = at_most a.wear.now h.k (omega arith) in
    (omega (arith, m, c.requires.0), omega (arith, h.invariant.1, h.invariant.2.most, c.requires.2))

pub loop-k-preserved : goal.loop-k-preserved
loop-k-preserved c =
    let h = c.loop-k.invariant in
    let p = c.put_sector.ensures in
    (p.same_buffer ∙ h.0, p.same_length ∙ h.1, listed_more h.2 (omega arith) p.put p.most)

pub returns-clause-put : goal.returns-clause-put
returns-clause-put c = listed-all c.loop-k.invariant.2 (omega arith)

pub returns-clause-most : goal.returns-clause-most
returns-clause-most c = let h = c.loop-k.invariant in omega (arith, h.2.most)
