-- `rewrite_blocks::block_fits` meets its contract.
use Rattle.std.proofs.Common.{◌+◌, ◌-◌, ◌<◌, ◌≤◌, arith, le-leb}
use borrow.Author.Tests.{lt-leb}
use Rattle.rewrite_blocks.specs.Blocks.{block_fits}
use Rattle.rewrite_blocks.proofs.block_fits.Goals as goal

pub returns-then-run : goal.returns-then-run
unfolding block_fits
returns-then-run c = rw (lt-leb _ _ c.if-run.true)

pub returns-then-out-run : goal.returns-then-out-run
unfolding block_fits
returns-then-out-run c = rw (le-leb _ _ c.if-run.false, lt-leb _ _ c.if-out-run.true)

pub returns-then-out-held : goal.returns-then-out-held
unfolding block_fits
returns-then-out-held c =
    let a = c.args in
    let l : a.out < a.run.end - a.run.at + a.n = omega arith in
    rw (le-leb _ _ c.if-run.false, le-leb _ _ c.if-out-run.false, lt-leb _ _ l)

pub returns : goal.returns
unfolding block_fits
returns c =
    let a = c.args in
    let l : a.run.end - a.run.at + a.n ≤ a.out = omega arith in
    rw (le-leb _ _ c.if-run.false, le-leb _ _ c.if-out-run.false, le-leb _ _ l)
