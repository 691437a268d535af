-- `rewrite_blocks::rewrite_lines` meets its contract: the lines up to `at` are done (`Going`), and each turn does one more.
use Rattle.std.proofs.Common.{◌≡◌, ◌-◌, length, take, drop}
use Rattle.rewrite_blocks.specs.Blocks.{passage}
use Rattle.rewrite_blocks.proofs.Passages.{Going}
use Rattle.rewrite_blocks.proofs.rewrite_lines.Given as goal

abbrev pub invariant-loop-end : goal.invariant-loop-end
invariant-loop-end l =
    (length l.bytes ≡ length l.initial.bytes)
    × (length l.sheet.out.now ≡ length l.fn.report)
    × Going (passage l.long l.first (take l.held l.initial.bytes) (drop l.held l.initial.bytes)) l.initial.bytes l.fn.report l.bytes l.sheet.out.now l.at l.number l.rest l.sheet.at l.end
    × (l.sheet.out.ghost_name ≡ l.initial.sheet.out.ghost_name)

abbrev pub decreases-loop-end : goal.decreases-loop-end
decreases-loop-end l = length l.initial.bytes - l.end
