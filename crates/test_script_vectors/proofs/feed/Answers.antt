-- `test_script_vectors::feed` is safe and ends: each cut ends past where it began.
use Rattle.std.proofs.Common.{◌<◌, ◌≤◌, length, sym, ◌∙◌, arith}
use Rattle.lines.proofs.Says.{here_in, joined_in}
use Rattle.test_script_vectors.proofs.feed.Given.{Over}
use Rattle.test_script_vectors.proofs.feed.Goals as goal

-- the newline of a line that lies in the block
here : (g : Over) (c : goal.In-Here g) → (c.loop-at.at ≤ c.in-Here.end) × (c.in-Here.end < length c.args.block.now)
here g c = here_in _ _ _ _ _ (sym c.cut_line.ensures.is ∙ c.in-Here.is)

pub slice_bounds-line_done-count : goal.slice_bounds-line_done-count
slice_bounds-line_done-count g c = (here g c).0

pub slice_bounds-line_done-start : goal.slice_bounds-line_done-start
slice_bounds-line_done-start g c = (here g c).0

pub slice_bounds-line_done-end : goal.slice_bounds-line_done-end
slice_bounds-line_done-end g c = let h = (here g c).1 in omega arith

pub loop-at-smaller-in-Here : goal.loop-at-smaller-in-Here
loop-at-smaller-in-Here g c =
    let h = here_in _ _ _ _ _ (sym c.cut_line.ensures.is ∙ c.in-Here.is) in
    omega arith

pub overflow_add-at-in-Joined : goal.overflow_add-at-in-Joined
overflow_add-at-in-Joined g c =
    let h = joined_in _ _ _ _ _ _ (sym c.cut_line.ensures.is ∙ c.in-Joined.is) in
    omega arith

pub loop-at-smaller-in-Joined : goal.loop-at-smaller-in-Joined
loop-at-smaller-in-Joined g c =
    let h = joined_in _ _ _ _ _ _ (sym c.cut_line.ensures.is ∙ c.in-Joined.is) in
    omega arith
