-- `flash::page_view` meets its contract: an array of a model's length is whole pages.
use mathlib.Core.Path.{◌≡◌, sym, ◌∙◌}
use mathlib.Core.Bool.{true}
use native.Mathlib.Nat.{mod-lt}
use native.Mathlib.Omega.{arith}
use lib.ListN.{length}
use Rattle.models.specs.Models.{is_length}
use Rattle.flash.proofs.View.{Pages, length-pages, page-inside, page-is, no-page}
use Rattle.flash.proofs.page_view.Goals as goal
use Rattle.flash.proofs.page_view.Goals.{Then-is_length}

-- in the branch taken the length is some model's
model : (c : Then-is_length) → is_length (length c.args.array.now) ≡ true
model c = sym c.is_length.ensures ∙ c.if-is_length.true

whole : (c : Then-is_length) → Pages (length c.args.array.now)
whole c = length-pages _ (model c)

pub slice_bounds-result-end : goal.slice_bounds-result-end
slice_bounds-result-end c =
    let w = whole (goal.at.slice_bounds-result-end c).Then-is_length in
    omega (arith, c.page_start-start.ensures, page-inside _ _ w (mod-lt c.args.a.0 w.some))

pub returns-then-is_length : goal.returns-then-is_length
returns-then-is_length c = page-is _ _ _ (model (goal.at.returns-then-is_length c).Then-is_length) c.page_start-start.ensures

pub returns : goal.returns
returns c = no-page _ _ (sym c.is_length.ensures ∙ c.if-is_length.false)

pub nonzero_rem-here : goal.nonzero_rem-here
nonzero_rem-here c =
    (whole (goal.at.nonzero_rem-here c).Then-is_length).some

pub overflow_cast-here : goal.overflow_cast-here
overflow_cast-here c =
    record { fits = (whole (goal.at.overflow_cast-here c).Then-is_length).fits }
