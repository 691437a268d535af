-- `counts::at_top` meets its contract. The invariant: what was found, and what the counts still to come say.
use mathlib.Core.Path.{◌≡◌, sym, ap, ◌∙◌}
use mathlib.Core.Bool.{Bool, ◌||◌, or-false, or_assoc}
use mathlib.Core.List.{List}
use Prim.Native.Nat.{ℕ, suc, ◌+◌, ◌<◌}
use native.Mathlib.Omega.{arith}
use lib.Dec.{leb}
use lib.ListN.{length, get_or, drop, drop_of_length-le}
use lib.Seq.{drop-cons}
use borrow.Author.Rules.{rules}
use Rattle.counts.specs.Counts.{top_count, at_top}
use Rattle.counts.proofs.at_top.Goals as goal

-- one count more
more : (counts : List ℕ) (i : ℕ) (top : Bool) {whole : Bool} → i < length counts → (top || at_top (drop i counts)) ≡ whole
    → ((top || leb top_count (get_or counts i 0)) || at_top (drop (i + 1) counts)) ≡ whole
more counts i top l e =
    let next : i + 1 ≡ suc i = omega arith in
    rw next (or_assoc top (leb top_count (get_or counts i 0)) (at_top (drop (suc i) counts)) ∙ sym (ap (λ d. top || at_top d) (drop-cons counts i 0 l)) ∙ e)

pub loop-count-preserved : goal.loop-count-preserved
loop-count-preserved c =
    let h = c.loop-count in
    let s = c.args in
    (omega arith, search rules, more s.counts.now h.count-index h.top (omega arith) h.invariant.2)

pub returns : goal.returns
returns c =
    let h = c.loop-count in
    let s = c.args in
    sym (or-false h.top) ∙ sym (ap (λ d. h.top || at_top d) (drop_of_length-le s.counts.now {i = h.count-index} (omega arith))) ∙ h.invariant.2
