-- Every history leaves a valid state, so the listed calls win back every chip.
use mathlib.Core.Path.{◌≡◌, refl, ap, ◌∙◌}
use mathlib.Core.Bool.{true}
use mathlib.Core.List.{List, [], ◌∷◌}
use lib.ListN.{length}
use Rattle.models.specs.Models.{model_of}
use Rattle.states.specs.States.{record_ok, Chip}
use Rattle.states.specs.declared.Record.{Record}
use Rattle.states.proofs.States.{valid}
use Rattle.calls.specs.Calls.{Call, cuts, ours, after, run, Bench}
use Rattle.recovery.specs.Histories.{Lent, lend, factory, history, on_one, ValidHistories, SameLength, AnyHistory, AfterCut, RunsAreHistories}
use Rattle.calls.proofs.Valid.{Fine, power-on-fine, call-fine, call_length}
use Rattle.calls.proofs.Steps.{after_any}
use Rattle.recovery.proofs.Recovery.{wins-back}
use Prim.Native.Nat.{ℕ}

history-fine : (rec : Record) (past : List Lent) (x : Chip) → Fine rec x.state x.page → Fine rec (history rec past x).state (history rec past x).page
history-fine rec [] x p = p
history-fine rec (l ∷ ls) x p =
    let y : Chip = lend x l.cells in
    history-fine rec ls (after ours rec [] l.call y) (call-fine rec [] l.call y p)

from-factory : (rec : Record) (past : List Lent) → Fine rec (history rec past (factory [])).state (history rec past (factory [])).page
from-factory rec past = history-fine rec past (factory []) (power-on-fine rec)

pub valid-histories : ValidHistories
valid-histories rec past = let k = from-factory rec past in (valid rec _ k.sound, k.page-data)

-- a chip from the factory is on the bench, with any array of the right length
pub fresh-bench : (rec : Record) (cells : List ℕ) → record_ok rec ≡ true → length cells ≡ (model_of rec.model).length → Bench rec (factory cells)
fresh-bench rec cells e l = let k = valid-histories rec [] in record { right = e; whole = l; valid = k.0; page = k.1 }

pub any-history : AnyHistory
any-history rec past cells j e l f =
    let k = valid-histories rec past in
    wins-back rec j (lend (history rec past (factory [])) cells) (record { right = e; whole = l; valid = k.0; page = k.1 }) f

pub after-cut : AfterCut
after-cut rec past cells pattern j e l f =
    let x : Chip = lend (history rec past (factory [])) cells in
    let k = call-fine rec [] (cuts pattern) x (from-factory rec past) in
    wins-back rec j (after ours rec [] (cuts pattern) x) (record { right = e; whole = call_length rec [] (cuts pattern) x ∙ l; valid = valid rec _ k.sound; page = k.page-data }) f

pub same_length : SameLength
same_length rec c x = call_length rec [] c x

-- our model does not look at the calls seen
run-any : (rec : Record) (seen calls : List Call) (x : Chip) → run ours rec seen calls x ≡ history rec (on_one rec calls x) x
run-any rec seen [] x = refl
run-any rec seen (c ∷ cs) x = ap (run ours rec (c ∷ seen) cs) (after_any rec seen c x) ∙ run-any rec (c ∷ seen) cs (after ours rec [] c x)

pub runs-are-histories : RunsAreHistories
runs-are-histories rec calls x = run-any rec [] calls x
