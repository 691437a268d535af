-- The row of a line that was played.
use mathlib.Core.Path.{◌≡◌, refl, sym, ap, subst, ◌∙◌}
use mathlib.Core.Bool.{Bool, true}
use mathlib.Core.List.{List}
use Prim.Native.Nat.{ℕ, ◌+◌, ◌-◌, ◌≤◌}
use native.Mathlib.Omega.{arith}
use lib.Dec.{leb}
use lib.ListN.{length, take, drop, replicate, length-take, length-drop}
use borrow.Author.Tests.{le-leb}
use Rattle.parts.specs.Parts.{part}
use Rattle.answers.specs.Answers.{number_of}
use Rattle.states.specs.declared.Record.{Record}
use Rattle.states.specs.States.{Chip}
use Rattle.text.specs.Put.{Put}
use Rattle.script_log.specs.Row.{log_text, room_of, Rowed, longest_row}
use Rattle.script_log.proofs.Laws.{row-most}
use Rattle.play.specs.declared.Bench.{Bench}
use Rattle.play.specs.declared.Played.{Played}
use Rattle.play.specs.Play.{Turn, Plays}
use Rattle.play.proofs.Laws.{played-within}
use Rattle.stepper.specs.Rows.{line_turn, row_text, Logs, OneLogs}

pub row-logs : (rec : Record) (strict : Bool) (x : Chip) (wear : List ℕ) (number : ℕ) (line d : List ℕ) (at : ℕ) {r : Played} {to : ℕ} {b : Bench} {os e : List ℕ} → at + longest_row ≤ length d
    → Plays (line_turn rec strict x wear line) r b os → length os ≡ 300
    → Rowed (room_of (length (take (r.from + r.count - r.from) (drop r.from os)))) (log_text number (number_of r.answer) r.from (take (r.from + r.count - r.from) (drop r.from os)) r.fold) d at e to
    → Logs rec strict x wear number line d at to b e
unfolding row_text
row-logs rec strict x wear number line d at {r} {to} {b} {os} {e} room p l w =
    record {
      row = subst (λ (z : List ℕ). Put z d at e to) text put;
      most = omega (arith, put.next, few, long);
      state = p.state;
      page' = p.page;
      cells' = p.cells;
      wear' = p.wear;
    }
  where
    shown : List ℕ
    shown = take (r.from + r.count - r.from) (drop r.from os)

    within : r.from + r.count ≤ 300
    within = played-within rec strict x wear (replicate 300 0) line p.played

    long : length shown ≤ 300
    long = omega (arith, length-take (r.from + r.count - r.from) (drop r.from os), length-drop r.from os)

    few : length (log_text number (number_of r.answer) r.from shown r.fold) ≤ room_of (length shown)
    few = row-most number (number_of r.answer) r.from shown r.fold

    fits : leb (at + room_of (length shown)) (length d) ≡ true
    fits = le-leb (at + room_of (length shown)) (length d) (omega (arith, long))

    put : Put (log_text number (number_of r.answer) r.from shown r.fold) d at e to
    put =
        record {
          room = omega (arith, few, long);
          is = w.is ∙ rw fits;
          next = w.next ∙ rw fits;
        }

    text : log_text number (number_of r.answer) r.from shown r.fold ≡ log_text number (number_of (line_turn rec strict x wear line).played.answer) (line_turn rec strict x wear line).played.from (part (line_turn rec strict x wear line).shown (line_turn rec strict x wear line).played.from (line_turn rec strict x wear line).played.count) (line_turn rec strict x wear line).played.fold
    text =
        let k : r.from + r.count - r.from ≡ r.count = omega arith in
        ap (λ (n : ℕ). log_text number (number_of r.answer) r.from (take n (drop r.from os)) r.fold) k
        ∙ ap (λ (z : List ℕ). log_text number (number_of r.answer) r.from (part z r.from r.count) r.fold) p.shown
        ∙ ap (λ (q : Played). log_text number (number_of q.answer) q.from (part (line_turn rec strict x wear line).shown q.from q.count) q.fold) p.played

-- no row of a line is longer than `longest_row`
pub row-short : (rec : Record) (strict : Bool) (x : Chip) (wear : List ℕ) (number : ℕ) (line : List ℕ) → length (row_text rec strict x wear number line) ≤ longest_row
unfolding row_text
row-short rec strict x wear number line =
    let t : Turn = line_turn rec strict x wear line in
    let within : t.played.from + t.played.count ≤ 300 = played-within rec strict x wear (replicate 300 0) line refl in
    let few = row-most number (number_of t.played.answer) t.played.from (part t.shown t.played.from t.played.count) t.played.fold in
    let long : length (part t.shown t.played.from t.played.count) ≤ t.played.count = omega (arith, length-take t.played.count (drop t.played.from t.shown)) in
    omega (arith, few, long, within)

-- ---- no second answer
pub one-logs : OneLogs
one-logs rec strict x wear number line d at next next' b b' e e' p q =
    (p.row.next ∙ sym q.row.next, p.state ∙ sym q.state, p.page' ∙ sym q.page', p.cells' ∙ sym q.cells', p.wear' ∙ sym q.wear', p.row.is ∙ sym q.row.is)
