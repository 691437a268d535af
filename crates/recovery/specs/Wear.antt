-- The wear sheet adds up: over every history the sum of the table rises by the sectors that its accepted erases covered (Req 06).
use Rattle.std.specs.Prelude.{◌≡◌, cond, List, [], ◌∷◌, ℕ, ◌+◌, length}
use Rattle.answers.specs.Answers.{is_done}
use Rattle.commands.specs.Commands.{operation_of}
use Rattle.states.specs.States.{Chip}
use Rattle.states.specs.declared.Record.{Record}
use Rattle.ladder.specs.declared.Head.{Head}
use Rattle.counts.specs.Counts.{covered, total_of}
use Rattle.chip.specs.Frames.{Sent, sent_of, head_of, frame_of}
use Rattle.calls.specs.Calls.{Call, sends, waits, cycles, cuts, ours, after}
use Rattle.recovery.specs.Histories.{Lent, lend}

-- a call with that table lent to it: only a frame takes one
abbrev pub with_table : List ℕ → Sent → Sent
with_table wear f = sent_of f.bytes f.tail f.wp f.strict wear f.out

abbrev pub on_table : List ℕ → Call → Call
on_table wear (sends f) = sends (with_table wear f)
on_table wear (waits us) = waits us
on_table wear cycles = cycles
on_table wear (cuts pattern) = cuts pattern

-- the table after a call
abbrev pub table_after : Record → Call → Chip → List ℕ → List ℕ
table_after rec (sends f) x wear = (frame_of rec x (with_table wear f)).wear
table_after rec (waits us) x wear = wear
table_after rec cycles x wear = wear
table_after rec (cuts pattern) x wear = wear

-- the sectors that it erases: those an erase covers that is accepted, 1, 8, 16 or all
abbrev pub sectors_erased : Record → Call → Chip → List ℕ → ℕ
sectors_erased rec (sends f) x wear =
    let h : Head = head_of rec x (with_table wear f) in
    cond (is_done (frame_of rec x (with_table wear f)).reply.answer) (covered (operation_of h.command) h.address (length wear)).count 0
sectors_erased rec (waits us) x wear = 0
sectors_erased rec cycles x wear = 0
sectors_erased rec (cuts pattern) x wear = 0

-- one table over a history whose calls each have an array of their own
abbrev pub table_over : Record → List Lent → Chip → List ℕ → List ℕ
table_over rec [] x wear = wear
table_over rec (l ∷ ls) x wear =
    let y : Chip = lend x l.cells in
    table_over rec ls (after ours rec [] (on_table wear l.call) y) (table_after rec l.call y wear)

abbrev pub sectors_over : Record → List Lent → Chip → List ℕ → ℕ
sectors_over rec [] x wear = 0
sectors_over rec (l ∷ ls) x wear =
    let y : Chip = lend x l.cells in
    sectors_erased rec l.call y wear + sectors_over rec ls (after ours rec [] (on_table wear l.call) y) (table_after rec l.call y wear)

-- whatever the record, the calls and their arrays, bad calls and cuts included, from any chip and any table
abbrev pub WearAddsUp : Type 0
WearAddsUp = (rec : Record) (past : List Lent) (x : Chip) (wear : List ℕ) → total_of (table_over rec past x wear) ≡ total_of wear + sectors_over rec past x wear
