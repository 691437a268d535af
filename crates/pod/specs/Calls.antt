-- What C calls, one effect a call: the number returned and what each lent place holds after.
use Rattle.std.specs.Prelude.{true, false, not, ◌&&◌, cond, List, ◌≡◌, ℕ, ◌≤◌, eqb, length, Option, None, Some, Result, Ok, Err}
use Rattle.answers.specs.Answers.{Answer, Done, number, number_of}
use Rattle.answers.specs.Tables.{first_of}
use Rattle.answers.specs.declared.Refusal.{Refusal}
use Rattle.ladder.specs.Ladder.{Loan, absent, sized, call_rows}
use Rattle.states.specs.States.{record_ok, flag, Chip, chip_of}
use Rattle.states.specs.declared.Record.{Record}
use Rattle.states.specs.declared.State.{State}
use Rattle.counts.specs.declared.Figures.{Figures}
use Rattle.counts.specs.Counts.{report_of}
use Rattle.effects.specs.Effects.{Effect}
use Rattle.chip.specs.Frames.{Sent, sent_of, frame_of}
use Rattle.time.specs.Time.{After, Aftermath, told, wait_of, power_of, power_cut_of}
use Rattle.packing.specs.Packing.{packed, page_in, is_packing, unpack_of}
use Rattle.fits.specs.Fits.{may_move}

-- the chip that state bytes and array make
abbrev pub chip_in : List ℕ → List ℕ → Chip
chip_in state cells = chip_of (unpack_of state) (page_in state) cells

-- what bytes that pack no valid state are answered: the first row of every call (`call_rows`) that applies, to a call with such an array and such a wear table
abbrev pub bytes_refusal : Record → Loan → Loan → ℕ
bytes_refusal rec array table = number_of (first_of (call_rows rec array table false))

-- what a call reads of the lent bytes, which has an array and a wear table of so many elements, or none: the state, or the first refusal
abbrev pub loan : Option ℕ → Loan
loan None = absent
loan (Some n) = sized n

abbrev pub first_refusal : Record → List ℕ → Loan → Loan → Answer
first_refusal rec state array table = cond (record_ok rec && is_packing state) Done (first_of (call_rows rec array table false))

unfoldable pub state_in : Record → List ℕ → Loan → Loan → Result State Refusal
state_in rec state array table = told (first_refusal rec state array table) (unpack_of state)

-- the state bytes after: those of the state and the page data after; where these cannot differ those given
unfoldable pub kept_of : Answer → State → List ℕ → List ℕ → List ℕ
kept_of a next page state = cond (may_move a) (packed next page) state

-- ---- a frame: the number of 01's table, the state bytes, the wear table, the output, the first driven position and how many, and whether it folded. The array is only read
pub record Called : Type 0 where
  pub number : ℕ
  pub state : List ℕ
  pub wear : List ℕ
  pub out : List ℕ
  pub from : ℕ
  pub count : ℕ
  pub fold : ℕ

abbrev pub called : ℕ → List ℕ → List ℕ → List ℕ → ℕ → ℕ → ℕ → Called
called number state wear out from count fold =
    record { number = number; state = state; wear = wear; out = out; from = from; count = count; fold = fold }

-- what C sends: WP# is low at 0, high at any other number, and the strict setting off and on
abbrev pub sent_by : List ℕ → ℕ → ℕ → ℕ → List ℕ → List ℕ → Sent
sent_by bytes tail wp strict wear out = sent_of bytes tail (not (eqb wp 0)) (not (eqb strict 0)) wear out

abbrev pub called_of : List ℕ → Effect → Called
called_of state e =
    called (number_of e.reply.answer) (kept_of e.reply.answer e.reply.state e.page state) e.wear e.out e.reply.from e.reply.count (flag e.reply.fold 1)

unfoldable pub called_frame : Record → List ℕ → List ℕ → Sent → Called
called_frame rec state cells f = called_of state (frame_of rec (chip_in state cells) f)

-- ---- a wait or a cut: the number, the state bytes and the array
pub record Altered : Type 0 where
  pub number : ℕ
  pub state : List ℕ
  pub cells : List ℕ

abbrev pub altered : ℕ → List ℕ → List ℕ → Altered
altered number state cells = record { number = number; state = state; cells = cells }

abbrev pub altered_of : List ℕ → Aftermath → Altered
altered_of state o = altered (number_of o.answer) (kept_of o.answer o.chip.state o.chip.page state) o.chip.cells

unfoldable pub called_wait : Record → List ℕ → List ℕ → ℕ → Altered
called_wait rec state cells us = altered_of state (wait_of rec (chip_in state cells) us)

unfoldable pub called_cut : Record → List ℕ → List ℕ → List ℕ → Altered
called_cut rec state cells pattern = altered_of state (power_cut_of rec (chip_in state cells) pattern)

-- ---- a power cycle: the number and the state bytes; the page data stay
pub record Answered : Type 0 where
  pub number : ℕ
  pub state : List ℕ

abbrev pub answered : ℕ → List ℕ → Answered
answered number state = record { number = number; state = state }

abbrev pub answered_of : List ℕ → After → Answered
answered_of state a = answered (number_of a.answer) (kept_of a.answer a.state (page_in state) state)

unfoldable pub called_cycle : Record → List ℕ → Answered
called_cycle rec state = answered_of state (power_of rec (unpack_of state) (page_in state))

-- ---- what a function's result and its lent places at exit have to be
pub record Leaves (c : Called) (number : ℕ) (state wear out : List ℕ) (from count fold : ℕ) : Type 0 where
  pub number_is : number ≡ c.number
  pub state-is : state ≡ c.state
  pub wear-is : wear ≡ c.wear
  pub out-is : out ≡ c.out
  pub from_is : from ≡ c.from
  pub count-is : count ≡ c.count
  pub fold_is : fold ≡ c.fold

pub record Alters (c : Altered) (number : ℕ) (state cells : List ℕ) : Type 0 where
  pub number_is : number ≡ c.number
  pub state-is : state ≡ c.state
  pub cells_are : cells ≡ c.cells

pub record Answers (c : Answered) (number : ℕ) (state : List ℕ) : Type 0 where
  pub number_is : number ≡ c.number
  pub state-is : state ≡ c.state

-- ---- a report: the number, and what the six places hold after: the figures where it is 0, and what they held where it is not
pub record Reported : Type 0 where
  pub number : ℕ
  pub total : ℕ
  pub smallest : ℕ
  pub largest : ℕ
  pub sector : ℕ
  pub mean : ℕ
  pub remainder : ℕ

abbrev pub reported : ℕ → ℕ → ℕ → ℕ → ℕ → ℕ → ℕ → Reported
reported number total smallest largest sector mean remainder =
    record { number = number; total = total; smallest = smallest; largest = largest; sector = sector; mean = mean; remainder = remainder }

abbrev pub reported_of : Result Figures Refusal → ℕ → ℕ → ℕ → ℕ → ℕ → ℕ → Reported
reported_of (Ok r) total smallest largest sector mean remainder = reported 0 r.total r.smallest r.largest r.sector.0 r.mean r.remainder
reported_of (Err r) total smallest largest sector mean remainder = reported (number r) total smallest largest sector mean remainder

unfoldable pub called_report : List ℕ → ℕ → ℕ → ℕ → ℕ → ℕ → ℕ → Reported
called_report wear total smallest largest sector mean remainder = reported_of (report_of wear) total smallest largest sector mean remainder

pub record Reports (c : Reported) (number total smallest largest sector mean remainder : ℕ) : Type 0 where
  pub number_is : number ≡ c.number
  pub total-is : total ≡ c.total
  pub smallest-is : smallest ≡ c.smallest
  pub largest-is : largest ≡ c.largest
  pub sector-is : sector ≡ c.sector
  pub mean-is : mean ≡ c.mean
  pub remainder_is : remainder ≡ c.remainder

-- what the code asks before it packs: there are 272 bytes, and where the state may differ BP fits the status byte
pub record Packs (a : Answer) (next : State) (state : List ℕ) : Type 0 where
  pub room : length state ≡ 272
  pub level : may_move a ≡ true → next.bp ≤ 15
