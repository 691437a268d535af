-- Lines of a bench sheet: calls, what is seen of each, and how a pod fills them in.
use Rattle.std.specs.Prelude.{◌≡◌, Bool, true, false, cond, List, [], ◌∷◌, ◌++◌, ℕ, eqb, length, take, replicate}
use Rattle.parts.specs.Parts.{part}
use Rattle.models.specs.Models.{model_of}
use Rattle.answers.specs.Answers.{number_of}
use Rattle.states.specs.States.{status_of, blank_page, Chip, chip_of, power_on, bench_kh25l512, bench_kh25l2006e, bench_kh25l12845g}
use Rattle.states.specs.declared.Record.{Record}
use Rattle.effects.specs.Effects.{Effect}
use Rattle.chip.specs.Frames.{Sent, sent_of}
use Rattle.calls.specs.Calls.{Call, sends, waits, cycles, cuts, Pod, after, answer}

-- ---- what is seen
-- the first driven position and the driven bytes
pub record Driven : Type 0 where
  pub from : ℕ
  pub bytes : List ℕ

-- what a line may look at besides: the configuration register, whether the chip is asleep, the microseconds that it still has to settle, the first cells of its array
pub data Look : Type 0 where
  config : ℕ → Look
  asleep : Bool → Look
  settle : ℕ → Look
  cells : List ℕ → Look

-- of a call: the number of its answer, what it drives, the status byte after it, and what else is looked at
pub record Seen : Type 0 where
  pub number : ℕ
  pub driven : Driven
  pub status : ℕ
  pub looks : List Look

-- a call of a line: a frame with so many tail bits, the WP# level and those bytes; a wait; a power cycle
pub data Act : Type 0 where
  framed : ℕ → Bool → List ℕ → Act
  wait : ℕ → Act
  cycle : Act

-- a line: a call, and what is seen of it
pub record Line : Type 0 where
  pub act : Act
  pub sees : Seen

-- a row: a model, and its lines from power-on
pub record Row : Type 0 where
  pub model : ℕ
  pub lines : List Line

-- ---- how a row is written
-- a frame with WP# high and no tail bits, with tail bits, and with WP# low
abbrev pub send : List ℕ → Act
send bytes = framed 0 true bytes

abbrev pub send_tail : ℕ → List ℕ → Act
send_tail tail bytes = framed tail true bytes

abbrev pub send_low : List ℕ → Act
send_low bytes = framed 0 false bytes

-- an answer with nothing driven, and 0 with bytes driven from a position on; each with the status byte after
abbrev pub drive : ℕ → List ℕ → Driven
drive from bytes = record { from = from; bytes = bytes }

abbrev pub says : ℕ → ℕ → Seen
says number status = record { number = number; driven = drive 0 []; status = status; looks = [] }

abbrev pub drives_from : ℕ → List ℕ → ℕ → Seen
drives_from from bytes status = record { number = 0; driven = drive from bytes; status = status; looks = [] }

-- one look more
infixl 85 ◌and◌
abbrev pub ◌and◌ : Seen → Look → Seen
s and l = record { number = s.number; driven = s.driven; status = s.status; looks = l ∷ s.looks }

infix 80 ◌⇒◌
abbrev pub ◌⇒◌ : Act → Seen → Line
a ⇒ s = record { act = a; sees = s }

-- a row with no line yet, and with one line more
abbrev pub on_model : ℕ → Row
on_model m = record { model = m; lines = [] }

infixl 70 ◌∣◌
abbrev pub ◌∣◌ : Row → Line → Row
r ∣ l = record { model = r.model; lines = r.lines ++ (l ∷ []) }

-- ---- how it is filled in
abbrev pub bench : ℕ → Record
bench m = cond (eqb m 3) bench_kh25l12845g (cond (eqb m 2) bench_kh25l2006e bench_kh25l512)

-- an array for each bench, of the length that its model has
abbrev pub ArraysFit : (ℕ → List ℕ) → Type 0
ArraysFit array = (m : ℕ) → length (array m) ≡ (model_of (bench m).model).length

-- a frame on the bench of a model is lent a wear table from the factory and an output of 300 bytes AA
abbrev pub sent_on : ℕ → ℕ → Bool → List ℕ → Sent
sent_on m tail wp bytes = sent_of bytes tail wp false (replicate (model_of m).sectors 0) (replicate 300 0xAA)

abbrev pub call_on : ℕ → Act → Call
call_on m (framed tail wp bytes) = sends (sent_on m tail wp bytes)
call_on m (wait us) = waits us
call_on m cycle = cycles

-- the same looks at a chip
abbrev pub look_at : Chip → List Look → List Look
look_at x [] = []
look_at x (config v ∷ more) = config x.state.config ∷ look_at x more
look_at x (asleep v ∷ more) = asleep x.state.asleep ∷ look_at x more
look_at x (settle v ∷ more) = settle x.state.settle ∷ look_at x more
look_at x (cells vs ∷ more) = cells (take (length vs) x.cells) ∷ look_at x more

module _ (p : Pod) (rec : Record) (before : List Call) where
  -- only a frame drives
  abbrev pub driven_by : Call → Chip → Driven
  driven_by (sends f) x = let e : Effect = p.frame before rec x f in drive e.reply.from (part e.out e.reply.from e.reply.count)
  driven_by (waits us) x = drive 0 []
  driven_by cycles x = drive 0 []
  driven_by (cuts pattern) x = drive 0 []

  -- of a call on chip x that leaves chip y
  abbrev pub seen_of : Call → List Look → Chip → Chip → Seen
  seen_of c looks x y = record { number = number_of (answer p rec before c x); driven = driven_by c x; status = status_of y.state; looks = look_at y looks }

-- line by line, each on the chip that the one before it left
abbrev pub filled_lines : Pod → Record → List Call → List Line → Chip → List Line
filled_lines p rec before [] x = []
filled_lines p rec before (l ∷ ls) x =
    let c : Call = call_on rec.model l.act in
    let y : Chip = after p rec before c x in
    (l.act ⇒ seen_of p rec before c l.sees.looks x y) ∷ filled_lines p rec (c ∷ before) ls y

-- a row from power-on of its model's bench, and row by row
abbrev pub filled_row : Pod → (ℕ → List ℕ) → Row → Row
filled_row p array r = let m : ℕ = r.model in record { model = m; lines = filled_lines p (bench m) [] r.lines (chip_of power_on blank_page (array m)) }

abbrev pub filled : Pod → (ℕ → List ℕ) → List Row → List Row
filled p array [] = []
filled p array (r ∷ rs) = filled_row p array r ∷ filled p array rs
