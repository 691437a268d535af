-- The strict setting, over whole frames (02, Req 08). Each statement is proved in `proofs/Strict.antt`, under the same name in small letters.
use Rattle.std.specs.Prelude.{Err, ◌≡◌, Bool, true, false, cond, List, ◌⊎◌, ℕ, ◌+◌, ◌≤◌, ◌<◌, length, get_or, drop}
use Rattle.parts.specs.Parts.{Bytes}
use Rattle.units.specs.declared.Address.{Address}
use Rattle.units.specs.Kinds.{sector_of, sector_start, page_start, page_offset}
use Rattle.fold.specs.Fold.{counts}
use Rattle.fold.specs.Strict.{reached}
use Rattle.flash.specs.Arrays.{sector_erased}
use Rattle.answers.specs.Answers.{number_of, is_done}
use Rattle.answers.specs.declared.Refusal.TheVariants.{NotErased}
use Rattle.commands.specs.declared.Command.TheVariants.{Program}
use Rattle.states.specs.States.{Chip, chip_of}
use Rattle.states.specs.declared.Record.{Record}
use Rattle.effects.specs.Effects.{Effect, state_only}
use Rattle.chip.specs.Frames.{Sent, sent_of, head_of, over_by, frame_of}
use Rattle.time.specs.Time.{wait_of}
use Rattle.calls.specs.Calls.{left}

-- the same frame under a setting
abbrev pub under : Bool → Sent → Sent
under strict f = sent_of f.bytes f.tail f.wp strict f.wear f.out

-- what it does with the setting off, and on
abbrev pub off_of : Record → Chip → Sent → Effect
off_of rec x f = frame_of rec x (under false f)

abbrev pub on_of : Record → Chip → Sent → Effect
on_of rec x f = frame_of rec x (under true f)

-- whether the frame programs over old data
abbrev pub is_over : Record → Chip → Sent → Bool
is_over rec x f = over_by rec.model x.cells (under true f)

-- ---- which frames are answered 19
-- off, none: demand 2 reads as before
abbrev pub OffNever : Type 0
OffNever = (rec : Record) (x : Chip) (f : Sent) → number_of (off_of rec x f).reply.answer ≡ 19 → ⊥

-- on, a frame that would be taken is, where it programs over old data; nothing changes then, WEL included, on each model
abbrev pub OnRefuses : Type 0
OnRefuses =
    (rec : Record) (x : Chip) (f : Sent) → is_done (off_of rec x f).reply.answer ≡ true → is_over rec x f ≡ true
    → on_of rec x f ≡ state_only (Err NotErased) x.state x.page f.wear f.out

-- and every other frame does what it does off
abbrev pub OnElse : Type 0
OnElse =
    (rec : Record) (x : Chip) (f : Sent) → (is_done (off_of rec x f).reply.answer ≡ false) ⊎ (is_over rec x f ≡ false)
    → on_of rec x f ≡ off_of rec x f

-- after an erase of the sector no program into it is, whatever the setting
abbrev pub ErasedNever : Type 0
ErasedNever =
    (rec : Record) (x : Chip) (f : Sent)
    → (let at : Address = (head_of rec x f).address in
    Bytes f.bytes → sector_start (sector_of at) + 4096 ≤ length x.cells
    → number_of (frame_of rec (chip_of x.state x.page (sector_erased x.cells (sector_of at))) f).reply.answer ≡ 19 → ⊥)

-- ---- what a program leaves that is taken under the setting: once its time has run out, at each offset that it reached the byte that counts, and every
-- other cell of the page as it was
abbrev pub TakenReadsBack : Type 0
TakenReadsBack =
    (rec : Record) (x : Chip) (f : Sent) (us k : ℕ)
    → (let at : Address = (head_of rec x f).address in
    let sent : List ℕ = drop 4 f.bytes in
    f.strict ≡ true → is_done (frame_of rec x f).reply.answer ≡ true → (head_of rec x f).command ≡ Program
    → Bytes x.cells → Bytes f.bytes → rec.page ≤ us → k < 256
    → get_or (wait_of rec (left x (frame_of rec x f)) us).chip.cells (page_start at + k) 0
    ≡ cond (reached (page_offset at) (length sent) k) (counts (page_offset at) sent (length sent) k) (get_or x.cells (page_start at + k) 0))
