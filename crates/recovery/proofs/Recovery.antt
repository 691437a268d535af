-- The listed calls win the chip back.
use Rattle.std.specs.Prelude.{Option, Some, None}
use mathlib.Core.Path.{◌≡◌, refl, sym, ap, subst, ◌∙◌}
use mathlib.Core.Bool.{Bool, true, false, ◌&&◌, ◌||◌, and-false, cond}
use mathlib.Core.List.{List, [], ◌∷◌}
use mathlib.Core.Logic.{⊎_elim}
use Prim.Native.Nat.{ℕ, ◌+◌, ◌-◌, ◌*◌, ◌%◌, ◌≤◌, ◌<◌}
use native.Mathlib.Nat.{mod-lt, zero-mod, mod-mod_of_dvd, dvd-mul_right}
use native.Mathlib.Omega.{arith}
use lib.Dec.{eqb, ltb}
use lib.ListN.{length, get_or}
use borrow.Author.Tests.{eqb-false, eq-eqb, ne_eqb, le-ltb, lt-ltb}
use Rattle.answers.specs.Answers.{Done}
use Rattle.units.specs.declared.Address.{Address}
use Rattle.units.specs.Kinds.{sector_of, page_start, page_offset}
use Rattle.units.proofs.Bools.{neither}
use Rattle.models.specs.Models.{model_of, address_of}
use Rattle.models.proofs.Rules.{row-rules, units-inside}
use Rattle.models.specs.Rules.{Inside}
use Rattle.parts.specs.Parts.{part, lay}
use Rattle.fold.specs.Fold.{page_after}
use Rattle.fold.specs.Strict.{over_old}
use Rattle.fold.proofs.Strict.{erased-accepts}
use Rattle.flash.specs.Arrays.{sector_erased, programmed}
use Rattle.rings.specs.Ring.{ring}
use Rattle.flash.specs.Sheet.{ErasesOnly}
use Rattle.flash.proofs.Arrays.{length-sector_erased, part-sector_erased, sector-erase, length-programmed}
use Rattle.parts.proofs.Lay.{lay-before, lay-after, part-lay}
use Rattle.rings.proofs.Ring.{length-ring, ring-straight}
use Rattle.commands.specs.Commands.{decode_of}
use Rattle.commands.specs.declared.Operation.TheVariants.{ErasesSector}
use Rattle.states.specs.States.{longest_of, no_command, no_address, blank_page, Chip, chip_of}
use Rattle.states.specs.declared.Record.{Record}
use Rattle.states.specs.declared.State.{State}
use Rattle.states.proofs.States.{Resting, sound, times, busy-le, busy-le-all, settle-le-all, blank-page}
use Rattle.effects.specs.Effects.{Effect, quiet, state_only, turned, started, shown, drives, latched, dozing, starting, write_status, erase_starts as Effects·erase, program_page, programs_over, read_from}
use Rattle.counts.specs.Counts.{counted}
use Rattle.counts.proofs.Laws.{sector-spared, sector-counted}
use Rattle.operations.specs.Operations.{runs, page_address, config_after, written, forgotten, finished}
use Rattle.operations.proofs.Kept.{finished-settle}
use Rattle.operations.proofs.Page.{page-laid}
use Rattle.chip.specs.Frames.{frame_of}
use Rattle.time.specs.Time.{later, waited}
use Rattle.calls.specs.Calls.{sends, waits, ours, run, effect_after, Bench, frame}
use Rattle.recovery.specs.Recovery.{Job, JobFits, wake_up, enable_unlock, unlock, enable_erase, erase, enable_program, program, read_back, wait_longest, wait_wake, wait_unlock, wait_erase, wait_program, to_unlock, to_erase, to_program, to_read, recovery, target, base, Won, Recovers, WinsBack}
use Rattle.calls.proofs.Steps.{Goes, ends, goes, goes_on, goes-run, goes-answers, goes-tables, Step, sends-to, waits-to, waits-on, wake-taken, enable-taken, write-taken, erase-taken, program-taken, read_taken}

-- a chip that is awake with protection off: idle, with WEL set, and running an operation for so long; the calls of the list leave its register v as it is
abbrev pub calm : ℕ → State
calm v = record { srwd = false; bp = 0; config = v; wel = false; asleep = false; busy = 0; settle = 0; command = no_command; address = no_address }

abbrev pub enabled : ℕ → State
enabled v = record { srwd = false; bp = 0; config = v; wel = true; asleep = false; busy = 0; settle = 0; command = no_command; address = no_address }

abbrev pub running : ℕ → ℕ → ℕ → ℕ → State
running v command place time = record { srwd = false; bp = 0; config = v; wel = true; asleep = false; busy = time; settle = 0; command = command; address = place }

-- when the time has passed it has run out, and a microsecond before it has not
pub run_out : (time : ℕ) → 0 < time → (eqb time 0 || ltb time time) ≡ false
run_out time p = rw (ne_eqb time 0 (λ z. omega arith), le-ltb time time (omega arith))

pub not_yet : (time : ℕ) → 0 < time → (eqb time 0 || ltb (time - 1) time) ≡ true
not_yet time p = rw (ne_eqb time 0 (λ z. omega arith), lt-ltb (time - 1) time (omega arith))

-- 06 on an idle chip
pub enable : (rec : Record) (v : ℕ) (cells : List ℕ) (strict : Bool) (wear out : List ℕ) → Bench rec (chip_of (calm v) blank_page cells) → length wear ≡ (model_of rec.model).sectors → 1 ≤ length out
    → Step rec (sends (frame (0x06 ∷ []) strict wear out)) (chip_of (calm v) blank_page cells) (chip_of (enabled v) blank_page cells) (wear ∷ [])
unfolding latched
enable rec v cells strict wear out c k r =
    let y : Chip = chip_of (calm v) blank_page cells in
    sends-to rec y c (frame (0x06 ∷ []) strict wear out) (state_only Done (enabled v) blank_page wear out) (enable-taken rec y c refl refl strict wear out k refl r) refl

-- the page data of 01 00, and what the operations of the list come to
abbrev pub unlock_page : List ℕ
unlock_page = lay blank_page 0 (0x00 ∷ [])

module _ (n v time : ℕ) (cells : List ℕ) where
  -- a status write of 00 takes protection off, whatever it was
  pub finish-unlock : (s : State) → s.command ≡ 0x01 → s.address ≡ 1 → s.asleep ≡ false → s.settle ≡ 0 → finished n (chip_of s unlock_page cells) ≡ chip_of (calm s.config) blank_page cells
  unfolding finished forgotten written config_after decode_of lay
  finish-unlock s c a w q = rw (c, a, w, q, zero-mod ((model_of n).highest_bp + 1), and-false (model_of n).register)

  pub finish-erase : (at : ℕ) → finished n (chip_of (running v 0x20 at time) blank_page cells) ≡ chip_of (calm v) blank_page (sector_erased cells (sector_of (record { 0 = at })))
  unfolding finished forgotten decode_of
  finish-erase at = refl

  pub finish-program : (at : ℕ) (page : List ℕ) → finished n (chip_of (running v 0x02 at time) page cells) ≡ chip_of (calm v) blank_page (programmed cells (page_address (record { 0 = at })) page)
  unfolding finished forgotten decode_of
  finish-program at page = refl

-- ---- after the longest time the chip is idle, and has settled
module _ (rec : Record) (x : Chip) (b : Bench rec x) where
  abbrev pub z : Chip
  z = waited rec.model x (longest_of rec)

  pub first-wait : Step rec (waits (longest_of rec)) x z []
  first-wait = waits-to rec x b (longest_of rec) z refl

  pub idle-after : z.state.busy ≡ 0
  unfolding waited later finished forgotten
  idle-after = go (eqb x.state.busy 0 || ltb (longest_of rec) x.state.busy)
    where
      go : (t : Bool) → (cond t (chip_of (later x.state (longest_of rec)) x.page x.cells) (finished rec.model x)).state.busy ≡ 0
      go true = omega (arith, busy-le rec x.state (sound rec x.state b.valid), busy-le-all rec)
      go false = refl

  pub settled-after : z.state.settle ≡ 0
  unfolding waited later finished forgotten
  settled-after = go (eqb x.state.busy 0 || ltb (longest_of rec) x.state.busy) refl
    where
      go : (t : Bool) → (eqb x.state.busy 0 || ltb (longest_of rec) x.state.busy) ≡ t
          → (cond t (chip_of (later x.state (longest_of rec)) x.page x.cells) (finished rec.model x)).state.settle ≡ 0
      go true e = omega (arith, (sound rec x.state b.valid).settle, settle-le-all rec)
      go false e =
          finished-settle rec.model x.state x.page (runs rec.model x.state)
          ∙ ⊎_elim (λ q. absurd (eqb-false x.state.busy 0 (neither (eqb x.state.busy 0) _ e).0 q.idle)) (λ q. q.settled) (sound rec x.state b.valid).mood

  pub blank-after : z.page ≡ blank_page
  blank-after = blank-page rec.model z.state z.page first-wait.bench.page idle-after

  pub resting-after : Resting z.state
  resting-after = ⊎_elim (λ q. q) (λ q. absurd (omega (arith, q.busy, idle-after))) (sound rec z.state first-wait.bench.valid).mood

-- the wait that runs an operation's time out
pub waits_end : (rec : Record) (x : Chip) (time : ℕ) → 0 < time → x.state.busy ≡ time → waited rec.model x time ≡ finished rec.model x
unfolding waited
waits_end rec x time p e = rw (e, run_out time p)

module _ (rec : Record) (j : Job) (x : Chip) (b : Bench rec x) (f : JobFits rec j) where
  -- ---- up to the unlocking: whatever the valid state was, a status write runs
  abbrev start : Chip
  start = z rec x b

  abbrev pub c0 : List ℕ
  c0 = start.cells

  abbrev on : State → Chip
  on s = chip_of s start.page c0

  abbrev rested : State
  rested = start.state

  -- its register, which stays
  abbrev v : ℕ
  v = rested.config

  -- it settles only if it was asleep
  abbrev pub woken : State
  woken = dozing rested false (cond rested.asleep rec.wake 0)

  abbrev settled : State
  settled = later woken rec.wake

  abbrev armed : State
  armed = latched settled true

  pub rests : Step rec (wait_longest rec j) x (on rested) []
  rests = first-wait rec x b

  pub wakes : Step rec (sends (wake_up j)) (on rested) (on woken) (j.wear ∷ [])
  wakes =
      let out = j.outs.wake_up in
      sends-to rec (on rested) rests.bench (wake_up j) (state_only Done woken start.page j.wear out) (wake-taken rec (on rested) rests.bench (idle-after rec x b) (settled-after rec x b) j.strict.wake_up j.wear out f.table f.rooms.wake_up) refl

  woken-idle : woken.busy ≡ 0
  unfolding dozing
  woken-idle = idle-after rec x b

  settles : Step rec (wait_wake rec j) (on woken) (on settled) []
  settles = waits-on rec (on woken) wakes.bench rec.wake (rw (eq-eqb woken.busy 0 woken-idle))

  still-idle : settled.busy ≡ 0
  unfolding later dozing
  still-idle = omega (arith, idle-after rec x b)

  at_rest : settled.settle ≡ 0
  unfolding later dozing
  at_rest = go rested.asleep
    where
      go : (a : Bool) → cond a rec.wake 0 - rec.wake ≡ 0
      go true = omega arith
      go false = omega arith

  arms : Step rec (sends (enable_unlock j)) (on settled) (on armed) (j.wear ∷ [])
  unfolding dozing later
  arms =
      let out = j.outs.enable_unlock in
      sends-to rec (on settled) settles.bench (enable_unlock j) (state_only Done armed start.page j.wear out) (enable-taken rec (on settled) settles.bench still-idle at_rest j.strict.enable_unlock j.wear out f.table refl f.rooms.enable_unlock) refl

  abbrev pub unlocking : Chip
  unlocking = chip_of (starting armed 0x01 1 rec.status_write) unlock_page c0

  pub unlocks : Step rec (sends (unlock j)) (on armed) unlocking (j.wear ∷ [])
  unfolding dozing latched later write_status
  unlocks =
      let out = j.outs.unlock in
      let e : Effect = record { reply = quiet Done (starting armed 0x01 1 rec.status_write); page = unlock_page; wear = j.wear; out = out } in
      sends-to rec (on armed) arms.bench (unlock j) e
      (write-taken rec (on armed) arms.bench still-idle at_rest j.strict.unlock j.wear out f.table 0 refl refl f.rooms.unlock ∙ ap (λ (page : List ℕ). started j.wear out (write_status rec armed page (0x01 ∷ 0x00 ∷ []))) (blank-after rec x b)) refl

  -- ---- up to the erase: protection is off
  abbrev calmed : List ℕ → Chip
  calmed cells = chip_of (calm v) blank_page cells

  unlocked : Step rec (wait_unlock rec j) unlocking (calmed c0) []
  unfolding starting dozing latched later
  unlocked =
      waits-to rec unlocking unlocks.bench rec.status_write (calmed c0)
      (waits_end rec unlocking rec.status_write (times rec b.right).status refl ∙ finish-unlock rec.model v rec.status_write c0 (starting armed 0x01 1 rec.status_write) refl refl refl at_rest)

  erase-enabled : Step rec (sends (enable_erase j)) (calmed c0) (chip_of (enabled v) blank_page c0) (j.wear ∷ [])
  erase-enabled = enable rec v c0 j.strict.enable_erase j.wear j.outs.enable_erase unlocked.bench f.table f.rooms.enable_erase

  abbrev to : Address
  to = target rec j

  abbrev pub erasing : Chip
  erasing = chip_of (running v 0x20 to.0 rec.sector) blank_page c0

  -- its count is below its top, and the erase makes it one more
  in_array : to.0 < (model_of rec.model).length
  unfolding address_of
  in_array = mod-lt _ (omega (arith, (row-rules rec.model).some))

  counted-in : (sector_of to).0 < length j.wear
  counted-in = omega (arith, in_array, f.table, (row-rules rec.model).sectors)

  pub worn-table : length j.worn ≡ (model_of rec.model).sectors
  worn-table = f.after.same ∙ f.table

  erase-counts : turned blank_page (counted (Some ErasesSector) to j.wear) j.outs.erase (Effects·erase rec (enabled v) (Some ErasesSector) to (erase j).bytes)
      ≡ turned blank_page j.worn j.outs.erase (quiet Done (running v 0x20 to.0 rec.sector))
  unfolding Effects·erase starting
  erase-counts = ap (λ (ws : List ℕ). turned blank_page ws j.outs.erase (quiet Done (running v 0x20 to.0 rec.sector))) (sector-counted to j.wear j.worn counted-in f.after)

  pub erases : Step rec (sends (erase j)) (chip_of (enabled v) blank_page c0) erasing (j.worn ∷ [])
  erases =
      let out = j.outs.erase in
      sends-to rec (chip_of (enabled v) blank_page c0) erase-enabled.bench (erase j) (turned blank_page j.worn out (quiet Done (running v 0x20 to.0 rec.sector)))
      (erase-taken rec (chip_of (enabled v) blank_page c0) erase-enabled.bench refl refl j.strict.erase j.wear out f.table j.high j.middle j.low refl refl refl f.rooms.erase (sector-spared to j.wear counted-in f.spare) ∙ erase-counts) refl

  -- ---- up to the program
  abbrev cleared : List ℕ
  cleared = sector_erased c0 (sector_of to)

  erased : Step rec (wait_erase rec j) erasing (calmed cleared) []
  erased = waits-to rec erasing erases.bench rec.sector (calmed cleared) (waits_end rec erasing rec.sector (times rec b.right).sector refl ∙ finish-erase rec.model v rec.sector c0 to.0)

  program-enabled : Step rec (sends (enable_program j)) (calmed cleared) (chip_of (enabled v) blank_page cleared) (j.worn ∷ [])
  program-enabled = enable rec v cleared j.strict.enable_program j.worn j.outs.enable_program erased.bench worn-table f.rooms.enable_program

  -- the data bytes, folded into the page data
  abbrev folded : List ℕ
  folded = page_after (page_offset to) j.bytes blank_page

  -- the address lies in the array, so its units do
  inside : Inside rec.model to
  unfolding address_of
  inside = units-inside rec.model to (mod-lt _ (omega (arith, (row-rules rec.model).some)))

  sector-in : base rec j + 4096 ≤ length c0
  sector-in = omega (arith, inside.sector, rests.bench.whole)

  page-in : page_start to + 256 ≤ length cleared
  page-in = omega (arith, inside.page, rests.bench.whole, length-sector_erased c0 (sector_of to) sector-in)

  in-sector : (base rec j ≤ page_start to) × (page_start to + 256 ≤ base rec j + 4096)
  in-sector = (omega arith, omega arith)

  -- the page was fresh, so the data lies in it as it was sent
  fresh : part cleared (page_start to) 256 ≡ blank_page
  fresh = part-sector_erased c0 (sector_of to) sector-in (page_start to) 256 in-sector.0 in-sector.1

  -- the sector was erased, so a strict program is not refused
  not-over : programs_over j.strict.program to cleared (program j).bytes ≡ false
  unfolding programs_over
  not-over = ap (λ (o : Bool). j.strict.program && o) (ap (over_old (page_offset to) j.bytes) fresh ∙ erased-accepts (page_offset to) j.bytes f.bytes) ∙ and-false j.strict.program

  abbrev pub programming : Chip
  programming = chip_of (running v 0x02 to.0 rec.page) folded cleared

  pub programs : Step rec (sends (program j)) (chip_of (enabled v) blank_page cleared) programming (j.worn ∷ [])
  unfolding program_page starting
  programs =
      let out = j.outs.program in
      sends-to rec (chip_of (enabled v) blank_page cleared) program-enabled.bench (program j) (started j.worn out (program_page rec (enabled v) blank_page to (program j).bytes))
      (program-taken rec (chip_of (enabled v) blank_page cleared) program-enabled.bench refl refl j.strict.program j.worn out worn-table j.high j.middle j.low j.bytes refl refl refl f.some (omega (arith, f.page)) f.rooms.program not-over) refl

  -- ---- the read
  abbrev stored : List ℕ
  stored = programmed cleared (page_address to) folded

  abbrev ended : Chip
  ended = calmed stored

  all-programmed : Step rec (wait_program rec j) programming ended []
  all-programmed = waits-to rec programming programs.bench rec.page ended (waits_end rec programming rec.page (times rec b.right).page refl ∙ finish-program rec.model v rec.page cleared to.0 folded)

  abbrev shows : Effect
  shows = shown blank_page j.worn (read_from 4 (calm v) stored to (read_back j).bytes j.outs.read_back)

  read : frame_of rec ended (read_back j) ≡ shows
  read =
      read_taken rec ended all-programmed.bench refl refl j.strict.read_back j.worn j.outs.read_back worn-table j.high j.middle j.low j.more refl
      (omega (arith, f.page, f.more)) f.rooms.read_back

  reads : Step rec (sends (read_back j)) ended ended (j.worn ∷ [])
  unfolding read_from drives
  reads = sends-to rec ended all-programmed.bench (read_back j) shows read refl

  -- ---- the list
  pub to-unlock : Goes rec (to_unlock rec j) x unlocking (j.wear ∷ j.wear ∷ j.wear ∷ [])
  to-unlock = goes rests (goes wakes (goes settles (goes arms (goes unlocks ends))))

  pub to-erase : Goes rec (to_erase rec j) x erasing (j.wear ∷ j.wear ∷ j.wear ∷ j.wear ∷ j.worn ∷ [])
  to-erase = goes_on to-unlock (goes unlocked (goes erase-enabled (goes erases ends)))

  pub to-program : Goes rec (to_program rec j) x programming (j.wear ∷ j.wear ∷ j.wear ∷ j.wear ∷ j.worn ∷ j.worn ∷ j.worn ∷ [])
  to-program = goes_on to-erase (goes erased (goes program-enabled (goes programs ends)))

  to-read : Goes rec (to_read rec j) x ended (j.wear ∷ j.wear ∷ j.wear ∷ j.wear ∷ j.worn ∷ j.worn ∷ j.worn ∷ [])
  to-read = goes_on to-program (goes all-programmed ends)

  whole-list : Goes rec (recovery rec j) x ended (j.wear ∷ j.wear ∷ j.wear ∷ j.wear ∷ j.worn ∷ j.worn ∷ j.worn ∷ j.worn ∷ [])
  whole-list = goes_on to-read (goes reads ends)

  -- ---- what the array and the last output hold
  long : length stored ≡ length cleared
  long = length-programmed cleared (page_address to) folded (omega (arith, page-in))

  offset : page_offset to ≡ j.low
  unfolding address_of
  offset =
      let raw = j.high * 65536 + (j.middle * 256 + j.low) in
      let blocks = (model_of rec.model).blocks in
      let e : (model_of rec.model).length ≡ 256 * (256 * blocks) = omega (arith, (row-rules rec.model).blocks) in
      ap (λ (t : ℕ). raw % t % 256) e ∙ mod-mod_of_dvd 256 raw (dvd-mul_right 256 (256 * blocks)) ∙ omega (arith, f.page, f.some)

  laid : stored ≡ lay cleared to.0 j.bytes
  laid = page-laid cleared to j.bytes page-in fresh (omega (arith, offset, f.page)) f.bytes

  abbrev n : ℕ
  n = length j.bytes

  in-page : to.0 + n ≤ page_start to + 256
  in-page = omega (arith, offset, f.page)

  room : to.0 + n ≤ length cleared
  room = omega (arith, in-page, page-in)

  held : part stored to.0 n ≡ j.bytes
  held = ap (λ (z : List ℕ). part z to.0 n) laid ∙ part-lay cleared to.0 j.bytes (omega (arith, room))

  driven : ring stored to.0 n ≡ j.bytes
  driven = ring-straight stored to.0 n (omega (arith, room, long)) ∙ held

  sector : ErasesOnly (base rec j) 4096 c0 cleared
  sector = sector-erase c0 (sector_of to) sector-in

  -- outside the data the array is as after the erase
  before-data : (k : ℕ) → k < to.0 → get_or stored k 0 ≡ get_or cleared k 0
  before-data k l = ap (λ (z : List ℕ). get_or z k 0) laid ∙ lay-before cleared to.0 j.bytes k (omega (arith, room)) l

  after-data : (k : ℕ) → to.0 + n ≤ k → get_or stored k 0 ≡ get_or cleared k 0
  after-data k l = ap (λ (z : List ℕ). get_or z k 0) laid ∙ lay-after cleared to.0 j.bytes k (omega (arith, room)) l

  length-reads : length (read_back j).bytes - 4 ≡ n
  length-reads = omega (arith, f.more)

  won : Won rec j start ended shows
  unfolding read_from drives
  won =
      record {
        from = rw (lt-ltb 4 (length (read_back j).bytes) (omega (arith, f.more, f.some)));
        count = length-reads;
        drives =
            rw length-reads
            (ap (part (lay j.outs.read_back 4 (ring stored to.0 n)) 4) (sym (length-ring stored to.0 n))
            ∙ part-lay j.outs.read_back 4 (ring stored to.0 n) (omega (arith, f.rooms.read_back))
            ∙ driven);
        holds = held;
        rest-before = λ k l m. before-data k m ∙ sector.unit k l (omega (arith, in-sector, in-page));
        rest-after = λ k l m. after-data k l ∙ sector.unit k (omega (arith, in-sector)) m;
        below = λ k l. before-data k (omega arith) ∙ sector.before k l;
        above = λ k l. after-data k (omega (arith, in-sector, in-page)) ∙ sector.behind k l;
      }

  pub recovers : Recovers ours rec j x
  recovers =
      record {
        answered = goes-answers [] whole-list;
        counted = goes-tables [] whole-list;
        won =
            subst (λ (u : Chip). Won rec j u (run ours rec [] (recovery rec j) x) (effect_after ours rec (to_read rec j) x (read_back j))) (sym rests.leads)
            (subst (λ (y : Chip). Won rec j start y (effect_after ours rec (to_read rec j) x (read_back j))) (sym (goes-run [] whole-list))
            (subst (λ (e : Effect). Won rec j start ended e) (sym (ap (λ (y : Chip). frame_of rec y (read_back j)) (goes-run [] to-read) ∙ read)) won));
      }

pub wins-back : WinsBack ours
wins-back rec j x b f = recovers rec j x b f
