-- The first wait cannot be shorter: calls from power-on lead to a chip that is then still busy or settling.
use Rattle.std.specs.Prelude.{Option, Some, None}
use mathlib.Core.Path.{◌≡◌, refl, sym, ap, subst}
use mathlib.Core.Bool.{true, false}
use mathlib.Core.List.{List, [], ◌∷◌}
use Prim.Native.Nat.{ℕ, ◌-◌, ◌<◌}
use native.Mathlib.Omega.{arith}
use lib.Dec.{lit≤}
use lib.ListN.{length, replicate, length-replicate}
use Rattle.answers.specs.Answers.{Done}
use Rattle.units.specs.declared.Address.{Address}
use Rattle.commands.specs.declared.Operation.{Operation}
use Rattle.counts.specs.Counts.{worn_out, counted}
use Rattle.counts.proofs.Laws.{none-worn, new-table}
use Rattle.models.specs.Models.{model_of, address_of}
use Rattle.states.specs.States.{record_ok, longest_of, no_command, no_address, blank_page, Chip, chip_of}
use Rattle.commands.specs.declared.Operation.TheVariants.{Programs, ErasesSector, ErasesHalf, ErasesBlock, ErasesChip}
use Rattle.states.specs.declared.Record.{Record}
use Rattle.states.specs.declared.State.{State}
use Rattle.states.proofs.States.{times, has-half, longest-in-range, by-longest}
use Rattle.effects.specs.Effects.{Effect, state_only, turned, started, shown, drives, dozing, starting, waking_time, wake, write_status, erase_starts, nowhere, program_page}
use Rattle.effects.proofs.Strict.{off}
use Rattle.time.specs.Time.{later, waited}
use Rattle.chip.specs.Frames.{frame_of}
use Rattle.calls.specs.Calls.{Call, sends, waits, ours, left, run, Bench, frame}
use Rattle.recovery.specs.Recovery.{Job, JobFits}
use Rattle.recovery.specs.Shorter.{TooShort, ShorterFirst, ReachedFirst}
use Rattle.recovery.specs.Histories.{factory}
use Rattle.recovery.proofs.Histories.{fresh-bench}
use Rattle.calls.proofs.Steps.{Step, ends, goes, goes-run, run-bench, sends-to, waits-to, sleep-taken, wake-taken, sign-taken, write-taken, erase-taken, half-taken, block-taken, chip-taken, program-taken}
use Rattle.recovery.proofs.Recovery.{enabled, enable}
use Rattle.recovery.proofs.Shorter.{still, still-settling}

-- a sleeping chip that has settled
settled-down : (t : ℕ) → later (record { srwd = false; bp = 0; config = 0; wel = false; asleep = true; busy = 0; settle = t; command = no_command; address = no_address }) t
    ≡ record { srwd = false; bp = 0; config = 0; wel = false; asleep = true; busy = 0; settle = 0; command = no_command; address = no_address }
unfolding later
settled-down t =
    let a : t - t ≡ 0 = omega arith in
    let b : 0 - t ≡ 0 = omega arith in
    rw (a, b)

-- ---- from power-on: 06 and an operation
module _ (rec : Record) (cells : List ℕ) (j : Job) (e : record_ok rec ≡ true) (l : length cells ≡ (model_of rec.model).length) (f : JobFits rec j) where
  abbrev room : List ℕ
  room = replicate 8 0

  -- a table from the factory
  abbrev new : List ℕ
  new = replicate (model_of rec.model).sectors 0

  new-fits : length new ≡ (model_of rec.model).sectors
  new-fits = length-replicate (model_of rec.model).sectors 0

  unworn : (op : Option Operation) (at : Address) → worn_out op at new ≡ false
  unworn op at = none-worn op at new (new-table (model_of rec.model).sectors)

  abbrev Reached : Type 0
  Reached = (calls : List Call) × TooShort rec j (run ours rec [] calls (factory cells))

  on-bench : Bench rec (factory cells)
  on-bench = fresh-bench rec cells e l

  abbrev armed : Chip
  armed = chip_of (enabled 0) blank_page cells

  arms : Step rec (sends (frame (0x06 ∷ []) false new room)) (factory cells) armed (new ∷ [])
  arms = enable rec 0 cells false new room on-bench new-fits (lit≤ tt)

  -- an operation whose time is the longest
  by : (bytes : List ℕ) (g : Effect) (time : ℕ) → frame_of rec armed (frame bytes false new room) ≡ g → g.reply.answer ≡ Done
      → g.reply.state.busy ≡ time → 0 < time → longest_of rec ≡ time → Reached
  by bytes g time p d s t m =
      let b = sends-to rec armed arms.bench (frame bytes false new room) g p d in (
        sends (frame (0x06 ∷ []) false new room) ∷ sends (frame bytes false new room) ∷ [],
        subst (TooShort rec j) (sym (goes-run [] (goes arms (goes b ends)))) (still rec (left armed g) j time t s m b.bench f),
      )

  by-status : longest_of rec ≡ rec.status_write → Reached
  unfolding write_status starting
  by-status m =
      by (0x01 ∷ 0x00 ∷ []) (started new room (write_status rec (enabled 0) blank_page (0x01 ∷ 0x00 ∷ []))) rec.status_write
      (write-taken rec armed arms.bench refl refl false new room new-fits 0 refl refl (lit≤ tt)) refl refl (times rec e).status m

  by-page : longest_of rec ≡ rec.page → Reached
  unfolding program_page starting
  by-page m =
      by (0x02 ∷ 0 ∷ 0 ∷ 0 ∷ 0 ∷ []) (started new room (program_page rec (enabled 0) blank_page (address_of rec.model 0 0 0) (0x02 ∷ 0 ∷ 0 ∷ 0 ∷ 0 ∷ []))) rec.page
      (program-taken rec armed arms.bench refl refl false new room new-fits 0 0 0 (0 ∷ []) refl refl refl (lit≤ tt) (lit≤ tt) (lit≤ tt) (off (Some Programs) _ _ _)) refl refl (times rec e).page m

  by-sector : longest_of rec ≡ rec.sector → Reached
  unfolding erase_starts starting
  by-sector m =
      by (0x20 ∷ 0 ∷ 0 ∷ 0 ∷ []) (turned blank_page (counted (Some ErasesSector) (address_of rec.model 0 0 0) new) room (erase_starts rec (enabled 0) (Some ErasesSector) (address_of rec.model 0 0 0) (0x20 ∷ 0 ∷ 0 ∷ 0 ∷ []))) rec.sector
      (erase-taken rec armed arms.bench refl refl false new room new-fits 0 0 0 refl refl refl (lit≤ tt) (unworn (Some ErasesSector) _)) refl refl (times rec e).sector m

  by-block : longest_of rec ≡ rec.block → Reached
  unfolding erase_starts starting
  by-block m =
      by (0xD8 ∷ 0 ∷ 0 ∷ 0 ∷ []) (turned blank_page (counted (Some ErasesBlock) (address_of rec.model 0 0 0) new) room (erase_starts rec (enabled 0) (Some ErasesBlock) (address_of rec.model 0 0 0) (0xD8 ∷ 0 ∷ 0 ∷ 0 ∷ []))) rec.block
      (block-taken rec armed arms.bench refl refl false new room new-fits 0 0 0 refl refl refl (lit≤ tt) (unworn (Some ErasesBlock) _)) refl refl (times rec e).block m

  by-chip : longest_of rec ≡ rec.chip → Reached
  unfolding erase_starts starting
  by-chip m =
      by (0xC7 ∷ []) (turned blank_page (counted (Some ErasesChip) nowhere new) room (erase_starts rec (enabled 0) (Some ErasesChip) nowhere (0xC7 ∷ []))) rec.chip
      (chip-taken rec armed arms.bench refl refl false new room new-fits refl refl refl (lit≤ tt) (unworn (Some ErasesChip) _)) refl refl (times rec e).chip m

  -- a model that has the sixth time has that erase
  by-half : longest_of rec ≡ rec.half → Reached
  unfolding erase_starts starting
  by-half m =
      let t : 0 < rec.half = subst (λ (us : ℕ). 0 < us) m (longest-in-range rec e).some in
      by (0x52 ∷ 0 ∷ 0 ∷ 0 ∷ []) (turned blank_page (counted (Some ErasesHalf) (address_of rec.model 0 0 0) new) room (erase_starts rec (enabled 0) (Some ErasesHalf) (address_of rec.model 0 0 0) (0x52 ∷ 0 ∷ 0 ∷ 0 ∷ []))) rec.half
      (half-taken rec armed arms.bench refl refl false new room new-fits 0 0 0 (has-half rec e t) refl refl refl (lit≤ tt) (unworn (Some ErasesHalf) _)) refl refl t m

  -- ---- from power-on: B9, and AB after it
  abbrev fallen : ℕ → State
  fallen time = record { srwd = false; bp = 0; config = 0; wel = false; asleep = true; busy = 0; settle = time; command = no_command; address = no_address }

  falls-asleep : Step rec (sends (frame (0xB9 ∷ []) false new room)) (factory cells) (chip_of (fallen rec.sleep) blank_page cells) (new ∷ [])
  unfolding dozing
  falls-asleep =
      sends-to rec (factory cells) on-bench (frame (0xB9 ∷ []) false new room) (state_only Done (fallen rec.sleep) blank_page new room) (sleep-taken rec (factory cells) on-bench refl refl false new room new-fits refl (lit≤ tt)) refl

  asleep-for-good : Step rec (waits rec.sleep) (chip_of (fallen rec.sleep) blank_page cells) (chip_of (fallen 0) blank_page cells) []
  unfolding waited
  asleep-for-good = waits-to rec (chip_of (fallen rec.sleep) blank_page cells) falls-asleep.bench rec.sleep (chip_of (fallen 0) blank_page cells) (slept rec.sleep)
    where
      slept : (t : ℕ) → waited rec.model (chip_of (fallen t) blank_page cells) t ≡ chip_of (fallen 0) blank_page cells
      slept t = ap (λ (s : State). chip_of s blank_page cells) (settled-down t)

  by-sleep : longest_of rec ≡ rec.sleep → Reached
  by-sleep m =
      let t : 0 < rec.sleep = (times rec e).sleep in (
        sends (frame (0xB9 ∷ []) false new room) ∷ [],
        subst (TooShort rec j) (sym (goes-run [] (goes falls-asleep ends))) (still-settling rec (chip_of (fallen rec.sleep) blank_page cells) j refl t m falls-asleep.bench f),
      )

  abbrev awake : ℕ → State
  awake time = record { srwd = false; bp = 0; config = 0; wel = false; asleep = false; busy = 0; settle = time; command = no_command; address = no_address }

  wakes-up : Step rec (sends (frame (0xAB ∷ []) false new room)) (chip_of (fallen 0) blank_page cells) (chip_of (awake rec.wake) blank_page cells) (new ∷ [])
  unfolding dozing
  wakes-up =
      sends-to rec (chip_of (fallen 0) blank_page cells) asleep-for-good.bench (frame (0xAB ∷ []) false new room) (state_only Done (awake rec.wake) blank_page new room)
      (wake-taken rec (chip_of (fallen 0) blank_page cells) asleep-for-good.bench refl refl false new room new-fits (lit≤ tt)) refl

  by-wake : longest_of rec ≡ rec.wake → Reached
  by-wake m =
      let t : 0 < rec.wake = (times rec e).wake in (
        sends (frame (0xB9 ∷ []) false new room) ∷ waits rec.sleep ∷ sends (frame (0xAB ∷ []) false new room) ∷ [],
        subst (TooShort rec j) (sym (goes-run [] (goes falls-asleep (goes asleep-for-good (goes wakes-up ends))))) (still-settling rec (chip_of (awake rec.wake) blank_page cells) j refl t m wakes-up.bench f),
      )

  abbrev signs : Effect
  signs = shown blank_page new (wake rec (fallen 0) (0xAB ∷ 0 ∷ 0 ∷ 0 ∷ 0 ∷ []) room)

  tells : Step rec (sends (frame (0xAB ∷ 0 ∷ 0 ∷ 0 ∷ 0 ∷ []) false new room)) (chip_of (fallen 0) blank_page cells) (chip_of (awake rec.sign) blank_page cells) (new ∷ [])
  unfolding wake waking_time dozing drives
  tells =
      sends-to rec (chip_of (fallen 0) blank_page cells) asleep-for-good.bench (frame (0xAB ∷ 0 ∷ 0 ∷ 0 ∷ 0 ∷ []) false new room) signs
      (sign-taken rec (chip_of (fallen 0) blank_page cells) asleep-for-good.bench refl refl false new room new-fits (lit≤ tt)) refl

  by_sign : longest_of rec ≡ rec.sign → Reached
  by_sign m =
      let t : 0 < rec.sign = (times rec e).sign in (
        sends (frame (0xB9 ∷ []) false new room) ∷ waits rec.sleep ∷ sends (frame (0xAB ∷ 0 ∷ 0 ∷ 0 ∷ 0 ∷ []) false new room) ∷ [],
        subst (TooShort rec j) (sym (goes-run [] (goes falls-asleep (goes asleep-for-good (goes tells ends))))) (still-settling rec (chip_of (awake rec.sign) blank_page cells) j refl t m tells.bench f),
      )

-- the longest of the times is one of them
pub reached-first : ReachedFirst
reached-first rec cells j e l f =
    by-longest rec (longest-in-range rec e).some
    (by-status rec cells j e l f, (by-page rec cells j e l f, (by-sector rec cells j e l f, (by-block rec cells j e l f, (by-chip rec cells j e l f, (by-half rec cells j e l f, (by-sleep rec cells j e l f, (by-wake rec cells j e l f, (by_sign rec cells j e l f, tt)))))))))

-- so there is such a chip
pub shorter-first : ShorterFirst
shorter-first rec cells j e l f =
    let r = reached-first rec cells j e l f in
    (run ours rec [] r.0 (factory cells), run-bench rec [] r.0 (factory cells) (fresh-bench rec cells e l), r.1)
