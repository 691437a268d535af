-- The statements of `specs/Unlocked.antt`: the calls are computed.
use mathlib.Core.Path.{◌≡◌, refl}
use mathlib.Core.Bool.{true, false}
use mathlib.Core.List.{[], ◌∷◌}
use mathlib.Core.Logic.{inl}
use Prim.Native.Nat.{ℕ}
use native.Mathlib.Omega.{arith}
use Rattle.models.specs.Models.{is_model, part_of, address_of, range_of, is_protected}
use Rattle.parts.specs.Parts.{lay}
use Rattle.flash.specs.Arrays.{block_erased}
use Rattle.commands.specs.Commands.{decode_of, traits_of, length_ok}
use Rattle.states.specs.States.{in_range, half_ok, record_ok, longest_settle, config_ok, idle_ok, busy_ok, state_ok, tb_of, used_page, page_ok, bench_kh25l512}
use Rattle.ladder.specs.Ladder.{refusal_of}
use Rattle.counts.specs.Counts.{covered, worn_out, counted}
use Rattle.effects.specs.Effects.{latched, starting, refusal_leaves, write_enable, write_status, erase_starts}
use Rattle.operations.specs.Operations.{config_after, written, forgotten, finished}
use Rattle.chip.specs.Frames.{head_for, accepted_of, frame_of}
use Rattle.time.specs.Time.{later, waited, chip_refusal, wait_of}
use Rattle.calls.specs.Calls.{after}
use Rattle.promises.specs.Unlocked.{guarded_chip, writing_chip, wait_for, status_calls, LockSet, WriteRuns, WpHighOnce, SrwdClear, AreaErased, NeedsIdle, NeedsWpLow, NeedsSrwd}

computed : LockSet × WriteRuns × WpHighOnce × SrwdClear × AreaErased
unfolding is_model part_of address_of range_of is_protected lay block_erased decode_of traits_of length_ok in_range half_ok record_ok longest_settle config_ok idle_ok busy_ok state_ok tb_of used_page page_ok refusal_of covered worn_out counted latched starting refusal_leaves write_enable write_status erase_starts config_after written forgotten finished head_for accepted_of frame_of later waited chip_refusal wait_of after
computed = (refl, refl, refl, refl, (refl, refl))

pub lock-set : LockSet
lock-set = computed.0

pub write-runs : WriteRuns
write-runs = computed.1

pub wp-high-once : WpHighOnce
wp-high-once = computed.2

pub srwd-clear : SrwdClear
srwd-clear = computed.3

pub area-erased : AreaErased
area-erased = computed.4

-- ---- the other conditions hold, and BP was to stay 3
changed : {n : ℕ} → n ≡ 0 → n ≡ 3 → ⊥
changed z e = omega arith

pub needs-idle : NeedsIdle
needs-idle claim = changed write-runs (claim bench_kh25l512 (wait_for 1 ∷ []) writing_chip (inl refl) refl (tt, tt)).0.bp

pub needs-wp-low : NeedsWpLow
needs-wp-low claim = changed wp-high-once (claim bench_kh25l512 (status_calls false true 0x00) (guarded_chip true) (inl refl) refl refl).1.1.0.bp

pub needs-srwd : NeedsSrwd
needs-srwd claim = changed srwd-clear (claim bench_kh25l512 (status_calls false false 0x00) (guarded_chip false) (inl refl) refl (refl, (refl, (tt, tt)))).1.1.0.bp
