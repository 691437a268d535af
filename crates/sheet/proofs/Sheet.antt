-- The bench sheet is as the model fills it in. Every line is computed; that arrays and wear tables have their lengths and that page data fit is told by laws.
use Rattle.std.specs.Prelude.{Err}
use mathlib.Core.Path.{◌≡◌, refl, ap, subst, ◌∙◌}
use mathlib.Core.Bool.{Bool, true, false, not, cond}
use mathlib.Core.List.{List, [], ◌∷◌}
use Prim.Native.Nat.{ℕ, zero, suc, ◌%◌}
use lib.Dec.{eqb}
use lib.ListN.{length, get_or, length-replicate}
use Rattle.answers.specs.Answers.{Answer, Done, is_done}
use Rattle.answers.specs.declared.Refusal.TheVariants.{Busy}
use Rattle.states.specs.declared.Record.{Record}
use Rattle.ladder.specs.declared.Head.{Head}
use Rattle.models.specs.Models.{is_model, part_of, model_of, address_of, range_of, is_protected}
use Rattle.models.specs.declared.Model.{Model}
use Rattle.parts.specs.Parts.{part, lay}
use Rattle.rings.specs.Ring.{ring}
use Rattle.fold.specs.Fold.{counts, cell_after, page_after}
use Rattle.flash.specs.Arrays.{sector_erased, programmed}
use Rattle.commands.specs.Commands.{decode_of, traits_of, length_ok}
use Rattle.states.specs.States.{in_range, half_ok, record_ok, longest_settle, config_ok, idle_ok, busy_ok, state_ok, tb_of, status_of, blank_page, power_on, bench_kh25l512, bench_kh25l2006e, bench_kh25l12845g, Chip, chip_of}
use Rattle.states.proofs.States.{valid}
use Rattle.ladder.specs.Ladder.{refusal_of}
use Rattle.counts.specs.Counts.{covered, worn_out}
use Rattle.effects.specs.Effects.{Effect, drives, latched, dozing, starting, refusal_leaves, write_enable, write_status, erase_starts, sleep, read_status, read_config, read_from, program_page, programs_over, waking_time, wake, read_sfdp}
use Rattle.sfdp_image.specs.Image.{image}
use Rattle.operations.specs.Operations.{config_written, config_after, written, forgotten, finished}
use Rattle.time.specs.Time.{After, Aftermath, later, waited, cycled, power_of, power_refusal, power_cut_of, after_of}
use Rattle.chip.specs.Frames.{head_for, over_by, worn_by, accepted_of, refused_of, frame_of}
use Rattle.calls.specs.Calls.{Call, Pod, ours, left, after, answer, Bench}
use Rattle.calls.proofs.Valid.{power-on-fine}
use Rattle.calls.proofs.Steps.{wait-taken, run-bench}
use Rattle.sheet.specs.Lines.{Look, Seen, Act, framed, wait, cycle, Line, Row, drive, ◌⇒◌, bench, ArraysFit, sent_on, call_on, driven_by, seen_of, filled_lines, filled_row, filled}
use Rattle.sheet.specs.Sheet.{sheet, BenchSheet}

-- on a bench the array and the wear table have the model's lengths and the page data fit: a pod to which that is told, so that it is not computed
abbrev told : Pod
told =
    record {
      frame = λ seen rec x f.
          let m : Model = model_of rec.model in
          let h : Head = head_for rec.model m.length m.sectors true f.bytes f.tail f.wp (length f.out) (over_by rec.model x.cells f) (worn_by rec.model f.bytes f.wear) in
          let a : Answer = refusal_of rec x.state h in
          cond (is_done a) (accepted_of rec x h.command h.address f.bytes f.wear f.out) (refused_of rec a x f);
      wait = λ seen rec x us. record { answer = Done; chip = waited rec.model x us };
      power = λ seen rec s page. let a : Answer = cond (not (eqb s.busy 0)) (Err Busy) Done in after_of a (cond (is_done a) (cycled s) s);
      cut = λ seen. power_cut_of;
    }

module _ (rec : Record) (before : List Call) (x : Chip) (b : Bench rec x) where
  frame-told : (tail : ℕ) (wp : Bool) (bytes : List ℕ) → frame_of rec x (sent_on rec.model tail wp bytes) ≡ told.frame before rec x (sent_on rec.model tail wp bytes)
  unfolding frame_of
  frame-told tail wp bytes = rw (b.whole, b.page, length-replicate {A = ℕ} (model_of rec.model).sectors 0)

  power-told : power_of rec x.state x.page ≡ told.power before rec x.state x.page
  unfolding power_of power_refusal
  power-told = rw (b.right, b.valid, b.page)

  -- so a line's call gets the same answer, drives the same bytes and leaves the same chip
  abbrev call : Act → Call
  call a = call_on rec.model a

  after-told : (a : Act) → after ours rec before (call a) x ≡ after told rec before (call a) x
  unfolding after
  after-told (framed tail wp bytes) = ap (left x) (frame-told tail wp bytes)
  after-told (wait us) = ap (λ (m : Aftermath). m.chip) (wait-taken rec x us b)
  after-told cycle = ap (λ (m : After). chip_of m.state x.page x.cells) power-told

  answer-told : (a : Act) → answer ours rec before (call a) x ≡ answer told rec before (call a) x
  unfolding answer
  answer-told (framed tail wp bytes) = ap (λ (e : Effect). e.reply.answer) (frame-told tail wp bytes)
  answer-told (wait us) = ap (λ (m : Aftermath). m.answer) (wait-taken rec x us b)
  answer-told cycle = ap (λ (m : After). m.answer) power-told

  driven-told : (a : Act) → driven_by ours rec before (call a) x ≡ driven_by told rec before (call a) x
  driven-told (framed tail wp bytes) = ap (λ (e : Effect). drive e.reply.from (part e.out e.reply.from e.reply.count)) (frame-told tail wp bytes)
  driven-told (wait us) = refl
  driven-told cycle = refl

  seen-told : (a : Act) (looks : List Look) → seen_of ours rec before (call a) looks x (after ours rec before (call a) x) ≡ seen_of told rec before (call a) looks x (after told rec before (call a) x)
  seen-told a looks = rw (answer-told a, driven-told a, after-told a)

lines-told : (rec : Record) (before : List Call) (ls : List Line) (x : Chip) → Bench rec x → filled_lines ours rec before ls x ≡ filled_lines told rec before ls x
lines-told rec before [] x b = refl
lines-told rec before (l ∷ ls) x b =
    let c : Call = call_on rec.model l.act in
    let y : Chip = after ours rec before c x in
    let z : Chip = after told rec before c x in
    let more : filled_lines ours rec (c ∷ before) ls y ≡ filled_lines told rec (c ∷ before) ls z = lines-told rec (c ∷ before) ls y (run-bench rec before (c ∷ []) x b) ∙ ap (filled_lines told rec (c ∷ before) ls) (after-told rec before x b l.act) in
    ap (λ (s : Seen). (l.act ⇒ s) ∷ filled_lines ours rec (c ∷ before) ls y) (seen-told rec before x b l.act l.sees.looks)
    ∙ ap (λ (done : List Line). (l.act ⇒ seen_of told rec before c l.sees.looks x z) ∷ done) more

-- power-on of a bench
bench-right : (m : ℕ) → record_ok (bench m) ≡ true
unfolding record_ok is_model in_range half_ok part_of
bench-right m = by-model (eqb m 3) (eqb m 2)
  where
    by-model : (three two : Bool) → record_ok (cond three bench_kh25l12845g (cond two bench_kh25l2006e bench_kh25l512)) ≡ true
    by-model true two = refl
    by-model false true = refl
    by-model false false = refl

power-on : (m : ℕ) (array : List ℕ) → length array ≡ (model_of (bench m).model).length → Bench (bench m) (chip_of power_on blank_page array)
power-on m array e = let k = power-on-fine (bench m) in record { right = bench-right m; whole = e; valid = valid (bench m) power_on k.sound; page = k.page-data }

rows_told : (array : ℕ → List ℕ) → ArraysFit array → (rs : List Row) → filled ours array rs ≡ filled told array rs
rows_told array e [] = refl
rows_told array e (r ∷ rs) =
    let m : ℕ = r.model in
    rw (lines-told (bench m) [] r.lines (chip_of power_on blank_page (array m)) (power-on m (array m) (e m)), rows_told array e rs)

-- the first k rows one by one, so that a wrong line is seen where it stands, and all others at once
abbrev RowByRow : (ℕ → List ℕ) → ℕ → List Row → Type 0
RowByRow array zero rs = filled told array rs ≡ rs
RowByRow array (suc k) [] = Unit {0}
RowByRow array (suc k) (r ∷ rs) = (filled_row told array r ≡ r) × RowByRow array k rs

together : (array : ℕ → List ℕ) (k : ℕ) (rs : List Row) → RowByRow array k rs → filled told array rs ≡ rs
together array zero rs p = p
together array (suc k) [] p = refl
together array (suc k) (r ∷ rs) p = rw (p.0, together array k rs p.1)

-- they compute, but for the length of model 1's array, which the read past its end asks for
abbrev rows_at : ℕ → List ℕ → List Row
rows_at n xs = sheet (get_or xs (65535 % n) 0) (get_or xs (65536 % n) 0)

rows : (array : ℕ → List ℕ) → RowByRow array 17 (rows_at (length (array 1)) (array 1))
unfolding covered worn_out is_model part_of half_ok config_ok tb_of config_written config_after refusal_leaves cycled read_config address_of range_of is_protected lay ring counts cell_after page_after sector_erased programmed decode_of traits_of length_ok in_range record_ok longest_settle idle_ok busy_ok state_ok status_of refusal_of drives latched dozing starting written forgotten finished erase_starts write_enable write_status sleep read_status read_from program_page programs_over waking_time wake read_sfdp image head_for accepted_of after answer later waited
rows array = (refl, (refl, (refl, (refl, (refl, (refl, (refl, (refl, (refl, (refl, (refl, (refl, (refl, (refl, (refl, (refl, (refl, refl)))))))))))))))))

pub bench-sheet : BenchSheet
unfolding part_of
bench-sheet array e =
    let xs = array 1 in
    rows_told array e (rows_at 65536 xs)
    ∙ subst (λ (n : ℕ). filled told array (rows_at n xs) ≡ rows_at n xs) (e 1) (together array 17 (rows_at (length xs) xs) (rows array))
