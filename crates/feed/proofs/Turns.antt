-- One turn of a feed: a line that lies in the block, one that began before it, or none that ends.
use Rattle.std.proofs.Common.{◌≡◌, ℕ, ◌+◌, ◌-◌, ◌<◌, ◌≤◌, Bool, true, false, leb, List, [], ◌∷◌, ◌++◌, length, take, drop, replicate, sym, refl, ap, ◌∙◌, subst, arith, lit<, None, length-take-le, take_all, leb-false, leb-true}
use lib.Seq.{drop-length}
use Rattle.states.specs.declared.Record.{Record}
use Rattle.states.specs.declared.State.{State}
use Rattle.states.specs.States.{Chip}
use Rattle.script.specs.Reading.{line_of}
use Rattle.script.proofs.Agree.{clipped}
use Rattle.script.proofs.ReadLaws.{too_long}
use Rattle.text.proofs.PutLaws.{put-none, put_as}
use Rattle.parts.proofs.Lay.{length-lay}
use Rattle.lines.specs.declared.Cut.{Cut}
use Rattle.lines.specs.declared.Cut.TheVariants.{Here, Joined, Open}
use Rattle.lines.specs.Lines.{lines_from}
use Rattle.lines.specs.Cutting.{first_line, cut_of, held_of, Cuts, Holds, held_room}
use Rattle.lines.proofs.Says.{holds-none, length-held, here_in, joined_in, open_in, says_here, says-joined, says-open}
use Rattle.play.specs.declared.Bench.{Bench}
use Rattle.play.specs.Play.{Turn, turn_of, play_of, StaysLent}
use Rattle.stepper.specs.Rows.{line_turn, row_text, Logs, chip_after, next, log_from, device_from}
use Rattle.stepper.proofs.Rows.{row-short}
use Rattle.script_log.specs.Row.{longest_row}
use Rattle.script.specs.Grammar.{longest_line}
use Rattle.feed.specs.declared.Run.{Run}
use Rattle.feed.specs.Feed.{TurnStart, Stand, standing, chip_now, goes_on, line_done, cut_turn, feed_turn, Stands}
use Rattle.feed.specs.Fed.{Did}

-- ---- a line over 640 bytes is played as its first 641 are
clip-turn : (rec : Record) (strict : Bool) (x : Chip) (wear shown : List ℕ) (m : ℕ) (line : List ℕ) → longest_line < m → play_of rec strict x wear shown (take m line) ≡ play_of rec strict x wear shown line
unfolding turn_of
clip-turn rec strict x wear shown m line l = go (leb (length line) m) refl
  where
    go : (b : Bool) → leb (length line) m ≡ b → play_of rec strict x wear shown (take m line) ≡ play_of rec strict x wear shown line
    go true e = ap (play_of rec strict x wear shown) (take_all m line (leb-true (length line) m e))
    go false e =
        let bad : line_of line ≡ None = sym (too_long line (omega (arith, leb-false (length line) m e))) in
        ap (turn_of rec strict x wear shown (take m line)) (clipped m line l ∙ bad) ∙ ap (turn_of rec strict x wear shown line) (sym bad)

pub clip-row : (rec : Record) (strict : Bool) (x : Chip) (wear : List ℕ) (number m : ℕ) (line : List ℕ) → longest_line < m → row_text rec strict x wear number (take m line) ≡ row_text rec strict x wear number line
unfolding row_text
clip-row rec strict x wear number m line l = rw (clip-turn rec strict x wear (replicate 300 0) m line l)

-- ---- the line in hand
-- the line handed over is the line `whole`, or as much of it as tells what it says
pub record Same (rec : Record) (strict : Bool) (x : Chip) (wear : List ℕ) (number : ℕ) (handed whole : List ℕ) : Type 0 where
  pub row : row_text rec strict x wear number handed ≡ row_text rec strict x wear number whole
  pub turn : line_turn rec strict x wear handed ≡ line_turn rec strict x wear whole

pub same_line : (rec : Record) (strict : Bool) (x : Chip) (wear : List ℕ) (number : ℕ) (line : List ℕ) → Same rec strict x wear number line line
same_line rec strict x wear number line = record { row = refl; turn = refl }

pub same-clip : (rec : Record) (strict : Bool) (x : Chip) (wear : List ℕ) (number m : ℕ) {handed : List ℕ} (whole : List ℕ) → longest_line < m → handed ≡ take m whole → Same rec strict x wear number handed whole
same-clip rec strict x wear number m {handed} whole l e =
    subst (λ (z : List ℕ). Same rec strict x wear number z whole) (sym e)
    (record { row = clip-row rec strict x wear number m whole l; turn = clip-turn rec strict x wear (replicate 300 0) m whole l })

-- ---- what is lent stays lent
pub stays-none : (b : Bench) → StaysLent b b
stays-none b =
    record {
      same_record = refl;
      same_setting = refl;
      same_page = refl;
      same_array = refl;
      same_wear = refl;
      same_page_length = refl;
      same_array_length = refl;
      same_wear_length = refl;
    }

pub stays-then : {a b c : Bench} → StaysLent a b → StaysLent b c → StaysLent a c
stays-then p q =
    record {
      same_record = q.same_record ∙ p.same_record;
      same_setting = q.same_setting ∙ p.same_setting;
      same_page = q.same_page ∙ p.same_page;
      same_array = q.same_array ∙ p.same_array;
      same_wear = q.same_wear ∙ p.same_wear;
      same_page_length = q.same_page_length ∙ p.same_page_length;
      same_array_length = q.same_array_length ∙ p.same_array_length;
      same_wear_length = q.same_wear_length ∙ p.same_wear_length;
    }

-- ---- what the code does is the turn
pub stands : {t : Stand} {r : Run} {b : Bench} {held log : List ℕ} → Stands t r b held log → standing r b held log ≡ t
stands {t} {r} {b} {held} {log} e =
    ap (λ (z : Run). record (standing r b held log) { run = z }) e.run' ∙ ap (λ (z : State). record (standing t.run b held log) { state = z }) e.state'
    ∙ ap (λ (z : List ℕ). record t { held = z; page = b.page.now; cells = b.array.now; wear = b.wear.now; log = log }) e.held'
    ∙ ap (λ (z : List ℕ). record t { page = z; cells = b.array.now; wear = b.wear.now; log = log }) e.page'
    ∙ ap (λ (z : List ℕ). record t { cells = z; wear = b.wear.now; log = log }) e.cells'
    ∙ ap (λ (z : List ℕ). record t { wear = z; log = log }) e.wear'
    ∙ ap (λ (z : List ℕ). record t { log = z }) e.log'

pub stood : {t : Stand} (r : Run) (b : Bench) (held log : List ℕ) → standing r b held log ≡ t → Stands t r b held log
stood r b held log q =
    record {
      run' = ap (λ (s : Stand). s.run) q;
      state' = ap (λ (s : Stand). s.state) q;
      held' = ap (λ (s : Stand). s.held) q;
      page' = ap (λ (s : Stand). s.page) q;
      cells' = ap (λ (s : Stand). s.cells) q;
      wear' = ap (λ (s : Stand). s.wear) q;
      log' = ap (λ (s : Stand). s.log) q;
    }

-- a line was logged
pub line-done : (rec : Record) (strict : Bool) (s : Stand) {line : List ℕ} {to filled : ℕ} {r : Run} {b : Bench} {log' : List ℕ}
    → Logs rec strict (chip_now s) s.wear s.run.number line s.log s.run.filled filled b log' → r ≡ goes_on filled s.run.number to
    → Stands (line_done rec strict s s.held line to) r b s.held log'
unfolding line_done
line-done rec strict s {line} {to} {filled} l g =
    record {
      run' = g ∙ ap (λ (z : ℕ). goes_on z s.run.number to) l.row.next;
      state' = l.state;
      held' = refl;
      page' = l.page';
      cells' = l.cells';
      wear' = l.wear';
      log' = l.row.is;
    }

-- it goes on with what is kept for the next line
pub line_kept : (rec : Record) (strict : Bool) (s : Stand) (to : ℕ) {handed line held held' kept : List ℕ} {r : Run} {b : Bench} {log' : List ℕ} → handed ≡ line → held' ≡ kept
    → Stands (line_done rec strict (record s { held = held }) held handed to) r b held log'
    → Stands (line_done rec strict s kept line to) r b held' log'
unfolding line_done
line_kept rec strict s to {held = held} {r = r} {b = b} {log' = log'} e k d =
    let w = subst (λ (z : List ℕ). Stands (line_done rec strict (record s { held = held }) held z to) r b held log') e d in
    record { run' = w.run'; state' = w.state'; held' = k; page' = w.page'; cells' = w.cells'; wear' = w.wear'; log' = w.log' }

-- where a line ends, and how much of it is held
pub cut-here : {held held' block : List ℕ} {used at e : ℕ} {cut : Cut} → Cuts held used block at cut held' → cut ≡ Here e → (at ≤ e) × (e < length block)
cut-here {held} {held'} {block} {used} {at} {e} c q = here_in held used block at e (sym c.is ∙ q)

pub cut-joined : {held held' block : List ℕ} {used at n e : ℕ} {cut : Cut} → Cuts held used block at cut held' → cut ≡ Joined n e → (at ≤ e) × (e < length block) × (used ≤ length held → n ≤ length held)
cut-joined {held} {held'} {block} {used} {at} {n} {e} c q = joined_in held used block at n e (sym c.is ∙ q)

-- the cut in hand
pub at_cut : (rec : Record) (strict : Bool) (block : List ℕ) (s : Stand) {cut k : Cut} {b : Bench} {held' log' : List ℕ} {r : Run} → Cuts s.held s.run.used block s.run.at cut held' → cut ≡ k
    → Stands (cut_turn rec strict block s (held_of s.held s.run.used block s.run.at) k) r b held' log'
    → Stands (feed_turn rec strict block s) r b held' log'
unfolding feed_turn
at_cut rec strict block s {cut} {k} {b} {held'} {log'} {r} c q e =
    subst (λ (z : Cut). Stands (cut_turn rec strict block s (held_of s.held s.run.used block s.run.at) z) r b held' log') (sym q ∙ c.is) e

-- ---- what follows from a turn
-- one turn goes on in the block, by a row at most
pub record Turned (rec : Record) (strict : Bool) (block : List ℕ) (s t : Stand) : Type 0 where
  pub on : s.run.at < t.run.at
  pub inside : t.run.at ≤ length block
  pub hold : length t.held ≡ length s.held
  pub used : t.run.used ≤ held_room
  pub row : t.run.filled ≤ s.run.filled + longest_row
  pub same : length t.log ≡ length s.log
  pub did : (line : List ℕ) → Holds line s.held s.run.used → Did rec strict block s t line

holds-front : (held : List ℕ) (used : ℕ) → used ≤ length held → Holds (take used held) held used
holds-front held used l =
    let n : length (take used held) ≡ used = length-take-le used held l in
    let all : take (length held) (take used held) ≡ take used held = take_all (length held) (take used held) (omega arith) in
    record { is = sym all; count = sym (ap length all ∙ n) }

module _ (rec : Record) (strict : Bool) (block : List ℕ) (s : Stand) (p : TurnStart s.run s.held block s.log) where
  abbrev at : ℕ
  at = s.run.at

  abbrev used : ℕ
  used = s.run.used

  abbrev number : ℕ
  number = s.run.number

  abbrev kept : List ℕ
  kept = held_of s.held used block at

  same-held : length kept ≡ length s.held
  same-held = length-held (take used s.held) s.held used block at (holds-front s.held used (omega (arith, p.used, p.hold)))

  did_line : {handed : List ℕ} (whole line : List ℕ) (to : ℕ) → Same rec strict (chip_now s) s.wear number handed whole
      → ((later : List ℕ) → lines_from line (drop at block ++ later) ≡ whole ∷ lines_from [] (drop to block ++ later))
      → Did rec strict block s (line_done rec strict s kept handed to) line
  unfolding line_done
  did_line {handed} whole line to e ended =
      record {
        text = row_text rec strict (chip_now s) s.wear number whole;
        rest = [];
        put = put_as (record { room = omega (arith, p.room, row-short rec strict (chip_now s) s.wear number handed); is = refl; next = refl }) e.row;
        holds = holds-none kept;
        same = λ later.
            ap (log_from rec strict (chip_now s) s.wear number) (ended later)
            ∙ ap (λ (t : Turn). row_text rec strict (chip_now s) s.wear number whole ++ log_from rec strict (chip_after t) t.wear (next number) (lines_from [] (drop to block ++ later))) (sym e.turn);
        device = λ later.
            ap (device_from rec strict (chip_now s) s.wear) (ended later)
            ∙ ap (λ (t : Turn). device_from rec strict (chip_after t) t.wear (lines_from [] (drop to block ++ later))) (sym e.turn);
      }

  turned-line : (handed : List ℕ) (to : ℕ) → at < to → to ≤ length block
      → ((line : List ℕ) → Holds line s.held used → Did rec strict block s (line_done rec strict s kept handed to) line)
      → Turned rec strict block s (line_done rec strict s kept handed to)
  unfolding line_done
  turned-line handed to a b d =
      let row : List ℕ = row_text rec strict (chip_now s) s.wear number handed in
      let short : length row ≤ longest_row = row-short rec strict (chip_now s) s.wear number handed in
      record { on = a; inside = b; hold = same-held; used = omega arith; row = omega (arith, short); same = length-lay s.log s.run.filled row (omega (arith, p.room, short)); did = d }

  by-cut : (k : Cut) → cut_of s.held used block at ≡ k → Turned rec strict block s (cut_turn rec strict block s kept k)
  by-cut (Here e) q =
      let i = here_in s.held used block at e q in
      turned-line (take (e - at) (drop at block)) (e + 1) (omega (arith, i)) (omega (arith, i))
      (λ line h. did_line (take (e - at) (drop at block)) line (e + 1) (same_line rec strict (chip_now s) s.wear number _)
      (says_here line s.held used block at e (omega (arith, p.hold)) h q).ended)
  by-cut (Joined n e) q =
      let i = joined_in s.held used block at n e q in
      turned-line (take n kept) (e + 1) (omega (arith, i.0)) (omega (arith, i.1))
      (λ line h.
      let o = says-joined line s.held used block at n e h q in
      let whole : List ℕ = line ++ first_line (drop at block) in
      let same : take n kept ≡ take held_room whole = o.holds.is ∙ ap (λ (z : ℕ). take z whole) (same-held ∙ p.hold) in
      did_line whole line (e + 1) (same-clip rec strict (chip_now s) s.wear number held_room whole (lit< tt) same) o.ended)
  by-cut (Open n) q =
      record {
        on = p.inside;
        inside = omega arith;
        hold = same-held;
        used = omega (arith, open_in s.held used block at n q (omega (arith, p.used, p.hold)), p.hold);
        row = omega arith;
        same = refl;
        did = λ line h.
            let o = says-open line s.held used block at n h q in
            record {
              text = [];
              rest = line ++ drop at block;
              put = put-none s.log s.run.filled (omega (arith, p.room));
              holds = o.holds;
              same = λ later.
                  ap (log_from rec strict (chip_now s) s.wear number) (o.goes_on later)
                  ∙ ap (λ (z : List ℕ). log_from rec strict (chip_now s) s.wear number (lines_from (line ++ drop at block) (z ++ later))) (sym (drop-length block));
              device = λ later.
                  ap (device_from rec strict (chip_now s) s.wear) (o.goes_on later)
                  ∙ ap (λ (z : List ℕ). device_from rec strict (chip_now s) s.wear (lines_from (line ++ drop at block) (z ++ later))) (sym (drop-length block));
            };
      }

  pub turned : Turned rec strict block s (feed_turn rec strict block s)
  unfolding feed_turn
  turned = by-cut (cut_of s.held used block at) refl
