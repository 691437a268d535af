-- Turns one after the other, and the input's end.
use Rattle.std.proofs.Common.{◌≡◌, ℕ, zero, suc, ◌+◌, ◌-◌, ◌<◌, ◌≤◌, Bool, true, false, cond, eqb, ltb, leb, ◌⊎◌, List, [], ◌∷◌, ◌++◌, length, take, drop, sym, refl, ap, ◌∙◌, subst, inl, inr, ⊎_elim, append_assoc, append-nil, arith, lit<, length-take, ltb-false, ltb-true, le-ltb, lt-ltb, eq-eqb, ne_eqb, eqb-true, le-leb, leb-false, leb-true}
use borrow.Author.Tests.{eqb-false, lt-leb}
use Rattle.states.specs.declared.Record.{Record}
use Rattle.states.specs.States.{Chip}
use Rattle.text.specs.Put.{Put}
use Rattle.text.proofs.PutLaws.{put-none, put_as, put_then}
use Rattle.lines.specs.Lines.{lines_from, last_line}
use Rattle.lines.specs.Cutting.{Holds, held_room}
use Rattle.play.specs.declared.Bench.{Bench}
use Rattle.play.specs.Play.{Turn, StaysLent}
use Rattle.stepper.specs.Rows.{line_turn, row_text, chip_after, log_from, device_from}
use Rattle.stepper.proofs.Rows.{row-short}
use Rattle.script_log.specs.Row.{longest_row}
use Rattle.feed.specs.declared.Run.{Run}
use Rattle.feed.specs.Feed.{Start, TurnStart, Stand, standing, chip_now, device_now, line_done, feed_turn, feed_for, feed_of, last_of, Stands, OneStands}
use Rattle.feed.specs.Fed.{Did, Fed, Finished, FeedFeeds, LastFinishes}
use Rattle.feed.proofs.Turns.{Same, same-clip, stands, stood, line_kept, Turned, turned}

-- ---- one after the other
did_none : (rec : Record) (strict : Bool) (block : List ℕ) (s : Stand) (line : List ℕ) → s.run.filled ≤ length s.log → Holds line s.held s.run.used → Did rec strict block s s line
did_none rec strict block s line l h = record { text = []; rest = line; put = put-none s.log s.run.filled l; holds = h; same = λ later. refl; device = λ later. refl }

did_then : {rec : Record} {strict : Bool} {block : List ℕ} {s t u : Stand} {line : List ℕ} (d : Did rec strict block s t line) → Did rec strict block t u d.rest → Did rec strict block s u line
did_then {rec} {strict} {block} {s} {t} {u} d e =
    record {
      text = d.text ++ e.text;
      rest = e.rest;
      put = put_then d.put e.put;
      holds = e.holds;
      same = λ later.
          d.same later ∙ ap (λ (z : List ℕ). d.text ++ z) (e.same later)
          ∙ sym (append_assoc d.text e.text (log_from rec strict (chip_now u) u.wear u.run.number (lines_from e.rest (drop u.run.at block ++ later))));
      device = λ later. d.device later ∙ e.device later;
    }

-- ---- turns one after the other: from `start` the feed has come to s
record Going (rec : Record) (strict : Bool) (block : List ℕ) (start s : Stand) : Type 0 where
  pub inside : s.run.at ≤ length block
  pub whole : length start.held ≡ held_room
  pub hold : length s.held ≡ length start.held
  pub used : s.run.used ≤ held_room
  pub within : s.run.filled ≤ length start.log
  pub same : length s.log ≡ length start.log
  pub on : ((s.run.at ≡ start.run.at) × (s.run.filled ≡ start.run.filled)) ⊎ (start.run.at < s.run.at)
  pub did : (line : List ℕ) → Holds line start.held start.run.used → Did rec strict block start s line

going-none : (rec : Record) (strict : Bool) (block : List ℕ) (s : Stand) → Start s.run s.held block s.log → Going rec strict block s s
going-none rec strict block s p =
    record {
      inside = p.inside;
      whole = p.hold;
      hold = refl;
      used = p.used;
      within = p.within;
      same = refl;
      on = inl (refl, refl);
      did = λ line h. did_none rec strict block s line p.within h;
    }

going_on : {rec : Record} {strict : Bool} {block : List ℕ} {start s t : Stand} → Going rec strict block start s → s.run.filled + longest_row ≤ length s.log → Turned rec strict block s t → Going rec strict block start t
going_on g r t =
    record {
      inside = t.inside;
      whole = g.whole;
      hold = t.hold ∙ g.hold;
      used = t.used;
      within = omega (arith, t.row, g.same);
      same = t.same ∙ g.same;
      on = inr (⊎_elim (λ p. omega (arith, p.0, t.on)) (λ p. omega (arith, t.on)) g.on);
      did = λ line h. let d = g.did line h in did_then d (t.did d.rest d.holds);
    }

-- it ends at the block's end, or where the log lacks room
going-fed : {rec : Record} {strict : Bool} {block : List ℕ} {start s : Stand} → Going rec strict block start s → (length block ≤ s.run.at) ⊎ (length s.log - s.run.filled < longest_row) → Fed rec strict block start s
going-fed {rec} {strict} {block} {start} {s} g e =
    record {
      inside = g.inside;
      on = λ l r. ⊎_elim (λ p. ⊎_elim (λ q. omega (arith, p.0)) (λ q. omega (arith, p.1, g.same)) e) (λ p. p) g.on;
      hold = g.hold;
      used = g.used;
      within = g.within;
      long = g.same;
      did = g.did;
    }

fed-for : (rec : Record) (strict : Bool) (block : List ℕ) (start : Stand) (n : ℕ) (s : Stand) → Going rec strict block start s → length block ≤ s.run.at + n → Fed rec strict block start (feed_for rec strict block n s)
fed-for rec strict block start zero s g l = going-fed g (inl (omega arith))
fed-for rec strict block start (suc n) s g l = go (ltb s.run.at (length block)) refl (leb (s.run.filled + longest_row) (length s.log)) refl (fed-for rec strict block start n (feed_turn rec strict block s))
  where
    go : (a : Bool) → ltb s.run.at (length block) ≡ a → (b : Bool) → leb (s.run.filled + longest_row) (length s.log) ≡ b
        → (Going rec strict block start (feed_turn rec strict block s) → length block ≤ (feed_turn rec strict block s).run.at + n → Fed rec strict block start (feed_for rec strict block n (feed_turn rec strict block s)))
        → Fed rec strict block start (feed_for rec strict block (suc n) s)
    go true p true q f =
        let r : s.run.filled + longest_row ≤ length s.log = leb-true _ _ q in
        let d = turned rec strict block s (record { inside = ltb-true _ _ p; hold = g.hold ∙ g.whole; used = g.used; room = r }) in
        rw (p, q) (f (going_on g r d) (omega (arith, d.on)))
    go true p false q f = rw (p, q) (going-fed g (inr (omega (arith, leb-false (s.run.filled + longest_row) (length s.log) q, g.within, g.same))))
    go false p b q f = rw p (going-fed g (inl (ltb-false _ _ p)))

pub feed-feeds : FeedFeeds
unfolding feed_of
feed-feeds rec strict block s p = fed-for rec strict block s (length block) s (going-none rec strict block s p) (omega arith)

-- of what a call gave
pub stands-fed : {rec : Record} {strict : Bool} {block : List ℕ} {s : Stand} {r : Run} {b : Bench} {held log : List ℕ} → Stands (feed_of rec strict block s) r b held log
    → Start s.run s.held block s.log → Fed rec strict block s (standing r b held log)
stands-fed {rec} {strict} {block} {s} e p = subst (Fed rec strict block s) (sym (stands e)) (feed-feeds rec strict block s p)

-- ---- the loop: `left` turns more give what the whole feed gives
pub record Feeding (rec : Record) (strict : Bool) (block : List ℕ) (start now : Stand) : Type 0 where
  pub ready : Start now.run now.held block now.log
  pub left : ℕ
  pub enough : length block ≤ now.run.at + left
  pub same : feed_of rec strict block start ≡ feed_for rec strict block left now

pub feeding-none : (rec : Record) (strict : Bool) (block : List ℕ) (s : Stand) → Start s.run s.held block s.log → Feeding rec strict block s s
unfolding feed_of
feeding-none rec strict block s p = record { ready = p; left = length block; enough = omega arith; same = refl }

pub feeding-ready : {rec : Record} {strict : Bool} {block : List ℕ} {start s : Stand} → Feeding rec strict block start s → s.run.at < length block → longest_row ≤ length s.log - s.run.filled
    → TurnStart s.run s.held block s.log
feeding-ready g l r = record { inside = l; hold = g.ready.hold; used = g.ready.used; room = omega (arith, g.ready.within) }

one_more : (rec : Record) (strict : Bool) (block : List ℕ) (n : ℕ) (s : Stand) → s.run.at < length block → s.run.filled + longest_row ≤ length s.log
    → feed_for rec strict block (suc n) s ≡ feed_for rec strict block n (feed_turn rec strict block s)
one_more rec strict block n s l r = rw (lt-ltb s.run.at (length block) l, le-leb (s.run.filled + longest_row) (length s.log) r)

feeding-turn : {rec : Record} {strict : Bool} {block : List ℕ} {start s : Stand} → Feeding rec strict block start s → TurnStart s.run s.held block s.log
    → Feeding rec strict block start (feed_turn rec strict block s)
feeding-turn {rec} {strict} {block} {start} {s} g p = go g.left g.enough g.same
  where
    d : Turned rec strict block s (feed_turn rec strict block s)
    d = turned rec strict block s p

    go : (n : ℕ) → length block ≤ s.run.at + n → feed_of rec strict block start ≡ feed_for rec strict block n s → Feeding rec strict block start (feed_turn rec strict block s)
    go zero l e = absurd (omega (arith, p.inside))
    go (suc n) l e =
        record {
          ready = record { inside = d.inside; hold = d.hold ∙ p.hold; used = d.used; within = omega (arith, d.row, p.room, d.same) };
          left = n;
          enough = omega (arith, d.on);
          same = e ∙ one_more rec strict block n s p.inside p.room;
        }

pub feeding-on : {rec : Record} {strict : Bool} {block : List ℕ} {start s : Stand} {r : Run} {b : Bench} {held log : List ℕ} → Feeding rec strict block start s → TurnStart s.run s.held block s.log
    → Stands (feed_turn rec strict block s) r b held log → Feeding rec strict block start (standing r b held log)
feeding-on {rec} {strict} {block} {start} g p e = subst (Feeding rec strict block start) (sym (stands e)) (feeding-turn g p)

-- the loop's bench has the record and the setting that it began with
pub feeding-turned : {a b c : Bench} {block : List ℕ} {start : Stand} {r r' : Run} {held held' log log' : List ℕ} → StaysLent a b → Feeding a.rec a.strict block start (standing r b held log) → r.at < length block
    → longest_row ≤ length log - r.filled → Stands (feed_turn b.rec b.strict block (standing r b held log)) r' c held' log' → Feeding a.rec a.strict block start (standing r' c held' log')
feeding-turned k g l m e = feeding-on g (feeding-ready g l m) (rw (k.same_record, k.same_setting) at e)

-- it goes on in the block
pub turn_on : (rec : Record) (strict : Bool) (block : List ℕ) (s : Stand) {r : Run} {b : Bench} {held log : List ℕ} → TurnStart s.run s.held block s.log → Stands (feed_turn rec strict block s) r b held log → s.run.at < r.at
turn_on rec strict block s {r} p e =
    let d = turned rec strict block s p in
    let a : r.at ≡ (feed_turn rec strict block s).run.at = ap (λ (z : Run). z.at) e.run' in
    omega (arith, d.on)

-- and ends at the block's end, or where the log lacks room
stopped : (rec : Record) (strict : Bool) (block : List ℕ) (n : ℕ) (s : Stand) → (length block ≤ s.run.at) ⊎ (length s.log - s.run.filled < longest_row) → feed_for rec strict block n s ≡ s
stopped rec strict block zero s e = refl
stopped rec strict block (suc n) s (inl l) = rw (le-ltb s.run.at (length block) l)
stopped rec strict block (suc n) s (inr l) = go (ltb s.run.at (length block)) refl
  where
    go : (b : Bool) → ltb s.run.at (length block) ≡ b → feed_for rec strict block (suc n) s ≡ s
    go true p = rw (p, lt-leb (s.run.filled + longest_row) (length s.log) (omega arith))
    go false p = rw p

pub feeding-fed : {rec : Record} {strict : Bool} {block : List ℕ} {start : Stand} (r : Run) (b : Bench) (held log : List ℕ) → Feeding rec strict block start (standing r b held log) → (length block ≤ r.at) ⊎ (length log - r.filled < longest_row)
    → Stands (feed_of rec strict block start) r b held log
feeding-fed {rec} {strict} {block} {start} r b held log g e = stood r b held log (sym (g.same ∙ stopped rec strict block g.left (standing r b held log) e))

-- ---- the input's end
pub finishes-none : (rec : Record) (strict : Bool) (r : Run) (b : Bench) (held log : List ℕ) → r.used ≡ 0 → Stands (last_of rec strict (standing r b held log)) r b held log
unfolding last_of
finishes-none rec strict r b held log u = rw (eq-eqb r.used 0 u) (stood r b held log refl)

pub finishes-line : (rec : Record) (strict : Bool) (s : Stand) {handed held log' : List ℕ} {r : Run} {b : Bench} → (s.run.used ≡ 0 → ⊥) → handed ≡ take s.run.used s.held
    → Stands (line_done rec strict (record s { held = held }) held handed s.run.at) r b held log'
    → Stands (last_of rec strict s) r b s.held log'
unfolding last_of
finishes-line rec strict s u m d = rw (ne_eqb s.run.used 0 u) (line_kept rec strict s s.run.at {held' = s.held} m refl d)

module _ (rec : Record) (strict : Bool) (s : Stand) (l : length s.held ≡ held_room) (room : s.run.filled + longest_row ≤ length s.log) where
  abbrev x : Chip
  x = chip_now s

  abbrev used : ℕ
  used = s.run.used

  abbrev number : ℕ
  number = s.run.number

  abbrev last : List ℕ
  last = take used s.held

  none-held : used ≡ 0 → Finished rec strict s s
  none-held u = record { within = omega arith; did = λ line h. no_row line (empty line h); device = λ line h. no-turn line (empty line h) }
    where
      empty : (line : List ℕ) → Holds line s.held used → length line ≡ 0
      empty line h = omega (arith, h.count, length-take (length s.held) line)

      no_row : (line : List ℕ) → length line ≡ 0 → Put (log_from rec strict x s.wear number (last_line line)) s.log s.run.filled s.log s.run.filled
      no_row [] e = put-none s.log s.run.filled (omega arith)
      no_row (b ∷ bs) e = absurd (omega arith)

      no-turn : (line : List ℕ) → length line ≡ 0 → device_now s ≡ device_from rec strict x s.wear (last_line line)
      no-turn [] e = refl
      no-turn (b ∷ bs) e = absurd (omega arith)

  last-held : (used ≡ 0 → ⊥) → Finished rec strict s (line_done rec strict s s.held last s.run.at)
  unfolding line_done
  last-held u = record { within = omega (arith, short); did = λ line h. row line h; device = λ line h. device line h }
    where
      short : length (row_text rec strict x s.wear number last) ≤ longest_row
      short = row-short rec strict x s.wear number last

      no_line : Holds [] s.held used → ⊥
      no_line h = u (h.count ∙ omega (arith, length-take {A = ℕ} (length s.held) []))

      same : (line : List ℕ) → Holds line s.held used → Same rec strict x s.wear number last line
      same line h = same-clip rec strict x s.wear number held_room line (lit< tt) (h.is ∙ ap (λ (n : ℕ). take n line) l)

      row : (line : List ℕ) → Holds line s.held used
          → let t : Stand = line_done rec strict s s.held last s.run.at in Put (log_from rec strict x s.wear number (last_line line)) s.log s.run.filled t.log t.run.filled
      row [] h = absurd (no_line h)
      row (b ∷ bs) h =
          put_as (record { room = omega (arith, short); is = refl; next = refl })
          ((same (b ∷ bs) h).row ∙ sym (append-nil (row_text rec strict x s.wear number (b ∷ bs))))

      device : (line : List ℕ) → Holds line s.held used
          → record { chip = chip_after (line_turn rec strict x s.wear last); wear = (line_turn rec strict x s.wear last).wear } ≡ device_from rec strict x s.wear (last_line line)
      device [] h = absurd (no_line h)
      device (b ∷ bs) h = ap (λ (t : Turn). record { chip = chip_after t; wear = t.wear }) (same (b ∷ bs) h).turn

pub last-finishes : LastFinishes
unfolding last_of
last-finishes rec strict s l room = go (eqb s.run.used 0) refl
  where
    go : (b : Bool) → eqb s.run.used 0 ≡ b → Finished rec strict s (cond b s (line_done rec strict s s.held (take s.run.used s.held) s.run.at))
    go true e = none-held rec strict s l room (eqb-true s.run.used 0 e)
    go false e = last-held rec strict s l room (eqb-false s.run.used 0 e)

-- ---- no second answer
pub one-stands : OneStands
one-stands t r r₂ b b₂ held held₂ log log₂ p q =
    (p.run' ∙ sym q.run', p.state' ∙ sym q.state', p.held' ∙ sym q.held', p.page' ∙ sym q.page', p.cells' ∙ sym q.cells', p.wear' ∙ sym q.wear', p.log' ∙ sym q.log')
