-- Whatever lines are played, state and page data go on to fit their bytes.
use mathlib.Core.Path.{◌≡◌, refl, sym, ap, subst, ◌∙◌}
use mathlib.Core.Bool.{Bool, true, false, cond, ◌&&◌}
use mathlib.Core.List.{List}
use Prim.Native.Nat.{ℕ, zero, suc, ◌+◌}
use lib.Dec.{eqb, leb, ltb}
use borrow.Author.Tests.{eqb-true}
use lib.ListN.{length, take, drop}
use Rattle.std.specs.Prelude.{Option, Some, None}
use Rattle.answers.specs.Answers.{Answer}
use Rattle.states.specs.States.{Chip}
use Rattle.states.specs.declared.Record.{Record}
use Rattle.states.specs.declared.State.{State}
use Rattle.chip.specs.Frames.{sent_of}
use Rattle.packing.proofs.Packing.{Small}
use Rattle.fits.specs.Fits.{may_move}
use Rattle.fits.proofs.Fits.{Keeps, frame-keeps, wait-keeps, cycle-keeps}
use Rattle.script.specs.declared.Line.{Line}
use Rattle.script.specs.declared.Line.TheVariants.{Frame, Wait, Power}
use Rattle.script.specs.Hex.{hex_bytes}
use Rattle.script.specs.Reading.{line_of}
use Rattle.lines.specs.declared.Cut.{Cut}
use Rattle.lines.specs.declared.Cut.TheVariants.{Here, Joined, Open}
use Rattle.lines.specs.Cutting.{cut_of, held_of}
use Rattle.script_log.specs.Row.{longest_row}
use Rattle.play.specs.Play.{frame_turn, turn_of}
use Rattle.feed.specs.Feed.{Stand, line_done, cut_turn, feed_turn, feed_for, feed_of, last_of}

-- state and page data fit the 272 bytes
pub record Fit272 (s : State) (page : List ℕ) : Type 0 where
  pub small : Small s
  pub long : length page ≡ 256

abbrev pub Fitting : Stand → Type 0
Fitting s = Fit272 s.state s.page

-- ---- a call
after : {rec : Record} {x : Chip} {a : Answer} {next : State} {page : List ℕ} → Keeps rec x a next page → Fit272 x.state x.page → Fit272 next page
after {x = x} {a = a} {next = next} {page = page} k h = go (may_move a) refl
  where
    go : (b : Bool) → may_move a ≡ b → Fit272 next page
    go true d = record { small = k.small d; long = k.long d }
    go false d = record { small = subst Small (sym (k.same-state d)) h.small; long = ap length (k.same-page d) ∙ h.long }

-- ---- a line
turn-fits : (rec : Record) (strict : Bool) (x : Chip) (wear shown line : List ℕ) (l : Option Line) → Fit272 x.state x.page
    → Fit272 (turn_of rec strict x wear shown line l).state (turn_of rec strict x wear shown line l).page
unfolding turn_of frame_turn
turn-fits rec strict x wear shown line (Some (Frame wp tail n)) h = after (frame-keeps rec x (sent_of (take 300 (hex_bytes (drop 6 line))) tail wp strict wear shown)) h
turn-fits rec strict x wear shown line (Some (Wait us)) h = after (wait-keeps rec x us) h
turn-fits rec strict x wear shown line (Some Power) h = after (cycle-keeps rec x) h
turn-fits rec strict x wear shown line None h = h

line-fits : (rec : Record) (strict : Bool) (s : Stand) (held line : List ℕ) (to : ℕ) → Fitting s → Fitting (line_done rec strict s held line to)
unfolding line_done
line-fits rec strict s held line to h = turn-fits rec strict _ s.wear _ line (line_of line) h

-- ---- a block
cut_fits : (rec : Record) (strict : Bool) (block : List ℕ) (s : Stand) (held : List ℕ) (k : Cut) → Fitting s → Fitting (cut_turn rec strict block s held k)
cut_fits rec strict block s held (Here e) h = line-fits rec strict s held _ _ h
cut_fits rec strict block s held (Joined n e) h = line-fits rec strict s held _ _ h
cut_fits rec strict block s held (Open n) h = h

one-turn-fits : (rec : Record) (strict : Bool) (block : List ℕ) (s : Stand) → Fitting s → Fitting (feed_turn rec strict block s)
unfolding feed_turn
one-turn-fits rec strict block s h = cut_fits rec strict block s (held_of s.held s.run.used block s.run.at) (cut_of s.held s.run.used block s.run.at) h

either-fits : (b : Bool) (t u : Stand) → Fitting t → Fitting u → Fitting (cond b t u)
either-fits true t u p q = p
either-fits false t u p q = q

turns_fit : (rec : Record) (strict : Bool) (block : List ℕ) (n : ℕ) (s : Stand) → Fitting s → Fitting (feed_for rec strict block n s)
turns_fit rec strict block zero s h = h
turns_fit rec strict block (suc n) s h =
    either-fits (ltb s.run.at (length block) && leb (s.run.filled + longest_row) (length s.log)) (feed_for rec strict block n (feed_turn rec strict block s)) s
    (turns_fit rec strict block n (feed_turn rec strict block s) (one-turn-fits rec strict block s h)) h

pub feed-fits : (rec : Record) (strict : Bool) (block : List ℕ) (s : Stand) → Fitting s → Fitting (feed_of rec strict block s)
unfolding feed_of
feed-fits rec strict block s h = turns_fit rec strict block (length block) s h

-- ---- the text's end
pub last_fits : (rec : Record) (strict : Bool) (s : Stand) → Fitting s → Fitting (last_of rec strict s)
unfolding last_of
last_fits rec strict s h =
    let line : List ℕ = take s.run.used s.held in
    either-fits (eqb s.run.used 0) s (line_done rec strict s s.held line s.run.at) h (line-fits rec strict s s.held line s.run.at h)

-- nothing is held after it
pub last-used : (rec : Record) (strict : Bool) (s : Stand) → (last_of rec strict s).run.used ≡ 0
unfolding last_of line_done
last-used rec strict s = go (eqb s.run.used 0) refl
  where
    go : (b : Bool) → eqb s.run.used 0 ≡ b → (cond b s (line_done rec strict s s.held (take s.run.used s.held) s.run.at)).run.used ≡ 0
    go true e = eqb-true s.run.used 0 e
    go false e = refl
