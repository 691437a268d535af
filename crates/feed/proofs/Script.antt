-- A whole script: what is written is the log of its lines.
use Rattle.std.proofs.Common.{◌≡◌, ℕ, zero, suc, ◌+◌, ◌≤◌, Bool, true, false, ltb, List, [], ◌∷◌, ◌++◌, length, take, drop, sym, refl, ap, ◌∙◌, append_assoc, arith, length-take, ltb-false, ltb-true}
use lib.Seq.{drop-length}
use Rattle.parts.proofs.Lay.{part-lay}
use Rattle.states.specs.declared.Record.{Record}
use Rattle.text.specs.Put.{Put}
use Rattle.text.proofs.PutLaws.{put_same}
use Rattle.lines.specs.Lines.{lines_from, joined_up}
use Rattle.lines.specs.Cutting.{Holds, held_room}
use Rattle.stepper.specs.Rows.{log_from, device_from}
use Rattle.script_log.specs.Row.{longest_row}
use Rattle.feed.specs.Feed.{Stand, chip_now, feed_of}
use Rattle.feed.specs.Fed.{Did, Fed}
use Rattle.feed.specs.Script.{emptied, begun, filled_part, Wrote, block_for, whole_block, WholeScript, WholeDevice}
use Rattle.feed.proofs.Feeds.{feed-feeds, last-finishes}

-- a text that was put into an empty log is what is written out of it
pub put-filled : {text d e : List ℕ} {r : ℕ} → Put text d 0 e r → take r e ≡ text
put-filled {text} {d} {e} {r} p =
    let n : r ≡ length text = omega (arith, p.next) in
    ap (λ (k : ℕ). take k e) n ∙ ap (take (length text)) p.is ∙ part-lay d 0 text (omega arith)

-- ---- a block
record Within (block : List ℕ) (s : Stand) (line : List ℕ) : Type 0 where
  inside : s.run.at ≤ length block
  hold : length s.held ≡ held_room
  room : longest_row ≤ length s.log
  holds : Holds line s.held s.run.used

-- the block is used up, and `rest` is held
record Through (rec : Record) (strict : Bool) (block : List ℕ) (s : Stand) (line : List ℕ) (w : Wrote) : Type 0 where
  rest : List ℕ
  hold : length w.stand.held ≡ held_room
  room : longest_row ≤ length w.stand.log
  holds : Holds rest w.stand.held w.stand.run.used
  same : (later : List ℕ)
      → log_from rec strict (chip_now s) s.wear s.run.number (lines_from line (drop s.run.at block ++ later))
      ≡ w.text ++ log_from rec strict (chip_now w.stand) w.stand.wear w.stand.run.number (lines_from rest later)
  device : (later : List ℕ) → device_from rec strict (chip_now s) s.wear (lines_from line (drop s.run.at block ++ later)) ≡ device_from rec strict (chip_now w.stand) w.stand.wear (lines_from rest later)

used-up : (rec : Record) (strict : Bool) (block : List ℕ) (s : Stand) (line : List ℕ) → Within block s line → length block ≤ s.run.at → Through rec strict block s line (record { text = []; stand = emptied s })
used-up rec strict block s line p l =
    let n : s.run.at ≡ length block = omega (arith, p.inside) in
    let none : drop s.run.at block ≡ [] = ap (λ (k : ℕ). drop k block) n ∙ drop-length block in
    record {
      rest = line;
      hold = p.hold;
      room = p.room;
      holds = p.holds;
      same = λ later. ap (λ (z : List ℕ). log_from rec strict (chip_now s) s.wear s.run.number (lines_from line (z ++ later))) none;
      device = λ later. ap (λ (z : List ℕ). device_from rec strict (chip_now s) s.wear (lines_from line (z ++ later))) none;
    }

module _ (rec : Record) (strict : Bool) (block : List ℕ) (s : Stand) (line : List ℕ) (p : Within block s line) where
  abbrev fed : Stand
  fed = feed_of rec strict block (emptied s)

  feeds : Fed rec strict block (emptied s) fed
  feeds =
      feed-feeds rec strict block (emptied s)
      (record { inside = p.inside; hold = p.hold; used = omega (arith, p.holds.count, p.hold, length-take (length s.held) line); within = omega arith })

  did : Did rec strict block (emptied s) fed line
  did = feeds.did line p.holds

  next-within : Within block fed did.rest
  next-within = record { inside = feeds.inside; hold = feeds.hold ∙ p.hold; room = omega (arith, p.room, put_same did.put); holds = did.holds }

  through-more : (w : Wrote) → Through rec strict block fed did.rest w → Through rec strict block s line (record { text = filled_part fed ++ w.text; stand = w.stand })
  through-more w t =
      record {
        rest = t.rest;
        hold = t.hold;
        room = t.room;
        holds = t.holds;
        same = λ later.
            let end : List ℕ = log_from rec strict (chip_now w.stand) w.stand.wear w.stand.run.number (lines_from t.rest later) in
            did.same later ∙ ap (λ (z : List ℕ). did.text ++ z) (t.same later) ∙ sym (append_assoc did.text w.text end)
            ∙ ap (λ (z : List ℕ). z ++ w.text ++ end) (sym (put-filled did.put));
        device = λ later. did.device later ∙ t.device later;
      }

through-for : (rec : Record) (strict : Bool) (block : List ℕ) (n : ℕ) (s : Stand) (line : List ℕ) → Within block s line → length block ≤ s.run.at + n → Through rec strict block s line (block_for rec strict block n (emptied s))
through-for rec strict block zero s line p l = used-up rec strict block s line p (omega arith)
through-for rec strict block (suc n) s line p l =
    go (ltb s.run.at (length block)) refl (through-for rec strict block n (fed rec strict block s line p) (did rec strict block s line p).rest (next-within rec strict block s line p))
  where
    go : (b : Bool) → ltb s.run.at (length block) ≡ b
        → (length block ≤ (fed rec strict block s line p).run.at + n → Through rec strict block (fed rec strict block s line p) (did rec strict block s line p).rest (block_for rec strict block n (emptied (fed rec strict block s line p))))
        → Through rec strict block s line (block_for rec strict block (suc n) (emptied s))
    go true e f =
        rw e (through-more rec strict block s line p (block_for rec strict block n (emptied (fed rec strict block s line p)))
        (f (omega (arith, (feeds rec strict block s line p).on (ltb-true s.run.at (length block) e) p.room))))
    go false e f = rw e (used-up rec strict block s line p (ltb-false s.run.at (length block) e))

-- ---- block after block
through-block : (rec : Record) (strict : Bool) (s : Stand) (line block : List ℕ) → length s.held ≡ held_room → longest_row ≤ length s.log → Holds line s.held s.run.used
    → Through rec strict block (begun s) line (whole_block rec strict block s)
through-block rec strict s line block l r h = through-for rec strict block (length block) (begun s) line (record { inside = omega arith; hold = l; room = r; holds = h }) (omega arith)

pub whole-script : WholeScript
whole-script rec strict s line [] l r h = put-filled ((last-finishes rec strict (begun s) l r).did line h)
whole-script rec strict s line (block ∷ blocks) l r h =
    let t = through-block rec strict s line block l r h in
    let w : Wrote = whole_block rec strict block s in
    ap (λ (z : List ℕ). w.text ++ z) (whole-script rec strict w.stand t.rest blocks t.hold t.room t.holds) ∙ sym (t.same (joined_up blocks))

pub whole-device : WholeDevice
whole-device rec strict s line [] l r h = (last-finishes rec strict (begun s) l r).device line h
whole-device rec strict s line (block ∷ blocks) l r h =
    let t = through-block rec strict s line block l r h in
    whole-device rec strict (whole_block rec strict block s).stand t.rest blocks t.hold t.room t.holds ∙ sym (t.device (joined_up blocks))
