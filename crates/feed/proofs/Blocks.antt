-- A caller's loops: a block fed again and again until it is used up, and block after block.
use Rattle.std.proofs.Common.{◌≡◌, ℕ, zero, suc, ◌+◌, ◌<◌, ◌≤◌, Bool, List, [], ◌∷◌, ◌++◌, length, sym, refl, ◌∙◌, subst, arith, le-ltb, lt-ltb}
use Rattle.states.specs.declared.Record.{Record}
use Rattle.play.specs.declared.Bench.{Bench}
use Rattle.lines.specs.Cutting.{held_room}
use Rattle.script_log.specs.Row.{longest_row}
use Rattle.feed.specs.declared.Run.{Run}
use Rattle.feed.specs.Feed.{Start, Stand, standing, feed_of, Stands}
use Rattle.feed.specs.Fed.{Fed}
use Rattle.feed.specs.Script.{emptied_run, emptied, begun, block_for, whole_block, passed_blocks}
use Rattle.feed.proofs.Turns.{stands, stood}
use Rattle.feed.proofs.Feeds.{feed-feeds, stands-fed}

-- ---- a block: `left` feeds more give what the whole block gives, each with an empty log
pub record Passing (rec : Record) (strict : Bool) (block : List ℕ) (start now : Stand) : Type 0 where
  pub ready : Start now.run now.held block now.log
  pub empty : now.run.filled ≡ 0
  pub room : longest_row ≤ length now.log
  pub left : ℕ
  pub enough : length block ≤ now.run.at + left
  pub same : (whole_block rec strict block start).stand ≡ (block_for rec strict block left now).stand

pub passing-none : (rec : Record) (strict : Bool) (block : List ℕ) (s : Stand) → length s.held ≡ held_room → s.run.used ≤ held_room → longest_row ≤ length s.log → Passing rec strict block s (begun s)
passing-none rec strict block s h u r =
    record { ready = record { inside = omega arith; hold = h; used = u; within = omega arith }; empty = refl; room = r; left = length block; enough = omega arith; same = refl }

one-feed : (rec : Record) (strict : Bool) (block : List ℕ) (n : ℕ) (s : Stand) → s.run.at < length block
    → (block_for rec strict block (suc n) s).stand ≡ (block_for rec strict block n (emptied (feed_of rec strict block s))).stand
one-feed rec strict block n s l = rw (lt-ltb s.run.at (length block) l)

passing-feed : {rec : Record} {strict : Bool} {block : List ℕ} {start s : Stand} → Passing rec strict block start s → s.run.at < length block → Passing rec strict block start (emptied (feed_of rec strict block s))
passing-feed {rec} {strict} {block} {start} {s} g l = go g.left g.enough g.same
  where
    f : Fed rec strict block s (feed_of rec strict block s)
    f = feed-feeds rec strict block s g.ready

    go : (n : ℕ) → length block ≤ s.run.at + n → (whole_block rec strict block start).stand ≡ (block_for rec strict block n s).stand → Passing rec strict block start (emptied (feed_of rec strict block s))
    go zero m e = absurd (omega arith)
    go (suc n) m e =
        record {
          ready = record { inside = f.inside; hold = f.hold ∙ g.ready.hold; used = f.used; within = omega arith };
          empty = refl;
          room = omega (arith, g.room, f.long);
          left = n;
          enough = omega (arith, f.on l (omega (arith, g.empty, g.room)));
          same = e ∙ one-feed rec strict block n s l;
        }

-- of what a feed gave, and the run emptied after it
pub passing-on : {rec : Record} {strict : Bool} {block : List ℕ} {start s : Stand} {r e : Run} {b : Bench} {held log : List ℕ} → Passing rec strict block start s → s.run.at < length block
    → Stands (feed_of rec strict block s) r b held log → e ≡ emptied_run r → Passing rec strict block start (standing e b held log)
passing-on {rec} {strict} {block} {start} {b = b} {held = held} {log = log} g l f e =
    subst (λ (z : Run). Passing rec strict block start (standing z b held log)) (sym e)
    (subst (λ (z : Stand). Passing rec strict block start (emptied z)) (sym (stands f)) (passing-feed g l))

pub passing-less : {rec : Record} {strict : Bool} {block : List ℕ} {start s : Stand} {r : Run} {b : Bench} {held log : List ℕ} → Passing rec strict block start s → s.run.at < length block
    → Stands (feed_of rec strict block s) r b held log → s.run.at < r.at
passing-less g l f = (stands-fed f g.ready).on l (omega (arith, g.empty, g.room))

used-up : (rec : Record) (strict : Bool) (block : List ℕ) (n : ℕ) (s : Stand) → length block ≤ s.run.at → (block_for rec strict block n s).stand ≡ s
used-up rec strict block zero s l = refl
used-up rec strict block (suc n) s l = rw (le-ltb s.run.at (length block) l)

pub passing-all : {rec : Record} {strict : Bool} {block : List ℕ} {start : Stand} (r : Run) (b : Bench) (held log : List ℕ) → Passing rec strict block start (standing r b held log) → length block ≤ r.at
    → Stands (whole_block rec strict block start).stand r b held log
passing-all {rec} {strict} {block} r b held log g l = stood r b held log (sym (g.same ∙ used-up rec strict block g.left (standing r b held log) l))

-- ---- one block more
pub passed-more : (rec : Record) (strict : Bool) (s : Stand) (blocks : List (List ℕ)) (block : List ℕ) → passed_blocks rec strict s (blocks ++ (block ∷ [])) ≡ (whole_block rec strict block (passed_blocks rec strict s blocks)).stand
passed-more rec strict s [] block = refl
passed-more rec strict s (b ∷ blocks) block = passed-more rec strict (whole_block rec strict b s).stand blocks block
