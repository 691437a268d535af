-- The stages, one after the other, are the one table.
use mathlib.Core.Path.{◌≡◌, refl, sym, ap, ◌∙◌}
use mathlib.Core.Bool.{Bool, true, false, cond, true≢false}
use mathlib.Core.List.{◌++◌}
use Rattle.std.specs.Prelude.{Err}
use Rattle.answers.specs.Answers.{Answer, Done, is_done}
use Rattle.states.specs.declared.Record.{Record}
use Rattle.states.specs.declared.State.{State}
use Rattle.commands.specs.declared.Traits.{Traits}
use Rattle.commands.proofs.Rows.{no-latch}
use Rattle.answers.specs.declared.Refusal.TheVariants.{WornOut, NotErased}
use Rattle.ladder.specs.declared.Head.{Head}
use Rattle.answers.specs.Tables.{first_of}
use Rattle.answers.proofs.Tables.{joined}
use Rattle.ladder.specs.Ladder.{given_rows, said_rows, heard_rows, write_rows, data_rows, asks, refusal_of}
use Rattle.ladder.specs.Stages.{given_of, said_of, heard_of, allowed_of, data_of}

-- two stages, by the law of one table after the other
pub one_table : (rec : Record) (s : State) (h : Head)
    → refusal_of rec s h ≡ cond (is_done (given_of rec s h)) (cond (is_done (said_of rec s h)) (data_of rec s h) (said_of rec s h)) (given_of rec s h)
unfolding refusal_of given_of said_of data_of
one_table rec s h =
    let said = said_rows rec s h (asks rec h) in
    joined (given_rows rec s h) (said ++ data_rows h)
    ∙ ap (λ (a : Answer). cond (is_done (first_of (given_rows rec s h))) a (first_of (given_rows rec s h))) (joined said (data_rows h))

pub two-stages : (rec : Record) (s : State) (h : Head)
    → (let k : Traits = asks rec h in
    said_of rec s h ≡ cond (is_done (heard_of rec s h k)) (allowed_of rec s h k) (heard_of rec s h k))
unfolding said_of heard_of allowed_of
two-stages rec s h = let k : Traits = asks rec h in joined (heard_rows s h k) (write_rows rec s h k)

-- ---- where the code stops
module _ (rec : Record) (s : State) (h : Head) where
  abbrev k : Traits
  k = asks rec h

  pub stops-given : is_done (given_of rec s h) ≡ false → refusal_of rec s h ≡ given_of rec s h
  stops-given e = one_table rec s h ∙ rw e

  pub stops-said : is_done (given_of rec s h) ≡ true → is_done (said_of rec s h) ≡ false → refusal_of rec s h ≡ said_of rec s h
  stops-said e f = one_table rec s h ∙ rw (e, f)

  pub goes_on : is_done (given_of rec s h) ≡ true → is_done (said_of rec s h) ≡ true → refusal_of rec s h ≡ data_of rec s h
  goes_on e f = one_table rec s h ∙ rw (e, f)

  -- and a frame that nothing refuses has passed both
  pub both-pass : is_done (refusal_of rec s h) ≡ true → (is_done (given_of rec s h) ≡ true) × (is_done (said_of rec s h) ≡ true)
  both-pass e = go (is_done (given_of rec s h)) refl (is_done (said_of rec s h)) refl
    where
      go : (a : Bool) → is_done (given_of rec s h) ≡ a → (b : Bool) → is_done (said_of rec s h) ≡ b → (a ≡ true) × (b ≡ true)
      go true p true q = (refl, refl)
      go true p false q = absurd (true≢false (sym e ∙ ap is_done (stops-said p q) ∙ q))
      go false p b q = absurd (true≢false (sym e ∙ ap is_done (stops-given p) ∙ p))

  -- the last group looks at nothing but what the cells and the wear table say
  pub data_is : data_of rec s h ≡ cond h.over (Err NotErased) (cond h.worn (Err WornOut) Done)
  unfolding data_of
  data_is = refl

  pub stops-heard : is_done (heard_of rec s h k) ≡ false → said_of rec s h ≡ heard_of rec s h k
  stops-heard e = two-stages rec s h ∙ rw e

  pub passes-heard : is_done (heard_of rec s h k) ≡ true → said_of rec s h ≡ allowed_of rec s h k
  passes-heard e = two-stages rec s h ∙ rw e

-- a frame that no stage stops
pub all_pass : (rec : Record) (s : State) (h : Head) → given_of rec s h ≡ Done → said_of rec s h ≡ Done → data_of rec s h ≡ Done → refusal_of rec s h ≡ Done
all_pass rec s h p q r = goes_on rec s h (ap is_done p) (ap is_done q) ∙ r

-- a command that needs no WEL is stopped by no row of what a write needs
pub harmless : (rec : Record) (s : State) (h : Head) → (asks rec h).latch ≡ false → allowed_of rec s h (asks rec h) ≡ Done
unfolding allowed_of
harmless rec s h e = let k = no-latch _ h.command e in rw (k.latch, k.lock, k.unit, k.whole)
