-- The cases of `wish_of`, as the code comes to them: `b` is whether the word is strict, `d` whether it is --help.
use mathlib.Core.Path.{◌≡◌, sym, ap, ◌∙◌}
use mathlib.Core.Bool.{Bool, true, false, ◌&&◌}
use mathlib.Core.List.{List}
use Prim.Native.Nat.{ℕ, ◌≤◌, ◌<◌}
use lib.Dec.{eqb}
use borrow.Author.Tests.{lt-ltb, le-ltb}
use Rattle.text.specs.Text.{ascii}
use Rattle.words.specs.declared.Wish.TheVariants.{Run, Strict, Help, Unknown}
use Rattle.words.specs.Words.{same_text, only_word, wish_of}

only-is : (count : ℕ) (whole : Bool) (word this : List ℕ) {b t : Bool} → b ≡ same_text word this → ((eqb count 2 && whole) && b) ≡ t → only_word count whole word this ≡ t
only-is count whole word this e h = ap (λ (z : Bool). (eqb count 2 && whole) && z) (sym e) ∙ h

module _ (count : ℕ) (whole : Bool) (word : List ℕ) where
  pub wish-none : count < 2 → Run ≡ wish_of count whole word
  unfolding wish_of
  wish-none l = rw (lt-ltb count 2 l)

  module _ (l : 2 ≤ count) {b : Bool} (e : b ≡ same_text word (ascii "strict")) where
    pub wish-strict : ((eqb count 2 && whole) && b) ≡ true → Strict ≡ wish_of count whole word
    unfolding wish_of
    wish-strict h = rw (le-ltb count 2 l, only-is count whole word (ascii "strict") e h)

    pub wish-help : {d : Bool} → d ≡ same_text word (ascii "--help") → ((eqb count 2 && whole) && b) ≡ false → ((eqb count 2 && whole) && d) ≡ true → Help ≡ wish_of count whole word
    unfolding wish_of
    wish-help f g h = rw (le-ltb count 2 l, only-is count whole word (ascii "strict") e g, only-is count whole word (ascii "--help") f h)

    pub wish-unknown : {d : Bool} → d ≡ same_text word (ascii "--help") → ((eqb count 2 && whole) && b) ≡ false → ((eqb count 2 && whole) && d) ≡ false → Unknown ≡ wish_of count whole word
    unfolding wish_of
    wish-unknown f g h = rw (le-ltb count 2 l, only-is count whole word (ascii "strict") e g, only-is count whole word (ascii "--help") f h)
