-- What the words that a program is started with ask for. A program knows `--help` and `strict`, and takes one of them at most.
use Rattle.std.specs.Prelude.{Bool, true, false, ◌&&◌, cond, List, [], ◌∷◌, ℕ, eqb, ltb}
use Rattle.text.specs.Text.{ascii}
use Rattle.words.specs.declared.Wish.{Wish}
use Rattle.words.specs.declared.Wish.TheVariants.{Run, Strict, Help, Unknown}

abbrev pub same_text : List ℕ → List ℕ → Bool
same_text [] [] = true
same_text [] (y ∷ ys) = false
same_text (x ∷ xs) [] = false
same_text (x ∷ xs) (y ∷ ys) = eqb x y && same_text xs ys

-- one word beside the program's own name, read whole, that is this
abbrev pub only_word : ℕ → Bool → List ℕ → List ℕ → Bool
only_word count whole word this = (eqb count 2 && whole) && same_text word this

-- so many words, the program's own name among them; the first after it, and whether it was read whole
unfoldable pub wish_of : ℕ → Bool → List ℕ → Wish
wish_of count whole word =
    cond (ltb count 2) Run (cond (only_word count whole word (ascii "strict")) Strict (cond (only_word count whole word (ascii "--help")) Help Unknown))

-- under the strict setting
abbrev pub is_strict : Wish → Bool
is_strict Run = false
is_strict Strict = true
is_strict Help = false
is_strict Unknown = false

-- of a program that has no strict setting
abbrev pub without_strict : Wish → Wish
without_strict Run = Run
without_strict Strict = Unknown
without_strict Help = Help
without_strict Unknown = Unknown

-- the use is shown, and no more
abbrev pub asks_no_run : Wish → Bool
asks_no_run Run = false
asks_no_run Strict = false
asks_no_run Help = true
asks_no_run Unknown = true
