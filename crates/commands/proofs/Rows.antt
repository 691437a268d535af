-- What holds of every command's row, by one computed test, and which lengths are allowed.
use mathlib.Core.Path.{◌≡◌, refl, sym, ap, ◌∙◌}
use mathlib.Core.List.{List, [], ◌∷◌, ◌++◌}
use mathlib.Core.Bool.{Bool, true, false, not, ◌&&◌, ◌||◌, cond, and-eq-true_iff, or-true, or-false, false≢true}
use Prim.Native.Nat.{ℕ, ◌≤◌, ◌<◌}
use native.Mathlib.Omega.{arith}
use lib.Dec.{eqb, leb, lit≤}
use borrow.Author.Tests.{eqb-true, eqb-false, ne_eqb, leb-true, leb-false, le-leb, lt-leb, not-true}
use Rattle.std.specs.Prelude.{Option, Some, None}
use Rattle.commands.specs.declared.Operation.{Operation}
use Rattle.commands.specs.declared.Operation.TheVariants.{WritesStatus, Programs, ErasesSector, ErasesHalf, ErasesBlock, ErasesChip}
use Rattle.commands.specs.declared.Traits.{Traits}
use Rattle.commands.specs.declared.Command.{Command}
use Rattle.commands.specs.declared.Command.TheVariants.{WriteEnable, WriteDisable, ReadStatus, ReadConfig, WriteStatus, Read, FastRead, EraseSector, EraseHalf, EraseBlock, EraseChip, Program, ReadId, Wake, ReadMaker, Sleep, Unknown, Withdrawn, ReadSfdp}
use Rattle.commands.specs.Commands.{Byte, ◌is◌, common, look_up, traits_of, length_ok, fewest, operation_of, decode_of, started_by, most_written}

-- ---- which lengths are allowed
module _ (k : Traits) (n : ℕ) where
  pub between : k.low ≤ n → n ≤ k.high → length_ok k n 0 ≡ true
  unfolding length_ok
  between l h = rw (le-leb k.low n l, le-leb n k.high h)

  pub least_on : (tail : ℕ) → k.least ≤ n → length_ok k n tail ≡ true
  unfolding length_ok
  least_on tail l = rw (le-leb k.least n l) (or-true ((leb k.low n && leb n k.high) && eqb tail 0))

  pub long-enough : (tail : ℕ) → length_ok k n tail ≡ true → fewest k ≤ n
  unfolding length_ok
  long-enough tail e = go (leb (fewest k) n) refl
    where
      go : (b : Bool) → leb (fewest k) n ≡ b → fewest k ≤ n
      go true t = leb-true (fewest k) n t
      go false t =
          let s : n < fewest k = leb-false (fewest k) n t in
          absurd (false≢true (rw (lt-leb k.low n (omega arith), lt-leb k.least n (omega arith)) at e))

-- ---- the rows: a frame of the fewest bytes is allowed; the last three refusals ask nothing of a command that needs no WEL; one that needs it is
-- not taken while busy
row_test : Traits → Bool
row_test k =
    length_ok k (fewest k) 0
    && ((k.latch || (not k.lock && (not k.unit && not k.whole))) && not (k.latch && k.while_busy))

row-test : (r : Bool) (c : Command) → row_test (traits_of r c) ≡ true
unfolding traits_of length_ok row_test
row-test r WriteEnable = refl
row-test r WriteDisable = refl
row-test r ReadStatus = refl
row-test r ReadConfig = refl
row-test true WriteStatus = refl
row-test false WriteStatus = refl
row-test r Read = refl
row-test r FastRead = refl
row-test r EraseSector = refl
row-test r EraseHalf = refl
row-test r EraseBlock = refl
row-test r EraseChip = refl
row-test r Program = refl
row-test r ReadId = refl
row-test r Wake = refl
row-test r ReadMaker = refl
row-test r Sleep = refl
row-test r Unknown = refl
row-test r Withdrawn = refl
row-test r ReadSfdp = refl

pub fewest-allowed : (r : Bool) (c : Command) → length_ok (traits_of r c) (fewest (traits_of r c)) 0 ≡ true
unfolding row_test
fewest-allowed r c = ((and-eq-true_iff _ _).0 (row-test r c)).0

-- a status write of one data byte is allowed on every model
pub one-byte-write : (r : Bool) → 2 ≤ (traits_of r WriteStatus).high
unfolding traits_of
one-byte-write true = lit≤ tt
one-byte-write false = lit≤ tt

pub record Harmless (k : Traits) : Type 0 where
  pub latch : k.latch ≡ false
  pub lock : k.lock ≡ false
  pub unit : k.unit ≡ false
  pub whole : k.whole ≡ false

pub no-latch : (r : Bool) (c : Command) → (traits_of r c).latch ≡ false → Harmless (traits_of r c)
unfolding row_test
no-latch r c e =
    let k : Traits = traits_of r c in
    let t : (k.latch || (not k.lock && (not k.unit && not k.whole))) ≡ true = ((and-eq-true_iff _ _).0 ((and-eq-true_iff (length_ok k (fewest k) 0) _).0 (row-test r c)).1).0 in
    let a = (and-eq-true_iff (not k.lock) _).0 (rw e at t) in
    let b = (and-eq-true_iff (not k.unit) (not k.whole)).0 a.1 in
    record { latch = e; lock = not-true _ a.0; unit = not-true _ b.0; whole = not-true _ b.1 }

pub latch-waits : (r : Bool) (c : Command) → (traits_of r c).latch ≡ true → (traits_of r c).while_busy ≡ false
unfolding row_test
latch-waits r c e =
    let k : Traits = traits_of r c in
    let t : not (k.latch && k.while_busy) ≡ true = ((and-eq-true_iff (k.latch || (not k.lock && (not k.unit && not k.whole))) _).0 ((and-eq-true_iff (length_ok k (fewest k) 0) _).0 (row-test r c)).1).1 in
    rw e at (not-true (k.latch && k.while_busy) t)

-- FF starts no operation
pub none-started : (n : ℕ) → started_by n 0xFF ≡ None
unfolding decode_of
none-started n = go (eqb n 3) refl
  where
    go : (b : Bool) → eqb n 3 ≡ b → started_by n 0xFF ≡ None
    go true e = rw e
    go false e = rw e

-- a status write has one data byte, and with the register one or two
pub write-length : (r : Bool) (n tail : ℕ) → n ≤ 65541 → length_ok (traits_of r WriteStatus) n tail ≡ true → (2 ≤ n) × (n ≤ most_written r)
unfolding traits_of length_ok
write-length r n tail s e = go (leb 65542 n) refl
  where
    go : (b : Bool) → leb 65542 n ≡ b → (2 ≤ n) × (n ≤ most_written r)
    go true t = absurd (omega (arith, leb-true 65542 n t))
    go false t =
        let k = sym (or-false ((leb 2 n && leb n (most_written r)) && eqb tail 0)) ∙ (rw t at e) in
        let q = (and-eq-true_iff (leb 2 n) (leb n (most_written r))).0 ((and-eq-true_iff (leb 2 n && leb n (most_written r)) (eqb tail 0)).0 k).0 in
        (leb-true 2 n q.0, leb-true n (most_written r) q.1)

-- ---- a program has at least five bytes
is_program : Option Operation → Bool
is_program None = false
is_program (Some WritesStatus) = false
is_program (Some Programs) = true
is_program (Some ErasesSector) = false
is_program (Some ErasesHalf) = false
is_program (Some ErasesBlock) = false
is_program (Some ErasesChip) = false

program-row : (r : Bool) (c : Command) → is_program (operation_of c) ≡ true → 5 ≤ fewest (traits_of r c)
unfolding is_program traits_of
program-row r WriteEnable e = absurd (false≢true e)
program-row r WriteDisable e = absurd (false≢true e)
program-row r ReadStatus e = absurd (false≢true e)
program-row r ReadConfig e = absurd (false≢true e)
program-row r WriteStatus e = absurd (false≢true e)
program-row r Read e = absurd (false≢true e)
program-row r FastRead e = absurd (false≢true e)
program-row r EraseSector e = absurd (false≢true e)
program-row r EraseHalf e = absurd (false≢true e)
program-row r EraseBlock e = absurd (false≢true e)
program-row r EraseChip e = absurd (false≢true e)
program-row r Program e = lit≤ tt
program-row r ReadId e = absurd (false≢true e)
program-row r Wake e = absurd (false≢true e)
program-row r ReadMaker e = absurd (false≢true e)
program-row r Sleep e = absurd (false≢true e)
program-row r Unknown e = absurd (false≢true e)
program-row r Withdrawn e = absurd (false≢true e)
program-row r ReadSfdp e = absurd (false≢true e)

pub program-length : (r : Bool) (c : Command) → operation_of c ≡ Some Programs → 5 ≤ fewest (traits_of r c)
unfolding is_program
program-length r c e = program-row r c (ap is_program e)

-- ---- only model 3 has the erase of a half block
is_half : Command → Bool
is_half WriteEnable = false
is_half WriteDisable = false
is_half ReadStatus = false
is_half ReadConfig = false
is_half WriteStatus = false
is_half Read = false
is_half FastRead = false
is_half EraseSector = false
is_half EraseHalf = true
is_half EraseBlock = false
is_half EraseChip = false
is_half Program = false
is_half ReadId = false
is_half Wake = false
is_half ReadMaker = false
is_half Sleep = false
is_half Unknown = false
is_half Withdrawn = false
is_half ReadSfdp = false

-- no row of the table means such a command
lacks : (Command → Bool) → List Byte → Bool
lacks p [] = true
lacks p (r ∷ rs) = not (p r.means) && lacks p rs

-- then no byte does
module _ (p : Command → Bool) (u : p Unknown ≡ false) where
  never : (b : ℕ) (rs : List Byte) → lacks p rs ≡ true → p (look_up b rs) ≡ false
  unfolding lacks
  never b [] e = u
  never b (r ∷ rs) e =
      let k = (and-eq-true_iff (not (p r.means)) (lacks p rs)).0 e in
      go (eqb b r.byte) (not-true (p r.means) k.0) (never b rs k.1)
    where
      go : (t : Bool) → p r.means ≡ false → p (look_up b rs) ≡ false → p (cond t r.means (look_up b rs)) ≡ false
      go true q s = q
      go false q s = s

  -- and where the last row alone may, only the byte of that row
  only-last : (b : ℕ) (rs : List Byte) (l : Byte) → lacks p rs ≡ true → p (look_up b (rs ++ (l ∷ []))) ≡ true → b ≡ l.byte
  unfolding lacks
  only-last b [] l e = go (eqb b l.byte) refl
    where
      go : (t : Bool) → eqb b l.byte ≡ t → p (cond t l.means Unknown) ≡ true → b ≡ l.byte
      go true q s = eqb-true b l.byte q
      go false q s = absurd (false≢true (sym u ∙ s))
  only-last b (r ∷ rs) l e =
      let k = (and-eq-true_iff (not (p r.means)) (lacks p rs)).0 e in
      go (eqb b r.byte) (not-true (p r.means) k.0) (only-last b rs l k.1)
    where
      go : (t : Bool) → p r.means ≡ false → (p (look_up b (rs ++ (l ∷ []))) ≡ true → b ≡ l.byte) → p (cond t r.means (look_up b (rs ++ (l ∷ [])))) ≡ true → b ≡ l.byte
      go true q f s = absurd (false≢true (sym q ∙ s))
      go false q f s = f s

pub half-only-3 : (n b : ℕ) → decode_of n b ≡ EraseHalf → n ≡ 3
unfolding decode_of is_half lacks
half-only-3 n b e = go (eqb n 3) refl (eqb n 2) refl
  where
    go : (t : Bool) → eqb n 3 ≡ t → (k : Bool) → eqb n 2 ≡ k → n ≡ 3
    go true p k q = eqb-true n 3 p
    go false p true q =
        let no : is_half (decode_of n b) ≡ false = rw (p, q) (never is_half refl b (common ++ ((0x5A is ReadSfdp) ∷ (0x52 is Withdrawn) ∷ [])) refl) in
        absurd (false≢true (sym no ∙ ap is_half e))
    go false p false q =
        let no : is_half (decode_of n b) ≡ false = rw (p, q) (never is_half refl b (common ++ ((0x5A is Unknown) ∷ (0x52 is Withdrawn) ∷ [])) refl) in
        absurd (false≢true (sym no ∙ ap is_half e))

-- ---- only 52 is withdrawn, and not on model 3
pub means-withdrawn : (n : ℕ) → (n ≡ 3 → ⊥) → decode_of n 0x52 ≡ Withdrawn
unfolding decode_of
means-withdrawn n m = rw (ne_eqb n 3 m)

pub only-52 : (r : Bool) (n b : ℕ) → (traits_of r (decode_of n b)).withdrawn ≡ true → (b ≡ 0x52) × (n ≡ 3 → ⊥)
unfolding decode_of traits_of lacks
only-52 r n b e = go (eqb n 3) refl (eqb n 2) refl
  where
    gone : Command → Bool
    gone c = (traits_of r c).withdrawn

    go : (t : Bool) → eqb n 3 ≡ t → (k : Bool) → eqb n 2 ≡ k → (b ≡ 0x52) × (n ≡ 3 → ⊥)
    go true p true q =
        let no : gone (decode_of n b) ≡ false = rw (p, q) (never gone refl b (common ++ ((0x5A is ReadSfdp) ∷ (0x52 is EraseHalf) ∷ (0x15 is ReadConfig) ∷ [])) refl) in
        absurd (false≢true (sym no ∙ e))
    go true p false q =
        let no : gone (decode_of n b) ≡ false = rw (p, q) (never gone refl b (common ++ ((0x5A is Unknown) ∷ (0x52 is EraseHalf) ∷ (0x15 is ReadConfig) ∷ [])) refl) in
        absurd (false≢true (sym no ∙ e))
    go false p true q = (only-last gone refl b (common ++ ((0x5A is ReadSfdp) ∷ [])) (0x52 is Withdrawn) refl (rw (p, q) at e), eqb-false n 3 p)
    go false p false q = (only-last gone refl b (common ++ ((0x5A is Unknown) ∷ [])) (0x52 is Withdrawn) refl (rw (p, q) at e), eqb-false n 3 p)
