-- Laws of every table of refusals. A row is told by its refusal, never by its place.
use mathlib.Core.Path.{◌≡◌, refl, sym, ◌∙◌}
use mathlib.Core.Bool.{Bool, true, false, not, ◌&&◌, cond, and-eq-true_iff, false≢true}
use mathlib.Core.List.{List, [], ◌∷◌, ◌++◌}
use lib.Dec.{eqb}
use borrow.Author.Tests.{not-true}
use Rattle.std.specs.Prelude.{Err}
use Rattle.answers.specs.Answers.{Answer, Done, number, number_of, is_done}
use Rattle.answers.specs.declared.Refusal.{Refusal}
use Rattle.answers.specs.declared.Refusal.TheVariants.{BadRecord, BadArray, BadState, BadFrame, ShortOut, Empty, Settling, Busy, Asleep, NoCommand, BadLength, NotEnabled, Locked, Protected, BadPattern, BadTable, WornOut, NotErased, BadLine, Withdrawn, NoSignature, BadHeader, BadPointer, BadEntry, InHold}
use Rattle.answers.specs.Tables.{Rung, first_of}

-- no refusal has the number 0
pub never-zero : (r : Refusal) → eqb 0 (number r) ≡ false
never-zero BadRecord = refl
never-zero BadArray = refl
never-zero BadState = refl
never-zero BadFrame = refl
never-zero ShortOut = refl
never-zero Empty = refl
never-zero Settling = refl
never-zero Busy = refl
never-zero Asleep = refl
never-zero NoCommand = refl
never-zero BadLength = refl
never-zero NotEnabled = refl
never-zero Locked = refl
never-zero Protected = refl
never-zero BadPattern = refl
never-zero BadTable = refl
never-zero WornOut = refl
never-zero NotErased = refl
never-zero BadLine = refl
never-zero Withdrawn = refl
never-zero NoSignature = refl
never-zero BadHeader = refl
never-zero BadPointer = refl
never-zero BadEntry = refl
never-zero InHold = refl

-- the row gives that refusal
abbrev gives : Refusal → Rung → Bool
gives a r = eqb (number r.says) (number a)

-- every row gives such an answer
abbrev pub every : (Answer → Bool) → List Rung → Bool
every p [] = true
every p (r ∷ rs) = p (Err r.says) && every p rs

-- no row gives such an answer
abbrev pub spares : (Answer → Bool) → List Rung → Bool
spares p rs = every (λ (a : Answer). not (p a)) rs

-- the test of the row that gives that refusal
abbrev pub test_of : Refusal → List Rung → Bool
test_of a [] = false
test_of a (r ∷ rs) = cond (gives a r) r.bad (test_of a rs)

-- the rows before it, and those up to it
abbrev pub before : Refusal → List Rung → List Rung
before a [] = []
before a (r ∷ rs) = cond (gives a r) [] (r ∷ before a rs)

abbrev pub up_to : Refusal → List Rung → List Rung
up_to a [] = []
up_to a (r ∷ rs) = r ∷ cond (gives a r) [] (up_to a rs)

-- and those after it
abbrev pub beyond : Refusal → List Rung → List Rung
beyond a [] = []
beyond a (r ∷ rs) = cond (gives a r) rs (beyond a rs)

-- ---- one table after the other
pub joined : (xs ys : List Rung) → first_of (xs ++ ys) ≡ cond (is_done (first_of xs)) (first_of ys) (first_of xs)
joined [] ys = refl
joined (r ∷ rs) ys = go r.bad (joined rs ys)
  where
    go : (b : Bool) → first_of (rs ++ ys) ≡ cond (is_done (first_of rs)) (first_of ys) (first_of rs)
        → cond b (Err r.says) (first_of (rs ++ ys)) ≡ cond (is_done (cond b (Err r.says) (first_of rs))) (first_of ys) (cond b (Err r.says) (first_of rs))
    go true e = refl
    go false e = e

-- ---- nothing is refused: the test of each row fails
pub row-clear : (rs : List Rung) → is_done (first_of rs) ≡ true → (a : Refusal) → test_of a rs ≡ false
row-clear [] e a = refl
row-clear (r ∷ rs) e a =
    let s = step r.bad e in
    go (gives a r) s.0 (row-clear rs s.1 a)
  where
    step : (b : Bool) → is_done (cond b (Err r.says) (first_of rs)) ≡ true → (b ≡ false) × (is_done (first_of rs) ≡ true)
    step true f = absurd (false≢true f)
    step false f = (refl, f)

    go : (t : Bool) → r.bad ≡ false → test_of a rs ≡ false → cond t r.bad (test_of a rs) ≡ false
    go true p q = p
    go false p q = q

-- ---- an answer that no row gives
pub spared : (p : Answer → Bool) → p Done ≡ false → (rs : List Rung) → spares p rs ≡ true → p (first_of rs) ≡ false
spared p d [] h = d
spared p d (r ∷ rs) h =
    let k = (and-eq-true_iff (not (p (Err r.says))) (spares p rs)).0 h in
    go r.bad (not-true _ k.0) (spared p d rs k.1)
  where
    go : (b : Bool) → p (Err r.says) ≡ false → p (first_of rs) ≡ false → p (cond b (Err r.says) (first_of rs)) ≡ false
    go true e f = e
    go false e f = f

-- ---- a row refuses: the test of each row before it fails
module _ (a : Refusal) where
  abbrev is : Answer → Bool
  is c = eqb (number_of c) (number a)

  pub earlier-clear : (rs : List Rung) → is (first_of rs) ≡ true → (c : Refusal) → test_of c (before a rs) ≡ false
  earlier-clear [] e c = refl
  earlier-clear (r ∷ rs) e c = go (gives a r) refl r.bad refl (λ f. earlier-clear rs f c)
    where
      pick : (t : Bool) → r.bad ≡ false → test_of c (before a rs) ≡ false → cond t r.bad (test_of c (before a rs)) ≡ false
      pick true p q = p
      pick false p q = q

      go : (t : Bool) → gives a r ≡ t → (b : Bool) → r.bad ≡ b → (is (first_of rs) ≡ true → test_of c (before a rs) ≡ false) → test_of c (cond t [] (r ∷ before a rs)) ≡ false
      go true p b q f = refl
      go false p true q f = absurd (false≢true (sym p ∙ (rw q at e)))
      go false p false q f = pick (gives c r) q (f (rw q at e))

  -- and its own holds, where no later row gives its answer too
  pub row-holds : (rs : List Rung) → spares is (beyond a rs) ≡ true → is (first_of rs) ≡ true → test_of a rs ≡ true
  row-holds [] h e = absurd (false≢true (sym (never-zero a) ∙ e))
  row-holds (r ∷ rs) h e = go (gives a r) refl r.bad refl (λ k f. row-holds rs k f)
    where
      go : (t : Bool) → gives a r ≡ t → (b : Bool) → r.bad ≡ b → (spares is (beyond a rs) ≡ true → is (first_of rs) ≡ true → test_of a rs ≡ true) → cond t r.bad (test_of a rs) ≡ true
      go true p true q f = q
      go true p false q f = absurd (false≢true (sym (spared is (never-zero a) rs (rw p at h)) ∙ (rw q at e)))
      go false p true q f = absurd (false≢true (sym p ∙ (rw q at e)))
      go false p false q f = f (rw p at h) (rw q at e)

-- ---- a row's test holds: it refuses, or one before it
pub by-then : (p : Answer → Bool) (a : Refusal) (rs : List Rung) → every p (up_to a rs) ≡ true → test_of a rs ≡ true → p (first_of rs) ≡ true
by-then p a [] h e = absurd (false≢true e)
by-then p a (r ∷ rs) h e =
    let k = (and-eq-true_iff (p (Err r.says)) _).0 h in
    go r.bad refl (gives a r) refl k.0 (λ f g. by-then p a rs f g) k.1
  where
    go : (b : Bool) → r.bad ≡ b → (t : Bool) → gives a r ≡ t → p (Err r.says) ≡ true → (every p (up_to a rs) ≡ true → test_of a rs ≡ true → p (first_of rs) ≡ true) → every p (cond (gives a r) [] (up_to a rs)) ≡ true
        → p (cond b (Err r.says) (first_of rs)) ≡ true
    go true q t i y f g = y
    go false q true i y f g = absurd (false≢true (sym q ∙ (rw i at e)))
    go false q false i y f g = f (rw i at g) (rw i at e)
