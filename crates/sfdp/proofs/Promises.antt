-- What specs/Promises.antt states.
use mathlib.Core.Path.{◌≡◌, refl, sym, ap, ◌∙◌}
use mathlib.Core.Bool.{Bool, true, false, ◌&&◌, false≢true}
use mathlib.Core.List.{List, [], ◌∷◌, ◌++◌}
use Prim.Native.Nat.{ℕ, ◌-◌, ◌%◌}
use native.Mathlib.Omega.{arith}
use lib.Dec.{eqb, leb}
use lib.ListN.{length, drop, replicate}
use lib.Seq.{drop_at}
use borrow.Author.Tests.{eqb-true, le-leb}
use Rattle.parts.proofs.Lay.{length-lay}
use Rattle.units.proofs.Bools.{both}
use Rattle.answers.specs.Answers.{is_done}
use Rattle.sfdp_image.specs.Image.{image, sfdp_from}
use Rattle.sfdp_image.proofs.Driven.{whole-image}
use Rattle.sfdp.specs.Sfdp.{image_of, entry, pairs, all_fit, takes, table_refusal, entry_of, table_for}
use Rattle.sfdp.specs.Promises.{own_entry, ChipsOwn, OwnWritten, HostsView, CutShort, RoundTrip, RestStays, RefusedStays, TakenIsInside, InsideIsTaken, OneContents, OneVersion, OneParameter, OneSlot, OneWritten}
use Rattle.sfdp.proofs.Writer.{fit, length-page, written_is}
use Rattle.sfdp.proofs.Inside.{taken-inside, inside-taken}
use Rattle.sfdp.proofs.Back.{page-back, flat-pairs}

pub chips-own : ChipsOwn
unfolding image image_of
chips-own = refl

pub own-written : OwnWritten
unfolding table_for
own-written out l = rw (le-leb 112 (length out) l, chips-own)

pub hosts-view : HostsView
hosts-view n l =
    let laid : sfdp_from 0 n ≡ image_of own_entry ++ replicate (n - 112) 0xFF = whole-image n l ∙ ap (λ (z : List ℕ). z ++ replicate (n - 112) 0xFF) (sym chips-own) in
    rw laid (page-back 0x1FFFFF (0x0C ∷ 0x20 ∷ 0x10 ∷ 0xD8 ∷ []) (replicate (n - 112) 0xFF) (omega arith) refl)

pub cut_short : CutShort
unfolding table_refusal image
cut_short = (refl, refl, refl, refl, refl)

-- ---- the writer
cases : (n : ℕ) (ns out : List ℕ) (b : Bool) → takes n ns (length out) ≡ b → is_done (table_for n ns out).answer ≡ true → takes n ns (length out) ≡ true
unfolding table_for
cases n ns out true e h = e
cases n ns out false e h = absurd (false≢true (rw e at h))

pub round_trip : RoundTrip
round_trip n ns out h =
    let e = cases n ns out (takes n ns (length out)) refl h in
    let f = fit n ns (length out) e in
    let t = f.list.is in
    let b = page-back n ns (drop 112 out) f.density t in
    record {
      taken = ap table_refusal (written_is n ns out e) ∙ b.0;
      same = ap entry_of (written_is n ns out e) ∙ b.1;
      whole = flat-pairs ns (eqb-true (length ns % 2) 0 (both (eqb (length ns % 2) 0) (leb (length ns) 8 && all_fit (pairs ns)) t).0);
    }

stays : (n : ℕ) (ns out : List ℕ) (b : Bool) → takes n ns (length out) ≡ b → (drop 112 (table_for n ns out).out ≡ drop 112 out) × (length (table_for n ns out).out ≡ length out)
unfolding table_for
stays n ns out true e =
    let f = fit n ns (length out) e in
    let l = length-page n ns f.list in
    let roomy = f.roomy in (
      ap (drop 112) (written_is n ns out e) ∙ drop_at (image_of (entry n (pairs ns))) (drop 112 out) 112 l,
      rw e (length-lay out 0 (image_of (entry n (pairs ns))) (omega arith)),
    )
stays n ns out false e = rw e (refl, refl)

pub rest-stays : RestStays
rest-stays n ns out = stays n ns out (takes n ns (length out)) refl

pub refused-stays : RefusedStays
unfolding table_for
refused-stays n ns out h = go (takes n ns (length out)) refl
  where
    go : (b : Bool) → takes n ns (length out) ≡ b → (table_for n ns out).out ≡ out
    go true e = absurd (h (rw e))
    go false e = rw e

-- ---- the reader
pub taken-is-inside : TakenIsInside
taken-is-inside = taken-inside

pub inside-is-taken : InsideIsTaken
inside-is-taken = inside-taken

pub one-contents : OneContents
one-contents xs r r' p q = p ∙ sym q

pub one-version : OneVersion
one-version xs r r' p q = p ∙ sym q

pub one-parameter : OneParameter
one-parameter xs i r r' p q = p ∙ sym q

pub one-slot : OneSlot
one-slot xs i r r' p q = p ∙ sym q

pub one_written : OneWritten
one_written w answer answer' out out' p q = (p.answer-is ∙ sym q.answer-is, p.out-is ∙ sym q.out-is)
