-- Laws of the page after a program.
use mathlib.Core.Path.{◌≡◌, refl, sym, ap, ◌∙◌}
use mathlib.Core.Bool.{Bool, true, false}
use mathlib.Core.List.{List}
use Prim.Native.Nat.{ℕ, ◌+◌, ◌-◌, ◌%◌, ◌≤◌, ◌<◌}
use native.Mathlib.Omega.{arith}
use lib.Bits.{bit_and}
use lib.Dec.{ltb}
use lib.ListN.{length, drop, get_or, length-drop, get_or-replicate}
use lib.Seq.{take_all, ext_get_or}
use borrow.Author.Tests.{ltb-true, ltb-false}
use borrow.Rule.Slice.PartMut.{put_mid, mid_of}
use Rattle.cells.specs.Cell.{FF, erased, anded}
use Rattle.parts.specs.Parts.{Bytes, part, lay}
use Rattle.fold.specs.Fold.{counts, cell_after, page_after}
use Rattle.cells.proofs.Cell.{ff-and, and_byte}
use Rattle.parts.proofs.Bytes.{bytes, bytes-replicate}
use Rattle.parts.proofs.Lay.{length_part, part_at, lay-before, lay-inside, lay-after, length-lay, part-back}
use Rattle.parts.proofs.Loop.{length-by_index, by_index-at}
use Rattle.fold.proofs.Counts.{unreached-stays, sent-counts, counts-tail}

pub length-page_after : (a : ℕ) (sent page : List ℕ) → length (page_after a sent page) ≡ length page
unfolding page_after
length-page_after a sent page = length-by_index (cell_after a sent) page

pub page_after-at : (a : ℕ) (sent page : List ℕ) (k : ℕ) → k < length page → get_or (page_after a sent page) k 0 ≡ cell_after a sent k (get_or page k 0)
unfolding page_after
page_after-at a sent page k l = by_index-at (cell_after a sent) page k l

-- a list that has those cells is the page after the program
pub page_after-is : (a : ℕ) (sent page out : List ℕ) → length out ≡ length page → ((k : ℕ) → k < length page → get_or out k 0 ≡ cell_after a sent k (get_or page k 0)) → out ≡ page_after a sent page
page_after-is a sent page out e h =
    ext_get_or 0 out (page_after a sent page) (e ∙ sym (length-page_after a sent page))
    (λ k l. h k (omega arith) ∙ sym (page_after-at a sent page k (omega arith)))

-- bytes stay bytes
pub bytes-page_after : (a : ℕ) (sent : List ℕ) {page : List ℕ} → Bytes page → Bytes (page_after a sent page)
unfolding cell_after
bytes-page_after a sent {page} p =
    bytes (λ k l. rw (page_after-at a sent page k (omega (arith, length-page_after a sent page))) (and_byte (get_or page k 0) _ (p.below k)))

-- of more than 256 bytes their last 256 count, from where those fall
pub tail-counts : (a f : ℕ) (sent : List ℕ) (k : ℕ) → length sent ≡ f + 256 → k < 256
    → counts ((a + f) % 256) (part sent f 256) (length (part sent f 256)) k ≡ counts a sent (length sent) k
tail-counts a f sent k e l = rw (long, tail, e) (counts-tail a f sent k l)
  where
    tail : part sent f 256 ≡ drop f sent
    tail = take_all 256 (drop f sent) (simp length-drop (omega arith))

    long : length (part sent f 256) ≡ 256
    long = length_part sent f 256 (omega arith)

-- so they do what all do
pub page-tail : (a f : ℕ) (sent page : List ℕ) → length sent ≡ f + 256 → length page ≡ 256 → page_after ((a + f) % 256) (part sent f 256) page ≡ page_after a sent page
unfolding cell_after
page-tail a f sent page e p =
    page_after-is a sent page (page_after ((a + f) % 256) (part sent f 256) page) (length-page_after ((a + f) % 256) (part sent f 256) page)
    (λ k l. page_after-at ((a + f) % 256) (part sent f 256) page k l ∙ ap (bit_and (get_or page k 0)) (tail-counts a f sent k e (omega arith)))

-- bytes that end within the page: before them and after them every cell stays, the others are ANDed
module _ (a : ℕ) (sent page : List ℕ) (h : a + length sent ≤ 256) (p : length page ≡ 256) (b : Bytes page) where
  pub before-stays : (k : ℕ) → k < a → get_or (page_after a sent page) k 0 ≡ get_or page k 0
  before-stays k l = page_after-at a sent page k (omega arith) ∙ unreached-stays a sent k (get_or page k 0) (b.below k) (λ j n e. omega arith)

  pub behind-stays : (k : ℕ) → k < 256 → a + length sent ≤ k → get_or (page_after a sent page) k 0 ≡ get_or page k 0
  behind-stays k m l = page_after-at a sent page k (omega arith) ∙ unreached-stays a sent k (get_or page k 0) (b.below k) (λ j n e. omega arith)

  pub and-inside : (k : ℕ) → a ≤ k → k < a + length sent → get_or (page_after a sent page) k 0 ≡ bit_and (get_or page k 0) (get_or sent (k - a) 0)
  and-inside k l m = page_after-at a sent page k (omega arith) ∙ sent-counts a sent (k - a) k (get_or page k 0) (omega arith) (omega arith) (omega arith)

-- a fresh page takes the bytes as they are
pub fresh-page : (a : ℕ) (sent : List ℕ) → a + length sent ≤ 256 → Bytes sent → page_after a sent (erased 256) ≡ lay (erased 256) a sent
fresh-page a sent h b =
    ext_get_or 0 (page_after a sent (erased 256)) (lay (erased 256) a sent) (length-page_after a sent (erased 256) ∙ sym (length-lay (erased 256) a sent h))
    (λ k l. at k (omega (arith, length-page_after a sent (erased 256))) (ltb k a) refl (ltb k (a + length sent)) refl)
  where
    at : (k : ℕ) → k < 256 → (t : Bool) → ltb k a ≡ t → (u : Bool) → ltb k (a + length sent) ≡ u → get_or (page_after a sent (erased 256)) k 0 ≡ get_or (lay (erased 256) a sent) k 0
    at k l true x u y =
        let m : k < a = ltb-true k a x in
        before-stays a sent (erased 256) h refl (bytes-replicate 256 FF (omega arith)) k m ∙ sym (lay-before (erased 256) a sent k (omega arith) m)
    at k l false x true y =
        let m : a ≤ k = ltb-false k a x in
        let n : k < a + length sent = ltb-true k (a + length sent) y in
        and-inside a sent (erased 256) h refl (bytes-replicate 256 FF (omega arith)) k m n
        ∙ rw (get_or-replicate 256 k FF 0 l) (ff-and (get_or sent (k - a) 0) (b.below (k - a)))
        ∙ sym (lay-inside (erased 256) a sent k (omega arith) m n)
    at k l false x false y =
        let n : a + length sent ≤ k = ltb-false k (a + length sent) y in
        behind-stays a sent (erased 256) h refl (bytes-replicate 256 FF (omega arith)) k l n ∙ sym (lay-after (erased 256) a sent k (omega arith) n)

-- ---- a program in place: the bytes ANDed into straight runs of the page
anded-at : (bytes cells : List ℕ) (k : ℕ) → k < length cells → get_or (anded bytes cells) k 0 ≡ bit_and (get_or cells k 0) (get_or bytes k 0)
unfolding anded
anded-at bytes cells k l = by_index-at (λ (i old : ℕ). bit_and old (get_or bytes i 0)) cells k l

-- a run of n cells from start on, ANDed with bytes
module _ (bytes page : List ℕ) (start n : ℕ) (h : start + n ≤ length page) where
  abbrev run : List ℕ
  run = anded bytes (part page start n)

  pub length_run : length run ≡ n
  unfolding anded
  length_run = length-by_index (λ (i old : ℕ). bit_and old (get_or bytes i 0)) (part page start n) ∙ length_part page start n h

  run-before : (k : ℕ) → k < start → get_or (lay page start run) k 0 ≡ get_or page k 0
  run-before k l = lay-before page start run k (omega arith) l

  run-after : (k : ℕ) → start + n ≤ k → get_or (lay page start run) k 0 ≡ get_or page k 0
  run-after k l = lay-after page start run k (omega arith) (omega (arith, length_run))

  run_in : (k : ℕ) → start ≤ k → k < start + n → get_or (lay page start run) k 0 ≡ bit_and (get_or page k 0) (get_or bytes (k - start) 0)
  run_in k l m =
      lay-inside page start run k (omega arith) l (omega (arith, length_run))
      ∙ anded-at bytes (part page start n) (k - start) (omega (arith, length_part page start n h))
      ∙ ap (λ (x : ℕ). bit_and x (get_or bytes (k - start) 0)) (part_at page start n (k - start) (omega arith) ∙ ap (λ (i : ℕ). get_or page i 0) {x = start + (k - start)} {y = k} (omega arith))

  run_long : length (lay page start run) ≡ length page
  run_long = length-lay page start run (omega (arith, length_run))

-- bytes that end within the page
pub one-run : (a : ℕ) (sent page : List ℕ) → length page ≡ 256 → Bytes page → a + length sent ≤ 256
    → lay page a (anded sent (part page a (length sent))) ≡ page_after a sent page
one-run a sent page p b h =
    page_after-is a sent page _ (run_long sent page a (length sent) (omega arith)) (λ k l. at k (omega arith) (ltb k a) refl (ltb k (a + length sent)) refl)
  where
    at : (k : ℕ) → k < 256 → (t : Bool) → ltb k a ≡ t → (u : Bool) → ltb k (a + length sent) ≡ u
        → get_or (lay page a (anded sent (part page a (length sent)))) k 0 ≡ cell_after a sent k (get_or page k 0)
    at k l true x u y =
        let m : k < a = ltb-true k a x in
        run-before sent page a (length sent) (omega arith) k m ∙ sym (unreached-stays a sent k (get_or page k 0) (b.below k) (λ j n e. omega arith))
    at k l false x true y =
        let m : a ≤ k = ltb-false k a x in
        let n : k < a + length sent = ltb-true k (a + length sent) y in
        run_in sent page a (length sent) (omega arith) k m n ∙ sym (sent-counts a sent (k - a) k (get_or page k 0) (omega arith) (omega arith) (omega arith))
    at k l false x false y =
        let n : a + length sent ≤ k = ltb-false k (a + length sent) y in
        run-after sent page a (length sent) (omega arith) k n ∙ sym (unreached-stays a sent k (get_or page k 0) (b.below k) (λ j m e. omega arith))

-- bytes that go beyond the page's end: to its end, and from its start
pub two_runs : (a room rest : ℕ) (sent page : List ℕ) → length page ≡ 256 → Bytes page → a + room ≡ 256 → length sent ≡ room + rest → rest ≤ a
    → (let one : List ℕ = lay page a (anded (part sent 0 room) (part page a room)) in
    lay one 0 (anded (part sent room rest) (part one 0 rest)) ≡ page_after a sent page)
two_runs a room rest sent page p b r n s =
    page_after-is a sent page _ (run_long back one 0 rest fits ∙ long) (λ k l. at k (omega arith) (ltb k rest) refl (ltb k a) refl)
  where
    front : List ℕ
    front = part sent 0 room

    back : List ℕ
    back = part sent room rest

    one : List ℕ
    one = lay page a (anded front (part page a room))

    long : length one ≡ length page
    long = run_long front page a room (omega arith)

    fits : 0 + rest ≤ length one
    fits = omega (arith, long)

    at : (k : ℕ) → k < 256 → (t : Bool) → ltb k rest ≡ t → (u : Bool) → ltb k a ≡ u
        → get_or (lay one 0 (anded back (part one 0 rest))) k 0 ≡ cell_after a sent k (get_or page k 0)
    at k l true x u y =
        let m : k < rest = ltb-true k rest x in
        run_in back one 0 rest fits k (omega arith) (omega arith)
        ∙ ap (λ (z : ℕ). bit_and z (get_or back (k - 0) 0)) (run-before front page a room (omega arith) k (omega arith))
        ∙ ap (bit_and (get_or page k 0)) (part_at sent room rest (k - 0) (omega arith))
        ∙ sym (sent-counts a sent (room + (k - 0)) k (get_or page k 0) (omega arith) (omega arith) (omega arith))
    at k l false x true y =
        let m : rest ≤ k = ltb-false k rest x in
        let o : k < a = ltb-true k a y in
        run-after back one 0 rest fits k (omega arith) ∙ run-before front page a room (omega arith) k o
        ∙ sym (unreached-stays a sent k (get_or page k 0) (b.below k) (λ j i e. omega arith))
    at k l false x false y =
        let m : rest ≤ k = ltb-false k rest x in
        let o : a ≤ k = ltb-false k a y in
        run-after back one 0 rest fits k (omega arith) ∙ run_in front page a room (omega arith) k o (omega arith)
        ∙ ap (bit_and (get_or page k 0)) (part_at sent 0 room (k - a) (omega arith) ∙ ap (λ (i : ℕ). get_or sent i 0) {x = 0 + (k - a)} {y = k - a} (omega arith))
        ∙ sym (sent-counts a sent (k - a) k (get_or page k 0) (omega arith) (omega arith) (omega arith))

-- the runs as they come back from the calls
pub one-back : (a : ℕ) (sent page ys : List ℕ) → length page ≡ 256 → Bytes page → a + length sent ≤ 256
    → ys ≡ anded sent (mid_of a (a + length sent - a) page) → put_mid a (a + length sent - a) page ys ≡ page_after a sent page
one-back a sent page ys p b h e =
    let n : a + length sent - a ≡ length sent = omega arith in
    part-back a (a + length sent) a page ys (anded sent (part page a (length sent))) refl (omega arith) (e ∙ ap (λ (m : ℕ). anded sent (part page a m)) n) (length_run sent page a (length sent) (omega arith) ∙ sym n)
    ∙ one-run a sent page p b h

pub two_back : (a room rest : ℕ) (sent page ys zs : List ℕ) → length page ≡ 256 → Bytes page → a + room ≡ 256 → length sent ≡ room + rest → rest ≤ a
    → ys ≡ anded (mid_of 0 (room - 0) sent) (mid_of a (a + room - a) page)
    → zs ≡ anded (mid_of room (room + rest - room) sent) (mid_of 0 (rest - 0) (put_mid a (a + room - a) page ys))
    → put_mid 0 (rest - 0) (put_mid a (a + room - a) page ys) zs ≡ page_after a sent page
two_back a room rest sent page ys zs p b r n s e f =
    let x₀ : room - 0 ≡ room = omega arith in
    let x₁ : a + room - a ≡ room = omega arith in
    let x₂ : room + rest - room ≡ rest = omega arith in
    let x₃ : rest - 0 ≡ rest = omega arith in
    let one : List ℕ = lay page a (anded (part sent 0 room) (part page a room)) in
    let first : put_mid a (a + room - a) page ys ≡ one =
    part-back a (a + room) a page ys (anded (part sent 0 room) (part page a room)) refl (omega arith)
    (e ∙ ap (λ (m : ℕ). anded (part sent 0 m) (part page a (a + room - a))) x₀ ∙ ap (λ (m : ℕ). anded (part sent 0 room) (part page a m)) x₁)
    (length_run (part sent 0 room) page a room (omega arith) ∙ sym x₁) in
    let long : length one ≡ length page = run_long (part sent 0 room) page a room (omega arith) in
    ap (λ (z : List ℕ). put_mid 0 (rest - 0) z zs) first
    ∙ part-back 0 rest 0 one zs (anded (part sent room rest) (part one 0 rest)) refl (omega arith)
    (f ∙ ap (λ (z : List ℕ). anded (mid_of room (room + rest - room) sent) (mid_of 0 (rest - 0) z)) first
    ∙ ap (λ (m : ℕ). anded (part sent room m) (part one 0 (rest - 0))) x₂ ∙ ap (λ (m : ℕ). anded (part sent room rest) (part one 0 m)) x₃)
    (length_run (part sent room rest) one 0 rest (omega (arith, long)) ∙ sym x₃)
    ∙ two_runs a room rest sent page p b r n s
