-- A block, and the input's end. No contract cites this file.
use Rattle.std.proofs.Common.{◌≡◌, ℕ, ◌+◌, ◌-◌, ◌*◌, ◌/◌, ◌≤◌, Bool, true, false, ◌&&◌, eqb, leb, List, [], ◌∷◌, ◌++◌, length, take, drop, sym, refl, ap, ◌∙◌, subst, subst₂, append-nil, arith, length-append, take_at, drop_at, leb-true}
use lib.Seq.{drop-length}
use borrow.Rule.Slice.PartMut.{put_mid}
use Rattle.parts.specs.Parts.{lay}
use Rattle.parts.proofs.Lay.{put_back, part-lay, length_part, lay-in-lay}
use Rattle.text.specs.Text.{newline}
use Rattle.text.specs.Put.{Put}
use Rattle.text.proofs.PutLaws.{put_then}
use Rattle.script.proofs.HexLaws.{and_left, and_right}
use Rattle.rewrite_blocks.specs.declared.Progress.{Progress}
use Rattle.rewrite_blocks.specs.declared.Passed.{Passed}
use Rattle.std.specs.Prelude.{Option, Some, None}
use Rattle.rewrite.specs.Rewriting.{number_after, numbers_text, ended_line, ended_number, LineRewritten}
use Rattle.rewrite_blocks.specs.Blocks.{Passage, passage, held_start, progress_at, block_fits, block_rewrite, last_rewrite, LinesRewritten, MovedDown, Rewrites}
use Rattle.rewrite.proofs.Lines.{length-ended_line}

-- ---- lengths
-- no byte is lost, and none added
pub length-passage : (long : Bool) (number : ℕ) (line s : List ℕ) → length ((passage long number line s).text ++ (passage long number line s).line) ≡ length line + length s
length-passage long number line [] = omega arith
length-passage long number line (b ∷ s) = go (eqb b newline) refl (length-passage false (number_after number) [] s) (length-passage long number (line ++ (b ∷ [])) s)
  where
    go : (t : Bool) → eqb b newline ≡ t
        → length ((passage false (number_after number) [] s).text ++ (passage false (number_after number) [] s).line) ≡ 0 + length s
        → length ((passage long number (line ++ (b ∷ [])) s).text ++ (passage long number (line ++ (b ∷ [])) s).line) ≡ length (line ++ (b ∷ [])) + length s
        → length ((passage long number line (b ∷ s)).text ++ (passage long number line (b ∷ s)).line) ≡ length line + length (b ∷ s)
    go true e h k =
        let n : length (ended_line long line) ≡ length line = length-ended_line long line in
        rw e (simp length-append (omega (arith, simp length-append at h)))
    go false e h k = rw e (k ∙ simp length-append (omega arith))

-- ---- what fits
pub record Fits (run : Progress) (n out report : ℕ) : Type 0 where
  pub low : run.at ≤ run.end
  pub inside : run.end ≤ out
  pub room : run.end - run.at + n ≤ out
  pub told : run.end - run.at + n ≤ report / 7 * 3

pub fits : (run : Progress) (n out report : ℕ) → block_fits run n out report ≡ true → Fits run n out report
unfolding block_fits
fits run n out report e =
    let lies : Bool = leb run.at run.end && leb run.end out in
    let both : Bool = leb (run.end - run.at + n) out && leb (run.end - run.at + n) (report / 7 * 3) in
    let a : lies ≡ true = and_left lies both e in
    let b : both ≡ true = and_right lies both e in
    record {
      low = leb-true _ _ (and_left (leb run.at run.end) (leb run.end out) a);
      inside = leb-true _ _ (and_right (leb run.at run.end) (leb run.end out) a);
      room = leb-true _ _ (and_left (leb (run.end - run.at + n) out) (leb (run.end - run.at + n) (report / 7 * 3)) b);
      told = leb-true _ _ (and_right (leb (run.end - run.at + n) out) (leb (run.end - run.at + n) (report / 7 * 3)) b);
    }

pub block_none : (run : Progress) (block out report : List ℕ) → block_fits run (length block) (length out) (length report) ≡ false → Rewrites (block_rewrite run block out report) None out report
unfolding block_rewrite
block_none run block out report e = record { step' = rw e; out' = rw e; report' = rw e }

pub last_none : (run : Progress) (out report : List ℕ) → block_fits run 0 (length out) (length report) ≡ false → Rewrites (last_rewrite run out report) None out report
unfolding last_rewrite
last_none run out report e = record { step' = rw e; out' = rw e; report' = rw e }

-- ---- what is held
length-held_start : (run : Progress) (out : List ℕ) → run.at ≤ run.end → run.end ≤ length out → length (held_start run out) ≡ run.end - run.at
length-held_start run out l m = length_part out run.at (run.end - run.at) (omega arith)

pub held-put : (run : Progress) (out : List ℕ) {held : ℕ} {out₁ : List ℕ} → run.at ≤ run.end → run.end ≤ length out → MovedDown out run.at run.end held out₁ → Put (held_start run out) out 0 out₁ held
held-put run out l m d =
    let n : length (held_start run out) ≡ run.end - run.at = length-held_start run out l m in
    record { room = omega arith; is = d.is; next = d.count ∙ omega arith }

-- a text at the start of the output, lent and brought back as another of its length
front-is : {text out out₁ : List ℕ} {e : ℕ} → Put text out 0 out₁ e → take (e - 0) (drop 0 out₁) ≡ text
front-is {text} {out} {out₁} {e} p =
    let n : e - 0 ≡ length text = omega (arith, p.next) in
    ap (λ (z : ℕ). take z out₁) n ∙ ap (take (length text)) p.is ∙ part-lay out 0 text (omega arith)

lay-all : (ys zs : List ℕ) → length zs ≡ length ys → lay ys 0 zs ≡ zs
unfolding lay
lay-all ys zs e =
    let n : 0 + length zs ≡ length ys = omega arith in
    ap (λ (z : ℕ). zs ++ drop z ys) n ∙ ap (λ (z : List ℕ). zs ++ z) (drop-length ys) ∙ append-nil zs

front-back : {text out out₁ : List ℕ} {e : ℕ} (bytes : List ℕ) → Put text out 0 out₁ e → length bytes ≡ length text → put_mid 0 (e - 0) out₁ bytes ≡ lay out 0 bytes
front-back {text} {out} {out₁} {e} bytes p n =
    put_back 0 e out₁ bytes (omega arith) (omega (arith, p.next)) ∙ ap (λ (z : List ℕ). lay z 0 bytes) p.is
    ∙ lay-in-lay out 0 text 0 bytes (omega arith) (omega arith) ∙ ap (lay out 0) (lay-all text bytes n)

-- ---- a block
-- what the lines ask: the part of the output that is lent to them
pub block-ready : (run : Progress) (block out report : List ℕ) {held e : ℕ} {out₁ out₂ : List ℕ} → block_fits run (length block) (length out) (length report) ≡ true
    → MovedDown out run.at run.end held out₁ → Put block out₁ held out₂ e
    → (held ≤ length (take (e - 0) (drop 0 out₂))) × (length (take (e - 0) (drop 0 out₂)) ≤ length report / 7 * 3) × (length (take (e - 0) (drop 0 out₂)) ≡ e)
block-ready run block out report {held} {e} {out₁} {out₂} f d b =
    let t = fits run (length block) (length out) (length report) f in
    let h = held-put run out t.low t.inside d in
    let n : length (take (e - 0) (drop 0 out₂)) ≡ length (held_start run out) + length block = ap length (front-is (put_then h b)) ∙ length-append (held_start run out) block in
    (omega (arith, h.next), omega (arith, h.next, d.count, t.told), omega (arith, h.next, b.next))

-- the open line lies in the bytes
pub at_in : {p : Passage} {report report' bytes : List ℕ} {q : Passed} (e : ℕ) → LinesRewritten p report q bytes report' → length bytes ≡ e → q.at ≤ e
at_in {p} e m n = omega (arith, m.at', ap length m.is, length-append p.text p.line)

pub block-some : (run : Progress) (block out report : List ℕ) {held e : ℕ} {out₁ out₂ bytes report' : List ℕ} {q : Passed} {r : Progress} → block_fits run (length block) (length out) (length report) ≡ true
    → MovedDown out run.at run.end held out₁ → Put block out₁ held out₂ e
    → LinesRewritten (passage run.long run.number (take held (take (e - 0) (drop 0 out₂))) (drop held (take (e - 0) (drop 0 out₂)))) report q bytes report'
    → r ≡ progress_at q.number q.long q.at e q.told
    → Rewrites (block_rewrite run block out report) (Some r) (put_mid 0 (e - 0) out₂ bytes) report'
unfolding block_rewrite
block-some run block out report {held} {e} {out₁} {out₂} {bytes} {report'} {q} {r} f d b l g =
    let t = fits run (length block) (length out) (length report) f in
    let start : List ℕ = held_start run out in
    let p : Passage = passage run.long run.number start block in
    let h : Put start out 0 out₁ held = held-put run out t.low t.inside d in
    let w : Put (start ++ block) out 0 out₂ e = put_then h b in
    let k : length start ≡ held = omega (arith, h.next) in
    let all : take (e - 0) (drop 0 out₂) ≡ start ++ block = front-is w in
    let same : passage run.long run.number (take held (take (e - 0) (drop 0 out₂))) (drop held (take (e - 0) (drop 0 out₂))) ≡ p =
    ap (λ (z : List ℕ). passage run.long run.number (take held z) (drop held z)) all
    ∙ ap (λ (z : List ℕ). passage run.long run.number z (drop held (start ++ block))) (take_at start block held k)
    ∙ ap (passage run.long run.number start) (drop_at start block held k) in
    let m : LinesRewritten p report q bytes report' = subst (λ (z : Passage). LinesRewritten z report q bytes report') same l in
    let n : length (p.text ++ p.line) ≡ length (start ++ block) = length-passage run.long run.number start block ∙ sym (length-append start block) in
    let end : e ≡ length (p.text ++ p.line) = omega (arith, w.next) in
    let told : q.told ≡ length (numbers_text p.changed) = omega (arith, m.put.next) in
    record {
      step' =
          rw f (ap Some (g ∙ ap (λ (z : ℕ). progress_at z q.long q.at e q.told) m.number' ∙ ap (λ (z : Bool). progress_at p.number z q.at e q.told) m.long'
          ∙ ap (λ (z : ℕ). progress_at p.number p.long z e q.told) m.at' ∙ ap (λ (z : ℕ). progress_at p.number p.long (length p.text) z q.told) end
          ∙ ap (λ (z : ℕ). progress_at p.number p.long (length p.text) (length (p.text ++ p.line)) z) told));
      out' = rw f (front-back bytes w (ap length m.is ∙ n) ∙ ap (lay out 0) m.is);
      report' = rw f m.put.is;
    }

-- ---- the input's end
-- what the last line asks
pub last-ready : (run : Progress) (out report : List ℕ) {held : ℕ} {out₁ : List ℕ} → block_fits run 0 (length out) (length report) ≡ true → MovedDown out run.at run.end held out₁
    → (0 ≤ length report) × (8 ≤ length (take (held - 0) (drop 0 out₁)) → 0 + 21 ≤ length report)
last-ready run out report {held} {out₁} f d =
    let t = fits run 0 (length out) (length report) f in
    let h = held-put run out t.low t.inside d in
    let n : length (take (held - 0) (drop 0 out₁)) ≡ length (held_start run out) = ap length (front-is h) in
    (omega arith, λ l. omega (arith, h.next, d.count, t.told))

pub last_some : (run : Progress) (out report : List ℕ) {held told : ℕ} {out₁ bytes report' : List ℕ} → block_fits run 0 (length out) (length report) ≡ true
    → MovedDown out run.at run.end held out₁ → LineRewritten run.long run.number (take (held - 0) (drop 0 out₁)) report 0 told bytes report'
    → Rewrites (last_rewrite run out report) (Some (record { number = run.number; long = run.long; at = held; end = held; told = told })) (put_mid 0 (held - 0) out₁ bytes) report'
unfolding last_rewrite
last_some run out report {held} {told} {out₁} {bytes} {report'} f d l =
    let t = fits run 0 (length out) (length report) f in
    let start : List ℕ = held_start run out in
    let h : Put start out 0 out₁ held = held-put run out t.low t.inside d in
    let m : LineRewritten run.long run.number start report 0 told bytes report' = subst (λ (z : List ℕ). LineRewritten run.long run.number z report 0 told bytes report') (front-is h) l in
    let n : told ≡ length (numbers_text (ended_number run.long run.number start)) = omega (arith, m.put.next) in
    record {
      step' =
          rw f (ap (λ (z : ℕ). Some (record { number = run.number; long = run.long; at = z; end = z; told = told })) d.count
          ∙ ap (λ (z : ℕ). Some (record { number = run.number; long = run.long; at = run.end - run.at; end = run.end - run.at; told = z })) n);
      out' = rw f (front-back bytes h (ap length m.is ∙ length-ended_line run.long start) ∙ ap (lay out 0) m.is);
      report' = rw f m.put.is;
    }

-- the same, where the report was lent to a sheet
pub last-on : (run : Progress) (out report : List ℕ) {held told at at' : ℕ} {out₁ bytes report₁ report₂ report' : List ℕ} → block_fits run 0 (length out) (length report) ≡ true
    → MovedDown out run.at run.end held out₁ → report₁ ≡ report → at ≡ 0 → told ≡ at' → report' ≡ report₂
    → LineRewritten run.long run.number (take (held - 0) (drop 0 out₁)) report₁ at at' bytes report₂
    → Rewrites (last_rewrite run out report) (Some (record { number = run.number; long = run.long; at = held; end = held; told = told })) (put_mid 0 (held - 0) out₁ bytes) report'
last-on run out report {held} {told} {at} {at'} {out₁} {bytes} {report₁} {report₂} {report'} f d s n t r w =
    let lent = subst₂ (λ (x : List ℕ) (y : ℕ). LineRewritten run.long run.number (take (held - 0) (drop 0 out₁)) x y at' bytes report₂) s n w in
    last_some run out report f d (subst₂ (λ (x : ℕ) (y : List ℕ). LineRewritten run.long run.number (take (held - 0) (drop 0 out₁)) report 0 x bytes y) (sym t) (sym r) lent)
