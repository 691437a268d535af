-- Blocks one after the other are the whole script.
use Rattle.std.proofs.Common.{◌≡◌, ℕ, ◌+◌, ◌-◌, ◌*◌, ◌/◌, ◌<◌, ◌≤◌, Bool, true, false, cond, eqb, ltb, List, [], ◌∷◌, ◌++◌, length, take, drop, sym, refl, ap, ◌∙◌, subst, append_assoc, append-nil, arith, length-append, take_at, drop_at, ltb-false, ltb-true, le-leb}
use Rattle.parts.specs.Parts.{part, lay}
use Rattle.parts.proofs.Lay.{length-lay, part-lay, length_part}
use Rattle.text.specs.Text.{newline}
use Rattle.text.proofs.PutLaws.{one-put}
use Rattle.script.specs.Grammar.{longest_line}
use Rattle.script.proofs.ReadLaws.{too_long}
use Rattle.lines.specs.Lines.{last_line, lines_from, joined_up}
use Rattle.rewrite.specs.Rewriting.{begins52, rewritten_line, rewritten_from, number_after, changed_line, changed_lines, numbers_text, ended_line, ended_number}
use Rattle.rewrite.proofs.Lines.{begins-other, number-few, length-ended_line}
use Rattle.rewrite.proofs.Frames.{stays}
use Rattle.rewrite.proofs.Scripts.{empty-begins}
use Rattle.rewrite_blocks.specs.declared.Progress.{Progress}
use Rattle.std.specs.Prelude.{Option, Some, None}
use Rattle.rewrite_blocks.specs.Blocks.{Passage, after_line, passage, first_progress, held_start, long_by, progress_of, block_fits, Rewrote, passage_rewrite, block_rewrite, last_taken, last_rewrite}
use Rattle.rewrite_blocks.specs.Promises.{nothing_more, written_then, written_blocks, AllWithin, WholeScriptRewritten, HoldsFew, OneRewrites, OneLinesRewritten, OneMovedDown}
use Rattle.rewrite_blocks.specs.Promises.AllWithin.{none, more}
use Rattle.rewrite_blocks.proofs.Passages.{behind, numbers-append}
use Rattle.rewrite_blocks.proofs.Steps.{length-passage, fits}

-- ---- a passage, and then the input's end
abbrev whole : Passage → List ℕ
whole p = p.text ++ ended_line p.long p.line

abbrev all_told : Passage → List ℕ
all_told p = p.changed ++ ended_number p.long p.number p.line

whole_from : (number : ℕ) (line s : List ℕ) → whole (passage false number line s) ≡ rewritten_from line s
whole_from number line [] = refl
whole_from number line (b ∷ s) = go (eqb b newline) refl (whole_from (number_after number) [] s) (whole_from number (line ++ (b ∷ [])) s)
  where
    go : (t : Bool) → eqb b newline ≡ t → whole (passage false (number_after number) [] s) ≡ rewritten_from [] s → whole (passage false number (line ++ (b ∷ [])) s) ≡ rewritten_from (line ++ (b ∷ [])) s
        → whole (passage false number line (b ∷ s)) ≡ rewritten_from line (b ∷ s)
    go true e h k =
        let q : Passage = passage false (number_after number) [] s in
        rw e (append_assoc (rewritten_line line) (newline ∷ q.text) (ended_line q.long q.line) ∙ ap (λ (z : List ℕ). rewritten_line line ++ (newline ∷ z)) h)
    go false e h k = rw e k

told-last : (number : ℕ) (line : List ℕ) → changed_line number line ≡ changed_lines number (last_line line)
told-last number [] = rw empty-begins
told-last number (b ∷ line) = sym (append-nil (changed_line number (b ∷ line)))

told-from : (number : ℕ) (line s : List ℕ) → all_told (passage false number line s) ≡ changed_lines number (lines_from line s)
told-from number line [] = told-last number line
told-from number line (b ∷ s) = go (eqb b newline) refl (told-from (number_after number) [] s) (told-from number (line ++ (b ∷ [])) s)
  where
    go : (t : Bool) → eqb b newline ≡ t → all_told (passage false (number_after number) [] s) ≡ changed_lines (number_after number) (lines_from [] s)
        → all_told (passage false number (line ++ (b ∷ [])) s) ≡ changed_lines number (lines_from (line ++ (b ∷ [])) s)
        → all_told (passage false number line (b ∷ s)) ≡ changed_lines number (lines_from line (b ∷ s))
    go true e h k =
        let q : Passage = passage false (number_after number) [] s in
        rw e (append_assoc (changed_line number line) q.changed (ended_number q.long q.number q.line) ∙ ap (λ (z : List ℕ). changed_line number line ++ z) h)
    go false e h k = rw e k

-- ---- one passage after the other
abbrev and_then : Passage → List ℕ → Passage
and_then p t = behind p.text p.changed (passage p.long p.number p.line t)

passage-append : (long : Bool) (number : ℕ) (line s t : List ℕ) → passage long number line (s ++ t) ≡ and_then (passage long number line s) t
passage-append long number line [] t = refl
passage-append long number line (b ∷ s) t = go (eqb b newline) refl (passage-append false (number_after number) [] s t) (passage-append long number (line ++ (b ∷ [])) s t)
  where
    go : (u : Bool) → eqb b newline ≡ u → passage false (number_after number) [] (s ++ t) ≡ and_then (passage false (number_after number) [] s) t
        → passage long number (line ++ (b ∷ [])) (s ++ t) ≡ and_then (passage long number (line ++ (b ∷ [])) s) t
        → passage long number line ((b ∷ s) ++ t) ≡ and_then (passage long number line (b ∷ s)) t
    go true e h k =
        let q : Passage = passage false (number_after number) [] s in
        let r : Passage = passage q.long q.number q.line t in
        rw e (ap (after_line long number line) h
        ∙ ap (λ (z : List ℕ). record { text = z; changed = ended_number long number line ++ (q.changed ++ r.changed); number = r.number; long = r.long; line = r.line }) (sym (append_assoc (ended_line long line) (newline ∷ q.text) r.text))
        ∙ ap (λ (z : List ℕ). record { text = ended_line long line ++ (newline ∷ q.text) ++ r.text; changed = z; number = r.number; long = r.long; line = r.line }) (sym (append_assoc (ended_number long number line) q.changed r.changed)))
    go false e h k = rw e k

whole_append : (long : Bool) (number : ℕ) (line s t : List ℕ) → let p : Passage = passage long number line s in
    whole (passage long number line (s ++ t)) ≡ p.text ++ whole (passage p.long p.number p.line t)
whole_append long number line s t =
    let p : Passage = passage long number line s in
    let r : Passage = passage p.long p.number p.line t in
    ap whole (passage-append long number line s t) ∙ append_assoc p.text r.text (ended_line r.long r.line)

told-append : (long : Bool) (number : ℕ) (line s t : List ℕ) → let p : Passage = passage long number line s in
    all_told (passage long number line (s ++ t)) ≡ p.changed ++ all_told (passage p.long p.number p.line t)
told-append long number line s t =
    let p : Passage = passage long number line s in
    let r : Passage = passage p.long p.number p.line t in
    ap all_told (passage-append long number line s t) ∙ append_assoc p.changed r.changed (ended_number r.long r.number r.line)

-- ---- a line that is long by now goes out as it is
record Dead (long : Bool) (line : List ℕ) : Type 0 where
  stays-as : (u : List ℕ) → ended_line long (line ++ u) ≡ line ++ u
  unnumbered : (number : ℕ) (u : List ℕ) → ended_number long number (line ++ u) ≡ []

dead-long : (line : List ℕ) → Dead true line
dead-long line = record { stays-as = λ u. refl; unnumbered = λ number u. refl }

over-begins : (line u : List ℕ) → longest_line < length line → begins52 (line ++ u) ≡ false
over-begins line u l = sym (begins-other (line ++ u) (too_long (line ++ u) (simp length-append (omega arith))) refl)

dead-over : (line : List ℕ) → longest_line < length line → Dead false line
dead-over line l = record { stays-as = λ u. stays (line ++ u) (over-begins line u l); unnumbered = λ number u. rw (over-begins line u l) }

module _ {long : Bool} {line : List ℕ} (d : Dead long line) where
  whole-dead : (number : ℕ) (u t : List ℕ) → whole (passage long number (line ++ u) t) ≡ line ++ whole (passage true number u t)
  whole-dead number u [] = d.stays-as u
  whole-dead number u (b ∷ t) = go (eqb b newline) refl (whole-dead number (u ++ (b ∷ [])) t)
    where
      go : (v : Bool) → eqb b newline ≡ v → whole (passage long number (line ++ (u ++ (b ∷ []))) t) ≡ line ++ whole (passage true number (u ++ (b ∷ [])) t)
          → whole (passage long number (line ++ u) (b ∷ t)) ≡ line ++ whole (passage true number u (b ∷ t))
      go true e h =
          let q : Passage = passage false (number_after number) [] t in
          rw e (ap (λ (z : List ℕ). z ++ (newline ∷ q.text) ++ ended_line q.long q.line) (d.stays-as u) ∙ simp append_assoc)
      go false e h = rw e (ap (λ (z : List ℕ). whole (passage long number z t)) (append_assoc line u (b ∷ [])) ∙ h)

  told-dead : (number : ℕ) (u t : List ℕ) → all_told (passage long number (line ++ u) t) ≡ all_told (passage true number u t)
  told-dead number u [] = d.unnumbered number u
  told-dead number u (b ∷ t) = go (eqb b newline) refl (told-dead number (u ++ (b ∷ [])) t)
    where
      go : (v : Bool) → eqb b newline ≡ v → all_told (passage long number (line ++ (u ++ (b ∷ []))) t) ≡ all_told (passage true number (u ++ (b ∷ [])) t)
          → all_told (passage long number (line ++ u) (b ∷ t)) ≡ all_told (passage true number u (b ∷ t))
      go true e h =
          let q : Passage = passage false (number_after number) [] t in
          rw e (ap (λ (z : List ℕ). z ++ q.changed ++ ended_number q.long q.number q.line) (d.unnumbered number u))
      go false e h = rw e (ap (λ (z : List ℕ). all_told (passage long number z t)) (append_assoc line u (b ∷ [])) ∙ h)

-- ---- what a block leaves
-- a text at the start of the output
front-laid : (out ys : List ℕ) (n : ℕ) → length ys ≡ n → take n (lay out 0 ys) ≡ ys
front-laid out ys n e = ap (λ (z : ℕ). take z (lay out 0 ys)) (sym e) ∙ part-lay out 0 ys (omega arith)

-- what is written now and what comes of the rest is what comes of the passage; `out` is the output after it
record Leaves (p : Passage) (out : List ℕ) (long : Bool) (at : ℕ) : Type 0 where
  inside : at ≤ length (p.text ++ p.line)
  few : length (p.text ++ p.line) - at ≤ longest_line
  text : (t : List ℕ) → p.text ++ whole (passage p.long p.number p.line t) ≡ take at out ++ whole (passage long p.number (part out at (length (p.text ++ p.line) - at)) t)
  told : (t : List ℕ) → all_told (passage p.long p.number p.line t) ≡ all_told (passage long p.number (part out at (length (p.text ++ p.line) - at)) t)

module _ (p : Passage) (out : List ℕ) where
  abbrev laid : List ℕ
  laid = lay out 0 (p.text ++ p.line)

  abbrev end : ℕ
  end = length (p.text ++ p.line)

  -- the open line is held
  leaves-line : p.long ≡ false → length p.line ≤ longest_line → Leaves p laid false (length p.text)
  unfolding lay
  leaves-line e l =
      let n : end ≡ length p.text + length p.line = length-append p.text p.line in
      let k : end - length p.text ≡ length p.line = omega arith in
      let rest : List ℕ = drop (0 + length (p.text ++ p.line)) out in
      let front : take (length p.text) laid ≡ p.text = ap (take (length p.text)) (append_assoc p.text p.line rest) ∙ take_at p.text (p.line ++ rest) (length p.text) refl in
      let held : part laid (length p.text) (end - length p.text) ≡ p.line =
      ap (λ (z : ℕ). part laid (length p.text) z) k ∙ ap (λ (z : List ℕ). take (length p.line) (drop (length p.text) z)) (append_assoc p.text p.line rest)
      ∙ ap (take (length p.line)) (drop_at p.text (p.line ++ rest) (length p.text) refl) ∙ take_at p.line rest (length p.line) refl in
      record {
        inside = omega arith;
        few = omega arith;
        text = λ t.
            ap (λ (z : Bool). p.text ++ whole (passage z p.number p.line t)) e ∙ ap (λ (z : List ℕ). z ++ whole (passage false p.number p.line t)) (sym front)
            ∙ ap (λ (z : List ℕ). take (length p.text) laid ++ whole (passage false p.number z t)) (sym held);
        told = λ t.
            ap (λ (z : Bool). all_told (passage z p.number p.line t)) e ∙ ap (λ (z : List ℕ). all_told (passage false p.number z t)) (sym held);
      }

  -- it is long by now
  leaves-dead : Dead p.long p.line → Leaves p laid true end
  leaves-dead d =
      let k : end - end ≡ 0 = omega arith in
      let front : take end laid ≡ p.text ++ p.line = front-laid out (p.text ++ p.line) end refl in
      let held : part laid end (end - end) ≡ [] = ap (λ (z : ℕ). part laid end z) k in
      let open-line : p.line ++ [] ≡ p.line = append-nil p.line in
      record {
        inside = omega arith;
        few = omega arith;
        text = λ t.
            ap (λ (z : List ℕ). p.text ++ whole (passage p.long p.number z t)) (sym open-line) ∙ ap (λ (z : List ℕ). p.text ++ z) (whole-dead d p.number [] t)
            ∙ sym (append_assoc p.text p.line (whole (passage true p.number [] t)))
            ∙ ap (λ (z : List ℕ). z ++ whole (passage true p.number [] t)) (sym front)
            ∙ ap (λ (z : List ℕ). take end laid ++ whole (passage true p.number z t)) (sym held);
        told = λ t.
            ap (λ (z : List ℕ). all_told (passage p.long p.number z t)) (sym open-line) ∙ told-dead d p.number [] t ∙ ap (λ (z : List ℕ). all_told (passage true p.number z t)) (sym held);
      }

  leaves : Leaves p laid (progress_of p).long (progress_of p).at
  leaves = by-long p.long refl (ltb longest_line (end - length p.text)) refl
    where
      k : end - length p.text ≡ length p.line
      k = omega (arith, length-append p.text p.line)

      dead : (b : Bool) → p.long ≡ b → Dead b p.line → Dead p.long p.line
      dead b e d = subst (λ (z : Bool). Dead z p.line) (sym e) d

      by : (b : Bool) → long_by p.long (length p.text) end ≡ b → Leaves p laid b (cond b end (length p.text)) → Leaves p laid (progress_of p).long (progress_of p).at
      by b e l = subst (λ (z : Bool). Leaves p laid z (cond z end (length p.text))) (sym e) l

      by-long : (b : Bool) → p.long ≡ b → (c : Bool) → ltb longest_line (end - length p.text) ≡ c → Leaves p laid (progress_of p).long (progress_of p).at
      by-long true e c f = by true (ap (λ (z : Bool). long_by z (length p.text) end) e) (leaves-dead (dead true e (dead-long p.line)))
      by-long false e true f =
          by true (ap (λ (z : Bool). long_by z (length p.text) end) e ∙ f) (leaves-dead (dead false e (dead-over p.line (omega (arith, ltb-true longest_line (end - length p.text) f, k)))))
      by-long false e false f =
          by false (ap (λ (z : Bool). long_by z (length p.text) end) e ∙ f) (leaves-line e (omega (arith, ltb-false longest_line (end - length p.text) f, k)))

-- ---- block after block
-- the numbers fit into the report
passage-few : (long : Bool) (number : ℕ) (line s : List ℕ) → 3 * length (numbers_text (passage long number line s).changed) ≤ 7 * (length line + length s)
passage-few long number line [] = omega arith
passage-few long number line (b ∷ s) = go (eqb b newline) refl (passage-few false (number_after number) [] s) (passage-few long number (line ++ (b ∷ [])) s)
  where
    go : (t : Bool) → eqb b newline ≡ t → 3 * length (numbers_text (passage false (number_after number) [] s).changed) ≤ 7 * (0 + length s)
        → 3 * length (numbers_text (passage long number (line ++ (b ∷ [])) s).changed) ≤ 7 * (length (line ++ (b ∷ [])) + length s)
        → 3 * length (numbers_text (passage long number line (b ∷ s)).changed) ≤ 7 * (length line + length (b ∷ s))
    go true e h k =
        let n = number-few long number line in
        rw (e, numbers-append (ended_number long number line) (passage false (number_after number) [] s).changed) (simp length-append (omega arith))
    go false e h k = rw e (omega (arith, k, length-append line (b ∷ [])))

record Fine (run : Progress) (out : List ℕ) : Type 0 where
  order : run.at ≤ run.end
  inside : run.end ≤ length out
  few : run.end - run.at ≤ longest_line

fine-fits : (run : Progress) (n : ℕ) (out report : List ℕ) → Fine run out → longest_line + n ≤ length out → longest_line + n ≤ length report / 7 * 3 → block_fits run n (length out) (length report) ≡ true
unfolding block_fits
fine-fits run n out report f a b =
    rw (le-leb run.at run.end f.order, le-leb run.end (length out) f.inside, le-leb (run.end - run.at + n) (length out) (omega (arith, f.few)), le-leb (run.end - run.at + n) (length report / 7 * 3) (omega (arith, f.few)))

block-taken : (run : Progress) (block out report : List ℕ) → block_fits run (length block) (length out) (length report) ≡ true
    → block_rewrite run block out report ≡ passage_rewrite (passage run.long run.number (held_start run out) block) out report
unfolding block_rewrite
block-taken run block out report f = rw f

last-taken : (run : Progress) (out report : List ℕ) → block_fits run 0 (length out) (length report) ≡ true → last_rewrite run out report ≡ last_taken run out report
unfolding last_rewrite
last-taken run out report f = rw f

-- what is written from here on is what comes of the blocks behind what is held
abbrev Gives : Progress → List ℕ → List ℕ → List (List ℕ) → Type 0
Gives run out report blocks =
    ((written_blocks run out report blocks).text ≡ whole (passage run.long run.number (held_start run out) (joined_up blocks)))
    × ((written_blocks run out report blocks).told ≡ numbers_text (all_told (passage run.long run.number (held_start run out) (joined_up blocks))))

gives-last : (run : Progress) (out report : List ℕ) → Fine run out → block_fits run 0 (length out) (length report) ≡ true → Gives run out report []
gives-last run out report f e =
    let held : List ℕ = held_start run out in
    let line : List ℕ = ended_line run.long held in
    let numbers : List ℕ = numbers_text (ended_number run.long run.number held) in
    let w : last_rewrite run out report ≡ last_taken run out report = last-taken run out report e in
    let n : length line ≡ run.end - run.at = length-ended_line run.long held ∙ length_part out run.at (run.end - run.at) (omega (arith, f.order, f.inside)) in (
      ap (λ (z : Rewrote). (written_then z.step z.out z.report (λ r. nothing_more)).text) w ∙ append-nil (take (run.end - run.at) (lay out 0 line)) ∙ front-laid out line (run.end - run.at) n,
      ap (λ (z : Rewrote). (written_then z.step z.out z.report (λ r. nothing_more)).told) w ∙ append-nil (take (length numbers) (lay report 0 numbers)) ∙ front-laid report numbers (length numbers) refl,
    )

module _ (run : Progress) (block out report : List ℕ) (f : Fine run out) (e : block_fits run (length block) (length out) (length report) ≡ true) where
  abbrev p : Passage
  p = passage run.long run.number (held_start run out) block

  abbrev out' : List ℕ
  out' = lay out 0 (p.text ++ p.line)

  abbrev report' : List ℕ
  report' = lay report 0 (numbers_text p.changed)

  long-all : length (p.text ++ p.line) ≡ run.end - run.at + length block
  long-all =
      length-passage run.long run.number (held_start run out) block
      ∙ ap (λ (z : ℕ). z + length block) (length_part out run.at (run.end - run.at) (omega (arith, f.order, f.inside)))

  same_out : length out' ≡ length out
  same_out = length-lay out 0 (p.text ++ p.line) (omega (arith, long-all, (fits run (length block) (length out) (length report) e).room))

  same-report : length report' ≡ length report
  same-report =
      length-lay report 0 (numbers_text p.changed)
      (omega (arith, passage-few run.long run.number (held_start run out) block, length-passage run.long run.number (held_start run out) block, long-all, (fits run (length block) (length out) (length report) e).told))

  next-fine : Fine (progress_of p) out'
  next-fine =
      let l = leaves p out in
      record { order = l.inside; inside = omega (arith, same_out, long-all, (fits run (length block) (length out) (length report) e).room); few = l.few }

  gives_more : (blocks : List (List ℕ)) → Gives (progress_of p) out' report' blocks → Gives run out report (block ∷ blocks)
  gives_more blocks g =
      let l = leaves p out in
      let rest : List ℕ = joined_up blocks in
      let w : block_rewrite run block out report ≡ passage_rewrite p out report = block-taken run block out report e in
      let next : Passage = passage (progress_of p).long (progress_of p).number (held_start (progress_of p) out') rest in (
        ap (λ (z : Rewrote). (written_then z.step z.out z.report (λ r. written_blocks r z.out z.report blocks)).text) w
            ∙ ap (λ (z : List ℕ). take (progress_of p).at out' ++ z) g.0 ∙ sym (l.text rest) ∙ sym (whole_append run.long run.number (held_start run out) block rest),
        ap (λ (z : Rewrote). (written_then z.step z.out z.report (λ r. written_blocks r z.out z.report blocks)).told) w
            ∙ ap (λ (z : List ℕ). z ++ (written_blocks (progress_of p) out' report' blocks).told) (front-laid report (numbers_text p.changed) (length (numbers_text p.changed)) refl)
            ∙ ap (λ (z : List ℕ). numbers_text p.changed ++ z) g.1 ∙ sym (numbers-append p.changed (all_told next))
            ∙ ap (λ (z : List ℕ). numbers_text (p.changed ++ z)) (sym (l.told rest)) ∙ ap numbers_text (sym (told-append run.long run.number (held_start run out) block rest)),
      )

gives_all : (most : ℕ) (run : Progress) (out report : List ℕ) (blocks : List (List ℕ)) → AllWithin most blocks → Fine run out → longest_line + most ≤ length out → longest_line + most ≤ length report / 7 * 3 → Gives run out report blocks
gives_all most run out report [] none f a b = gives-last run out report f (fine-fits run 0 out report f (omega arith) (omega arith))
gives_all most run out report (block ∷ blocks) (more l w) f a b =
    let e : block_fits run (length block) (length out) (length report) ≡ true = fine-fits run (length block) out report f (omega arith) (omega arith) in
    gives_more run block out report f e blocks
    (gives_all most (progress_of (p run block out report f e)) (out' run block out report f e) (report' run block out report f e) blocks w (next-fine run block out report f e)
    (omega (arith, same_out run block out report f e)) (rw (same-report run block out report f e) b))

pub whole-script-rewritten : WholeScriptRewritten
whole-script-rewritten most out report blocks w a b =
    let g = gives_all most first_progress out report blocks w (record { order = omega arith; inside = omega arith; few = omega arith }) a b in
    (g.0 ∙ whole_from 1 [] (joined_up blocks), g.1 ∙ ap numbers_text (told-from 1 [] (joined_up blocks)))

pub holds-few : HoldsFew
unfolding block_rewrite
holds-few run r block out report e = go (block_fits run (length block) (length out) (length report)) refl
  where
    p : Passage
    p = passage run.long run.number (held_start run out) block

    go : (t : Bool) → block_fits run (length block) (length out) (length report) ≡ t → r.end - r.at ≤ longest_line
    go true f =
        let q : Some (progress_of p) ≡ Some r = rw f at e in
        let s : progress_of p ≡ r = cc in
        subst (λ (z : Progress). z.end - z.at ≤ longest_line) s (leaves p out).few
    go false f =
        let q : None ≡ Some r = rw f at e in
        absurd (let z : ◌≡◌ {A = ℕ} 0 1 = cc in omega arith)

-- ---- no second answer
pub one-rewrites : OneRewrites
one-rewrites w r r₂ out out₂ report report₂ a b = (a.step' ∙ sym b.step', a.out' ∙ sym b.out', a.report' ∙ sym b.report')

pub one-lines-rewritten : OneLinesRewritten
one-lines-rewritten p report r r₂ bytes bytes₂ report₁ report₂ a b =
    let w = one-put _ _ _ _ _ _ _ a.put b.put in
    let at_same : r.at ≡ r₂.at = a.at' ∙ sym b.at' in
    let number_same : r.number ≡ r₂.number = a.number' ∙ sym b.number' in
    let long_same : r.long ≡ r₂.long = a.long' ∙ sym b.long' in (
      ap (λ (z : ℕ). record { at = z; number = r.number; long = r.long; told = r.told }) at_same ∙ ap (λ (z : ℕ). record { at = r₂.at; number = z; long = r.long; told = r.told }) number_same
          ∙ ap (λ (z : Bool). record { at = r₂.at; number = r₂.number; long = z; told = r.told }) long_same ∙ ap (λ (z : ℕ). record { at = r₂.at; number = r₂.number; long = r₂.long; told = z }) w.1,
      a.is ∙ sym b.is,
      w.0,
    )

pub one-moved-down : OneMovedDown
one-moved-down out at _ r r₂ out₁ out₂ a b = (a.count ∙ sym b.count, a.is ∙ sym b.is)
