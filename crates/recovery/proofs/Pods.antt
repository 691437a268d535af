-- The worthless pods fall, each to one set-up of the listed calls.
use mathlib.Core.Path.{◌≡◌, refl, sym, ap, ◌∙◌}
use mathlib.Core.Bool.{Bool, true, false, cond}
use mathlib.Core.List.{List, [], ◌∷◌}
use mathlib.Core.Logic.{◌⊎◌, inl, inr, ⊎_elim}
use Prim.Native.Nat.{ℕ, zero, suc, ◌+◌, ◌<◌}
use native.Mathlib.Omega.{arith}
use lib.Dec.{eqb, lit≤, lit<}
use lib.ListN.{get_or, replicate, length-replicate, get_or-replicate}
use borrow.Author.Tests.{eqb-true, eqb-false}
use Rattle.answers.specs.Answers.{Answer, Done}
use Rattle.models.specs.Models.{is_model, part_of, address_of}
use Rattle.cells.specs.Cell.{FF}
use Rattle.parts.proofs.Bytes.{bytes-replicate}
use Rattle.parts.proofs.Lay.{part_at}
use Rattle.states.specs.States.{in_range, half_ok, record_ok, bench_kh25l512, Chip}
use Rattle.states.specs.declared.Record.{Record}
use Rattle.counts.specs.Counts.{sector_at}
use Rattle.effects.specs.Effects.{Effect}
use Rattle.calls.specs.Calls.{Call, sends, waits, cycles, cuts, Pod, after, answer, run, tables, effect_after, Bench}
use Rattle.recovery.specs.Recovery.{Job, JobFits, wake_up, read_back, wait_longest, to_read, recovery, Recovers, WinsBack}
use Rattle.recovery.specs.Histories.{factory}
use Rattle.recovery.specs.Pods.{RefusesAll, SameByte, KeepsCells, OnlyOnce, OnlyReplays, NeverCounts, Worthless}
use Rattle.recovery.proofs.Histories.{fresh-bench}

-- ---- one set-up: model 1 with bench values, all cells 0, one byte d to address 0
abbrev room : List ℕ
room = replicate 8 0

-- the table from the factory, and the same with the first count 1
abbrev never_erased : List ℕ
never_erased = replicate 16 0

abbrev once_erased : List ℕ
once_erased = 1 ∷ replicate 15 0

abbrev one : ℕ → Job
one d =
    record {
      high = 0;
      middle = 0;
      low = 0;
      bytes = d ∷ [];
      more = 0 ∷ [];
      outs = record { wake_up = room; enable_unlock = room; unlock = room; enable_erase = room; erase = room; enable_program = room; program = room; read_back = room };
      strict = record { wake_up = false; enable_unlock = false; unlock = false; enable_erase = false; erase = false; enable_program = false; program = false; read_back = false };
      wear = never_erased;
      worn = once_erased;
    }

abbrev zeros : List ℕ
zeros = replicate 65536 0

abbrev start : Chip
start = factory zeros

zero-at : (k : ℕ) → k < 65536 → get_or zeros k 0 ≡ 0
zero-at k h = get_or-replicate {A = ℕ} 65536 k 0 0 h

bench : Bench bench_kh25l512 start
unfolding record_ok in_range half_ok is_model part_of
bench = fresh-bench bench_kh25l512 zeros refl (length-replicate {A = ℕ} 65536 0)

no_other : (k : ℕ) → (k ≡ 0 → ⊥) → get_or once_erased k 0 ≡ get_or never_erased k 0
no_other zero n = absurd (n refl)
no_other (suc k) n = refl

fits : (d : ℕ) → d < 256 → JobFits bench_kh25l512 (one d)
unfolding part_of address_of
fits d h =
    record {
      some = lit≤ tt;
      page = lit≤ tt;
      bytes = bytes-replicate 1 d h;
      more = refl;
      rooms =
          record {
            wake_up = lit≤ tt;
            enable_unlock = lit≤ tt;
            unlock = lit≤ tt;
            enable_erase = lit≤ tt;
            erase = lit≤ tt;
            enable_program = lit≤ tt;
            program = lit≤ tt;
            read_back = lit≤ tt;
          };
      table = refl;
      spare = lit< tt;
      after = record { same = refl; one = refl; others = λ k n. no_other k.0 (λ z. n (ap sector_at z)) };
    }

module _ (p : Pod) (t : WinsBack p) where
  won : (d : ℕ) → d < 256 → Recovers p bench_kh25l512 (one d) start
  won d h = t bench_kh25l512 (one d) start bench (fits d h)

  -- the chip after the list, and what the last frame did
  abbrev end : ℕ → Chip
  end d = run p bench_kh25l512 [] (recovery bench_kh25l512 (one d)) start

  abbrev last : ℕ → Effect
  last d = effect_after p bench_kh25l512 (to_read bench_kh25l512 (one d)) start (read_back (one d))

  -- the byte that it drives, and the cell that holds it
  driven : (d : ℕ) → d < 256 → get_or (last d).out 4 0 ≡ d
  driven d h = sym (part_at (last d).out 4 1 0 (lit≤ tt)) ∙ ap (λ (z : List ℕ). get_or z 0 0) (won d h).won.drives

  held : (d : ℕ) → d < 256 → get_or (end d).cells 0 0 ≡ d
  unfolding part_of address_of
  held d h = sym (part_at (end d).cells 0 1 0 (lit≤ tt)) ∙ ap (λ (z : List ℕ). get_or z 0 0) (won d h).won.holds

-- ---- the kinds
-- AB is answered 0 by no pod that refuses all
pub refuses-all : (p : Pod) → RefusesAll p → WinsBack p → ⊥
unfolding after answer
refuses-all p r t =
    let first = wait_longest bench_kh25l512 (one 0) in
    r (first ∷ []) bench_kh25l512 (after p bench_kh25l512 [] first start) (wake_up (one 0)) (ap (λ (said : List Answer). get_or said 1 Done) (won p t 0 (lit< tt)).answered)

-- another byte than b
abbrev other : ℕ → ℕ
other b = cond (eqb b 0) 1 0

other-is : (b : ℕ) → (other b < 256) × (other b ≡ b → ⊥)
other-is b = go (eqb b 0) refl
  where
    go : (t : Bool) → eqb b 0 ≡ t → (cond t 1 0 < 256) × (cond t 1 0 ≡ b → ⊥)
    go true e = (lit< tt, λ h. let z = eqb-true b 0 e in omega arith)
    go false e = (lit< tt, λ h. eqb-false b 0 e (sym h))

pub same_byte : (p : Pod) (b : ℕ) → SameByte p b → WinsBack p → ⊥
same_byte p b s t =
    let d = other b in
    let o = other-is b in
    let w = (won p t d o.0).won in
    let e = last p t d in
    let c : 0 < e.reply.count = omega (arith, w.count) in
    let k : e.reply.from + 0 ≡ 4 = omega (arith, w.from) in
    let f : get_or e.out (e.reply.from + 0) 0 ≡ b = s _ bench_kh25l512 _ (read_back (one d)) 0 c in
    o.1 (sym (driven p t d o.0) ∙ ap (λ (i : ℕ). get_or e.out i 0) (sym k) ∙ f)

-- each cell of a pod that can erase and no more is as it was, or FF
kept : (p : Pod) → OnlyReplays p → (rec : Record) (seen cs : List Call) (x : Chip) (k : ℕ)
    → (get_or (run p rec seen cs x).cells k 0 ≡ get_or x.cells k 0) ⊎ (get_or (run p rec seen cs x).cells k 0 ≡ FF)
unfolding after
kept p h rec seen [] x k = inl refl
kept p h rec seen (sends f ∷ cs) x k = kept p h rec (sends f ∷ seen) cs (after p rec seen (sends f) x) k
kept p h rec seen (waits us ∷ cs) x k =
    ⊎_elim (λ e. ⊎_elim (λ d. inl (e ∙ d)) (λ d. inr (e ∙ d)) (h.0 seen rec x us k)) (λ e. inr e)
    (kept p h rec (waits us ∷ seen) cs (after p rec seen (waits us) x) k)
kept p h rec seen (cycles ∷ cs) x k = kept p h rec (cycles ∷ seen) cs (after p rec seen cycles x) k
kept p h rec seen (cuts pattern ∷ cs) x k =
    ⊎_elim (λ e. ⊎_elim (λ d. inl (e ∙ d)) (λ d. inr (e ∙ d)) (h.1 seen rec x pattern k)) (λ e. inr e)
    (kept p h rec (cuts pattern ∷ seen) cs (after p rec seen (cuts pattern) x) k)

-- so the byte 1 is never stored where 0 stood
pub only-replays : (p : Pod) → OnlyReplays p → WinsBack p → ⊥
only-replays p h t =
    let d : get_or (end p t 1).cells 0 0 ≡ 1 = held p t 1 (lit< tt) in
    let z : get_or zeros 0 0 ≡ 0 = zero-at 0 (lit< tt) in
    ⊎_elim (λ e. omega arith) (λ e. omega arith) (kept p h bench_kh25l512 [] (recovery bench_kh25l512 (one 1)) start 0)

-- a pod that changes no cell is one of them
pub keeps-cells : (p : Pod) → KeepsCells p → WinsBack p → ⊥
keeps-cells p h t =
    only-replays p (λ seen rec x us k. inl (ap (λ (z : List ℕ). get_or z k 0) (h.0 seen rec x us)), λ seen rec x pattern k. inl (ap (λ (z : List ℕ). get_or z k 0) (h.1 seen rec x pattern))) t

pub only-once : (p : Pod) → OnlyOnce p → WinsBack p → ⊥
only-once p h t =
    let c = (won p t 0 (lit< tt)).won.count in
    let e = h _ bench_kh25l512 _ (read_back (one 0)) refl in
    let z : (last p t 0).reply.count ≡ 0 = ap (λ (f : Effect). f.reply.count) e in
    omega arith

-- the tables that were lent to the frames of a list
abbrev lent : List Call → List (List ℕ)
lent [] = []
lent (sends f ∷ cs) = f.wear ∷ lent cs
lent (waits us ∷ cs) = lent cs
lent (cycles ∷ cs) = lent cs
lent (cuts pattern ∷ cs) = lent cs

all-kept : (p : Pod) → NeverCounts p → (rec : Record) (seen cs : List Call) (x : Chip) → tables p rec seen cs x ≡ lent cs
all-kept p h rec seen [] x = refl
all-kept p h rec seen (sends f ∷ cs) x = rw (h seen rec x f, all-kept p h rec (sends f ∷ seen) cs (after p rec seen (sends f) x))
all-kept p h rec seen (waits us ∷ cs) x = all-kept p h rec (waits us ∷ seen) cs (after p rec seen (waits us) x)
all-kept p h rec seen (cycles ∷ cs) x = all-kept p h rec (cycles ∷ seen) cs (after p rec seen cycles x)
all-kept p h rec seen (cuts pattern ∷ cs) x = all-kept p h rec (cuts pattern ∷ seen) cs (after p rec seen (cuts pattern) x)

-- the table that the erase leaves would be the one that was lent
pub never-counts : (p : Pod) → NeverCounts p → WinsBack p → ⊥
never-counts p h t =
    let left = (won p t 0 (lit< tt)).counted in
    let e : get_or never_erased 0 0 ≡ get_or once_erased 0 0 = ap (λ (ws : List (List ℕ)). get_or (get_or ws 4 []) 0 0) (sym (all-kept p h bench_kh25l512 [] (recovery bench_kh25l512 (one 0)) start) ∙ left) in
    omega (arith, e)

pub worthless : Worthless
worthless = record { refuses-all = refuses-all; same_byte = same_byte; keeps-cells = keeps-cells; only-once = only-once; only-replays = only-replays; never-counts = never-counts }
