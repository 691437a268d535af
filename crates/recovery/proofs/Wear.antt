-- The wear sheet adds up.
use mathlib.Core.Path.{◌≡◌}
use mathlib.Core.List.{List, [], ◌∷◌}
use Prim.Native.Nat.{ℕ, ◌+◌}
use native.Mathlib.Omega.{arith}
use Rattle.states.specs.States.{Chip}
use Rattle.states.specs.declared.Record.{Record}
use Rattle.counts.specs.Counts.{total_of}
use Rattle.chip.proofs.Cases.{total-frame}
use Rattle.calls.specs.Calls.{Call, sends, waits, cycles, cuts, ours, after}
use Rattle.recovery.specs.Histories.{lend}
use Rattle.recovery.specs.Wear.{with_table, on_table, table_after, sectors_erased, sectors_over, WearAddsUp}

one-call : (rec : Record) (c : Call) (x : Chip) (wear : List ℕ) → total_of (table_after rec c x wear) ≡ total_of wear + sectors_erased rec c x wear
one-call rec (sends f) x wear = total-frame rec x (with_table wear f)
one-call rec (waits us) x wear = omega arith
one-call rec cycles x wear = omega arith
one-call rec (cuts pattern) x wear = omega arith

pub wear-adds-up : WearAddsUp
wear-adds-up rec [] x wear = omega arith
wear-adds-up rec (l ∷ ls) x wear =
    let y : Chip = lend x l.cells in
    let now : List ℕ = table_after rec l.call y wear in
    let rest = wear-adds-up rec ls (after ours rec [] (on_table wear l.call) y) now in
    let first = one-call rec l.call y wear in
    add (total_of wear) (sectors_erased rec l.call y wear) (sectors_over rec ls (after ours rec [] (on_table wear l.call) y) now) rest first
  where
    add : {a b : ℕ} (w e s : ℕ) → a ≡ b + s → b ≡ w + e → a ≡ w + (e + s)
    add w e s p q = omega (arith, p, q)
