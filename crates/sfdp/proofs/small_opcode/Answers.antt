-- `sfdp::small_opcode` meets its contract.
use mathlib.Core.Path.{◌≡◌, ap, ◌∙◌}
use mathlib.Core.List.{List}
use Prim.Native.Nat.{ℕ, ◌/◌}
use borrow.Author.Rules.{rules}
use lib.ListN.{length, get_or}
use Rattle.std.specs.Prelude.{Option, unwrap_or, find}
use Rattle.std.specs.Option.{option_map}
use Rattle.std.specs.Simd.{first_chunks}
use Rattle.sfdp.proofs.Writer.{is_small, small_found}
use Rattle.sfdp.proofs.small_opcode.Goals as goal

pub returns-clause-opcode : goal.returns-clause-opcode
returns-clause-opcode c =
    let bs = c.args.slots.now in
    let found : c.map.result ≡ option_map (λ (z : List ℕ). get_or z 1 0) (find is_small (first_chunks 2 (length bs / 2) bs)) = search rules in
    ap (λ (o : Option ℕ). unwrap_or o 0xFF) found ∙ small_found bs
