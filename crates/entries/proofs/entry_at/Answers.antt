-- `entries::entry_at` meets its contract.
use native.Mathlib.Nat.{mul-le-mul}
use native.Mathlib.Omega.{arith}
use Rattle.entries.proofs.Products.{stands}
use Rattle.entries.proofs.entry_at.Goals as goal

pub overflow_mul-result : goal.overflow_mul-result
overflow_mul-result c = omega (arith, mul-le-mul {n₁ = c.args.e} {m₁ = c.args.i} {n₂ = 40} {m₂ = 17} (omega arith) (omega arith))

pub returns : goal.returns
returns c = stands c.args.e c.args.i c.args.count (omega arith) (omega arith) (omega arith)
