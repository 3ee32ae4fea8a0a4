-- `gathering::byte_faults` meets its contract.
use Rattle.model.proofs.Prelude.{refl}
use Rattle.model.specs.Format.{value_of}
use Rattle.gathering.proofs.Bits.{begins, begins_low, blanks, blanks_low, clean, no_faults}
use Rattle.gathering.proofs.byte_faults.Goals as goal

pub returns : goal.returns
unfolding value_of
returns c =
    let m = c.args.most.now in let l = c.args.least.now in
    let a₁ = c.above_faults in let a₂ = c.above_faults-2 in let a₃ = c.above_faults-3 in
    let u₁ = c.under_faults-first in let u₂ = c.under_faults in let u₃ = c.under_faults-2 in
    let v₁ = u₁.ensures begins begins_low refl refl in let v₂ = u₂.ensures blanks blanks_low refl refl in let v₃ = u₃.ensures blanks blanks_low refl refl in (
      λ z k h. clean m l k a₁.result a₂.result a₃.result u₁.result u₂.result u₃.result h z a₁.ensures.0 a₂.ensures.0 a₃.ensures.0 v₁.0 v₂.0 v₃.0,
      λ k C L. no_faults m l k a₁.result a₂.result a₃.result u₁.result u₂.result u₃.result C L a₁.ensures.1 a₂.ensures.1 a₃.ensures.1 v₁.1 v₂.1 v₃.1,
    )
