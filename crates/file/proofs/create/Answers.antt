-- `create` meets its contract: over zeros it writes the header, and that slot 0 is used.
use Rattle.model.proofs.Prelude.{◌∙◌, List, ap, arith, length, length-replicate, length-set, set, ℕ}
use Rattle.file.proofs.Laws.{some_slot}
use Rattle.model.proofs.Format.{offered_small}
use Rattle.file.proofs.Headers.{cleared_whole, created_bytes}
use Rattle.file.proofs.create.Goals as goal

pub overflow_cast-file : goal.overflow_cast-file
overflow_cast-file c = let h = offered_small _ c.requires.legal.offered in omega arith

pub bounds-file-16 : goal.bounds-file-16
bounds-file-16 c =
    let h = some_slot _ _ c.requires in let f = c.args.file.now in
    let e = cleared_whole f c.fill.new.self (c.fill.ensures.after (λ x e. e)) in
    simp length-set (omega (arith, h, ap length e, length-replicate {A = ℕ} (length f) 0))

pub returns : goal.returns
returns c =
    let s = c.args.size in let f = c.args.file.now in
    ap (λ (zs : List ℕ). set (set (set (set (set (set (set zs 0 0x54) 1 0x4B) 2 0x46) 3 s.layout.version) 5 s.layout.b) 6 s.slots) 16 1)
    (cleared_whole f c.fill.new.self (c.fill.ensures.after (λ x e. e)))
    ∙ created_bytes (length f) s c.requires
