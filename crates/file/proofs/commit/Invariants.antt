-- `commit` meets its contract: at each turn the file is that of the first `made` stores (proofs/Committing.antt).
use Rattle.model.proofs.Prelude.{◌≡◌, ◌≤◌, length}
use Rattle.file.proofs.Committing.{Made}
use Rattle.file.proofs.commit.Given as goal

abbrev pub invariant-loop-made : goal.invariant-loop-made
invariant-loop-made l = (length l.file ≡ length l.initial.file) × (l.made ≤ l.limit) × Made l.size.layout l.plan l.made l.initial.file l.file
