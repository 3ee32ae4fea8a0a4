-- `refused` meets its contract: word 0 is what the cause carries.
-- Every cause but a stale trie carries nothing.
use Rattle.model.proofs.Prelude.{[], ◌∙◌, ◌≡◌, ap, refl, sym, ℕ}
use Rattle.model.specs.declared.Cause.{Cause}
use Rattle.model.specs.declared.Cause.TheVariants.{BadFile, CutFile, IllegalName, ManyStrings, NoFreeSlot, OlderRun, ShortOutput, StaleTrie, WrongSize}
use Rattle.model.specs.Answers.{number}
use Rattle.model.specs.Sayings.{carried}
use Rattle.capi.proofs.refused.Goals as goal
use Rattle.capi.proofs.refused.Goals.{in-StaleTrie, in_default}

bare : (c : Cause) → ((k : ℕ) → c ≡ StaleTrie k → ⊥) → carried c ≡ []
bare IllegalName n = refl
bare BadFile n = refl
bare CutFile n = refl
bare (StaleTrie k) n = absurd (n k refl)
bare NoFreeSlot n = refl
bare ManyStrings n = refl
bare ShortOutput n = refl
bare WrongSize n = refl
bare OlderRun n = refl

pub returns : goal.returns
returns c = elim c.match-cause.branch [
  | in-StaleTrie w ↦
      let e = w.in-StaleTrie.is in
      (c.from.ensures ∙ ap number (w.cause-is ∙ sym e), rw (e, w.out-is))
  | in_default w ↦
      let none = bare c.args.cause w.in_default.not-StaleTrie in
      (c.from.ensures ∙ ap number w.cause-is, rw (none, w.out-is))
]
