-- `State::new` meets its contract: these sizes fit the buffer, so that create gives a file.
use Rattle.model.proofs.Prelude.{List, ◌∙◌, ◌≡◌, eq-eqb, length, refl, ℕ}
use Rattle.model.specs.Results.{Given}
use Rattle.model.specs.Calls.{create_of}
use Rattle.model.specs.Format.{are_legal_sizes, entry_length, file_size, is_offered, slot_size}
use Rattle.overview.proofs.State.new.Goals as goal

fits : (xs : List ℕ) → length xs ≡ 1552 → (create_of xs 1 4 8).answer ≡ Given
unfolding create_of are_legal_sizes is_offered file_size slot_size entry_length
fits xs e = rw (eq-eqb (length xs) 1552 e)

pub unwrap-requires : goal.unwrap-requires
unwrap-requires c = rw (c.create.ensures.0 ∙ fits _ refl)
