-- Each public statement determines its outcome, since it is an equation.
use Rattle.model.proofs.Prelude.{◌∙◌, ◌≡◌, sym}
use Rattle.model.specs.Format.{check_file}
use Rattle.model.specs.Calls.{create_of, list_of, look_up_of, put_of, rebuild_of, recover_of, remove_of}
use Rattle.promises.specs.Determined.{Determined, Determines}

by_equation : {O : Type 0} (a : O) → Determines (λ (o : O). o ≡ a)
by_equation a o p x y = x ∙ sym y

pub determined : Determined
determined = record {
  create = λ xs v b slots. by_equation (create_of xs v b slots);
  check = λ xs. by_equation (check_file xs);
  recover = λ xs limit. by_equation (recover_of xs limit);
  rebuild = λ xs. by_equation (rebuild_of xs);
  look_up = λ xs t name. by_equation (look_up_of xs t name);
  put = λ xs t name v run limit. by_equation (put_of xs t name v run limit);
  remove = λ xs t name limit. by_equation (remove_of xs t name limit);
  list = λ xs t low high out. by_equation (list_of xs t low high out);
}
