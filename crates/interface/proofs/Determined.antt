-- Each statement of the C interface determines its outcome, since it is an equation.
use Rattle.model.proofs.Prelude.{◌∙◌, ◌≡◌, sym}
use Rattle.promises.specs.Determined.{Determines}
use Rattle.capi.specs.Doors.{pal_create_of, pal_list_of, pal_look_up_of, pal_put_of, pal_rebuild_of, pal_recover_of, pal_remove_of}
use Rattle.interface.specs.Determined.{DeterminedC}

by_equation : {O : Type 0} (a : O) → Determines (λ (o : O). a ≡ o)
by_equation a o p x y = sym x ∙ y

pub determined_c : DeterminedC
determined_c = record {
  create = λ xs v b slots image. by_equation (pal_create_of xs v b slots image);
  check = λ xs o p x y. x ∙ sym y;
  recover = λ xs limit out. by_equation (pal_recover_of xs limit out);
  rebuild = λ xs image. by_equation (pal_rebuild_of xs image);
  look_up = λ xs image name out. by_equation (pal_look_up_of xs image name out);
  put = λ xs image name v run limit out. by_equation (pal_put_of xs image name v run limit out);
  remove = λ xs image name limit out. by_equation (pal_remove_of xs image name limit out);
  list = λ xs image low high output out. by_equation (pal_list_of xs image low high output out);
  look_up_from = λ xs p name o q x y. x ∙ sym y;
}
