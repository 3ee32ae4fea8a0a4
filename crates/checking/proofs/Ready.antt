-- What is read of a file that passed the checks: its slots, and the one whose range holds a name.
use Rattle.model.proofs.Prelude.{List, Option, ◌∙◌, ◌≡◌, ap, arith, get_or, get_or-take, length, refl, some, subst, sym, take, ℕ}
use Rattle.model.specs.declared.Layout.{Layout}
use Rattle.model.specs.Order.{Low, Str}
use Rattle.model.specs.Entries.{Entry}
use Rattle.model.specs.Files.{In, Slot, Sound, free, head, slot_at, used}
use Rattle.model.specs.Format.{bytes_at_slot, read_file}
use Rattle.model.proofs.Files.{found_in, one_range, used_inside}
use Rattle.model.proofs.Format.{read_slot-read_file}
use Rattle.model.specs.Searches.{order_of}
use Rattle.bucket.specs.Forms.{ReadAs}
use Rattle.file.specs.Holders.{Holder, Ordered}
use Rattle.file.proofs.Readings.{used_read}
use Rattle.checking.specs.declared.Checked.{Checked}
use Rattle.checking.specs.Homes.{Home}
use Rattle.checking.specs.Ready.{Ready}

-- What the checks found is what is read.
module _ {c : Checked} {xs : List ℕ} {fs : List Slot} (R : Ready c xs) (e : read_file xs ≡ some (c.size.layout, fs)) where
  same_slots : R.slots ≡ fs
  same_slots =
      let f : ◌≡◌ {A = Option (Layout × List Slot)} (some (c.size.layout, R.slots)) (some (c.size.layout, fs)) = sym R.is ∙ e in
      let g : ◌≡◌ {A = Layout × List Slot} (c.size.layout, R.slots) (c.size.layout, fs) = cc in
      ap (λ (x : Layout × List Slot). x.1) g

  pub ready_sound : Sound c.size.layout.b fs
  ready_sound = subst (Sound c.size.layout.b) same_slots R.sound

  pub ready_order : take c.survey.count c.survey.order ≡ order_of fs
  ready_order = R.order_is ∙ ap order_of same_slots

  pub ready_count : c.survey.count ≡ length (order_of fs)
  ready_count = R.count_is ∙ ap (λ (gs : List Slot). length (order_of gs)) same_slots

  pub ready_ordered : Ordered xs c.size c.survey.order c.survey.count fs
  ready_ordered = record { is = e; sound = ready_sound; order_is = ready_order; count_is = ready_count }

  -- The slot at the place where the name's range stands in order.
  pub holder_slot : {n : Str} (r k : ℕ) → Holder fs n r → k ≡ get_or c.survey.order r 0 → In (head (slot_at fs k)) n
  holder_slot {n} r k H i =
      let q : get_or (order_of fs) r 0 ≡ k =
      ap (λ (l : List ℕ). get_or l r 0) (sym ready_order) ∙ get_or-take c.survey.count c.survey.order r 0 (omega (arith, H.inside, ready_count)) ∙ sym i in
      subst (λ (j : ℕ). In (head (slot_at fs j)) n) q H.range

-- The slot of a file that is read, as its bytes are read.
pub slot_read : (xs : List ℕ) {y : Layout} {fs : List Slot} → read_file xs ≡ some (y, fs) → Sound y.b fs → (k : ℕ) {l : Low} {u : Str} {es : List Entry}
    → slot_at fs k ≡ used l u es → ReadAs y (bytes_at_slot y k xs) l u es
slot_read xs {y} {fs} e S k {l} {u} {es} i =
    (used_read y (bytes_at_slot y k xs) (used l u es) tt (read_slot-read_file xs e k (used_inside fs k (rw i tt)) ∙ ap some i), rw i at (S.well k))

-- The one slot whose range holds a name.
pub home_right : {b : ℕ} {fs : List Slot} → Sound b fs → (k : ℕ) (n : Str) → In (head (slot_at fs k)) n → (l : Low) × (u : Str) × (es : List Entry) × Home k fs n l u es
home_right {b} {fs} S k n h = go (slot_at fs k) refl h
  where
    go : (x : Slot) → slot_at fs k ≡ x → In (head x) n → (l : Low) × (u : Str) × (es : List Entry) × Home k fs n l u es
    go free f p = absurd p.0
    go (used l u es) f p = (l, u, es, record { slot_is = one_range b S n h (found_in n fs k h); is = f; above = p.1; within = p.2 })
