-- A trie whose cells meet all strings agrees.
use Rattle.std.specs.Prelude.{None, Option as Maybe, Some, is_some}
use Rattle.model.proofs.Prelude.{List, [], ◌*◌, ◌<◌, ◌∙◌, ◌∷◌, ◌≡◌, ◌≤◌, ap, arith, dec_lt, drop, le-ltb, length, lt-ltb, mul-le-mul_right, refl, some, suc, suc-mul, sym, take, take_all, true, zero, ℕ}
use Rattle.model.specs.declared.Cell.{Cell}
use Rattle.model.specs.declared.Side.TheVariants.{Cell as further}
use Rattle.model.specs.declared.Trie.{Trie}
use Rattle.model.specs.Order.{Low, Str, at, none}
use Rattle.model.specs.Files.{Slot, Sound}
use Rattle.model.specs.Tries.{root_side}
use Rattle.model.specs.Agreeing.{are_zero_cells, slots_between}
use Rattle.model.specs.Format.{file_size, read_file, slot_size}
use Rattle.model.proofs.Agreeing.{agrees_is_agreeing}
use Rattle.model.proofs.Format.{read_file_read}
use Rattle.model.specs.Searches.{order_of, strings_of}
use Rattle.file.specs.declared.Size.{Size}
use Rattle.file.specs.Sizes.{Sized}
use Rattle.trie.specs.declared.Strings.{Strings}
use Rattle.trie.specs.Strung.{Holds, last_digits, lengths}
use Rattle.image.specs.Images.{side_from, trie_from}
use Rattle.image.proofs.Coding.{length-cells_from}
use Rattle.strings.specs.Arrays.{Listed}
use Rattle.strings.proofs.Listing.{Given}
use Rattle.agreement.specs.Decides.{Decides}
use Rattle.agreement.specs.Passes.{Passes, enters}
use Rattle.agreement.proofs.Laws.{passing_agrees}
use Rattle.agreeing.specs.Ways.{root_of}
use Rattle.agreeing.specs.Agreeing.{AgreeingTold, PassingTold, strings_in}

length_lengths : (ss : List Str) → length (lengths ss) ≡ length ss
length_lengths [] = refl
length_lengths (s ∷ ss) = ap suc (length_lengths ss)

length_last_digits : (ss : List Str) → length (last_digits ss) ≡ length ss
length_last_digits [] = refl
length_last_digits (s ∷ ss) = ap suc (length_last_digits ss)

length_between : (fs : List Slot) (l : Low) (ss : List Str) → length (slots_between fs l ss) ≡ suc (length ss)
unfolding slots_between
length_between fs l [] = refl
length_between fs l (s ∷ ss) = ap suc (length_between fs (at s) ss)

-- Arrays as long as need be hold the strings.
strings_held : (fs : List Slot) (count : ℕ) (few : count ≤ 256) → length (strings_of fs) ≡ count
    → Holds (strings_in count few fs) (strings_of fs) (slots_between fs none (strings_of fs))
strings_held fs count few e =
    let ss : List Str = strings_of fs in
    record {
      count_is = sym e;
      lens_are = take_all (length ss) (lengths ss) (omega (arith, length_lengths ss));
      digits_are = take_all (length ss) (last_digits ss) (omega (arith, length_last_digits ss));
      slots_are = take_all (suc (length ss)) (slots_between fs none ss) (omega (arith, length_between fs none ss));
    }

-- The pass begins at the trie's root.
root_passes : {cs : List Cell} {s : Strings} (n first : ℕ) {seen last : List ℕ} → s.count ≡ n → Passes cs s [] (side_from (root_of n first)) 0 seen last
    → Passes cs s [] (root_side n first) 0 seen last
unfolding side_from root_of
root_passes {cs = cs} {s = s} zero first {seen = seen} {last = last} e p = go (dec_lt first 32768) p
  where
    no_cell : {k : ℕ} → Passes cs s [] (further k) 0 seen last → ⊥
    no_cell (enters h l q) = omega arith

    go : Dec (first < 32768) → Passes cs s [] (side_from first) 0 seen last → Passes cs s [] (root_side 0 first) 0 seen last
    go (yes l) q = rw (lt-ltb first 32768 l) at q
    go (no l) q = absurd (no_cell (rw (le-ltb first 32768 (omega arith)) at q))
root_passes (suc n) first e p = p

mul_same : (a b z : ℕ) → 0 < z → a * z ≡ b * z → a ≡ b
mul_same a b z h e = elim (dec_lt a b) [
  | yes l ↦ absurd (omega (arith, suc-mul a z, mul-le-mul_right z l))
  | no l ↦ elim (dec_lt b a) [ yes k ↦ absurd (omega (arith, suc-mul b z, mul-le-mul_right z k)) | no k ↦ omega arith ]
]

module _ (xs : List ℕ) (size : Size) (order : List ℕ) (count : ℕ) (sized : Sized (length xs) size) where
  slots_same : {fs : List Slot} → read_file xs ≡ some (size.layout, fs) → size.slots ≡ length fs
  unfolding file_size slot_size
  slots_same {fs} e = mul_same size.slots (length fs) (slot_size size.layout) (omega arith) (omega (arith, sized.whole, (read_file_read xs e).headed.whole))

  pub given : (fs : List Slot) → read_file xs ≡ some (size.layout, fs) → Sound size.layout.b fs → count ≡ length (order_of fs) → take count order ≡ order_of fs
      → Given xs order size count fs
  given fs e S c o = (rw (slots_same e) (read_file_read xs e).listed, S, c, o)

  -- By the pass.
  pub passing_told : (image : List ℕ) (cells first : ℕ) → cells ≡ (trie_from image).count → first ≡ (trie_from image).first → cells ≤ 256 → (0 < cells → first ≡ 0)
      → are_zero_cells (drop cells (trie_from image).cells) ≡ true → PassingTold xs size order count image cells (root_of cells first)
      → AgreeingTold true xs size order count (trie_from image)
  passing_told image cells first ec ef few leaf clear T fs e S c o =
      let t : Trie = trie_from image in
      let P = T few fs e S c o in
      let H : Holds (strings_in cells few fs) (strings_of fs) (slots_between fs none (strings_of fs)) = strings_held fs cells few P.all in
      sym (agrees_is_agreeing size.layout.b S (passing_agrees size.layout.b S t H (length-cells_from 256 image) few (sym ec) clear (λ h. sym ef ∙ leaf (omega (arith, ec))) record {
        order = P.order;
        passes = rw (← ec, ← ef) (root_passes cells first refl P.passes);
      }))

  -- By the strings written down, if they are.
  pub listed_told : (s : Maybe Strings) (r : Maybe (List ℕ)) (t : Trie) → Listed s xs size order count → Decides t s r → AgreeingTold (is_some r) xs size order count t
  listed_told s (Some places) t L D fs e S c o = sym (D size.layout.b fs S (L.strung fs (given fs e S c o).0 S c o)).0
  listed_told s None t L D fs e S c o = sym (D size.layout.b fs S (L.strung fs (given fs e S c o).0 S c o))
