-- The pass decides agreement: over the cells of a trie that agrees there is one, and where there is one the trie agrees.
use Rattle.std.specs.Prelude.{None}
use Rattle.model.proofs.Prelude.{Bool, List, [], ◌<◌, ◌∙◌, ◌∷◌, ◌≡◌, ◌≤◌, ap, arith, drop, false, get_or, get_or-take, length, length-take-le, refl, sym, take, true, ℕ}
use Rattle.model.specs.declared.Cell.{Cell}
use Rattle.model.specs.declared.Side.{Side}
use Rattle.model.specs.declared.Trie.{Trie}
use Rattle.model.specs.Order.{Str, ◌≺◌, none, top}
use Rattle.model.specs.Files.{Slot, Sound, ranges}
use Rattle.model.specs.Searches.{all, bounds, strings_of}
use Rattle.model.specs.Tries.{Agrees, Leads, NumbersFit, Tree, at_cell, leaves, occ, root_side, size, strings, zero_cell}
use Rattle.model.specs.Rebuilding.{rebuilt}
use Rattle.model.specs.Agreeing.{are_zero_cells, is_agreeing, slots_between}
use Rattle.model.proofs.Agreeing.{is_agreeing_agrees, trie_slots, zeros_past}
use Rattle.model.proofs.Agreement.{CellsAgree, agrees_cells, cells_agree}
use Rattle.model.proofs.Cells.{each_once, reads_size, reads_total, total_once, visits_count}
use Rattle.model.proofs.Files.{strings_right}
use Rattle.model.proofs.Rebuilding.{rebuilt_agrees}
use Rattle.model.proofs.Shapes.{Floors, same_shapes, shapes, spans_floors}
use Rattle.model.proofs.Tries.{Spans, cast, cells_count, flat_trie, inside, strings_are, trie_flat}
use Rattle.trie.specs.declared.Strings.{Strings}
use Rattle.trie.specs.Places.{Placed}
use Rattle.trie.specs.Strung.{Holds}
use Rattle.trie.proofs.Strung.{order_size}
use Rattle.agreement.specs.Decides.{Decided}
use Rattle.agreement.specs.Passes.{Passes}
use Rattle.agreement.proofs.Parts.{Fits, Rest, Whole, all as all_met, ordered, pass_tree, same_cells, whole}
use Rattle.agreement.proofs.Fitting.{holds_fits, same_fits, same_leaves}
use Rattle.agreement.proofs.Numbers.{numbers_stepped, stepped_numbers}

some_digits : (x : Str) → x ≺ [] → 0 < length x
some_digits [] h = absurd (h top)
some_digits (d ∷ x) h = omega arith

all_seen : {cs : List Cell} {s : Strings} {live : List Cell} {live_is : length live ≡ s.count} {same : (k : ℕ) → k < s.count → at_cell live k ≡ at_cell cs k} {seen last : List ℕ}
    → Rest cs s live live_is same [] seen last → (length seen ≡ s.count) × (seen ≡ last)
all_seen (all_met h) = (h, refl)

-- Cells from a side on over which there is a pass.
pub record Passing (cs : List Cell) (s : Strings) (a : Side) : Type 0 where
  pub order : List ℕ
  pub passes : Passes cs s [] a 0 [] order

module _ (b : ℕ) {fs : List Slot} (S : Sound b fs) where
  abbrev Spanned : Tree → Type 0
  Spanned x = Spans (Leads (ranges fs)) none [] x (all (bounds (ranges fs) S.order))

  -- What a trie of the file's strings has.
  module _ (x : Tree) (T : Spanned x) where
    spanned_strings : strings [] x ≡ strings_of fs
    spanned_strings = strings_are (Leads (ranges fs)) T ∙ sym (strings_right b S)

    spanned_size : size x ≡ length (strings_of fs)
    spanned_size = cells_count T ∙ ap length (sym (strings_right b S))

    spanned_numbers : NumbersFit [] x
    spanned_numbers = (trie_flat (Leads (ranges fs)) T).0

    spanned_floors : Floors 0 x
    spanned_floors = spans_floors T 0 (λ y m. some_digits y (inside T y m).1)

    spanned_fits : {s : Strings} → Holds s (strings_of fs) (slots_between fs none (strings_of fs)) → Fits s 0 x
    spanned_fits {s} H = holds_fits s x (strings_of fs) (slots_between fs none (strings_of fs)) H spanned_numbers spanned_strings (trie_slots b S x T)

  -- And a tree that fits is one.
  fits_spanned : {s : Strings} (x : Tree) → Holds s (strings_of fs) (slots_between fs none (strings_of fs)) → size x ≡ length (strings_of fs)
      → Floors 0 x → Fits s 0 x → Spanned x
  fits_spanned {s} x H e f g =
      let r : Tree = rebuilt (ranges fs) S.order in
      let T : Spanned r = rebuilt_agrees (ranges fs) S.order S.chain in
      let q : size x ≡ size r = e ∙ sym (spanned_size r T) in
      let h : Fits s 0 r = spanned_fits r T H in
      let same_shape : shapes x ≡ shapes r = same_fits s 0 x r q g h in
      let n : NumbersFit [] x = stepped_numbers 0 [] x f (rw same_shape (numbers_stepped 0 [] r (spanned_floors r T) (spanned_numbers r T))) in
      let es : strings [] x ≡ strings [] r = same_shapes 0 [] x r n f (spanned_numbers r T) (spanned_floors r T) same_shape in
      let el : leaves x ≡ leaves r = same_leaves s 0 x r q g h in
      let flat = (trie_flat (Leads (ranges fs)) T).1 in
      let same : strings [] x ≡ all (bounds (ranges fs) S.order) = es ∙ strings_are (Leads (ranges fs)) T in
      cast (Leads (ranges fs)) same (flat_trie (Leads (ranges fs)) x n (rw (same, el) flat))

  module _ (t : Trie) where
    abbrev live : List Cell
    live = take t.count t.cells

    abbrev start : Side
    start = root_side t.count t.first

    same_live : {n : ℕ} → t.count ≡ n → (k : ℕ) → k < n → at_cell live k ≡ at_cell t.cells k
    same_live e k h = get_or-take t.count t.cells k zero_cell (omega arith)

    pub agreed_count : Agrees fs t → t.count ≡ length (strings_of fs)
    agreed_count A =
        let C = agrees_cells b S A in
        sym (length-take-le t.count t.cells (omega (arith, A.few, A.whole)))
        ∙ sym (visits_count C.reads C.each) ∙ reads_size C.reads ∙ spanned_size C.tree C.trie

    module _ {s : Strings} (H : Holds s (strings_of fs) (slots_between fs none (strings_of fs))) where
      pub agreed_same : Agrees fs t → t.count ≡ s.count
      agreed_same A = agreed_count A ∙ sym H.count_is

      pub agreed_passing : Agrees fs t → Passing t.cells s start
      agreed_passing A =
          let C = agrees_cells b S A in
          let e : t.count ≡ s.count = agreed_same A in
          let l : length live ≡ s.count = length-take-le t.count t.cells (omega (arith, A.few, A.whole)) ∙ e in
          let O = ordered C.reads in
          let n : length O.order ≡ s.count = order_size C.reads O.in_order ∙ sym (reads_size C.reads) ∙ visits_count C.reads C.each ∙ l in
          let o : (i : ℕ) → occ i O.order ≤ 1 = λ i. omega (arith, same_cells C.reads O.in_order i, each_once C.reads C.each i) in
          record {
            order = O.order;
            passes = pass_tree t.cells s live l (same_live e) [] 0 [] O.order C.reads O.in_order (spanned_fits C.tree C.trie H)
                (spanned_floors C.tree C.trie) o (n, refl);
          }

      module _ (full : length t.cells ≡ 256) (small : s.count ≤ 256) (e : t.count ≡ s.count)
          (clear : are_zero_cells (drop s.count t.cells) ≡ true) (first : 0 < t.count → t.first ≡ 0) where
        live_is : length live ≡ s.count
        live_is = length-take-le t.count t.cells (omega arith) ∙ e

        module _ (M : Passing t.cells s start) where
          W : Whole t.cells s live live_is (same_live e) [] start 0 [] M.order
          W = whole t.cells s live live_is (same_live e) M.passes

          order_is : W.order ≡ M.order
          order_is = (all_seen W.rest).1

          count_is : size W.part.tree ≡ s.count
          count_is = sym (order_size W.part.reads W.part.in_order) ∙ (all_seen W.rest).0

          passing_cells : CellsAgree (ranges fs) S.order live start
          passing_cells =
              let P = W.part in
              let v : length P.visits ≡ length live = reads_size P.reads ∙ count_is ∙ sym live_is in
              let once : (i : ℕ) → occ i P.visits ≤ 1 = λ i. omega (arith, same_cells P.reads P.in_order i, P.once (λ j. omega arith) i) in
              record {
                tree = P.tree;
                visits = P.visits;
                reads = P.reads;
                each = total_once (length live) P.visits once (sym (reads_total P.reads) ∙ v);
                trie = fits_spanned P.tree H (count_is ∙ H.count_is) P.floors P.fits;
              }

          pub passing_agrees : Agrees fs t
          passing_agrees = cells_agree b S {t = t} full (omega arith) (zeros_past t.count t.cells (rw e clear)) first passing_cells

          pub passing_placed : (places : List ℕ) → ((j : ℕ) → j < length M.order → get_or places (get_or M.order j 0) 0 ≡ j) → Placed t places
          passing_placed places h = record { order = M.order; in_order = rw order_is at W.part.in_order; place_is = h }

    -- Where it cannot agree, the answer is no.
    pub refused : (Agrees fs t → ⊥) → Decided fs t None
    refused n = go (is_agreeing fs t) refl
      where
        go : (y : Bool) → is_agreeing fs t ≡ y → y ≡ false
        go true q = absurd (n (is_agreeing_agrees b S t q))
        go false q = refl
