-- Slot numbers moved up one by one to put one in, and moved down to leave one out.
use Rattle.model.proofs.Prelude.{add-one, append_snoc, set_at, List, get_or_append, ◌++◌, ◌+◌, ◌-◌, ◌<◌, ◌∙◌, [], ◌∷◌, ◌≡◌, ◌≤◌, ap, arith, drop, get_or, get_or_at, get_or-drop, get_or-take, length, length-drop, length-take-le, set, suc, sym, take, take-suc, ℕ}
use Rattle.std.specs.List.{copy_within}
use Rattle.std.proofs.lemmas.List.Edits.{take-paste}
use Rattle.std.proofs.Math.Seq.{take-set-lt}
use Rattle.model.proofs.Lists.{at_behind, drop-take}

part_at : (o : List ℕ) (place count m : ℕ) → place + m < count → get_or (drop place (take count o)) m 0 ≡ get_or o (place + m) 0
part_at o place count m h = get_or-drop place (take count o) m 0 ∙ get_or-take count o (place + m) 0 h

-- What is put in and what is left out, by the copies that move the others.
pub put_in : (o : List ℕ) (count place k : ℕ) → length o ≡ 64 → place ≤ count → count < 64
    → take (count + 1) (set (copy_within o place count (place + 1)) place k) ≡ take place o ++ (k ∷ drop place (take count o))
put_in o count place k p h g =
    let n = count - place in
    let m = copy_within o place count (place + 1) in
    let e : place + 1 + n ≡ count + 1 = omega arith in
    let first : take (count + 1) m ≡ take (place + 1) o ++ take n (drop place o) =
    ap (λ i. take i m) (sym e) ∙ take-paste o (place + 1) (drop place o) n (omega arith) (omega (arith, length-drop place o)) in
    let parts : take (place + 1) o ≡ take place o ++ (get_or o place 0 ∷ []) = ap (λ i. take i o) (add-one place) ∙ take-suc o place 0 (omega arith) in
    take-set-lt (count + 1) m place k (omega arith) ∙ ap (λ xs. set xs place k) (first ∙ rw parts (append_snoc (take place o) (get_or o place 0) (take n (drop place o))))
    ∙ set_at (take place o) (get_or o place 0) (take n (drop place o)) k place (length-take-le place o (omega arith))
    ∙ rw (drop-take place count o)

pub taken_out : (o : List ℕ) (count place : ℕ) → length o ≡ 64 → place < count → count ≤ 64
    → take (count - 1) (copy_within o (place + 1) count place) ≡ take place o ++ drop (suc place) (take count o)
taken_out o count place p h g =
    let n = count - (place + 1) in
    let e : place + n ≡ count - 1 = omega arith in
    ap (λ i. take i (copy_within o (place + 1) count place)) (sym e)
    ∙ take-paste o place (drop (place + 1) o) n (omega arith) (omega (arith, length-drop (place + 1) o))
    ∙ rw (add-one place, drop-take (suc place) count o)

-- Where each stands after one was put in.
module _ (o m : List ℕ) (count place k : ℕ) (p : length o ≡ 64) (h : place ≤ count) (g : count < 64)
    (e : take (count + 1) m ≡ take place o ++ (k ∷ drop place (take count o))) where
  front : length (take place o) ≡ place
  front = length-take-le place o (omega arith)

  within : (i : ℕ) → i ≤ count → get_or m i 0 ≡ get_or (take place o ++ (k ∷ drop place (take count o))) i 0
  within i l = sym (get_or-take (count + 1) m i 0 (omega arith)) ∙ ap (λ xs. get_or xs i 0) e

  pub put_front : (i : ℕ) → i < place → get_or m i 0 ≡ get_or o i 0
  put_front i l = within i (omega arith) ∙ get_or_append (take place o) (k ∷ drop place (take count o)) 0 i (omega (arith, front)) ∙ get_or-take place o i 0 l

  pub put_here : get_or m place 0 ≡ k
  put_here = within place h ∙ get_or_at (take place o) k (drop place (take count o)) 0 place front

  pub put_back : (i : ℕ) → place ≤ i → i < count → get_or m (suc i) 0 ≡ get_or o i 0
  put_back i l n =
      let d : place + (i - place) ≡ i = omega arith in
      let f : place + (i - place) < count = omega arith in
      within (suc i) n ∙ at_behind (take place o) k (drop place (take count o)) 0 (i - place) (suc i) (omega (arith, front))
      ∙ part_at o place count (i - place) f ∙ ap (λ j. get_or o j 0) d
