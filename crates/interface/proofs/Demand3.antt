-- Demand 3 of the C interface: a history over images is a history over tries, so what holds after the one holds after the other.
use Rattle.model.proofs.Prelude.{Bool, List, Option, [], ◌<◌, ◌∷◌, ◌≡◌, ◌≤◌, arith, cond, eqb, false, length, lt-ltb, ltb, ltb-false, ne_eqb, nothing, refl, some, subst, suc, sym, true, zero, ℕ, ℕ_discrete}
use Rattle.model.specs.declared.Cause.{Cause}
use Rattle.model.specs.Results.{Added, Freed, Given, NotHeld, Nothing, PutAnswer, PutRefused, PutStopped, RecoverAnswer, RecoverRefused, RecoverStopped, RemoveAnswer, RemoveRefused, RemoveStopped, Removed, Replaced, ReplacedContent, TrieAnswer, TrieRefused}
use Rattle.model.specs.declared.Trie.{Trie}
use Rattle.model.specs.Order.{Str}
use Rattle.model.specs.Names.{filled}
use Rattle.model.specs.Entries.{content_from}
use Rattle.model.specs.Changes.{Map}
use Rattle.model.specs.Format.{kept_run, layout_of}
use Rattle.model.specs.Answers.{number}
use Rattle.model.specs.Sayings.{said_by_look_up, said_by_put, said_by_rebuild, said_by_recover, said_by_remove}
use Rattle.model.specs.Calls.{create_of, held_answer, put_of, rebuild_of, recover_of, remove_of}
use Rattle.promises.specs.Calls.{our_calls}
use Rattle.promises.specs.Demand3.{Event, Holds, Kept, Recovers, State, StoppedAt, after, after_freeing, after_put, after_rebuild, after_recover, after_remove, down, file_of, kill, nothing_to_do, now, put, put_by, put_with, rebuild, recover, remove, remove_by, remove_with, running, step, stopped_at_0}
use Rattle.promises.proofs.Demand3.{demand_3}
use Rattle.image.specs.Images.{image_length, image_of, trie_from}
use Rattle.image.proofs.Storing.{image_size}
use Rattle.putting.specs.Outcomes.{image_after}
use Rattle.removing.specs.Outcomes.{image_removed}
use Rattle.capi.specs.Doors.{malformed, out_after, pal_create_of, pal_put_of, pal_recover_of, pal_remove_of}
use Rattle.capi.proofs.Doors.{create_malformed, put_malformed, rebuild_malformed, remove_malformed}
use Rattle.interface.specs.Calls.{IsImage, our_c_calls}
use Rattle.interface.specs.Demand1.{IsRefusal, change_refusal, recover_refusal}
use Rattle.interface.specs.Demand3.{Demand3C, EventC, HoldsC, KeptC, RebuildsC, RecoversC, StateC, StoppedC, held_says}
use Rattle.interface.specs.Demand3 as C
use Rattle.interface.proofs.Saying.{create_is, look_up_is, number_small, put_is, rebuild_is, recover_is, remove_is}
use Rattle.interface.proofs.Images.{read_back, remove_says, replaced_same}
use Rattle.interface.proofs.Demand1.{demand_1_c, refused_below}
use Rattle.interface.proofs.Demand2.{created_said}

-- The state over tries.
abbrev tries : StateC → State
tries (C.running xs i m) = running xs (trie_from i) m
tries (C.down xs m) = down xs m

abbrev Whole : StateC → Type 0
Whole (C.running xs i m) = IsImage i
Whole (C.down xs m) = Unit {0}

-- What holds after all events from a state on.
abbrev Always : State → Type 0
Always s = (es : List Event) → Holds our_calls (after our_calls es s)

abbrev Goes : StateC → Type 0
Goes s = Whole s × Always (tries s)

here : {s : State} → Always s → Holds our_calls s
unfolding after
here A = A []

other : (c : Cause) (k : ℕ) → 13 ≤ k → eqb (number c) k ≡ false
other c k h = ne_eqb (number c) k (λ e. omega (arith, number_small c))

-- The image in hand is the trie in hand.
same_goes : (ys : List ℕ) (t : Trie) (i : List ℕ) (m : Map) → IsImage i → t ≡ trie_from i → Always (running ys t m) → Goes (C.running ys i m)
same_goes ys t i m z e A = (z, subst (λ (u : Trie). Always (running ys u m)) e A)

given_goes : (ys : List ℕ) (t : Trie) (m : Map) → Always (running ys t m) → Goes (C.running ys (image_of t) m)
given_goes ys t m A = same_goes ys t (image_of t) m (image_size t) (sym (read_back (here A).in_hand.leads)) A

now_goes : (s : StateC) (ys : List ℕ) → Whole s → Always (now ys (tries s)) → Goes (C.now ys s)
unfolding now C.now
now_goes (C.running xs i m) ys w A = (w, A)
now_goes (C.down xs m) ys w A = (tt, A)

now_same : (s : StateC) → C.now (C.file_of s) s ≡ s
unfolding C.now
now_same (C.running xs i m) = refl
now_same (C.down xs m) = refl

-- One call, by its answer.
put_goes : (s : StateC) → Whole s → (i : List ℕ) → IsImage i → (n : Str) (v : ℕ) (a : PutAnswer) (ys : List ℕ) (t : Trie)
    → ((old old_run : ℕ) → a ≡ Replaced old old_run → t ≡ trie_from i) → Always (after_put (tries s) n v a ys t)
    → Goes (C.after_put s n v (said_by_put a).0 ys (image_after a t i))
unfolding after_put C.after_put
put_goes (C.running xs j m) w i z n v Added ys t same A = given_goes ys t _ A
put_goes (C.down xs m) w i z n v Added ys t same A = given_goes ys t _ A
put_goes (C.running xs j m) w i z n v (ReplacedContent old) ys t same A = same_goes ys t i _ z (same old.value old.run refl) A
put_goes (C.down xs m) w i z n v (ReplacedContent old) ys t same A = same_goes ys t i _ z (same old.value old.run refl) A
put_goes (C.running xs j m) w i z n v (PutStopped made) ys t same A = (tt, A)
put_goes (C.down xs m) w i z n v (PutStopped made) ys t same A = (tt, A)
put_goes (C.running xs j m) w i z n v (PutRefused c) ys t same A =
    rw (other c 110 (omega arith), other c 111 (omega arith), other c 112 (omega arith)) (now_goes (C.running xs j m) ys w A)
put_goes (C.down xs m) w i z n v (PutRefused c) ys t same A =
    rw (other c 110 (omega arith), other c 111 (omega arith), other c 112 (omega arith)) (now_goes (C.down xs m) ys w A)

removed_goes : (k : ℕ) (ys : List ℕ) (t : Trie) (i : List ℕ) (m : Map) → IsImage i → (k ≤ 1 → t ≡ trie_from i) → Always (running ys t m)
    → Goes (C.running ys (image_removed (Removed k) t i) m)
removed_goes k ys t i m z same A = go (ltb 1 k) refl
  where
    go : (b : Bool) → ltb 1 k ≡ b → Goes (C.running ys (cond b (image_of t) i) m)
    go true e = given_goes ys t m A
    go false e = same_goes ys t i m z (same (ltb-false 1 k e)) A

remove_goes : (s : StateC) → Whole s → (i : List ℕ) → IsImage i → (n : Str) (limit : ℕ) (a : RemoveAnswer) (ys : List ℕ) (t : Trie)
    → ((made : ℕ) → a ≡ RemoveStopped made → made ≡ limit) → ((k : ℕ) → a ≡ Removed k → k ≤ 1 → t ≡ trie_from i) → (a ≡ NotHeld → t ≡ trie_from i)
    → Always (after_remove (tries s) n a ys t) → Goes (C.after_remove s n limit (said_by_remove a).0 ys (image_removed a t i))
unfolding after_remove C.after_remove
remove_goes (C.running xs j m) w i z n limit (Removed k) ys t st one none A = removed_goes k ys t i _ z (one k refl) A
remove_goes (C.down xs m) w i z n limit (Removed k) ys t st one none A = removed_goes k ys t i _ z (one k refl) A
remove_goes (C.running xs j m) w i z n limit NotHeld ys t st one none A = same_goes ys t i _ z (none refl) A
remove_goes (C.down xs m) w i z n limit NotHeld ys t st one none A = same_goes ys t i _ z (none refl) A
remove_goes (C.running xs j m) w i z n limit (RemoveStopped zero) ys t st one none A = rw (← st zero refl) (tt, A)
remove_goes (C.running xs j m) w i z n limit (RemoveStopped (suc made)) ys t st one none A = rw (← st (suc made) refl, lt-ltb 0 (suc made) (omega arith)) (tt, A)
remove_goes (C.down xs m) w i z n limit (RemoveStopped zero) ys t st one none A = rw (← st zero refl) (tt, A)
remove_goes (C.down xs m) w i z n limit (RemoveStopped (suc made)) ys t st one none A = rw (← st (suc made) refl, lt-ltb 0 (suc made) (omega arith)) (tt, A)
remove_goes (C.running xs j m) w i z n limit (RemoveRefused c) ys t st one none A =
    rw (other c 120 (omega arith), other c 101 (omega arith), other c 112 (omega arith)) (now_goes (C.running xs j m) ys w A)
remove_goes (C.down xs m) w i z n limit (RemoveRefused c) ys t st one none A =
    rw (other c 120 (omega arith), other c 101 (omega arith), other c 112 (omega arith)) (now_goes (C.down xs m) ys w A)

recover_goes : (s : StateC) → Whole s → (a : RecoverAnswer) (ys : List ℕ) → Always (after_recover (tries s) a ys) → Goes (C.after_recover s (said_by_recover a).0 ys)
unfolding after_recover C.after_recover
recover_goes s w (Freed N) ys A = now_goes s ys w A
recover_goes s w Nothing ys A = now_goes s ys w A
recover_goes (C.running xs j m) w (RecoverStopped made) ys A = (tt, A)
recover_goes (C.down xs m) w (RecoverStopped made) ys A = (tt, A)
recover_goes s w (RecoverRefused c) ys A = rw (other c 112 (omega arith)) (now_goes s ys w A)

rebuild_goes : (s : StateC) → Whole s → (a : TrieAnswer) (t : Trie) → Always (after_rebuild (tries s) a t) → Goes (C.after_rebuild s (said_by_rebuild a).0 (image_of t))
unfolding after_rebuild C.after_rebuild
rebuild_goes (C.running xs j m) w Given t A = given_goes xs t m A
rebuild_goes (C.down xs m) w Given t A = given_goes xs t m A
rebuild_goes s w (TrieRefused c) t A = rw (other c 151 (omega arith)) (w, A)

-- One event.
file_same : (s : StateC) → file_of (tries s) ≡ C.file_of s
file_same (C.running xs i m) = refl
file_same (C.down xs m) = refl

put_steps : (s : StateC) → Whole s → (i name : List ℕ) (v run limit : ℕ) (out : List ℕ) → IsImage i
    → Always (put_by our_calls (tries s) (trie_from i) name v run limit) → Goes (C.put_by our_c_calls s i name v run limit out)
unfolding put_by C.put_by
put_steps s w i name v run limit out z A =
    let xs = C.file_of s in
    let o = put_of xs (trie_from i) name v run limit in
    rw (put_is i z xs name v run limit out)
    (put_goes s w i z (filled name) (content_from v (kept_run (layout_of xs) run)) o.answer o.file o.trie (replaced_same xs (trie_from i) name v run limit)
    (subst (λ (ys : List ℕ). Always (after_put (tries s) (filled name) (content_from v (kept_run (layout_of ys) run)) (put_of ys (trie_from i) name v run limit).answer (put_of ys (trie_from i) name v run limit).file (put_of ys (trie_from i) name v run limit).trie)) (file_same s) A))

put_malforms : (s : StateC) (i name : List ℕ) (v run limit : ℕ) (out : List ℕ) → ¬ IsImage i → C.put_by our_c_calls s i name v run limit out ≡ s
unfolding C.put_by C.after_put
put_malforms s i name v run limit out n = rw (put_malformed i n (C.file_of s) name v run limit out) (now_same s)

remove_steps : (s : StateC) → Whole s → (i name : List ℕ) (limit : ℕ) (out : List ℕ) → IsImage i
    → Always (remove_by our_calls (tries s) (trie_from i) name limit) → Goes (C.remove_by our_c_calls s i name limit out)
unfolding remove_by C.remove_by
remove_steps s w i name limit out z A =
    let xs = C.file_of s in
    let o = remove_of xs (trie_from i) name limit in
    let q = remove_says xs (trie_from i) name limit in
    rw (remove_is i z xs name limit out)
    (remove_goes s w i z (filled name) limit o.answer o.file o.trie q.stopped q.one q.none
    (subst (λ (ys : List ℕ). Always (after_remove (tries s) (filled name) (remove_of ys (trie_from i) name limit).answer (remove_of ys (trie_from i) name limit).file (remove_of ys (trie_from i) name limit).trie)) (file_same s) A))

remove_malforms : (s : StateC) (i name : List ℕ) (limit : ℕ) (out : List ℕ) → ¬ IsImage i → C.remove_by our_c_calls s i name limit out ≡ s
unfolding C.remove_by C.after_remove
remove_malforms s i name limit out n = rw (remove_malformed i n (C.file_of s) name limit out) (now_same s)

rebuild_malforms : (s : StateC) (i : List ℕ) → ¬ IsImage i → C.step our_c_calls (C.rebuild i) s ≡ s
unfolding C.step C.after_rebuild
rebuild_malforms s i n = rw (rebuild_malformed i n (C.file_of s))

step_goes : (e : EventC) (s : StateC) → Goes s → Goes (C.step our_c_calls e s)
unfolding after step C.step
step_goes (C.put name v small run low limit out) (C.running xs i m) (w, A) =
    put_steps (C.running xs i m) w i name v run limit out w (λ es. A (put name v small run low limit ∷ es))
step_goes (C.put name v small run low limit out) (C.down xs m) g = g
step_goes (C.remove name limit out) (C.running xs i m) (w, A) =
    remove_steps (C.running xs i m) w i name limit out w (λ es. A (remove name limit ∷ es))
step_goes (C.remove name limit out) (C.down xs m) g = g
step_goes (C.put_with i name v small run low limit out) s g = elim (ℕ_discrete (length i) image_length) [
  | yes z ↦ put_steps s g.0 i name v run limit out z (λ es. g.1 (put_with (trie_from i) name v small run low limit ∷ es))
  | no n ↦ subst Goes (sym (put_malforms s i name v run limit out n)) g
]
step_goes (C.remove_with i name limit out) s g = elim (ℕ_discrete (length i) image_length) [
  | yes z ↦ remove_steps s g.0 i name limit out z (λ es. g.1 (remove_with (trie_from i) name limit ∷ es))
  | no n ↦ subst Goes (sym (remove_malforms s i name limit out n)) g
]
step_goes C.kill (C.running xs i m) (w, A) = (tt, λ es. A (kill ∷ es))
step_goes C.kill (C.down xs m) (w, A) = (tt, λ es. A (kill ∷ es))
step_goes (C.recover limit out) s g =
    let xs = C.file_of s in
    let o = recover_of xs limit in
    rw (recover_is xs limit out)
    (recover_goes s g.0 o.answer o.file
    (subst (λ (ys : List ℕ). Always (after_recover (tries s) (recover_of ys limit).answer (recover_of ys limit).file)) (file_same s) (λ es. g.1 (recover limit ∷ es))))
step_goes (C.rebuild i) s g = elim (ℕ_discrete (length i) image_length) [
  | yes z ↦
      let xs = C.file_of s in
      let o = rebuild_of xs in
      rw (rebuild_is i z xs)
      (rebuild_goes s g.0 o.answer o.trie
      (subst (λ (ys : List ℕ). Always (after_rebuild (tries s) (rebuild_of ys).answer (rebuild_of ys).trie)) (file_same s) (λ es. g.1 (rebuild ∷ es))))
  | no n ↦ subst Goes (sym (rebuild_malforms s i n)) g
]

-- What holds of the tries holds of the images.
held_said : (o : Option ℕ) (out : List ℕ) → ◌≡◌ {A = ℕ × List ℕ} ((said_by_look_up (held_answer o)).0, out_after (said_by_look_up (held_answer o)) out) (held_says o out)
held_said nothing out = refl
held_said (some c) out = refl

kept : (xs i : List ℕ) (m : Map) → IsImage i → Kept our_calls xs (trie_from i) m → KeptC our_c_calls xs i m
kept xs i m z K = record {
  size = z;
  leads = K.leads;
  means = K.means;
  looks_up = λ name out g. rw (look_up_is i z xs name out, K.looks_up name g) (held_said (m (filled name)) out);
}

kept_written : (xs : List ℕ) (t : Trie) (m : Map) → Kept our_calls xs t m → KeptC our_c_calls xs (image_of t) m
kept_written xs t m K = kept xs (image_of t) m (image_size t) (subst (λ (u : Trie). Kept our_calls xs u m) (sym (read_back K.leads)) K)

rebuilds : (xs : List ℕ) (m : Map) → (rebuild_of xs).answer ≡ Given → Kept our_calls xs (rebuild_of xs).trie m → RebuildsC our_c_calls xs m
rebuilds xs m e K image z = rw (rebuild_is image z xs, e) (refl, kept_written xs (rebuild_of xs).trie m K)

recovers : (xs : List ℕ) (m : Map) (limit : ℕ) (out : List ℕ) (a : RecoverAnswer) (ys : List ℕ) → Recovers our_calls xs m limit a ys
    → RecoversC our_c_calls xs m limit out ((said_by_recover a).0, ys, out_after (said_by_recover a) out)
recovers xs m limit out a ys (after_freeing {N = N} {ys = zs} e K) = C.after_freeing N (rebuilds zs m e K)
recovers xs m limit out a ys (nothing_to_do e K) = C.nothing_to_do (rebuilds xs m e K)
recovers xs m limit out a ys (stopped_at_0 z) = C.stopped_at_0 z

-- Stopped.
put_stop : (a : PutAnswer) → (said_by_put a).0 ≡ 112 → (made : ℕ) × (a ≡ PutStopped made)
put_stop Added e = absurd (omega arith)
put_stop (ReplacedContent old) e = absurd (omega arith)
put_stop (PutStopped made) e = (made, refl)
put_stop (PutRefused c) e = absurd (omega (arith, number_small c))

remove_stop : (a : RemoveAnswer) → (said_by_remove a).0 ≡ 112 → (made : ℕ) × (a ≡ RemoveStopped made)
remove_stop (Removed k) e = absurd (omega arith)
remove_stop NotHeld e = absurd (omega arith)
remove_stop (RemoveStopped made) e = (made, refl)
remove_stop (RemoveRefused c) e = absurd (omega (arith, number_small c))

recover_stop : (a : RecoverAnswer) → (said_by_recover a).0 ≡ 112 → (made : ℕ) × (a ≡ RecoverStopped made)
recover_stop (Freed N) e = absurd (omega arith)
recover_stop Nothing e = absurd (omega arith)
recover_stop (RecoverStopped made) e = (made, refl)
recover_stop (RecoverRefused c) e = absurd (omega (arith, number_small c))

stopped : {limit made : ℕ} {xs ys : List ℕ} (out : List ℕ) → StoppedAt limit made xs ys → StoppedC limit xs ys out (out_after (112, made ∷ []) out)
stopped out S = rw S.as_limited (record { as_made = rw (← S.as_limited) S.as_made; as_said = refl })

module _ (xs : List ℕ) where
  put_stops : ((t : Trie) (name : List ℕ) (v run limit made : ℕ) → (put_of xs t name v run limit).answer ≡ PutStopped made → StoppedAt limit made xs (put_of xs t name v run limit).file)
      → (i name : List ℕ) (v run limit : ℕ) (out : List ℕ) → (pal_put_of xs i name v run limit out).0 ≡ 112
      → StoppedC limit xs (pal_put_of xs i name v run limit out).1 out (pal_put_of xs i name v run limit out).3 × ((pal_put_of xs i name v run limit out).2 ≡ i)
  put_stops h i name v run limit out e = elim (ℕ_discrete (length i) image_length) [
    | yes z ↦
        let p = put_stop (put_of xs (trie_from i) name v run limit).answer (rw (put_is i z xs name v run limit out) at e) in
        rw (put_is i z xs name v run limit out, p.1) (stopped out (h (trie_from i) name v run limit p.0 p.1), refl)
    | no n ↦ let z : malformed ≡ 112 = rw (put_malformed i n xs name v run limit out) at e in absurd (omega arith)
  ]

  remove_stops : ((t : Trie) (name : List ℕ) (limit made : ℕ) → (remove_of xs t name limit).answer ≡ RemoveStopped made → StoppedAt limit made xs (remove_of xs t name limit).file)
      → (i name : List ℕ) (limit : ℕ) (out : List ℕ) → (pal_remove_of xs i name limit out).0 ≡ 112
      → StoppedC limit xs (pal_remove_of xs i name limit out).1 out (pal_remove_of xs i name limit out).3 × ((pal_remove_of xs i name limit out).2 ≡ i)
  remove_stops h i name limit out e = elim (ℕ_discrete (length i) image_length) [
    | yes z ↦
        let p = remove_stop (remove_of xs (trie_from i) name limit).answer (rw (remove_is i z xs name limit out) at e) in
        rw (remove_is i z xs name limit out, p.1) (stopped out (h (trie_from i) name limit p.0 p.1), refl)
    | no n ↦ let z : malformed ≡ 112 = rw (remove_malformed i n xs name limit out) at e in absurd (omega arith)
  ]

  recover_stops : ((limit made : ℕ) → (recover_of xs limit).answer ≡ RecoverStopped made → StoppedAt limit made xs (recover_of xs limit).file)
      → (limit : ℕ) (out : List ℕ) → (pal_recover_of xs limit out).0 ≡ 112 → StoppedC limit xs (pal_recover_of xs limit out).1 out (pal_recover_of xs limit out).2
  recover_stops h limit out e =
      let p = recover_stop (recover_of xs limit).answer (rw (recover_is xs limit out) at e) in
      rw (recover_is xs limit out, p.1) (stopped out (h limit p.0 p.1))

  put_denies : (i name : List ℕ) (v run limit : ℕ) (out : List ℕ) → (pal_put_of xs i name v run limit out).0 < 100
      → IsRefusal (change_refusal xs i out) (pal_put_of xs i name v run limit out)
  put_denies i name v run limit out e = elim (ℕ_discrete (length i) image_length) [
    | yes z ↦ refused_below _ (omega arith, (omega arith, (omega arith, tt))) e (demand_1_c.put_says xs i name v run limit out z)
    | no n ↦ let z : malformed < 100 = rw (put_malformed i n xs name v run limit out) at e in absurd (omega arith)
  ]

  remove_denies : (i name : List ℕ) (limit : ℕ) (out : List ℕ) → (pal_remove_of xs i name limit out).0 < 100
      → IsRefusal (change_refusal xs i out) (pal_remove_of xs i name limit out)
  remove_denies i name limit out e = elim (ℕ_discrete (length i) image_length) [
    | yes z ↦ refused_below _ (omega arith, (omega arith, (omega arith, tt))) e (demand_1_c.remove_says xs i name limit out z)
    | no n ↦ let z : malformed < 100 = rw (remove_malformed i n xs name limit out) at e in absurd (omega arith)
  ]

  recover_denies : (limit : ℕ) (out : List ℕ) → (pal_recover_of xs limit out).0 < 100 → IsRefusal (recover_refusal xs out) (pal_recover_of xs limit out)
  recover_denies limit out e = refused_below _ (omega arith, (omega arith, (omega arith, tt))) e (demand_1_c.recover_says xs limit out)

  comes_back : (m : Map) → ((limit : ℕ) → limit ≤ 2 → Recovers our_calls xs m limit (recover_of xs limit).answer (recover_of xs limit).file)
      → (limit : ℕ) (out : List ℕ) → limit ≤ 2 → RecoversC our_c_calls xs m limit out (pal_recover_of xs limit out)
  comes_back m h limit out l = rw (recover_is xs limit out) (recovers xs m limit out (recover_of xs limit).answer (recover_of xs limit).file (h limit l))

holds : (s : StateC) → Whole s → Holds our_calls (tries s) → HoldsC our_c_calls s
holds (C.running xs i m) w H = record {
  in_hand = kept xs i m w H.in_hand;
  recovery = comes_back xs m H.recovery;
  put_refused = put_denies xs;
  remove_refused = remove_denies xs;
  recover_refused = recover_denies xs;
  put_stopped = λ i name v run limit out e. (put_stops xs H.put_stopped i name v run limit out e).0;
  put_image = λ i name v run limit out e. (put_stops xs H.put_stopped i name v run limit out e).1;
  remove_stopped = λ i name limit out e. (remove_stops xs H.remove_stopped i name limit out e).0;
  remove_image = λ i name limit out e. (remove_stops xs H.remove_stopped i name limit out e).1;
  recover_stopped = recover_stops xs H.recover_stopped;
}
holds (C.down xs m) w H = record {
  in_hand = tt;
  recovery = comes_back xs m H.recovery;
  put_refused = put_denies xs;
  remove_refused = remove_denies xs;
  recover_refused = recover_denies xs;
  put_stopped = λ i name v run limit out e. (put_stops xs H.put_stopped i name v run limit out e).0;
  put_image = λ i name v run limit out e. (put_stops xs H.put_stopped i name v run limit out e).1;
  remove_stopped = λ i name limit out e. (remove_stops xs H.remove_stopped i name limit out e).0;
  remove_image = λ i name limit out e. (remove_stops xs H.remove_stopped i name limit out e).1;
  recover_stopped = recover_stops xs H.recover_stopped;
}

-- All events.
all_hold : (es : List EventC) (s : StateC) → Goes s → HoldsC our_c_calls (C.after our_c_calls es s)
unfolding C.after
all_hold [] s g = holds s g.0 (here g.1)
all_hold (e ∷ es) s g = all_hold es (C.step our_c_calls e s) (step_goes e s g)

created_goes : (xs : List ℕ) (version b slots : ℕ) (image : List ℕ) → (pal_create_of xs version b slots image).0 ≡ 150 → Goes (C.start (pal_create_of xs version b slots image))
created_goes xs version b slots image e = elim (ℕ_discrete (length image) image_length) [
  | yes z ↦
      let o = create_of xs version b slots in
      rw (create_is image z xs version b slots)
      (given_goes o.file o.trie _ (demand_3.always xs version b slots (created_said o.answer (rw (create_is image z xs version b slots) at e))))
  | no n ↦ let z : malformed ≡ 150 = rw (create_malformed image n xs version b slots) at e in absurd (omega arith)
]

pub demand_3_c : Demand3C our_c_calls
demand_3_c = record { always = λ xs version b slots image e es. all_hold es (C.start (pal_create_of xs version b slots image)) (created_goes xs version b slots image e) }
