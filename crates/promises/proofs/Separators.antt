-- Which split string a bucket gets in each version: the laws of the model, put together.
use Rattle.model.proofs.Prelude.{List, ◌+◌, ◌-◌, ◌/◌, ◌<◌, ◌≡◌, ◌≢◌, ◌≤◌, ◌⊎◌, ap, arith, clash, inl, inr, leb, leb-true, length, refl, subst, true, ℕ, ℕ_discrete}
use Rattle.model.specs.Order.{Str}
use Rattle.model.specs.Names.{Legal}
use Rattle.model.specs.Entries.{Entry}
use Rattle.model.specs.Files.{Slot, Sound}
use Rattle.model.specs.Searches.{string_count}
use Rattle.model.specs.Changes.{Map, Means, Request, Result, Store, call, counts, put, split_of, split_string, stores}
use Rattle.model.specs.Places.{digits_at, place_of}
use Rattle.model.specs.Format.{is_offered}
use Rattle.model.proofs.Tests.{both_true}
use Rattle.model.proofs.Changes.{Change, Fine, change_made, change_stopped}
use Rattle.model.proofs.Calls.{Answered, is_denied, is_made, put_right}
use Rattle.model.proofs.Stores.{trie_after_put_is}
use Rattle.model.proofs.GrownTries.{change_agrees}
use Rattle.model.proofs.Places.{place_first, place_lt, place_not_after, place_shortest, place_wins, positions_m, positions_three, positions_two, wins_one}
use Rattle.promises.specs.Calls.{version_1, version_2, version_3}
use Rattle.promises.specs.Separators.{PutLeaves, Separators}

-- A version that is offered is one of the three.
offered_one : (v : ℕ) → is_offered v ≡ true → (v ≡ 1) ⊎ (v ≡ 2) ⊎ (v ≡ 3)
unfolding is_offered
offered_one v e =
    let p = both_true (leb 1 v) (leb v 3) e in
    let least : 1 ≤ v = leb-true 1 v p.0 in
    let most : v ≤ 3 = leb-true v 3 p.1 in
    elim (ℕ_discrete v 1) [ yes i ↦ inl i | no n ↦ elim (ℕ_discrete v 2) [ yes j ↦ inr (inl j) | no m ↦ inr (inr (omega (arith, least, most, n, m))) ] ]

one_offered : (v : ℕ) → (v ≡ 1) ⊎ (v ≡ 2) ⊎ (v ≡ 3) → is_offered v ≡ true
unfolding is_offered
one_offered v (inl e) = rw e refl
one_offered v (inr (inl e)) = rw e refl
one_offered v (inr (inr e)) = rw e refl

later : ◌≢◌ {A = ℕ} 2 1
later e = omega (arith, e)

module _ (b : ℕ) (b_two : 2 ≤ b) (ws : List Entry) where
  no_longer : length (split_of b (place_of (version_2 b)) ws) ≤ length (split_of b (place_of (version_1 b)) ws)
  no_longer =
      let e : b / 2 + 1 - 1 ≡ b / 2 = omega arith in
      rw (place_first (version_1 b) refl ws) (rw e at (place_shortest (version_2 b) b_two later ws (b / 2 + 1) (positions_m b b_two)))

-- Stores that are made are a change.
made_change : {b : ℕ} {place : List Entry → ℕ} {fs : List Slot} {q : Request} {r : Result} {ss : List Store} → Answered b place fs q r → r ≡ stores ss → Change b place fs q ss
made_change {b} {place} {fs} {q} {ss = ss} (is_made {ss = rs} c) e = let i : rs ≡ ss = cc in subst (λ (s : List Store). Change b place fs q s) i c
made_change (is_denied d) e = clash cc

leaves : (b : ℕ) (place : List Entry → ℕ) → ((ws : List Entry) → place ws < b)
    → (fs : List Slot) (m : Map) → Sound b fs → Means fs m → string_count fs ≤ 256
    → (n : Str) (v : ℕ) → Legal n → (ss : List Store) → call b place fs (put n v) ≡ stores ss → PutLeaves b place fs m n v ss
unfolding counts
leaves b place lt fs m S M few n v g ss e =
    let c = made_change (put_right b place fs S n v g) e in
    let before : Fine b fs m = record { sound = S; means = M; few = few } in
    let F = change_made b place lt before c in
    record {
      sound = F.sound;
      means = F.means;
      few = F.few;
      stopped = λ k h. elim (change_stopped b place lt before c k h) [ inl x ↦ inl x.0 | inr x ↦ inr x ];
      agrees = λ t G. rw (trie_after_put_is b place n v c t) (change_agrees b place lt S c G);
    }

-- Version 3 splits as version 2.
same_place : (b : ℕ) (ws : List Entry) → place_of (version_3 b) ws ≡ place_of (version_2 b) ws
unfolding place_of
same_place b ws = refl

pub separators : Separators
separators = record {
  third = λ b ws. same_place b ws;
  versions = λ v. (offered_one v, one_offered v);
  as_before = λ b ws. ap (λ (i : ℕ). split_string i b ws) (place_first (version_1 b) refl ws);
  three = positions_three;
  two = positions_two;
  shortest = λ b h ws p i. place_shortest (version_2 b) h later ws p i;
  no_longer = no_longer;
  ties = λ b h ws. place_wins (version_2 b) h later ws;
  no_choice = λ b h ws i w. omega (arith, wins_one (digits_at b ws) (place_wins (version_2 b) h later ws) w);
  never_behind = λ b h ws R size. place_not_after (version_2 b) h later ws R size;
  inside = place_lt;
  any_position = leaves;
}
