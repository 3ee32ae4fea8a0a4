-- Check, and recover by its order of refusals, from a look at the whole file.
use Rattle.std.specs.Prelude.{Err, Ok}
use Rattle.model.proofs.Prelude.{Bool, List, [], ◌<◌, ◌∙◌, ◌∷◌, ◌≡◌, ◌≤◌, ap, arith, false, le-ltb, lt-ltb, ltb-false, ltb-true, nothing, sym, take_all, true, ℕ}
use Rattle.model.specs.declared.Cause.TheVariants.{BadFile, WrongSize}
use Rattle.model.specs.declared.Layout.{Layout}
use Rattle.model.specs.Results.{Freed, Nothing, RecoverRefused, RecoverStopped}
use Rattle.model.specs.Checks.{is_bad, is_cut, is_sound}
use Rattle.model.specs.Format.{check_file, header_of, layout_of}
use Rattle.model.specs.Files.{free}
use Rattle.model.specs.Changes.{Store}
use Rattle.model.specs.Calls.{recover_by, recover_of, stores_bytes}
use Rattle.model.proofs.Format.{headed_layout, header_of_headed}
use Rattle.file.specs.declared.Plan.{Plan}
use Rattle.file.specs.declared.Size.{Size}
use Rattle.file.specs.declared.survey.Fault.{Fault}
use Rattle.file.specs.declared.survey.Fault.TheVariants.{Bad, Cut}
use Rattle.file.specs.Plans.{Committed, Planned}
use Rattle.file.specs.Sizes.{Saying}
use Rattle.file.specs.Surveys.{verdict}
use Rattle.whole.specs.Outcomes.{found, recovered}
use Rattle.file.proofs.Surveying.{no_header_bad}

-- The survey finds what check finds.
pub sound_found : (xs : List ℕ) → check_file xs ≡ is_sound → Ok tt ≡ found (check_file xs)
sound_found xs e = sym (ap found e)

pub fault_found : (xs : List ℕ) (f : Fault) → check_file xs ≡ verdict (Err f) → Err f ≡ found (check_file xs)
fault_found xs Bad e = sym (ap found e)
fault_found xs (Cut N) e = sym (ap found e)

pub bad_found : (xs : List ℕ) → header_of xs ≡ nothing → Err Bad ≡ found (check_file xs)
bad_found xs e = sym (ap found (no_header_bad xs e))

-- Recover, by its order of refusals.
pub recover_limit : (xs : List ℕ) (limit : ℕ) → 2 < limit → recovered (RecoverRefused WrongSize) xs ≡ recover_of xs limit
unfolding recover_of
recover_limit xs limit h = rw (lt-ltb 2 limit h)

pub recover_bad : (xs : List ℕ) (limit : ℕ) → limit ≤ 2 → check_file xs ≡ is_bad → recovered (RecoverRefused BadFile) xs ≡ recover_of xs limit
unfolding recover_of recover_by
recover_bad xs limit h e = rw (le-ltb 2 limit h, e)

pub recover_sound : (xs : List ℕ) (limit : ℕ) → limit ≤ 2 → check_file xs ≡ is_sound → recovered Nothing xs ≡ recover_of xs limit
unfolding recover_of recover_by
recover_sound xs limit h e = rw (le-ltb 2 limit h, e)

-- Of a cut file with slot N to free: the plan of one store, and what is left of it once it is committed.
module _ (xs : List ℕ) (limit : ℕ) (s : Size) {N : ℕ} (e : check_file xs ≡ is_cut N) (h : Saying s xs) (p : Plan)
    (planned : (p.first ≡ N) × (p.second ≡ 0) × ((y : Layout) → y.b ≤ 16 → Planned p y ((N, free) ∷ []))) where
  abbrev y : Layout
  y = s.layout

  abbrev freeing : List Store
  freeing = (N, free) ∷ []

  held : Planned p y freeing
  held = planned.2 y h.sized.legal.b_most

  module _ (ys : List ℕ) (d : Bool) (C : Committed d xs ys y p limit) where
    pub recover_stopped : d ≡ true → recovered (RecoverStopped limit) ys ≡ recover_of xs limit
    unfolding recover_of recover_by stores_bytes
    recover_stopped q =
        let c = C freeing held in
        let l : limit < 1 = ltb-true limit 1 (sym c.1 ∙ q) in
        let z : limit ≡ 0 = omega arith in
        rw (le-ltb 2 limit (omega arith), e, lt-ltb limit 1 l, c.0, z)

    pub recover_freed : limit ≤ 2 → d ≡ false → recovered (Freed N) ys ≡ recover_of xs limit
    unfolding recover_of recover_by stores_bytes
    recover_freed m q =
        let c = C freeing held in
        let l : 1 ≤ limit = ltb-false limit 1 (sym c.1 ∙ q) in
        let b : layout_of xs ≡ y = headed_layout (header_of_headed xs h.header) in
        rw (le-ltb 2 limit m, e, le-ltb limit 1 l, b, c.0, take_all limit freeing l)
