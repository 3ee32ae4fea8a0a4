-- What the proofs name of the kit's libraries, so that a proof file names one module, and the law for what cannot be.
pub use mathlib.Core.Path.{◌∙◌, ◌≡◌, ap, ap₂, fun_ext, refl, subst, sym}
pub use mathlib.Core.Logic.{◌≢◌, ◌⊎◌, inl, inr, ⊎_elim}
pub use mathlib.Core.Bool.{Bool, not-not as not_not, ◌&&◌, ◌||◌, and_assoc, and-false, and-true, cond, false, not, true, true≢false}
pub use mathlib.Core.Option.{Option, none as nothing, some}
pub use mathlib.Core.List.Memᴰ.{append_cases as mem_append_cases}
pub use mathlib.Core.List.Memᴰ.{append_left as mem_append_left}
pub use mathlib.Core.List.Memᴰ.{append_right as mem_append_right}
pub use mathlib.Core.List.Memᴰ.{cases_cons as mem_cases_cons}
pub use mathlib.Core.List.Memᴰ.{cast as mem_cast}
pub use mathlib.Core.List.Memᴰ.{eq_of_singleton as mem_eq_of_singleton}
pub use mathlib.Core.List.Memᴰ.{head as mem_head}
pub use mathlib.Core.List.Memᴰ.{not-nil as mem_not_nil}
pub use mathlib.Core.List.Memᴰ.{tail as mem_tail}
pub use mathlib.Core.List.{List, Memᴰ, [], ◌++◌, ◌∷◌, append_assoc, append-nil, map}
pub use Prim.Native.Nat.{◌%◌, ◌*◌, ◌+◌, ◌-◌, ◌/◌, ◌<◌, ◌^◌, ◌≤◌, max, min, suc, zero, ℕ}
pub use native.Mathlib.Nat.{add-mul, add-sub_cancel_left, add-suc, add-zero, le_of_eq, mod-eq_of_lt, mul_assoc, mul-le-mul, mul-le-mul_left, mul-le-mul_right, one-le-pow, pow-suc, pow-succ', pow-zero, sub-zero, suc-mul, zero-add, zero-mul}
pub use native.Mathlib.Numerals.{add-one, towards_suc, unary_clauses}
unfoldable pub use native.Mathlib.Decide.{dec_le, dec_lt, ℕ_discrete}
pub use native.Mathlib.Omega.{arith}
pub use lib.Dec.{eqb, leb, ltb}
pub use lib.ListN.{get_or-append as get_or_append, get_or-eq_default as get_or_eq_default, drop, drop_of_length-le, get_or, get_or-replicate, length, length-append, length-drop, length-map, length-replicate, length-set, length-take, replicate, replicate-append-replicate, set, take, take-append-drop}
pub use lib.Seq.{append_snoc, drop-append-add, drop-append-le, drop-append_seam, drop_at, drop-cons, drop-drop, drop-length, drop-nil, drop-paste, drop-set-lt, ext_get_or, get_or-append-add, get_or-append_seam, get_or_at, get_or-drop, get_or-set_other, get_or-set_same, get_or-take, length-paste, length-sets, length-take-le, paste, paste-suc, paste-zero, set_at, set-get_or, set_out, set-set, sets, sets-eq, split_at, take-add, take_all, take-append-add, take-append-le, take-append_seam, take_at, take-length, take-nil, take-suc, take-suc-set, take-take}
pub use borrow.Author.Rules.{rules}
pub use borrow.Author.Tests.{eq-eqb, eqb-false, eqb-true, le-leb, le-ltb, leb-false, leb-true, lt-leb, lt-ltb, ltb-false, ltb-true, ne_eqb, not-false, not-true}

-- Two constructors that are equal make 0 and 1 equal, which `cc` finds: write `clash cc`.
pub clash : {X : Type 0} → ◌≡◌ {A = ℕ} 0 1 → X
clash e = absurd (omega arith)
