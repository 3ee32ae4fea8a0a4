-- The only laws on a product of two variables: where entry i of so many stands.
use mathlib.Core.Path.{◌≡◌, refl, sym}
use Prim.Native.Nat.{◌*◌, ◌+◌, ◌-◌, ◌≤◌, suc, ℕ}
use native.Mathlib.Nat.{mul-le-mul_left, mul-le-mul_right, mul-sub}
use native.Mathlib.Omega.{arith}
use Rattle.entries.specs.Rows.{Stands}

module _ (e i count : ℕ) (h : i ≤ count) (few : count ≤ 17) (small : e ≤ 40) where
  pub stands : Stands e i count (e * i)
  stands = record {
    is = refl;
    inside = mul-le-mul_left e h;
    each = mul-le-mul_right count small;
    most = omega (arith, mul-le-mul_right count small);
    whole = λ k. let l : suc i ≤ count = k in omega (arith, mul-le-mul_left e l);
  }

-- Sixteen entries leave room for one more in 680 bytes.
pub room_most : (e count : ℕ) → e ≤ 40 → count ≤ 16 → e * count ≤ 640
room_most e count h k = omega (arith, mul-le-mul_right count h)

-- The end of the entries less where one begins.
pub rest_is : (e i count : ℕ) → e * count - e * i ≡ e * (count - i)
rest_is e i count = sym (mul-sub e count i)

-- One entry further on.
pub next_is : (e i : ℕ) → e + e * i ≡ e * suc i
next_is e i = omega arith

pub part_least : (e i n : ℕ) → i ≤ n → e * i ≤ e * n
part_least e i n h = mul-le-mul_left e h

-- Those before a place and those from it on.
pub parts_are : (e i n : ℕ) → i ≤ n → e * i + e * (n - i) ≡ e * n
parts_are e i n h = omega (arith, mul-sub e n i, mul-le-mul_left e h)
