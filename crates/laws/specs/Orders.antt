-- Two numbers, by which is the less.
use Rattle.std.specs.Prelude.{◌≡◌, refl, ℕ, ◌≤◌, ◌<◌, Bool, true, false, ltb}
use Rattle.std.proofs.Common.{arith, ltb-true, ltb-false}

pub data Order (a b : ℕ) : Type 0 where
  less : a < b → Order a b
  same : a ≡ b → Order a b
  more : b < a → Order a b

pub order : (a b : ℕ) → Order a b
order a b = go (ltb a b) (ltb b a) refl refl
  where
    go : (x y : Bool) → ltb a b ≡ x → ltb b a ≡ y → Order a b
    go true y e f = less (ltb-true a b e)
    go false true e f = more (ltb-true b a f)
    go false false e f = same (let l : b ≤ a = ltb-false a b e in let m : a ≤ b = ltb-false b a f in omega arith)
