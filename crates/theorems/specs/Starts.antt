-- Over the same bytes two different starting numbers give different checks: FNV-1a's xor has an inverse, and so has its multiply by an odd number.
use Rattle.std.specs.Prelude.{◌≡◌, refl, ℕ, zero, suc, ◌+◌, ◌*◌, ◌/◌, ◌%◌, ◌<◌, List, [], ◌∷◌}
use Rattle.std.proofs.Common.{sym, ap, ◌∙◌, arith, mod-eq_of_lt}
use Rattle.std.proofs.Math.Nat.{mul-add-mod_self_right}
use Rattle.std.proofs.Math.Arith.{bin_ind}
use Rattle.std.specs.Int.Bits.{bit_xor, differ, xor_step}
use Rattle.std.proofs.lemmas.Nat.{xor_mod}
use Rattle.rules.specs.Blocks.{multiplied, fnv1a}

-- The xor with a bit has an inverse, and so has that with all bits of a number
bit_one : (x y : ℕ) → x < 2 → y < 2 → differ 1 x ≡ differ 1 y → x ≡ y
bit_one zero zero a b e = refl
bit_one zero (suc y) a b e = absurd (let f : 1 ≡ y = e in omega arith)
bit_one (suc x) zero a b e = absurd (let f : x ≡ 1 = e in omega arith)
bit_one (suc x) (suc y) a b e = ap suc e

bit_same : (d x y : ℕ) → d < 2 → x < 2 → y < 2 → differ d x ≡ differ d y → x ≡ y
bit_same zero x y l a b e = e
bit_same (suc zero) x y l a b e = bit_one x y a b e
bit_same (suc (suc d)) x y l a b e = absurd (omega arith)

bit_small : (d x : ℕ) → d < 2 → x < 2 → differ d x < 2
bit_small zero x l a = a
bit_small (suc zero) zero l a = l
bit_small (suc zero) (suc x) l a = let m : x < 2 = omega arith in m
bit_small (suc (suc d)) x l a = absurd (omega arith)

xor_same : (b h k : ℕ) → bit_xor b h ≡ bit_xor b k → h ≡ k
xor_same = bin_ind (λ (b : ℕ). (h k : ℕ) → bit_xor b h ≡ bit_xor b k → h ≡ k) (λ h k e. e) λ b same h k e.
    let p : ℕ = bit_xor (b / 2) (h / 2) in
    let q : ℕ = bit_xor (b / 2) (k / 2) in
    let x : ℕ = differ (b % 2) (h % 2) in
    let y : ℕ = differ (b % 2) (k % 2) in
    let f : p * 2 + x ≡ q * 2 + y = sym (xor_step b h) ∙ e ∙ xor_step b k in
    let l : x < 2 = bit_small (b % 2) (h % 2) (omega arith) (omega arith) in
    let m : y < 2 = bit_small (b % 2) (k % 2) (omega arith) (omega arith) in
    let high : h / 2 ≡ k / 2 = same (h / 2) (k / 2) (let g : p ≡ q = omega arith in g) in
    let low : h % 2 ≡ k % 2 = bit_same (b % 2) (h % 2) (k % 2) (omega arith) (omega arith) (omega arith) (let g : x ≡ y = omega arith in g) in
    omega arith

-- and the multiply has one, as 16777619 is odd: 16777619 times 899433627 is 1 modulo 2^32
multiplied_back : (x : ℕ) → x < 4294967296 → 899433627 * multiplied x % 4294967296 ≡ x
unfolding multiplied
multiplied_back x l =
    let a : ℕ = x * 16777619 / 4294967296 in
    let r : ℕ = x * 16777619 % 4294967296 in
    let e : 899433627 * a * 4294967296 + 899433627 * r ≡ 3513497 * x * 4294967296 + x = omega arith in
    sym (mul-add-mod_self_right (899433627 * a) 4294967296 (899433627 * r))
    ∙ ap (λ (z : ℕ). z % 4294967296) e
    ∙ mul-add-mod_self_right (3513497 * x) 4294967296 x
    ∙ mod-eq_of_lt l

multiplied_same : (x y : ℕ) → x < 4294967296 → y < 4294967296 → multiplied x ≡ multiplied y → x ≡ y
multiplied_same x y a b e = sym (multiplied_back x a) ∙ ap (λ (z : ℕ). 899433627 * z % 4294967296) e ∙ multiplied_back y b

multiplied_small : (x : ℕ) → multiplied x < 4294967296
unfolding multiplied
multiplied_small x = omega arith

-- only the low 32 bits count
multiplied_low : (x : ℕ) → multiplied x ≡ multiplied (x % 4294967296)
unfolding multiplied
multiplied_low x =
    let e : x * 16777619 ≡ 16777619 * (x / 4294967296) * 4294967296 + x % 4294967296 * 16777619 = omega arith in
    ap (λ (z : ℕ). z % 4294967296) e ∙ mul-add-mod_self_right (16777619 * (x / 4294967296)) 4294967296 (x % 4294967296 * 16777619)

-- one step of FNV-1a
step_same : (b h k : ℕ) → h < 4294967296 → k < 4294967296 → multiplied (bit_xor b h) ≡ multiplied (bit_xor b k) → h ≡ k
step_same b h k l m e =
    let f : bit_xor b h % 4294967296 ≡ bit_xor b k % 4294967296 =
    multiplied_same _ _ (omega arith) (omega arith) (sym (multiplied_low (bit_xor b h)) ∙ e ∙ multiplied_low (bit_xor b k)) in
    let g : h % 4294967296 ≡ k % 4294967296 = xor_same (b % 4294967296) _ _ (sym (xor_mod b h 32) ∙ f ∙ xor_mod b k 32) in
    omega arith

pub same_start : (bs : List ℕ) (h k : ℕ) → h < 4294967296 → k < 4294967296 → fnv1a h bs ≡ fnv1a k bs → h ≡ k
unfolding fnv1a
same_start [] h k l m e = e
same_start (b ∷ bs) h k l m e =
    step_same b h k l m (same_start bs (multiplied (bit_xor b h)) (multiplied (bit_xor b k)) (multiplied_small (bit_xor b h)) (multiplied_small (bit_xor b k)) e)

-- "The check of each block now starts from the check of the block before it" (02 b): so bytes that are right after one check are right after no other
pub start_matters : (bytes : List ℕ) (h k : ℕ) → h < 4294967296 → k < 4294967296 → (h ≡ k → ⊥) → fnv1a h bytes ≡ fnv1a k bytes → ⊥
start_matters bytes h k l m other e = other (same_start bytes h k l m e)
