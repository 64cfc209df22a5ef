-- The loops that stand around a node: the fors above it in its own template, and the arms that it stands in, and nothing else.
-- Goes on from specs/Around.antt: what rests on definitions that a must-fail edit changes.
use Rattle.std.specs.Prelude.{◌≡◌, refl, ◌↔◌, ℕ, suc, List}
use Rattle.std.proofs.Common.{arith}
use Rattle.rules.specs.Templates.{form_of, nodes_below}
use Rattle.rules.specs.Limits.{Looped, looped, loops_below, looped_below}
use Rattle.rules.specs.declared.Form.{Form}
use Rattle.rules.specs.declared.Form.TheVariants.{Build, Literal, Place, Expand, If, For, Sequence, Match, Unknown}
use Rattle.laws.specs.Faults.{In, in_map, Below, itself, under}
use Rattle.theorems.specs.HeadByHead.{map_in, below_more}
use Rattle.theorems.specs.Around.{Around, no_loop, in_a_for, in_an_arm, in_neither}

-- one level down, by the form of the node above
next_around : (t : List ℕ) (p n q c : ℕ) (f : Form) → form_of t q ≡ f → Around t p n q → In c (nodes_below t q) → Around t p (loops_below f n) c
unfolding loops_below
next_around t p n q c Build e a i = in_neither n q c a (λ h. let z : ◌≡◌ {A = ℕ} 0 1 = cc in omega arith) (λ h. let z : ◌≡◌ {A = ℕ} 0 1 = cc in omega arith) i
next_around t p n q c Literal e a i = in_neither n q c a (λ h. let z : ◌≡◌ {A = ℕ} 0 1 = cc in omega arith) (λ h. let z : ◌≡◌ {A = ℕ} 0 1 = cc in omega arith) i
next_around t p n q c Place e a i = in_neither n q c a (λ h. let z : ◌≡◌ {A = ℕ} 0 1 = cc in omega arith) (λ h. let z : ◌≡◌ {A = ℕ} 0 1 = cc in omega arith) i
next_around t p n q c Expand e a i = in_neither n q c a (λ h. let z : ◌≡◌ {A = ℕ} 0 1 = cc in omega arith) (λ h. let z : ◌≡◌ {A = ℕ} 0 1 = cc in omega arith) i
next_around t p n q c If e a i = in_neither n q c a (λ h. let z : ◌≡◌ {A = ℕ} 0 1 = cc in omega arith) (λ h. let z : ◌≡◌ {A = ℕ} 0 1 = cc in omega arith) i
next_around t p n q c For e a i = in_a_for n q c a e i
next_around t p n q c Sequence e a i = in_neither n q c a (λ h. let z : ◌≡◌ {A = ℕ} 0 1 = cc in omega arith) (λ h. let z : ◌≡◌ {A = ℕ} 0 1 = cc in omega arith) i
next_around t p n q c Match e a i = in_an_arm n q c a e i
next_around t p n q c Unknown e a i = in_neither n q c a (λ h. let z : ◌≡◌ {A = ℕ} 0 1 = cc in omega arith) (λ h. let z : ◌≡◌ {A = ℕ} 0 1 = cc in omega arith) i

no_loop_below : (f : Form) (n : ℕ) → (f ≡ For → ⊥) → (f ≡ Match → ⊥) → loops_below f n ≡ n
unfolding loops_below
no_loop_below Build n h k = refl
no_loop_below Literal n h k = refl
no_loop_below Place n h k = refl
no_loop_below Expand n h k = refl
no_loop_below If n h k = refl
no_loop_below For n h k = absurd (h refl)
no_loop_below Sequence n h k = refl
no_loop_below Match n h k = absurd (k refl)
no_loop_below Unknown n h k = refl

below_around : {t : List ℕ} {p d : ℕ} {x y : Looped} → Around t p x.loops x.node → Below (looped_below t) x d y → Around t p y.loops y.node
unfolding looped_below looped
below_around a (itself x) = a
below_around {t} {p} a (under x c y d i b) =
    below_around (map_in (λ (z : Looped). Around t p z.loops z.node) _ _ (λ q j. next_around t p x.loops x.node q _ refl a j) i) b

around_below : {t : List ℕ} {p n q : ℕ} → Around t p n q → (d : ℕ) × Below (looped_below t) (looped 0 p) d (looped n q)
unfolding looped_below looped loops_below
around_below no_loop = (0, itself _)
around_below (in_a_for n q c a e i) = let (d, b) = around_below a in (suc d, below_more b (rw e (in_map (looped (suc n)) i)))
around_below (in_an_arm n q c a e i) = let (d, b) = around_below a in (suc d, below_more b (rw e (in_map (looped (suc n)) i)))
around_below {t} (in_neither n q c a h k i) =
    let (d, b) = around_below a in
    (suc d, below_more b (rw (no_loop_below (form_of t q) n h k) (in_map (looped n) i)))

-- the loops that the check counts are these
pub around_exactly : (t : List ℕ) (p : ℕ) (x : Looped) → ((d : ℕ) × Below (looped_below t) (looped 0 p) d x) ↔ Around t p x.loops x.node
unfolding looped
around_exactly t p x = (λ b. below_around no_loop b.1, around_below)
