-- Bytes written one after the other into a list, and a lent rest that comes back.
use Rattle.std.specs.Prelude.{ℕ, suc, ◌+◌, ◌-◌, ◌≤◌, ◌<◌, ◌≡◌, List, ◌++◌, length, take, drop, set, get_or}
use Rattle.std.proofs.Common.{ap, sym, ◌∙◌, append_assoc, append-nil, arith, add-one, le_refl, length-drop, drop_of_length-le, drop-cons, take-suc, length-take-le, take_all}
use Rattle.std.proofs.lemmas.List.{set_at}
use Rattle.std.proofs.Math.Seq.{take-length}
use borrow.Rule.Slice.PartMut.{put_mid}

-- byte by byte
pub copy_more : (src dst dst₀ : List ℕ) (j : ℕ) → j < length src → length src ≤ length dst₀ → dst ≡ take j src ++ drop j dst₀
    → set dst j (get_or src j 0) ≡ take (j + 1) src ++ drop (j + 1) dst₀
copy_more src dst dst₀ j l m e =
    ap (λ (x : List ℕ). set x j (get_or src j 0)) (e ∙ ap (λ (x : List ℕ). take j src ++ x) (drop-cons dst₀ j 0 (omega arith)))
    ∙ set_at (take j src) (get_or dst₀ j 0) (drop (suc j) dst₀) (get_or src j 0) j (length-take-le j src (omega arith))
    ∙ sym (rw (add-one, take-suc src j 0 l, append_assoc))

pub copy_all : (src dst dst₀ : List ℕ) (j : ℕ) → j ≤ length src → length src ≤ j → dst ≡ take j src ++ drop j dst₀ → dst ≡ src ++ drop (length src) dst₀
copy_all src dst dst₀ j a b e = let z : j ≡ length src = omega arith in e ∙ rw (z, take-length)

-- from in the middle of a list to its end
pub take_rest : (xs : List ℕ) (a : ℕ) → take (length xs - a) (drop a xs) ≡ drop a xs
take_rest xs a = take_all (length xs - a) (drop a xs) (rw length-drop (le_refl _))

pub put_rest : (a : ℕ) (xs ys : List ℕ) → put_mid a (length xs - a) xs ys ≡ take a xs ++ ys
put_rest a xs ys =
    ap (λ (x : List ℕ). take a xs ++ (ys ++ x)) (drop_of_length-le (drop a xs) {i = length xs - a} (rw length-drop (le_refl _)))
    ∙ ap (λ (x : List ℕ). take a xs ++ x) (append-nil ys)
