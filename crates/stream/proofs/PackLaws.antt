-- Laws of writers that fill the beginning of what they are lent, of packed blocks and payloads one after the other, and of the answers.
use Prim.Native.Nat.{ℕ, zero, suc, ◌+◌, ◌-◌, ◌*◌, ◌/◌, ◌%◌, min, ◌≤◌, ◌<◌}
use mathlib.Core.List.{List, [], ◌∷◌, ◌++◌, append_assoc, append-nil}
use mathlib.Core.Bool.{Bool, true, false}
use mathlib.Core.Option.{Option, none, some}
use mathlib.Core.Path.{◌≡◌, refl, ap, ap₂, sym, ◌∙◌}
use native.Mathlib.Nat.{sub-zero, le_refl}
use native.Mathlib.Numerals.{add-one}
use native.Mathlib.Omega.{arith}
use borrow.Author.Tests.{leb-true, leb-false, le-leb, lt-leb}
use borrow.Rule.Slice.PartMut.{put_mid, same_len_mid}
use lib.Dec.{leb}
use lib.ListN.{length, take, drop, set, get_or, replicate, length-append, length-take, length-drop, length-replicate, replicate-append-replicate, drop_of_length-le}
use lib.Seq.{sets-eq, append_snoc, drop-cons, drop-drop, set_at, length-take-le, take-add, take_all, take_at, drop_at, take-length, take-suc}
use Rattle.rules.specs.Faults.{need, both}
use Rattle.rules.specs.Blocks.{fnv_start, fnv1a, check_of, bytes32, checked, filled, packed_block, packed_blocks, packed, payloads, unpacked, is_kind, payload_length, stream_length, stream_blocks}
use Rattle.rules.specs.Answers.{answer, placed, try, accept, pack_refusal, unpack_refusal, written}
use Rattle.rules.specs.declared.Answer.{Answer}
use Rattle.laws.specs.Blocks.{unchecked, unchecked_length, bytes32_length, block_length, packed_length, payloads_length, unpacked_length, check_of_packed}

-- A list with a piece in the place of as many elements at its beginning
abbrev pub begun : List ℕ → List ℕ → List ℕ
begun out piece = piece ++ drop (length piece) out

-- a byte stored after the piece
begun_store : (out₀ out p : List ℕ) (i b : ℕ) → length p ≡ i → i < length out₀ → out ≡ begun out₀ p → set out i b ≡ begun out₀ (p ++ b ∷ [])
begun_store out₀ out p i b e l o =
    let n : length (p ++ b ∷ []) ≡ suc i = length-append p (b ∷ []) ∙ omega arith in
    rw (o, e, drop-cons out₀ i 0 l, n) (set_at p (get_or out₀ i 0) (drop (suc i) out₀) b i e ∙ sym (append_snoc p b (drop (suc i) out₀)))

take_rest : (xs : List ℕ) (a : ℕ) → take (length xs - a) (drop a xs) ≡ drop a xs
take_rest xs a = take_all (length xs - a) (drop a xs) (rw length-drop (le_refl _))

put_rest : (a : ℕ) (xs ys : List ℕ) → put_mid a (length xs - a) xs ys ≡ take a xs ++ ys
put_rest a xs ys =
    ap (λ (x : List ℕ). take a xs ++ (ys ++ x)) (drop_of_length-le (drop a xs) {i = length xs - a} (rw length-drop (le_refl _)))
    ∙ ap (λ (x : List ℕ). take a xs ++ x) (append-nil ys)

pub rest_length : (a : ℕ) (xs ys : List ℕ) → length ys ≡ length (take (length xs - a) (drop a xs)) → length (put_mid a (length xs - a) xs ys) ≡ length xs
rest_length a xs ys e = same_len_mid a (length xs - a) xs ys e

-- a piece of k bytes put at the beginning of the rest that is lent after the first piece
begun_more : (out₀ out a b last : List ℕ) (at k : ℕ) → length a ≡ at → length b ≡ k → out ≡ begun out₀ a
    → last ≡ b ++ drop k (take (length out - at) (drop at out)) → put_mid at (length out - at) out last ≡ begun out₀ (a ++ b)
begun_more out₀ out a b last at k la lb o e =
    let t : take at out ≡ a = rw o (take_at a (drop (length a) out₀) at la) in
    let d : drop at out ≡ drop at out₀ = rw (o, la) (drop_at a (drop at out₀) at la) in
    put_rest at out last ∙ rw (t, e, take_rest, d, drop-drop k at out₀, ← append_assoc a b, length-append, la, lb)

-- the bytes of a list, and zeros, one by one
pub bytes_more : (src out₀ out : List ℕ) (i : ℕ) → i < length src → length src ≤ length out₀ → out ≡ begun out₀ (take i src) → set out i (get_or src i 0) ≡ begun out₀ (take (i + 1) src)
bytes_more src out₀ out i l m o =
    rw (add-one, take-suc src i 0 l) (begun_store out₀ out (take i src) i (get_or src i 0) (simp length-take (omega arith)) (omega arith) o)

pub zeros_more : (out₀ out : List ℕ) (i : ℕ) → i < length out₀ → out ≡ begun out₀ (replicate i 0) → set out i 0 ≡ begun out₀ (replicate (i + 1) 0)
zeros_more out₀ out i l o = rw (← replicate-append-replicate {A = ℕ} i 1 0) (begun_store out₀ out (replicate i 0) i 0 (length-replicate i 0) l o)

pub bytes_all : (src out₀ out : List ℕ) (i : ℕ) → i ≤ length src → length src ≤ i → out ≡ begun out₀ (take i src) → out ≡ begun out₀ src
bytes_all src out₀ out i a b o = o ∙ ap (begun out₀) (take_all i src b)

pub zeros_all : (n : ℕ) (out₀ out : List ℕ) (i : ℕ) → i ≤ n → n ≤ i → out ≡ begun out₀ (replicate i 0) → out ≡ replicate n 0 ++ drop n out₀
zeros_all n out₀ out i a b o = let e : i ≡ n = omega arith in o ∙ rw (e, length-replicate {A = ℕ} n 0)

-- four bytes
pub four_put : (out : List ℕ) (a b c d : ℕ) → 4 ≤ length out → set (set (set (set out 0 a) 1 b) 2 c) 3 d ≡ (a ∷ b ∷ c ∷ d ∷ []) ++ drop 4 out
four_put out a b c d l = sets-eq (a ∷ b ∷ c ∷ d ∷ []) out 0 l

-- A block: its head, the payload, zeros, and the check of these, which is in hand
pub block_put : (out out₁ out₂ out₃ out₄ last₂ last₃ last₄ pay : List ℕ) (kind start n h : ℕ) → 512 ≤ length out → length pay ≤ 504
    → out₁ ≡ (n % 256 ∷ n / 256 % 256 ∷ kind ∷ 0 ∷ []) ++ drop 4 out
    → out₂ ≡ put_mid 4 (length out₁ - 4) out₁ last₂ → last₂ ≡ pay ++ drop (length pay) (take (length out₁ - 4) (drop 4 out₁))
    → out₃ ≡ put_mid (4 + length pay) (length out₂ - (4 + length pay)) out₂ last₃
    → last₃ ≡ replicate (508 - (4 + length pay)) 0 ++ drop (508 - (4 + length pay)) (take (length out₂ - (4 + length pay)) (drop (4 + length pay) out₂))
    → h ≡ fnv1a start (take 508 out₃)
    → out₄ ≡ put_mid 508 (length out₃ - 508) out₃ last₄ → last₄ ≡ bytes32 h ++ drop 4 (take (length out₃ - 508) (drop 508 out₃))
    → (h ≡ check_of (packed_block kind start n pay)) × (out₄ ≡ packed_block kind start n pay ++ drop 512 out)
unfolding packed_block checked filled
block_put out out₁ out₂ out₃ out₄ last₂ last₃ last₄ pay kind start n h l m e₁ o₂ e₂ o₃ e₃ eh o₄ e₄ =
    let head : List ℕ = n % 256 ∷ n / 256 % 256 ∷ kind ∷ 0 ∷ [] in
    let zs : List ℕ = replicate (504 - length pay) 0 in
    let b : List ℕ = unchecked kind n pay in
    let z : 508 - (4 + length pay) ≡ 504 - length pay = omega arith in
    let s₂ : out₂ ≡ begun out (head ++ pay) = o₂ ∙ begun_more out out₁ head pay last₂ 4 (length pay) refl refl e₁ e₂ in
    let s₃ : out₃ ≡ begun out ((head ++ pay) ++ zs) =
    o₃ ∙ begun_more out out₂ (head ++ pay) zs last₃ (4 + length pay) (504 - length pay) (length-append head pay) (length-replicate (504 - length pay) 0) s₂ (rw z at e₃) in
    let c : out₃ ≡ begun out b = s₃ in
    let w : length b ≡ 508 = unchecked_length kind n pay m in
    let t : take 508 out₃ ≡ b = rw c (take_at b _ 508 w) in
    let g : h ≡ fnv1a start b = eh ∙ ap (fnv1a start) t in
    let s₄ : out₄ ≡ begun out (b ++ bytes32 h) = o₄ ∙ begun_more out out₃ b (bytes32 h) last₄ 508 4 w (bytes32_length h) c e₄ in
    let q : length (b ++ bytes32 h) ≡ 512 = length-append b (bytes32 h) ∙ omega (arith, bytes32_length h) in
    (g ∙ sym (check_of_packed kind start n pay m), s₄ ∙ ap₂ (λ (x k : ℕ). b ++ bytes32 x ++ drop k out) g q)

-- Blocks one after the other: n of them stand at the beginning, and the next one starts from the number in hand
pub record Chain (kind : ℕ) (p out₀ out : List ℕ) (blocks start n : ℕ) : Type 0 where
  pub put : out ≡ begun out₀ (take (512 * n) (packed kind p))
  pub rest : drop (512 * n) (packed kind p) ≡ packed_blocks kind (blocks - n) start n (drop (504 * n) p)

pub chain_begins : (kind : ℕ) (p out : List ℕ) → Chain kind p out out ((length p + 503) / 504) fnv_start 0
unfolding packed
chain_begins kind p out = record { put = refl; rest = rw sub-zero }

take_cap : (j : ℕ) (xs : List ℕ) → take (min j (length xs)) xs ≡ take j xs
take_cap j xs = go (leb j (length xs)) refl
  where
    go : (b : Bool) → leb j (length xs) ≡ b → take (min j (length xs)) xs ≡ take j xs
    go true b = let w : j ≤ length xs = leb-true j (length xs) b in let e : min j (length xs) ≡ j = omega arith in rw e
    go false b =
        let w : length xs < j = leb-false j (length xs) b in
        let e : min j (length xs) ≡ length xs = omega arith in
        rw (e, take-length) (sym (take_all j xs (omega arith)))

-- the part of the payload that the code takes for block n
payload_part : (p : List ℕ) (n to : ℕ) → to ≡ min (504 * n + 504) (length p) → 504 * n ≤ length p → take (to - 504 * n) (drop (504 * n) p) ≡ take 504 (drop (504 * n) p)
payload_part p n to t l =
    let e : to - 504 * n ≡ min 504 (length (drop (504 * n) p)) = rw length-drop (omega arith) in
    rw e (take_cap 504 (drop (504 * n) p))

module _ (kind : ℕ) (p out₀ out : List ℕ) (blocks start n : ℕ) (so : blocks ≡ (length p + 503) / 504) (l : n < blocks) (c : Chain kind p out₀ out blocks start n) where
  abbrev whole : List ℕ
  whole = packed kind p

  -- block n, and where it stands
  abbrev here : List ℕ
  here = packed_block kind start n (take 504 (drop (504 * n) p))

  here_length : length here ≡ 512
  here_length = block_length kind start n (take 504 (drop (504 * n) p)) (rw length-take (omega arith))

  onward : List ℕ
  onward = packed_blocks kind (blocks - (n + 1)) (check_of here) (n + 1) (drop (504 * (n + 1)) p)

  at_block : drop (512 * n) whole ≡ here ++ onward
  unfolding packed_blocks onward
  at_block =
      let e : blocks - n ≡ suc (blocks - (n + 1)) = omega arith in
      let f : 504 * n + 504 ≡ 504 * (n + 1) = omega arith in
      c.rest ∙ rw (e, packed_blocks, drop-drop 504 (504 * n) p, f, add-one n)

  one_more : take (512 * (n + 1)) whole ≡ take (512 * n) whole ++ here
  one_more =
      let e : 512 * (n + 1) ≡ 512 * n + 512 = omega arith in
      rw (e, take-add (512 * n) 512 whole, at_block, take_at here onward 512 here_length)

  onward_rest : drop (512 * (n + 1)) whole ≡ onward
  onward_rest =
      let e : 512 * (n + 1) ≡ 512 * n + 512 = omega arith in
      rw (e, ← drop-drop 512 (512 * n) whole, at_block, drop_at here onward 512 here_length)

  pub chain_turn : (to next : ℕ) (last : List ℕ) → to ≡ min (504 * n + 504) (length p)
      → next ≡ check_of (packed_block kind start n (take (to - 504 * n) (drop (504 * n) p)))
      → last ≡ packed_block kind start n (take (to - 504 * n) (drop (504 * n) p)) ++ drop 512 (take (length out - 512 * n) (drop (512 * n) out))
      → Chain kind p out₀ (put_mid (512 * n) (length out - 512 * n) out last) blocks next (n + 1)
  unfolding onward
  chain_turn to next last t h e =
      let q : take (to - 504 * n) (drop (504 * n) p) ≡ take 504 (drop (504 * n) p) = payload_part p n to t (omega arith) in
      let w : length (take (512 * n) whole) ≡ 512 * n = length-take-le (512 * n) whole (rw packed_length (omega arith)) in
      record {
        put = rw one_more (begun_more out₀ out (take (512 * n) whole) here last (512 * n) 512 w here_length c.put (rw q at e));
        rest = onward_rest ∙ rw (h, q);
      }

pub chain_all : (kind : ℕ) (p out₀ out : List ℕ) (blocks start n : ℕ) → blocks ≡ (length p + 503) / 504 → n ≤ blocks → blocks ≤ n → Chain kind p out₀ out blocks start n
    → out ≡ begun out₀ (packed kind p)
chain_all kind p out₀ out blocks start n so a b c = c.put ∙ ap (begun out₀) (take_all (512 * n) (packed kind p) (rw packed_length (omega arith)))

-- Payloads, one more at the end
payloads_snoc : (k : ℕ) (s : List ℕ) → payloads (suc k) s ≡ payloads k s ++ take 504 (drop (512 * k + 4) s)
unfolding payloads
payloads_snoc zero s = append-nil _
payloads_snoc (suc k) s =
    let b : 512 + (512 * k + 4) ≡ 512 * suc k + 4 = omega arith in
    ap (λ (x : List ℕ). take 504 (drop 4 s) ++ x) (payloads_snoc k (drop 512 s))
    ∙ rw (drop-drop (512 * k + 4) 512 s, b) (sym (append_assoc (take 504 (drop 4 s)) (payloads k (drop 512 s)) (take 504 (drop (512 * suc k + 4) s))))

pub payloads_turn : (n : ℕ) (s out₀ out last : List ℕ) → 512 * n + 512 ≤ length s → out ≡ begun out₀ (payloads n s)
    → last ≡ begun (take (length out - 504 * n) (drop (504 * n) out)) (take (512 * n + 4 + 504 - (512 * n + 4)) (drop (512 * n + 4) s))
    → put_mid (504 * n) (length out - 504 * n) out last ≡ begun out₀ (payloads (n + 1) s)
payloads_turn n s out₀ out last l o e =
    let part : List ℕ = take 504 (drop (512 * n + 4) s) in
    let z : 512 * n + 4 + 504 - (512 * n + 4) ≡ 504 = omega arith in
    rw (add-one, payloads_snoc)
    (begun_more out₀ out (payloads n s) part last (504 * n) (length part) (payloads_length n s (omega arith)) refl o (rw z at e))

pub payloads_all : (n : ℕ) (s out₀ out : List ℕ) → n ≤ length s / 512 → length s / 512 ≤ n → out ≡ begun out₀ (payloads n s) → out ≡ begun out₀ (unpacked s)
unfolding unpacked
payloads_all n s out₀ out a b o = let e : n ≡ length s / 512 = omega arith in o ∙ rw e

-- Answers: what is given back and left where a call is refused, and where it is not
pub refused_leaves : (x : Option Answer) (bytes : Unit {0} → List ℕ) (out : List ℕ) (r a : Answer) → x ≡ some a → r ≡ a → (r ≡ (written x bytes out).result) × (out ≡ (written x bytes out).output)
unfolding written
refused_leaves x bytes out r a e f = (rw (e, f), rw e)

pub finished_leaves : (x : Option Answer) (y out o : List ℕ) (n : ℕ) (r : Answer) → x ≡ none → length y ≡ n → r ≡ answer 0 0 0 0 n → o ≡ begun out y
    → (r ≡ (written x (λ _. y) out).result) × (o ≡ (written x (λ _. y) out).output)
unfolding written
finished_leaves x y out o n r e l f g = (rw (e, l, f), rw (e, g))

module _ (kind : ℕ) (p out : List ℕ) where
  pub pack_length : (place : ℕ) → payload_length p ≡ some place → pack_refusal kind p out ≡ some (answer 1 0 place 0 0)
  unfolding pack_refusal placed try
  pack_length place e = rw e

  pub pack_kind : payload_length p ≡ none → is_kind kind ≡ false → pack_refusal kind p out ≡ some (answer 2 0 0 0 0)
  unfolding pack_refusal placed try need
  pack_kind e k = rw (e, k)

  pub pack_room : payload_length p ≡ none → is_kind kind ≡ true → length out < 512 * ((length p + 503) / 504) → pack_refusal kind p out ≡ some (answer 12 0 0 0 0)
  unfolding pack_refusal placed try need
  pack_room e k l = rw (e, k, packed_length, lt-leb _ _ l)

  pub pack_fits : payload_length p ≡ none → is_kind kind ≡ true → 512 * ((length p + 503) / 504) ≤ length out → pack_refusal kind p out ≡ none
  unfolding pack_refusal placed try need accept
  pack_fits e k l = rw (e, k, packed_length, le-leb _ _ l)

module _ (kind : ℕ) (s out : List ℕ) where
  pub unpack_length : (place : ℕ) → stream_length s ≡ some place → unpack_refusal kind s out ≡ some (answer 1 0 place 0 0)
  unfolding unpack_refusal placed try
  unpack_length place e = rw e

  pub unpack_kind : stream_length s ≡ none → is_kind kind ≡ false → unpack_refusal kind s out ≡ some (answer 2 0 0 0 0)
  unfolding unpack_refusal placed try both need
  unpack_kind e k = rw (e, k)

  pub unpack_block : (place : ℕ) → stream_length s ≡ none → is_kind kind ≡ true → stream_blocks kind s ≡ some place → unpack_refusal kind s out ≡ some (answer 2 0 place 0 0)
  unfolding unpack_refusal placed try both need
  unpack_block place e k b = rw (e, k, b)

  pub unpack_room : stream_length s ≡ none → is_kind kind ≡ true → stream_blocks kind s ≡ none → length out < 504 * (length s / 512) → unpack_refusal kind s out ≡ some (answer 12 0 0 0 0)
  unfolding unpack_refusal placed try both need
  unpack_room e k b l = rw (e, k, b, unpacked_length, lt-leb _ _ l)

  pub unpack_fits : stream_length s ≡ none → is_kind kind ≡ true → stream_blocks kind s ≡ none → 504 * (length s / 512) ≤ length out → unpack_refusal kind s out ≡ none
  unfolding unpack_refusal placed try both need accept
  unpack_fits e k b l = rw (e, k, b, unpacked_length, le-leb _ _ l)
