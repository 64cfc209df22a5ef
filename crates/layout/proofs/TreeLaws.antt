-- One thing by recursion is one thing by its size and a scan of the heads, for any heads that go forward.
use Prim.Native.Nat.{ℕ, zero, suc, ◌+◌, ◌-◌, ◌≤◌, ◌<◌}
use mathlib.Core.Path.{◌≡◌, refl, ap, sym, ◌∙◌, subst}
use mathlib.Core.Bool.{Bool, true, false, ◌&&◌, false≢true}
use mathlib.Core.Option.{Option, none, some, none-ne-some}
use native.Mathlib.Omega.{arith}
use borrow.Author.Tests.{ltb-true, leb-true, eqb-true, eq-eqb, lt-ltb, le-ltb, le-leb, lt-leb}
use lib.Dec.{eqb, leb, ltb}
use Rattle.rules.specs.Faults.{on_found, only_if}
use Rattle.rules.specs.Records.{after}
use Rattle.rules.specs.Layout.{then_read, in_row}
use Rattle.layout.specs.Tree.{chain, scan}
use Rattle.laws.specs.Faults.{and_true}
use Rattle.laws.specs.Rows.{one_less}
use Rattle.laws.specs.Reads.{only_some, then_some}

pub same_bool : (a b : Bool) → (a ≡ true → b ≡ true) → (b ≡ true → a ≡ true) → a ≡ b
same_bool true b f g = sym (f refl)
same_bool false true f g = g refl
same_bool false false f g = refl

module _ (head_end : ℕ → Option ℕ) (size below : ℕ → ℕ) where
  -- the layout by recursion: the place after the thing at p, if one is laid out there at most k deep
  unfoldable pub tree_end : ℕ → ℕ → Option ℕ
  tree_end zero p = none
  tree_end (suc k) p = then_read (head_end p) (λ q. then_read (in_row (tree_end k) (below p) q) (λ e. only_if (eqb (p + size p) e) e))

  -- the layout as a relation: a thing from p to e, and n things in a row from p to e
  mutual
    data Tree : ℕ → ℕ → Type 0 where
      tree : {p q e : ℕ} → head_end p ≡ some q → Trees (below p) q e → p + size p ≡ e → Tree p e

    data Trees : ℕ → ℕ → ℕ → Type 0 where
      end : {p e : ℕ} → p ≡ e → Trees zero p e
      more : {n p q e : ℕ} → Tree p q → Trees n q e → Trees (suc n) p e

  pub data Chain : ℕ → ℕ → ℕ → Type 0 where
    last : {p e : ℕ} → p ≡ e → Chain zero p e
    link : {n p e : ℕ} → p < e → 0 < size p → Chain n (p + size p) e → Chain (suc n) p e

  data Scan : ℕ → ℕ → Type 0 where
    stop : {p e : ℕ} → p ≡ e → Scan p e
    step : {p q e : ℕ} → p + size p ≤ e → head_end p ≡ some q → Chain (below p) q (p + size p) → Scan q e → Scan p e

  chain_le : {n p e : ℕ} → Chain n p e → p ≤ e
  chain_le (last r) = omega arith
  chain_le (link l g c) = omega arith

  -- a thing of a chain has a record at least; the place after all its things; one chain after another
  pub chain_few : {n p e : ℕ} → Chain n p e → p + n ≤ e
  chain_few (last r) = omega arith
  chain_few (link l g c) = omega (arith, chain_few c)

  pub chain_after : {n p e : ℕ} → Chain n p e → after size n p ≡ e
  unfolding after
  chain_after (last r) = r
  chain_after (link l g c) = chain_after c

  pub chain_then : {n m p q e : ℕ} → Chain n p q → Chain m q e → Chain (n + m) p e
  chain_then {m = m} {e = e} (last r) d = let z : 0 + m ≡ m = omega arith in rw z (subst (λ (x : ℕ). Chain m x e) (sym r) d)
  chain_then {m = m} {e = e} (link {n} {p} l g c) d =
      let z : suc n + m ≡ suc (n + m) = omega arith in
      rw z (link {p = p} {e = e} (omega (arith, chain_few d)) g (chain_then c d))

  module _ (forward : (p q : ℕ) → head_end p ≡ some q → p < q) where
    -- from the scan to the layout: n things by their sizes are n things laid out, and the scan goes on after them
    laid : (b : ℕ) {n p e f : ℕ} → Scan p f → Chain n p e → e ≤ f → e - p ≤ b → Trees n p e × Scan e f
    laid zero {f = f} s (last r) l w = (end r, subst (λ (x : ℕ). Scan x f) r s)
    laid zero s (link g z c) l w = absurd (omega arith)
    laid (suc b) {f = f} s (last r) l w = (end r, subst (λ (x : ℕ). Scan x f) r s)
    laid (suc b) (stop r) (link g z c) l w = absurd (omega arith)
    laid (suc b) (step {p} {q} i h k s) (link g z c) l w =
        let under = laid b s k (omega (arith, chain_le c, chain_le k, forward p q h)) (omega (arith, chain_le c, chain_le k, forward p q h)) in
        let beside = laid b under.1 c l (omega (arith, chain_le c, chain_le k, forward p q h)) in
        (more (tree h under.0 refl) beside.0, beside.1)

    -- and back
    mutual
      sized : {p e : ℕ} → Tree p e → (p < e) × (p + size p ≡ e)
      sized (tree {p} {q} {e} h ns r) = (omega (arith, forward p q h, sized_all ns), r)

      sized_all : {n p e : ℕ} → Trees n p e → p ≤ e
      sized_all (end r) = omega arith
      sized_all (more m ns) = omega (arith, (sized m).0, sized_all ns)

    chained : {n p e : ℕ} → Trees n p e → Chain n p e
    chained (end r) = last r
    chained (more {n} {p} {q} {e} m ns) =
        let z = sized m in
        link {p = p} {e = e} (omega (arith, z.0, sized_all ns)) (omega (arith, z.0, z.1)) (subst (λ (x : ℕ). Chain n x e) (sym z.1) (chained ns))

    scan_le : {p e : ℕ} → Scan p e → p ≤ e
    scan_le (stop r) = omega arith
    scan_le (step l h c s) = omega arith

    mutual
      scanned : {p e f : ℕ} → Tree p e → Scan e f → Scan p f
      scanned {f = f} (tree {p} {q} {e} h ns r) s =
          step {p = p} {e = f} (omega (arith, scan_le s)) h (subst (λ (x : ℕ). Chain (below p) q x) (sym r) (chained ns)) (scanned_all ns s)

      scanned_all : {n p e f : ℕ} → Trees n p e → Scan e f → Scan p f
      scanned_all {f = f} (end r) s = subst (λ (x : ℕ). Scan x f) (sym r) s
      scanned_all (more m ns) s = scanned m (scanned_all ns s)

    -- the tests and the relations
    pub chain_sound : (n p e : ℕ) → chain size n p e ≡ true → Chain n p e
    unfolding chain
    chain_sound zero p e t = last (eqb-true p e t)
    chain_sound (suc n) p e t =
        let r : Bool = chain size n (p + size p) e in
        let u = (and_true (ltb p e) (ltb 0 (size p) && r) t).1 in
        link (ltb-true p e (and_true (ltb p e) (ltb 0 (size p) && r) t).0) (ltb-true 0 (size p) (and_true (ltb 0 (size p)) r u).0)
        (chain_sound n (p + size p) e (and_true (ltb 0 (size p)) r u).1)

    chain_complete : {n p e : ℕ} → Chain n p e → chain size n p e ≡ true
    unfolding chain
    chain_complete (last {p} {e} r) = eq-eqb p e r
    chain_complete (link {n} {p} {e} l g c) = rw (lt-ltb p e l, lt-ltb 0 (size p) g) (chain_complete c)

    scan_sound : (k p e : ℕ) → scan head_end size below k p e ≡ true → Scan p e
    unfolding scan on_found
    scan_sound zero p e t = stop (eqb-true p e t)
    scan_sound (suc k) p e t = go (scan_sound k) (ltb p e) refl (head_end p) refl
      where
        go : ((q f : ℕ) → scan head_end size below k q f ≡ true → Scan q f) → (b : Bool) → ltb p e ≡ b → (x : Option ℕ) → head_end p ≡ x → Scan p e
        go ih false b x h = stop (eqb-true p e (rw (scan, b) at t))
        go ih true b none h = absurd (false≢true (and_true (leb (p + size p) e) false (rw (scan, b, h) at t)).1)
        go ih true b (some q) h =
            let a : Bool = chain size (below p) q (p + size p) in
            let r : Bool = scan head_end size below k q e in
            let i : Bool = leb (p + size p) e in
            let u : i && (a && r) ≡ true = rw (scan, b, h) at t in
            let v = (and_true i (a && r) u).1 in
            step (leb-true (p + size p) e (and_true i (a && r) u).0) h (chain_sound (below p) q (p + size p) (and_true a r v).0) (ih q e (and_true a r v).1)

    scan_complete : {p e : ℕ} (k : ℕ) → Scan p e → e - p ≤ k → scan head_end size below k p e ≡ true
    unfolding scan on_found
    scan_complete {p} {e} zero s l = let w = scan_le s in eq-eqb p e (omega arith)
    scan_complete (suc k) (stop {p} {e} r) l = rw (scan, le-ltb p e (omega arith)) (eq-eqb p e r)
    scan_complete (suc k) (step {p} {q} {e} i h c s) l =
        let g = forward p q h in
        let w = scan_le s in
        rw (scan, lt-ltb p e (omega arith), le-leb (p + size p) e i, h, chain_complete c) (scan_complete k s (omega arith))

    row_sound : (one : ℕ → Option ℕ) → ((p e : ℕ) → one p ≡ some e → Tree p e) → (n p e : ℕ) → in_row one n p ≡ some e → Trees n p e
    unfolding in_row
    row_sound one f zero p e t = let w : p ≡ e = cc in end w
    row_sound one f (suc n) p e t =
        let h = then_some (one p) (in_row one n) e t in
        more (f p h.0 h.1) (row_sound one f n h.0 e h.2)

    end_sound : (k p e : ℕ) → tree_end k p ≡ some e → Tree p e
    unfolding tree_end
    end_sound zero p e t = absurd (none-ne-some e t)
    end_sound (suc k) p e t =
        let h = then_some (head_end p) _ e t in
        let r = then_some (in_row (tree_end k) (below p) h.0) _ e h.2 in
        let u = only_some (eqb (p + size p) r.0) r.0 e r.2 in
        let ns = row_sound (tree_end k) (end_sound k) (below p) h.0 r.0 r.1 in
        tree h.1 (subst (λ (x : ℕ). Trees (below p) h.0 x) u.1 ns) (eqb-true (p + size p) r.0 u.0 ∙ u.1)

    mutual
      unfolding tree_end then_read on_found only_if in_row

      end_complete : {p e : ℕ} → Tree p e → (k : ℕ) → e - p ≤ k → tree_end k p ≡ some e
      end_complete (tree {p} {q} {e} h ns r) zero l = absurd (omega (arith, forward p q h, sized_all ns))
      end_complete (tree {p} {q} {e} h ns r) (suc k) l =
          rw (tree_end, h, row_complete ns k (omega (arith, forward p q h, sized_all ns)), eq-eqb (p + size p) e r)

      row_complete : {n p e : ℕ} → Trees n p e → (k : ℕ) → e - p ≤ k → in_row (tree_end k) n p ≡ some e
      row_complete (end r) k l = ap some r
      row_complete (more {n} {p} {q} {e} m ns) k l =
          rw (in_row, end_complete m k (omega (arith, (sized m).0, sized_all ns))) (row_complete ns k (omega (arith, (sized m).0, sized_all ns)))

    lone : {n p e : ℕ} → Trees n p e → n ≡ 1 → Tree p e
    lone (end r) z = absurd (omega arith)
    lone (more {p = p} m (end r)) z = subst (λ (x : ℕ). Tree p x) r m
    lone (more m (more k ns)) z = absurd (omega arith)

    -- exactly one thing from p to e
    lone_end : ℕ → ℕ → ℕ → Bool
    lone_end k p e = on_found (tree_end k p) false (λ q. eqb q e)

    lone_sound : (k p e : ℕ) → lone_end k p e ≡ true → Tree p e
    unfolding lone_end on_found
    lone_sound k p e t = go (tree_end k p) refl
      where
        go : (x : Option ℕ) → tree_end k p ≡ x → Tree p e
        go none h = absurd (false≢true (rw (lone_end, h) at t))
        go (some q) h = end_sound k p e (h ∙ ap some (eqb-true q e (rw (lone_end, h) at t)))

    lone_complete : (k p e : ℕ) → e - p ≤ k → Tree p e → lone_end k p e ≡ true
    unfolding lone_end on_found
    lone_complete k p e l m = rw (lone_end, end_complete m k l) (eq-eqb e e refl)

    -- a thing laid out goes forward, to where its size says
    pub end_sized : (k p e : ℕ) → tree_end k p ≡ some e → (p < e) × (p + size p ≡ e)
    end_sized k p e t = sized (end_sound k p e t)

    -- one thing from p to e by recursion is one thing by its size, and a scan of the heads that ends at e
    pub fills_scan : (k p e : ℕ) → e - p ≤ k
        → on_found (tree_end k p) false (λ q. eqb q e) ≡ chain size 1 p e && scan head_end size below (e - p) p e
    unfolding lone_end
    fills_scan k p e l = same_bool (lone_end k p e) (a && b) there back
      where
        a : Bool
        a = chain size 1 p e

        b : Bool
        b = scan head_end size below (e - p) p e

        there : lone_end k p e ≡ true → a && b ≡ true
        there t =
            let m : Tree p e = lone_sound k p e t in
            rw (chain_complete (chained (more m (end refl))), scan_complete (e - p) (scanned m (stop refl)) (omega arith))

        back : a && b ≡ true → lone_end k p e ≡ true
        back t =
            lone_complete k p e l
            (lone (laid (e - p) (scan_sound (e - p) p e (and_true a b t).1) (chain_sound 1 p e (and_true a b t).0) (omega arith) (omega arith)).0 refl)

    -- fuel beyond the length of the scan is of no account
    scan_fuel : (j k p e : ℕ) → e - p ≤ j → e - p ≤ k → scan head_end size below j p e ≡ scan head_end size below k p e
    scan_fuel j k p e a b =
        same_bool (scan head_end size below j p e) (scan head_end size below k p e)
        (λ t. scan_complete k (scan_sound j p e t) b)
        (λ t. scan_complete j (scan_sound k p e t) a)

    -- a turn of the scan
    pub scan_step : (p q e : ℕ) → p < e → p + size p ≤ e → head_end p ≡ some q → chain size (below p) q (p + size p) ≡ true
        → scan head_end size below (e - p) p e ≡ scan head_end size below (e - q) q e
    unfolding scan on_found
    scan_step p q e l i h c =
        let g : p < q = forward p q h in
        rw (one_less e p l, scan, lt-ltb p e l, le-leb (p + size p) e i, h, c) (scan_fuel (e - (p + 1)) (e - q) q e (omega arith) (omega arith))

    pub scan_long : (p e : ℕ) → p < e → e < p + size p → scan head_end size below (e - p) p e ≡ false
    unfolding scan
    scan_long p e l i = rw (one_less e p l, scan, lt-ltb p e l, lt-leb (p + size p) e i)

    pub scan_no_head : (p e : ℕ) → p < e → p + size p ≤ e → head_end p ≡ none → scan head_end size below (e - p) p e ≡ false
    unfolding scan on_found
    scan_no_head p e l i h = rw (one_less e p l, scan, lt-ltb p e l, le-leb (p + size p) e i, h)

    pub scan_no_chain : (p q e : ℕ) → p < e → p + size p ≤ e → head_end p ≡ some q → chain size (below p) q (p + size p) ≡ false
        → scan head_end size below (e - p) p e ≡ false
    unfolding scan on_found
    scan_no_chain p q e l i h c = rw (one_less e p l, scan, lt-ltb p e l, le-leb (p + size p) e i, h, c)

    pub scan_end : (p e : ℕ) → e ≤ p → scan head_end size below (e - p) p e ≡ eqb p e
    unfolding scan
    scan_end p e l = let z : e - p ≡ 0 = omega arith in rw z
