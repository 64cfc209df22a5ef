-- The derivation rules texts out: what a derived text must be, whatever the rest of the grammar holds.
-- Goes on from specs/Teeth.antt: what rests on definitions that a must-fail edit changes.
use Rattle.std.specs.Prelude.{◌≡◌, refl, ℕ, suc, ◌+◌, ◌-◌, ◌*◌, true, length}
use Rattle.std.proofs.Common.{sym, ◌∙◌, ap, subst, suc-mul, arith, true≢false, length-append}
use mathlib.Core.List.{List, [], ◌∷◌, ◌++◌, append_assoc, append-nil, flatten}
use Rattle.rules.specs.Grammar.{productions, production, Element, keyword, nonterminal, repetition, unknown, nonterminal_exists}
use Rattle.rules.specs.Derivation.{Derives, produced, Pieces, no_element, one_piece, Piece, own_bytes, derived, repeated}
use Rattle.rules.specs.Derivation.{Row, no_text, some_texts, Texts, last_text, next_text}
use Rattle.laws.specs.Faults.{In, here, later, nth_in}
use Rattle.theorems.specs.LimitsExactly.{has_in}
use Rattle.theorems.proofs.Lexemes.{piece_exactly}
use Rattle.theorems.specs.HeadByHead.{in_cons}
use Rattle.theorems.specs.Teeth.{OneProduction, PieceThenRest, EachProduction, BeginsWith, EndsWith, each_after, joined, InARow, Teeth}

production_of : {g x : List ℕ} {n : ℕ} → Derives g n x → OneProduction g n x
production_of (produced n k p x e f ps) = (k, p, e, f, ps)

-- "for a keyword its own bytes", and nothing else
keyword_piece : {g w x : List ℕ} → Piece g (keyword w) x → x ≡ w
keyword_piece (own_bytes x) = refl

-- "for a nonterminal a text that it derives", "for a repetition any number of texts in a row", and nothing else
nonterminal_piece : {g x : List ℕ} {n : ℕ} → Piece g (nonterminal n) x → Derives g n x
nonterminal_piece (derived n x d) = d

repetition_piece : {g between x : List ℕ} {n : ℕ} → Piece g (repetition n between) x → Row g n between x
repetition_piece (repeated n between x r) = r

unknown_piece : {g x : List ℕ} → Piece g unknown x → ⊥
unknown_piece p = elim p [ ]

first_piece : {g x : List ℕ} {e : Element} {es : List Element} → Pieces g (e ∷ es) x → PieceThenRest g e es x
first_piece (one_piece e es x rest p ps) = (x, rest, p, ps, refl)

no_pieces : {g x : List ℕ} → Pieces g [] x → x ≡ []
no_pieces no_element = refl

first_keyword : {g x w : List ℕ} {es : List Element} → Pieces g (keyword w ∷ es) x → (r : List ℕ) × (x ≡ w ++ r)
first_keyword ps =
    let (y, rest, p, qs, e) = first_piece ps in
    (rest, e ∙ ap (λ (u : List ℕ). u ++ rest) (keyword_piece p))

last_keyword : {g x w : List ℕ} (es : List Element) → Pieces g (es ++ keyword w ∷ []) x → (r : List ℕ) × (x ≡ r ++ w)
last_keyword [] ps =
    let (y, rest, p, qs, e) = first_piece ps in
    ([], e ∙ ap (λ (u : List ℕ). y ++ u) (no_pieces qs) ∙ append-nil y ∙ keyword_piece p)
last_keyword {g = g} {x = x} {w = w} (f ∷ es) ps =
    let (y, rest, p, qs, e) = first_piece ps in
    let (r, d) = last_keyword {x = rest} es qs in
    (y ++ r, e ∙ ap (λ (u : List ℕ). y ++ u) d ∙ sym (append_assoc y r _))

derived_begins : {g x : List ℕ} {n : ℕ} (w : List ℕ) → EachProduction g n (BeginsWith w) → Derives g n x → (r : List ℕ) × (x ≡ w ++ r)
derived_begins {g} w h (produced n k p x e f ps) = let s = h k p e f in first_keyword (subst (λ es. Pieces g es x) s.1 ps)

derived_ends : {g x : List ℕ} {n : ℕ} (w : List ℕ) → EachProduction g n (EndsWith w) → Derives g n x → (r : List ℕ) × (x ≡ r ++ w)
derived_ends {g} w h (produced n k p x e f ps) = let s = h k p e f in last_keyword s.0 (subst (λ es. Pieces g es x) s.1 ps)

derived_exists : {g x : List ℕ} {n : ℕ} → Derives g n x → nonterminal_exists g n ≡ true
unfolding nonterminal_exists production
derived_exists {g} (produced n k p x e f ps) = has_in g n (nth_in (productions g) k p e) f

-- the first text and the later ones
texts_of : {g between x : List ℕ} {n : ℕ} → Texts g n between x
    → (y : List ℕ) × (ys : List (List ℕ)) × (x ≡ y ++ each_after between ys) × ((z : List ℕ) → In z (y ∷ ys) → Derives g n z)
unfolding each_after
texts_of {g} (last_text n between x d) = (x, [], sym (append-nil x), λ z i. in_cons (Derives g n) d (λ z i. elim i [ ]) i)
texts_of {g} (next_text n between x rest d ts) =
    let (y, ys, e, h) = texts_of ts in (
      x,
      y ∷ ys,
      append_assoc x between rest ∙ ap (λ (u : List ℕ). x ++ u) (ap (λ (u : List ℕ). between ++ u) e ∙ sym (append_assoc between y _)),
      λ z i. in_cons (Derives g n) d h i,
    )

row_texts : {g between x : List ℕ} {n : ℕ} → Row g n between x → InARow g n between x
unfolding joined
row_texts (no_text n between) = ([], refl, λ y i. elim i [ ])
row_texts (some_texts n between x ts) = let (y, ys, e, h) = texts_of ts in (y ∷ ys, e, h)

texts_from : {g : List ℕ} {n : ℕ} (between y : List ℕ) (ys : List (List ℕ)) → ((z : List ℕ) → In z (y ∷ ys) → Derives g n z) → Texts g n between (y ++ each_after between ys)
unfolding each_after
texts_from {n} between y [] h = rw (append-nil y) (last_text n between y (h y (here [])))
texts_from {n} between y (z ∷ zs) h =
    rw (append_assoc between z (each_after between zs), ← append_assoc y between (z ++ each_after between zs))
    (next_text n between y _ (h y (here _)) (texts_from between z zs (λ u i. h u (later y _ i))))

texts_row : {g : List ℕ} {n : ℕ} (between : List ℕ) (texts : List (List ℕ)) → ((y : List ℕ) → In y texts → Derives g n y) → Row g n between (joined between texts)
unfolding joined
texts_row {n} between [] h = no_text n between
texts_row {n} between (y ∷ ys) h = some_texts n between _ (texts_from between y ys h)

-- k texts have k - 1 separators between them
each_length : (between : List ℕ) (texts : List (List ℕ)) → length (each_after between texts) ≡ length (flatten texts) + length texts * length between
unfolding each_after flatten
each_length between [] = omega arith
each_length between (y ∷ ys) =
    let h = each_length between ys in
    let m = suc-mul (length ys) (length between) in
    simp length-append (omega (arith, h, m))

joined_length : (between : List ℕ) (texts : List (List ℕ)) → length (joined between texts) ≡ length (flatten texts) + (length texts - 1) * length between
unfolding joined flatten
joined_length between [] = omega arith
joined_length between (y ∷ ys) =
    let h = each_length between ys in
    let m : suc (length ys) - 1 ≡ length ys = omega arith in
    rw m (simp length-append (omega (arith, h)))

-- without a separator nothing stands between
each_alone : (texts : List (List ℕ)) → each_after [] texts ≡ flatten texts
unfolding each_after flatten
each_alone [] = refl
each_alone (y ∷ ys) = ap (λ (u : List ℕ). y ++ u) (each_alone ys)

joined_alone : (texts : List (List ℕ)) → joined [] texts ≡ flatten texts
unfolding joined flatten
joined_alone [] = refl
joined_alone (y ∷ ys) = ap (λ (u : List ℕ). y ++ u) (each_alone ys)

pub derivation_has_teeth : (g : List ℕ) → Teeth g
derivation_has_teeth g = record {
  derives_only = λ n x. (production_of, λ (k, p, e, f, ps). produced n k p x e f ps);
  begins = λ n w x h d. derived_begins w h d;
  ends = λ n w x h d. derived_ends w h d;
  none_without = λ n x e d. true≢false (sym (derived_exists d) ∙ e);
  no_element_only = λ x. (no_pieces, λ e. subst (Pieces g []) (sym e) no_element);
  elements_only = λ e es x. (first_piece, λ (y, rest, p, ps, q). subst (Pieces g (e ∷ es)) (sym q) (one_piece e es y rest p ps));
  keyword_only = λ w x. (keyword_piece, λ e. subst (Piece g (keyword w)) (sym e) (own_bytes w));
  lexeme_only = piece_exactly g;
  nonterminal_only = λ n x. (nonterminal_piece, derived n x);
  repetition_only = λ n between x. (
    λ p. row_texts (repetition_piece p),
    λ s. repeated n between x (subst (Row g n between) (sym s.1) (texts_row between s.0 s.2)),
  );
  unknown_none = λ x. unknown_piece;
  row_unseparated = joined_alone;
  row_length = joined_length;
}
