-- Laws of a node's own test, form by form and in step with the code. Assumes nothing.
use Prim.Native.Nat.{ℕ, suc, ◌+◌, ◌<◌}
use mathlib.Core.Path.{◌≡◌, refl, sym, ap, subst, ◌∙◌}
use mathlib.Core.List.{List, [], ◌∷◌, ◌++◌, map, append-nil}
use mathlib.Core.Bool.{Bool, true, false, ◌&&◌}
use mathlib.Core.Option.{Option, none, some}
use native.Mathlib.Omega.{arith}
use native.Mathlib.Nat.{add-zero, not-suc-le-zero}
use native.Mathlib.Numerals.{add-one}
use lib.ListN.{length, get_or}
use lib.Dec.{eqb}
use borrow.Author.Tests.{eq-eqb, ne_eqb}
use Rattle.std.specs.Prelude.{Option as Maybe, Some, None}
use Rattle.std.specs.Bool.{then_some}
use Rattle.rules.specs.Faults.{on_found, exists}
use Rattle.rules.specs.Records.{field_b, field_c, field_d, text_of, heads, row, nth}
use Rattle.rules.specs.Lexeme.{is_lexeme}
use Rattle.rules.specs.Limits.{loops_below}
use Rattle.rules.specs.Grammar.{plain_of, production}
use Rattle.rules.specs.Templates.{TypeForm, no_type, type_of, form_numbered, form_of, nodes, path, first, second, nodes_of}
use Rattle.rules.specs.Typing.{Site, site, asks_class, asks_nonterminal, asks_repetition, asks_item, text_class, is_yes_no, item_type, path_type, suits_form, sites, sites_of}
use Rattle.rules.specs.declared.Form.{Form}
use Rattle.rules.specs.declared.Form.TheVariants.{Build, Literal, Place, Expand, If, For, Sequence}
use Rattle.rules.specs.declared.Position.{Position}
use Rattle.rules.specs.declared.Position.TheVariants.{Nonterminal, Item}
use Rattle.laws.specs.Faults.{on_some, on_none}
use Rattle.stream.specs.Record.{Fetched}
use Rattle.stream.specs.declared.record.Record.{Record}
use Rattle.records.proofs.NodeLaws.{form_is}
use Rattle.typing.specs.Answers.{row_of, position_in, entry_of, brings_of, brought, bindings, site_in, Suited, Tests, leaf_of}
use Rattle.typing.specs.Asked.{asked_of, position_at, AskedRow}
use Rattle.typing.specs.Asks.{BuildAsks}
use Rattle.typing.specs.declared.Below.{Below}
use Rattle.typing.specs.declared.Brings.TheVariants as brings
use Rattle.typing.specs.declared.Brings.TheVariants.{Nothing}
use Rattle.typing.specs.declared.Positions.TheVariants.{Alike, Asked}
use Rattle.typing.proofs.AskedLaws.{positions_are, positions_count, asked_row}
use Rattle.typing.proofs.RowLaws.{map_row}

-- the two answers

module _ {g t asked : List ℕ} {x : Site} {F : Form} where
  pub unsuited : suits_form g t F x ≡ false → Tests g t asked x F None
  unsuited e = record { fails = λ h. e; stands = λ b h. cc }

  pub suited : {b : Below} → Suited g t asked x F b → Tests g t asked x F (Some b)
  suited {b} s = record {
    fails = λ h. cc;
    stands = λ c h. let e : b ≡ c = cc in subst (Suited g t asked x F) e s;
  }

-- the test by the form that was read
pub by_form : {g t asked : List ℕ} {x : Site} {head : Record} {r : Maybe Below} {F G : Form} → Fetched t x.node head → F ≡ form_numbered head.a → F ≡ G
    → Tests g t asked x G r → Tests g t asked x (form_of t x.node) r
by_form {g} {t} {asked} {x} {r} f e h k = subst (λ (F : Form). Tests g t asked x F r) (sym h ∙ form_is t x.node _ f _ e) k

-- a node that has nothing below it

leaf_of_lem : (g t asked : List ℕ) (x : Site) (F : Form) → sites_of g t F x ≡ [] → nodes_of t F x.node ≡ [] → ((n : ℕ) → loops_below F n ≡ n)
    → (b : Bool) → b ≡ suits_form g t F x → Tests g t asked x F (leaf_of b)
unfolding leaf_of brings_of brought row_of heads
leaf_of_lem g t asked x F s n l true e = suited (record {
  own = sym e;
  sites_are = s;
  nodes_are = n;
  loops_are = λ k. l k ∙ sym (add-zero k);
  near = omega arith;
  few = omega arith;
  inside = λ i h. absurd (not-suc-le-zero h);
})
leaf_of_lem g t asked x F s n l false e = unsuited (sym e)

pub leaf_is : (b : Bool) → then_some b (record { first = 0; count = 0; positions = Asked 0 }) ≡ leaf_of b
unfolding leaf_of
leaf_is true = refl
leaf_is false = refl

module _ {g t asked : List ℕ} {x : Site} {b : Bool} {r : Maybe Below} (is : r ≡ leaf_of b) where
  pub literal_leaf : b ≡ suits_form g t Literal x → Tests g t asked x Literal r
  unfolding sites_of nodes_of loops_below
  literal_leaf e = subst (Tests g t asked x Literal) (sym is) (leaf_of_lem g t asked x Literal refl refl (λ n. refl) b e)

  pub place_leaf : b ≡ suits_form g t Place x → Tests g t asked x Place r
  unfolding sites_of nodes_of loops_below
  place_leaf e = subst (Tests g t asked x Place) (sym is) (leaf_of_lem g t asked x Place refl refl (λ n. refl) b e)

  pub expand_leaf : b ≡ suits_form g t Expand x → Tests g t asked x Expand r
  unfolding sites_of nodes_of loops_below
  expand_leaf e = subst (Tests g t asked x Expand) (sym is) (leaf_of_lem g t asked x Expand refl refl (λ n. refl) b e)

-- nodes in a row that are all in one position; with an item each

alike : (g t asked vars : List ℕ) (position : Position) (n i p : ℕ)
    → map (site vars position) (heads (field_c t) n p) ≡ row_of (site_in g t asked vars (Alike position Nothing)) (field_c t) n i p
unfolding site_in position_in brings_of bindings
alike g t asked vars position n i p = map_row _ _ _ (λ j q. rw (append-nil vars)) n i p

alike_items : (g t asked vars : List ℕ) (position : Position) (ty n i p : ℕ)
    → map (site (vars ++ ty ∷ []) position) (heads (field_c t) n p) ≡ row_of (site_in g t asked vars (Alike position (brings.Item ty))) (field_c t) n i p
unfolding site_in position_in brings_of bindings
alike_items g t asked vars position ty n i p = map_row _ _ _ (λ j q. refl) n i p

-- a build

-- its children, each in the position of its element
children_row : (g t vars : List ℕ) (make : ℕ → ℕ → Site) (es : List ℕ) (i p : ℕ)
    → ((j : ℕ) → j < length es → (q : ℕ) → make (i + j) q ≡ site vars (position_at g (get_or es j 0)) q)
    → sites vars (map (position_at g) es) (heads (field_c t) (length es) p) ≡ row_of make (field_c t) (length es) i p
unfolding sites heads row_of
children_row g t vars make [] i p h = refl
children_row g t vars make (e ∷ es) i p h =
    let k = children_row g t vars make es (i + 1) (p + field_c t p) (λ j l q. let z : i + 1 + j ≡ i + suc j = omega arith in rw z (h (suc j) (omega arith) q)) in
    rw (k, ← h 0 (omega arith) p, add-zero i)

child_in : (g t asked vars : List ℕ) (q : ℕ) → AskedRow g asked q → (j : ℕ) → j < length (asked_of g q) → (p : ℕ)
    → site_in g t asked vars (Asked q) (0 + j) p ≡ site vars (position_at g (get_or (asked_of g q) j 0)) p
unfolding site_in position_in brings_of bindings
child_in g t asked vars q row j h p = let z : 0 + j ≡ j = omega arith in rw (z, row.heads j h, append-nil vars)

module _ (g t : List ℕ) (x : Site) where
  pub build_nothing : asks_nonterminal x.position ≡ none → suits_form g t Build x ≡ false
  unfolding suits_form
  build_nothing h = on_none false _ h

  module _ (n : ℕ) (asks : asks_nonterminal x.position ≡ some n) {hs asked : List ℕ} (B : BuildAsks g hs asked) (k : ℕ) (hk : k ≡ field_b t x.node) where
    pub build_missing : nth hs k ≡ none → suits_form g t Build x ≡ false
    unfolding suits_form production
    build_missing h = on_some false _ asks ∙ on_none false _ (rw (← hk, ← B.productions_are) h)

    module _ (q : ℕ) (hq : nth hs k ≡ some q) (b : ℕ) (hb : b ≡ field_b g q) where
      build_found : suits_form g t Build x ≡ (eqb b n && eqb (length (asked_of g q)) (field_d t x.node))
      unfolding suits_form production
      build_found = on_some false _ asks ∙ on_some {a = q} false _ (rw (← hk, ← B.productions_are) hq) ∙ rw (← hb, positions_count g q)

      pub build_other : (b ≡ n → ⊥) → suits_form g t Build x ≡ false
      build_other h = build_found ∙ rw (ne_eqb _ _ h)

      module _ (same : b ≡ n) (d : ℕ) (hd : d ≡ field_d t x.node) where
        pub build_counts : (get_or asked q 0 ≡ d → ⊥) → suits_form g t Build x ≡ false
        build_counts h = let row = asked_row B k q hq in build_found ∙ rw (eq-eqb _ _ same, ← hd, ← row.count, ne_eqb _ _ h)

        pub build_is : get_or asked q 0 ≡ d → d < 65536 → Suited g t asked x Build (record { first = x.node + 1; count = d; positions = Asked q })
        unfolding sites_of production nodes nodes_of loops_below brings_of brought entry_of
        build_is h l =
            let row = asked_row B k q hq in
            let e : length (asked_of g q) ≡ d = sym row.count ∙ h in
            record {
              own = build_found ∙ rw (eq-eqb _ _ same, ← hd, eq-eqb _ _ e);
              sites_are =
                  on_some {a = q} [] _ (rw (← hk, ← B.productions_are) hq)
                  ∙ rw (positions_are g q, ← hd, ← e) (children_row g t x.vars _ (asked_of g q) 0 (x.node + 1) (child_in g t asked x.vars q row));
              nodes_are = rw hd;
              loops_are = λ m. sym (add-zero m);
              near = omega arith;
              few = l;
              inside = λ i k. omega (arith, row.inside, k, e);
            }

-- a literal

module _ (g t : List ℕ) (x : Site) where
  pub literal_nothing : asks_class x.position ≡ none → false ≡ suits_form g t Literal x
  unfolding suits_form
  literal_nothing h = sym (on_none false _ h)

  pub literal_is : (c : ℕ) → asks_class x.position ≡ some c → is_lexeme g c (text_of t (field_b t x.node) x.node) ≡ suits_form g t Literal x
  unfolding suits_form
  literal_is c h = sym (on_some false _ h)

-- what has a path: a place, an if, a for, a match. F is the form of the type that the path finds

pub through : {B : Type 0} (h : TypeForm → B) {b : B} → h no_type ≡ b → (o : Option ℕ) (T : ℕ → TypeForm) → h (on_found o no_type T) ≡ on_found o b (λ ty. h (T ty))
unfolding on_found
through h e none T = e
through h e (some ty) T = refl

module _ (g t : List ℕ) (x : Site) where
  pub place_nothing : asks_class x.position ≡ none → false ≡ suits_form g t Place x
  unfolding suits_form
  place_nothing h = sym (on_none false _ h)

  pub if_nothing : asks_nonterminal x.position ≡ none → suits_form g t If x ≡ false
  unfolding suits_form
  if_nothing h = on_none false _ h

  pub for_nothing : asks_item x.position ≡ none → suits_form g t For x ≡ false
  unfolding suits_form
  for_nothing h = on_none false _ h

  module _ (F : TypeForm) (finds : F ≡ on_found (path_type t x.vars (x.node + 1)) no_type (type_of t)) where
    pub finds_in : (h : TypeForm → Bool) → h no_type ≡ false → h F ≡ on_found (path_type t x.vars (path x.node)) false (λ ty. h (type_of t ty))
    unfolding path
    finds_in h e = ap h finds ∙ through h e (path_type t x.vars (x.node + 1)) (type_of t)

    pub place_is : (c : ℕ) → asks_class x.position ≡ some c → on_found (text_class F) false (eqb (plain_of g c)) ≡ suits_form g t Place x
    unfolding suits_form on_found text_class
    place_is c h = finds_in (λ G. on_found (text_class G) false (eqb (plain_of g c))) refl ∙ sym (on_some false _ h)

    module _ (n : ℕ) (asks : asks_nonterminal x.position ≡ some n) where
      if_form : suits_form g t If x ≡ is_yes_no F
      unfolding suits_form is_yes_no
      if_form = on_some false _ asks ∙ sym (finds_in is_yes_no refl)

      pub if_other : is_yes_no F ≡ false → suits_form g t If x ≡ false
      if_other h = if_form ∙ h

      pub if_is : (asked : List ℕ) → is_yes_no F ≡ true → Suited g t asked x If (record { first = x.node + 2; count = 2; positions = Alike (Nonterminal n) Nothing })
      unfolding sites_of nodes_of loops_below brings_of brought entry_of first second heads
      if_is asked h = record {
        own = if_form ∙ h;
        sites_are = on_some [] _ asks ∙ alike g t asked x.vars (Nonterminal n) 2 0 (x.node + 2);
        nodes_are = refl;
        loops_are = λ m. sym (add-zero m);
        near = omega arith;
        few = omega arith;
        inside = λ i k. omega arith;
      }

    module _ (n : ℕ) (asks : asks_item x.position ≡ some n) where
      for_form : suits_form g t For x ≡ exists (item_type F)
      unfolding suits_form exists item_type
      for_form = on_some false _ asks ∙ sym (finds_in (λ G. exists (item_type G)) refl)

      for_sites : sites_of g t For x ≡ on_found (item_type F) [] (λ item. site (x.vars ++ item ∷ []) (Nonterminal n) (first x.node) ∷ [])
      unfolding sites_of path item_type on_found
      for_sites =
          on_some [] _ asks
          ∙ sym (through (λ G. on_found (item_type G) [] (λ item. site (x.vars ++ item ∷ []) (Nonterminal n) (first x.node) ∷ [])) refl (path_type t x.vars (x.node + 1)) (type_of t))
          ∙ rw (← finds)

      pub for_other : item_type F ≡ none → suits_form g t For x ≡ false
      unfolding exists
      for_other h = for_form ∙ rw h

      pub for_is : (asked : List ℕ) (ty : ℕ) → item_type F ≡ some ty → Suited g t asked x For (record { first = x.node + 2; count = 1; positions = Alike (Nonterminal n) (brings.Item ty) })
      unfolding exists nodes_of loops_below brings_of brought entry_of first heads
      for_is asked ty h = record {
        own = for_form ∙ rw h;
        sites_are = for_sites ∙ on_some [] _ h ∙ alike_items g t asked x.vars (Nonterminal n) ty 1 0 (x.node + 2);
        nodes_are = refl;
        loops_are = λ m. sym (add-one m);
        near = omega arith;
        few = omega arith;
        inside = λ i k. omega arith;
      }

-- a sequence

module _ (g t : List ℕ) (x : Site) where
  pub sequence_nothing : asks_repetition x.position ≡ none → suits_form g t Sequence x ≡ false
  unfolding suits_form exists
  sequence_nothing h = rw h

  pub sequence_is : (asked : List ℕ) (n : ℕ) → asks_repetition x.position ≡ some n → (d : ℕ) → d ≡ field_d t x.node → d < 65536
      → Suited g t asked x Sequence (record { first = x.node + 1; count = d; positions = Alike (Item n) Nothing })
  unfolding suits_form exists sites_of nodes nodes_of loops_below brings_of brought entry_of
  sequence_is asked n h d hd l = record {
    own = rw h;
    sites_are = on_some [] _ h ∙ rw (← hd) (alike g t asked x.vars (Item n) d 0 (x.node + 1));
    nodes_are = rw hd;
    loops_are = λ m. sym (add-zero m);
    near = omega arith;
    few = l;
    inside = λ i k. omega arith;
  }
